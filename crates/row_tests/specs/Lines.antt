-- The lines of rows, as the stage tables write them.
use Rattle.std.specs.Prelude.{ℕ, ◌≡◌, List, [], ◌∷◌, map, codes}
use Rattle.nb_records.specs.Network.{Network}
use Rattle.nb_records.specs.declared.rule.RuleAction.TheVariants as action
use Rattle.nb_records.specs.declared.switch.PortAddress.TheVariants as address
use Rattle.logical_flows.specs.FlowText.{flow_line}
use Rattle.logical_flows.specs.declared.flow.LFlow.{LFlow}
use Rattle.logical_flows.specs.declared.stage.Stage.{Stage}
use Rattle.logical_flows.specs.declared.stage.Stage.TheVariants as stage
use Rattle.logical_flows.specs.declared.unit.UnitId.{UnitId}
use Rattle.logical_flows.specs.declared.unit.UnitId.TheVariants as unit
use Rattle.stage_rows.specs.Units.{rows_in}
use Rattle.row_tests.specs.Networks.{s0, p1, entry, prefix, ether, with_security, with_addresses, with_rule, with_balancer}

-- the lines of the rows that the unit has in the stage, on s0
abbrev pub lines : Stage → Network → UnitId → List (List ℕ)
lines s net u = map (λ (r : LFlow). flow_line r (s0 ∷ [])) (rows_in s net u)

-- ---- port security

-- a port without entries has no row
abbrev pub no_security : Type 0
no_security = lines stage.SwitchPortSecurity (with_security []) (unit.Port p1) ≡ []

-- an entry of an Ethernet address alone
abbrev pub address_alone : Type 0
address_alone = lines stage.SwitchPortSecurity (with_security (entry [] ∷ [])) (unit.Port p1) ≡ (
    codes "ingress s_port_sec priority=90 rank=0 datapaths=s0 match=inport == \"p1\" && eth.src == 0a:00:00:00:00:01 && ip4 actions=go 10\n"
    ∷ codes "ingress s_port_sec priority=90 rank=0 datapaths=s0 match=inport == \"p1\" && eth.src == 0a:00:00:00:00:01 && arp.sha == 0a:00:00:00:00:01 actions=go 10\n"
    ∷ codes "ingress s_port_sec priority=85 rank=0 datapaths=s0 match=inport == \"p1\" && eth.src == 0a:00:00:00:00:01 && (ip4 || arp) actions=drop port-security\n"
    ∷ codes "ingress s_port_sec priority=80 rank=0 datapaths=s0 match=inport == \"p1\" && eth.src == 0a:00:00:00:00:01 actions=go 10\n"
    ∷ codes "ingress s_port_sec priority=70 rank=0 datapaths=s0 match=inport == \"p1\" actions=drop port-security\n"
    ∷ [])

-- one with an address and a prefix
abbrev pub address_with_prefixes : Type 0
address_with_prefixes = lines stage.SwitchPortSecurity (with_security (entry (prefix 0x0a000001 32 ∷ prefix 0x0a000100 24 ∷ []) ∷ [])) (unit.Port p1) ≡ (
    codes "ingress s_port_sec priority=90 rank=0 datapaths=s0 match=inport == \"p1\" && eth.src == 0a:00:00:00:00:01 && ip4.src == 10.0.0.1 actions=go 10\n"
    ∷ codes "ingress s_port_sec priority=90 rank=0 datapaths=s0 match=inport == \"p1\" && eth.src == 0a:00:00:00:00:01 && arp.sha == 0a:00:00:00:00:01 && arp.spa == 10.0.0.1 actions=go 10\n"
    ∷ codes "ingress s_port_sec priority=90 rank=0 datapaths=s0 match=inport == \"p1\" && eth.src == 0a:00:00:00:00:01 && ip4.src == 10.0.1.0/24 actions=go 10\n"
    ∷ codes "ingress s_port_sec priority=90 rank=0 datapaths=s0 match=inport == \"p1\" && eth.src == 0a:00:00:00:00:01 && arp.sha == 0a:00:00:00:00:01 && arp.spa == 10.0.1.0/24 actions=go 10\n"
    ∷ codes "ingress s_port_sec priority=90 rank=0 datapaths=s0 match=inport == \"p1\" && eth.src == 0a:00:00:00:00:01 && ip4.src == 0.0.0.0 && ip4.dst == 255.255.255.255 && udp.src == 68 && udp.dst == 67 actions=go 10\n"
    ∷ codes "ingress s_port_sec priority=85 rank=0 datapaths=s0 match=inport == \"p1\" && eth.src == 0a:00:00:00:00:01 && (ip4 || arp) actions=drop port-security\n"
    ∷ codes "ingress s_port_sec priority=80 rank=0 datapaths=s0 match=inport == \"p1\" && eth.src == 0a:00:00:00:00:01 actions=go 10\n"
    ∷ codes "ingress s_port_sec priority=70 rank=0 datapaths=s0 match=inport == \"p1\" actions=drop port-security\n"
    ∷ [])

-- the same on leaving
abbrev pub leaving_by_prefixes : Type 0
leaving_by_prefixes = lines stage.SwitchSecurityOut (with_security (entry (prefix 0x0a000001 32 ∷ prefix 0x0a000100 24 ∷ []) ∷ [])) (unit.Port p1) ≡ (
    codes "egress s_sec_out priority=80 rank=0 datapaths=s0 match=outport == \"p1\" && eth.dst == 0a:00:00:00:00:01 && ip4.dst == 10.0.0.1 actions=go 64\n"
    ∷ codes "egress s_sec_out priority=80 rank=0 datapaths=s0 match=outport == \"p1\" && eth.dst == 0a:00:00:00:00:01 && ip4.dst == 10.0.1.0/24 actions=go 64\n"
    ∷ codes "egress s_sec_out priority=80 rank=0 datapaths=s0 match=outport == \"p1\" && eth.dst == 0a:00:00:00:00:01 && ip4.dst == {224.0.0.0/4, 255.255.255.255} actions=go 64\n"
    ∷ codes "egress s_sec_out priority=75 rank=0 datapaths=s0 match=outport == \"p1\" && eth.dst == 0a:00:00:00:00:01 && ip4 actions=drop port-security\n"
    ∷ codes "egress s_sec_out priority=70 rank=0 datapaths=s0 match=outport == \"p1\" && eth.dst == 0a:00:00:00:00:01 actions=go 64\n"
    ∷ codes "egress s_sec_out priority=90 rank=0 datapaths=s0 match=outport == \"p1\" && eth.mcast actions=go 64\n"
    ∷ codes "egress s_sec_out priority=60 rank=0 datapaths=s0 match=outport == \"p1\" actions=drop port-security\n"
    ∷ [])

-- ---- addresses

-- requests for the port's address
abbrev pub answers : Type 0
answers = lines stage.SwitchArp (with_addresses (ether ∷ [])) (unit.Port p1) ≡ (
    codes "ingress s_arp priority=100 rank=0 datapaths=s0 match=inport == \"p1\" && arp.op == 1 && arp.tpa == 10.0.0.1 actions=go 14\n"
    ∷ codes "ingress s_arp priority=50 rank=0 datapaths=s0 match=arp.op == 1 && arp.tpa == 10.0.0.1 actions=arp_reply 0a:00:00:00:00:01 10.0.0.1;set out=in;set loopback=1;go 32\n"
    ∷ [])

-- what goes to its Ethernet address
abbrev pub looked_up : Type 0
looked_up = lines stage.SwitchLookup (with_addresses (ether ∷ [])) (unit.Port p1) ≡ (
    codes "ingress s_lookup priority=50 rank=0 datapaths=s0 match=eth.dst == 0a:00:00:00:00:01 actions=set out=p1;go 32\n"
    ∷ [])

-- what goes to an address that no port has, where none takes it
abbrev pub none_takes_unknown : Type 0
none_takes_unknown = lines stage.SwitchLookup (with_addresses (ether ∷ [])) (unit.Switch s0) ≡ (
    codes "ingress s_lookup priority=70 rank=0 datapaths=s0 match=eth.mcast actions=set out=32768;go 32\n"
    ∷ codes "ingress s_lookup priority=0 rank=0 datapaths=s0 match=1 actions=drop unknown-address\n"
    ∷ [])

-- and where the port does
abbrev pub one_takes_unknown : Type 0
one_takes_unknown = lines stage.SwitchLookup (with_addresses (address.Unknown ∷ [])) (unit.Switch s0) ≡ (
    codes "ingress s_lookup priority=70 rank=0 datapaths=s0 match=eth.mcast actions=set out=32768;go 32\n"
    ∷ codes "ingress s_lookup priority=0 rank=0 datapaths=s0 match=1 actions=set out=32769;go 32\n"
    ∷ [])

-- ---- rules and connections

-- the rule
abbrev pub stateful_rule : Type 0
stateful_rule = lines stage.SwitchAclIn (with_rule action.AllowRelated) (unit.Rule (codes "a1") s0) ≡ (
    codes "ingress s_acl_in priority=2000 rank=3 datapaths=s0 match=udp actions=set verdict=2;go 12\n"
    ∷ [])

-- it makes the port's packets tracked
abbrev pub tracked_port : Type 0
tracked_port = lines stage.SwitchTrack (with_rule action.AllowRelated) (unit.Port p1) ≡ (
    codes "ingress s_track priority=100 rank=0 datapaths=s0 match=inport == \"p1\" && ip4 && !eth.mcast actions=find in;set tracked=1;go 11\n"
    ∷ [])

-- another rule does not
abbrev pub untracked_port : Type 0
untracked_port = lines stage.SwitchTrack (with_rule action.Allow) (unit.Port p1) ≡ []

-- the rows of a stateful switch
abbrev pub stateful_switch : Type 0
stateful_switch = lines stage.SwitchStateIn (with_rule action.AllowRelated) (unit.Switch s0) ≡ (
    codes "ingress s_state_in priority=100 rank=0 datapaths=s0 match=verdict == 5 && tracked == 0 actions=drop acl\n"
    ∷ codes "ingress s_state_in priority=100 rank=0 datapaths=s0 match=verdict == 4 && tracked == 0 actions=drop reject\n"
    ∷ codes "ingress s_state_in priority=90 rank=0 datapaths=s0 match=tracked == 0 actions=go 13\n"
    ∷ codes "ingress s_state_in priority=90 rank=0 datapaths=s0 match=verdict == 3 && tracked == 1 actions=go 13\n"
    ∷ codes "ingress s_state_in priority=80 rank=0 datapaths=s0 match=state == 4 actions=drop invalid\n"
    ∷ codes "ingress s_state_in priority=70 rank=0 datapaths=s0 match=state == 3 && blocked == 1 actions=drop blocked\n"
    ∷ codes "ingress s_state_in priority=70 rank=0 datapaths=s0 match=state == 3 && blocked == 0 actions=touch;translate;go 13\n"
    ∷ codes "ingress s_state_in priority=60 rank=0 datapaths=s0 match=state == 2 && verdict == 5 actions=block;drop acl\n"
    ∷ codes "ingress s_state_in priority=60 rank=0 datapaths=s0 match=state == 2 && verdict == 4 actions=block;drop reject\n"
    ∷ codes "ingress s_state_in priority=60 rank=0 datapaths=s0 match=state == 1 && verdict == 5 actions=drop acl\n"
    ∷ codes "ingress s_state_in priority=60 rank=0 datapaths=s0 match=state == 1 && verdict == 4 actions=drop reject\n"
    ∷ codes "ingress s_state_in priority=50 rank=0 datapaths=s0 match=state == 2 actions=unblock;touch;translate;go 13\n"
    ∷ codes "ingress s_state_in priority=50 rank=0 datapaths=s0 match=state == 1 actions=commit in;go 13\n"
    ∷ codes "ingress s_state_in priority=0 rank=0 datapaths=s0 match=1 actions=go 13\n"
    ∷ [])

-- a balancer's virtual address, one of whose backends is offline
abbrev pub vip : Type 0
vip = lines stage.SwitchStateIn with_balancer (unit.Balancer (codes "lb") s0) ≡ (
    codes "ingress s_state_in priority=55 rank=0 datapaths=s0 match=state == 1 && tracked == 1 && tcp && ip4.dst == 10.0.0.100 && tcp.dst == 80 actions=balance in 10.0.0.100:80 [10.0.0.2:8080];go 13\n"
    ∷ [])
