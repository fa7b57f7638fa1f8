-- The lines of rows around a router, as the stage tables write them.
use Rattle.std.specs.Prelude.{ℕ, ◌≡◌, List, [], ◌∷◌, map, codes}
use Rattle.logical_flows.specs.FlowText.{flow_line}
use Rattle.logical_flows.specs.declared.flow.LFlow.{LFlow}
use Rattle.logical_flows.specs.declared.stage.Stage.{Stage}
use Rattle.logical_flows.specs.declared.stage.Stage.TheVariants as stage
use Rattle.logical_flows.specs.declared.unit.UnitId.{UnitId}
use Rattle.logical_flows.specs.declared.unit.UnitId.TheVariants as unit
use Rattle.ovn_base.specs.declared.name.Name.{Name}
use Rattle.stage_rows.specs.Units.{rows_in}
use Rattle.row_tests.specs.Gateway.{gateway, g0, gi, in0, in0_g}
use Rattle.row_tests.specs.Networks.{ip}

-- the lines of the rows that the unit of the gateway's network has in the stage, on the datapath
abbrev pub lines_on : Name → Stage → UnitId → List (List ℕ)
lines_on d s u = map (λ (r : LFlow). flow_line r (d ∷ [])) (rows_in s gateway u)

-- ---- ports

-- what is for the router
abbrev pub for_router : Type 0
for_router = lines_on g0 stage.RouterAdmit (unit.Port gi) ≡ (
    codes "ingress r_admit priority=50 rank=0 datapaths=g0 match=inport == \"gi\" && eth.dst == 0a:00:00:00:00:fe actions=go 9\n"
    ∷ codes "ingress r_admit priority=50 rank=0 datapaths=g0 match=inport == \"gi\" && eth.mcast && arp actions=go 9\n"
    ∷ [])

-- requests, by ARP and by echo: of the outer addresses none lies in the network of gi
abbrev pub answered : Type 0
answered = lines_on g0 stage.RouterInput (unit.Port gi) ≡ (
    codes "ingress r_input priority=100 rank=0 datapaths=g0 match=inport == \"gi\" && arp.op == 1 && arp.tpa == 10.0.0.254 actions=arp_reply 0a:00:00:00:00:fe 10.0.0.254;set out=in;set loopback=1;go 32\n"
    ∷ codes "ingress r_input priority=70 rank=0 datapaths=g0 match=ip4.dst == 10.0.0.254 && icmp4.type == 8 && icmp4.code == 0 actions=echo_reply;set own=1;go 13\n"
    ∷ [])

-- what is for its own address
abbrev pub for_itself : Type 0
for_itself = lines_on g0 stage.RouterOwn (unit.Port gi) ≡ (
    codes "ingress r_own priority=100 rank=0 datapaths=g0 match=ip4.dst == 10.0.0.254 actions=drop for-router\n"
    ∷ [])

-- its network
abbrev pub network : Type 0
network = lines_on g0 stage.RouterRoute (unit.Port gi) ≡ (
    codes "ingress r_route priority=149 rank=0 datapaths=g0 match=ip4.dst == 10.0.0.0/24 actions=dec_ttl;next_dst;set out=gi;eth_src 0a:00:00:00:00:fe;set loopback=1;go 14\n"
    ∷ [])

-- a route that leaves by ge
abbrev pub default_route : Type 0
default_route = lines_on g0 stage.RouterRoute (unit.Route (codes "r1")) ≡ (
    codes "ingress r_route priority=100 rank=0 datapaths=g0 match=ip4.dst == 0.0.0.0/0 actions=dec_ttl;set next=2886729737;set out=ge;eth_src 0a:00:00:00:01:fe;set loopback=1;go 14\n"
    ∷ [])

-- p1 as a neighbour
abbrev pub neighbour : Type 0
neighbour = lines_on g0 stage.RouterNeighbour (unit.Neighbour gi (ip 0x0a000001)) ≡ (
    codes "ingress r_neighbour priority=100 rank=0 datapaths=g0 match=next == 167772161 && outport == \"gi\" actions=eth_dst 0a:00:00:00:00:01;go 32\n"
    ∷ [])

-- what the switch sends to the router
abbrev pub looked_up_behind : Type 0
looked_up_behind = lines_on in0 stage.SwitchLookup (unit.Port in0_g) ≡ (
    codes "ingress s_lookup priority=80 rank=0 datapaths=in0 match=eth.mcast && arp.op == 1 && arp.tpa == 10.0.0.254 actions=set out=in0-g;go 32\n"
    ∷ codes "ingress s_lookup priority=50 rank=0 datapaths=in0 match=eth.dst == 0a:00:00:00:00:fe actions=set out=in0-g;go 32\n"
    ∷ [])

-- ---- the router itself

-- what no router passes on
abbrev pub refused : Type 0
refused = lines_on g0 stage.RouterInput (unit.Router g0) ≡ (
    codes "ingress r_input priority=90 rank=0 datapaths=g0 match=arp actions=drop arp\n"
    ∷ codes "ingress r_input priority=80 rank=0 datapaths=g0 match=(ip4.src == {0.0.0.0/8, 127.0.0.0/8, 224.0.0.0/4, 255.255.255.255} || ip4.dst == {0.0.0.0/8, 127.0.0.0/8, 224.0.0.0/4, 255.255.255.255}) actions=drop bad-ip\n"
    ∷ codes "ingress r_input priority=60 rank=0 datapaths=g0 match=ip.ttl == {0, 1} actions=drop ttl\n"
    ∷ codes "ingress r_input priority=50 rank=0 datapaths=g0 match=ip4 actions=go 10\n"
    ∷ codes "ingress r_input priority=0 rank=0 datapaths=g0 match=1 actions=drop not-ip4\n"
    ∷ [])

-- source NAT undone
abbrev pub undone : Type 0
undone = lines_on g0 stage.RouterUndo (unit.Router g0) ≡ (
    codes "ingress r_undo priority=100 rank=0 datapaths=g0 match=ip4 actions=undo;find dnat;go 11\n"
    ∷ codes "ingress r_undo priority=0 rank=0 datapaths=g0 match=1 actions=go 11\n"
    ∷ [])

-- connections that are known
abbrev pub known_connections : Type 0
known_connections = lines_on g0 stage.RouterDnat (unit.Router g0) ≡ (
    codes "ingress r_dnat priority=100 rank=0 datapaths=g0 match=state == 2 actions=touch;translate;go 12\n"
    ∷ codes "ingress r_dnat priority=100 rank=0 datapaths=g0 match=state == 3 actions=touch;translate;go 12\n"
    ∷ codes "ingress r_dnat priority=0 rank=0 datapaths=g0 match=1 actions=go 12\n"
    ∷ [])

-- source NAT found
abbrev pub found : Type 0
found = lines_on g0 stage.RouterFind (unit.Router g0) ≡ (
    codes "egress r_find priority=100 rank=0 datapaths=g0 match=own == 0 && ip4 actions=find snat;go 41\n"
    ∷ codes "egress r_find priority=0 rank=0 datapaths=g0 match=1 actions=go 41\n"
    ∷ [])

-- sources that are known
abbrev pub known_sources : Type 0
known_sources = lines_on g0 stage.RouterSnat (unit.Router g0) ≡ (
    codes "egress r_snat priority=200 rank=0 datapaths=g0 match=state == 2 actions=touch;translate;go 64\n"
    ∷ codes "egress r_snat priority=0 rank=0 datapaths=g0 match=1 actions=go 64\n"
    ∷ [])

-- ---- NAT and balancers

-- sources of a network
abbrev pub snat : Type 0
snat = lines_on g0 stage.RouterSnat (unit.Nat (codes "n0")) ≡ (
    codes "egress r_snat priority=124 rank=0 datapaths=g0 match=state == 1 && ip4.src == 10.0.0.0/24 actions=snat snat 172.16.0.254;go 64\n"
    ∷ codes "egress r_snat priority=124 rank=0 datapaths=g0 match=state == 4 && ip4.src == 10.0.0.0/24 actions=drop invalid\n"
    ∷ [])

-- a destination
abbrev pub dnat : Type 0
dnat = lines_on g0 stage.RouterDnat (unit.Nat (codes "n1")) ≡ (
    codes "ingress r_dnat priority=80 rank=0 datapaths=g0 match=state == 1 && ip4.dst == 172.16.0.253 actions=dnat dnat 10.0.0.2;go 12\n"
    ∷ [])

-- a virtual address
abbrev pub resolver : Type 0
resolver = lines_on g0 stage.RouterDnat (unit.Balancer (codes "lb") g0) ≡ (
    codes "ingress r_dnat priority=90 rank=0 datapaths=g0 match=state == 1 && udp && ip4.dst == 172.16.0.100 && udp.dst == 53 actions=balance dnat 172.16.0.100:53 [10.0.0.2:53];go 12\n"
    ∷ [])
