-- The rows of switches and of their ports, but for those of rules, connections and balancers.
use Rattle.std.specs.Prelude.{ℕ, ◌^◌, ◌&&◌, ◌||◌, ◌++◌, Bool, true, false, not, List, [], ◌∷◌, map, flat_map, if◌then◌else◌}
use Rattle.ovn_base.specs.declared.address.Cidr.{Cidr}
use Rattle.ovn_base.specs.declared.address.Ip4.{Ip4}
use Rattle.ovn_base.specs.declared.address.Mac.{Mac}
use Rattle.ovn_base.specs.declared.name.Name.{Name}
use Rattle.flow_table.specs.declared.flow.Cause.TheVariants as cause
use Rattle.inet_packet.specs.declared.regs.Reg.TheVariants as reg
use Rattle.match_language.specs.declared.expr.Expr.{Expr}
use Rattle.match_language.specs.declared.expr.Expr.TheVariants as e
use Rattle.match_language.specs.declared.expr.Rel.TheVariants.{Eq}
use Rattle.match_language.specs.declared.expr.Value.TheVariants as v
use Rattle.match_language.specs.declared.field.Field.TheVariants as f
use Rattle.match_language.specs.declared.field.Predicate.TheVariants as p
use Rattle.nb_records.specs.Network.{Network}
use Rattle.nb_records.specs.Switches.{is_virtual, is_stateful, has_balancer, has_some, router_port_behind, macs_of, mac_of_ip, enabled_ports, takes_unknown}
use Rattle.nb_records.specs.declared.switch.SecurityEntry.{SecurityEntry}
use Rattle.nb_records.specs.declared.switch.SwitchPort.{SwitchPort}
use Rattle.logical_flows.specs.declared.action.Action.{Action}
use Rattle.logical_flows.specs.declared.action.Action.TheVariants as a
use Rattle.flow_table.specs.declared.flow.ZoneOf.TheVariants as zone
use Rattle.logical_flows.specs.declared.flow.LFlow.{LFlow}
use Rattle.logical_flows.specs.declared.stage.Stage.TheVariants as stage
use Rattle.std.specs.List.{list_any}
use Rattle.ovn_base.specs.declared.limits.TheConstants.{FLOOD_KEY, UNKNOWN_KEY}
use Rattle.stage_rows.specs.Facts.{port_ips, answered_if}
use Rattle.stage_rows.specs.Rows.{on_some, when, field_is, mac_is, ip_in, ip_in_some, in_is, out_is, unicast, asks_for, match_row, drop_row, pass_row, base_row, go_on, deliver}
use Rattle.stage_rows.specs.declared.priorities.TheConstants.{ADDRESS_PRIORITY, ANSWERED_PRIORITY, DISABLED_PRIORITY, FLOOD_PRIORITY, GOT_BY_PRIORITY, GROUP_SOURCE_PRIORITY, MAY_GET_PRIORITY, MAY_SEND_PRIORITY, MULTICAST_PRIORITY, NOT_GOT_PRIORITY, NOT_SENT_PRIORITY, OTHER_SOURCE_PRIORITY, OTHER_TARGET_PRIORITY, OWN_REQUEST_PRIORITY, REQUEST_PRIORITY, SENT_BY_PRIORITY, TRACKS_PRIORITY, VLAN_PRIORITY}

-- ---- s_admit

-- the multicast bit of an Ethernet address
abbrev pub group_bit : ℕ
group_bit = 2 ^ 40

abbrev pub port_admit : SwitchPort → List LFlow
port_admit q = when (not q.enabled) (drop_row stage.SwitchAdmit DISABLED_PRIORITY (in_is q.name ∷ []) cause.Disabled ∷ [])

abbrev pub from_group : Expr
from_group = e.Compare f.EthSrc Eq (v.Number group_bit group_bit ∷ [])

abbrev pub switch_admit : List LFlow
switch_admit =
    drop_row stage.SwitchAdmit GROUP_SOURCE_PRIORITY (from_group ∷ []) cause.BadSource
    ∷ drop_row stage.SwitchAdmit VLAN_PRIORITY (field_is f.EthType 0x8100 ∷ []) cause.Vlan
    ∷ base_row stage.SwitchAdmit
    ∷ []

-- ---- s_port_sec

-- a request for an address by one that has none yet (DHCP)
abbrev pub dhcp_request : List Expr
dhcp_request = field_is f.Ip4Src 0 ∷ field_is f.Ip4Dst 0xffff_ffff ∷ field_is f.UdpSrc 68 ∷ field_is f.UdpDst 67 ∷ []

-- what the entry lets its Ethernet address send: without IPv4 addresses any of IPv4, and ARP in its own name
abbrev pub may_send_any : SecurityEntry → List (List Expr)
may_send_any x = (e.Is p.Ip4 ∷ []) ∷ (mac_is f.ArpSha x.mac ∷ []) ∷ []

-- with them what comes from one of these, ARP in its own name and that of one of these, and a DHCP request
abbrev pub may_send_from : SecurityEntry → Cidr → List (List Expr)
may_send_from x i = (ip_in f.Ip4Src i ∷ []) ∷ (mac_is f.ArpSha x.mac ∷ ip_in f.ArpSpa i ∷ []) ∷ []

abbrev pub may_send : SecurityEntry → List (List Expr)
may_send x = if has_some x.ips then flat_map (may_send_from x) x.ips ++ dhcp_request ∷ [] else may_send_any x

-- from the port and the entry's Ethernet address
abbrev pub sent_by : SwitchPort → SecurityEntry → List Expr
sent_by q x = in_is q.name ∷ mac_is f.EthSrc x.mac ∷ []

abbrev pub entry_port_security : SwitchPort → SecurityEntry → List LFlow
entry_port_security q x =
    map (λ terms. pass_row stage.SwitchPortSecurity MAY_SEND_PRIORITY (sent_by q x ++ terms)) (may_send x)
    ++ drop_row stage.SwitchPortSecurity OTHER_SOURCE_PRIORITY (sent_by q x ++ e.Any (e.Is p.Ip4 ∷ e.Is p.Arp ∷ []) ∷ []) cause.PortSecurity
    ∷ pass_row stage.SwitchPortSecurity SENT_BY_PRIORITY (sent_by q x)
    ∷ []

abbrev pub port_port_security : SwitchPort → List LFlow
port_port_security q =
    flat_map (entry_port_security q) q.port_security
    ++ when (has_some q.port_security) (drop_row stage.SwitchPortSecurity NOT_SENT_PRIORITY (in_is q.name ∷ []) cause.PortSecurity ∷ [])

abbrev pub switch_port_security : List LFlow
switch_port_security = base_row stage.SwitchPortSecurity ∷ []

-- ---- s_track

-- what the port sends or gets is tracked
abbrev pub tracks_port : Network → SwitchPort → Bool
tracks_port net q = is_virtual q && (is_stateful net q.switch || has_balancer net q.switch)

abbrev pub tracks : Expr → List Expr
tracks port = port ∷ e.Is p.Ip4 ∷ unicast ∷ []

abbrev pub port_track_row : SwitchPort → LFlow
port_track_row q = match_row stage.SwitchTrack TRACKS_PRIORITY (tracks (in_is q.name)) (a.Find zone.In ∷ a.Set reg.Tracked 1 ∷ go_on stage.SwitchTrack ∷ [])

abbrev pub port_track : Network → SwitchPort → List LFlow
port_track net q = when (tracks_port net q) (port_track_row q ∷ [])

abbrev pub switch_track : List LFlow
switch_track = base_row stage.SwitchTrack ∷ []

-- ---- s_acl_in and s_acl_out, where no rule speaks

abbrev pub switch_acl_in : List LFlow
switch_acl_in = base_row stage.SwitchAclIn ∷ []

abbrev pub switch_acl_out : List LFlow
switch_acl_out = base_row stage.SwitchAclOut ∷ []

-- ---- s_arp

-- the answer goes back to the port of entry
abbrev pub answer_actions : Mac → Ip4 → List Action
answer_actions mac ip = a.ArpReply mac ip ∷ a.OutIsIn ∷ a.Set reg.Loopback 1 ∷ deliver ∷ []

-- requests of the port itself go on; those of others are answered
abbrev pub address_arp : SwitchPort → Ip4 → Mac → List LFlow
address_arp q ip mac =
    pass_row stage.SwitchArp OWN_REQUEST_PRIORITY (in_is q.name ∷ asks_for ip)
    ∷ match_row stage.SwitchArp REQUEST_PRIORITY (asks_for ip) (answer_actions mac ip)
    ∷ []

abbrev pub port_arp : SwitchPort → List LFlow
port_arp q = when (is_virtual q && q.enabled) (flat_map (λ ip. on_some (mac_of_ip ip q) (address_arp q ip)) (port_ips q))

abbrev pub switch_arp : List LFlow
switch_arp = base_row stage.SwitchArp ∷ []

-- ---- s_lookup

abbrev pub goes_to_port : SwitchPort → List Action
goes_to_port q = a.SetOut q.name ∷ deliver ∷ []

abbrev pub goes_to_group : ℕ → List Action
goes_to_group key = a.Set reg.OutPort key ∷ deliver ∷ []

-- a request for an address that the router port behind the port answers
abbrev pub answered_lookup : SwitchPort → Ip4 → LFlow
answered_lookup q ip = match_row stage.SwitchLookup ANSWERED_PRIORITY (e.Is p.EthMcast ∷ asks_for ip) (goes_to_port q)

abbrev pub address_lookup : SwitchPort → Mac → LFlow
address_lookup q mac = match_row stage.SwitchLookup ADDRESS_PRIORITY (mac_is f.EthDst mac ∷ []) (goes_to_port q)

abbrev pub port_lookup : Network → SwitchPort → List LFlow
port_lookup net q =
    when q.enabled (
    when (not (is_virtual q)) (map (answered_lookup q) (answered_if net (router_port_behind net q)))
    ++ map (address_lookup q) (macs_of net q)
    )

-- an enabled port of the switch has `unknown`
abbrev pub some_take_unknown : Network → Name → Bool
some_take_unknown net switch = list_any (λ (q : SwitchPort). takes_unknown q.addresses) (enabled_ports net switch)

abbrev pub unknown_actions : Bool → List Action
unknown_actions true = goes_to_group UNKNOWN_KEY
unknown_actions false = a.Drop cause.UnknownAddress ∷ []

abbrev pub switch_lookup : Bool → List LFlow
switch_lookup takes =
    match_row stage.SwitchLookup FLOOD_PRIORITY (e.Is p.EthMcast ∷ []) (goes_to_group FLOOD_KEY)
    ∷ match_row stage.SwitchLookup 0 [] (unknown_actions takes)
    ∷ []

-- ---- s_track_out

abbrev pub port_disabled_out : SwitchPort → List LFlow
port_disabled_out q = when (not q.enabled) (drop_row stage.SwitchTrackOut DISABLED_PRIORITY (out_is q.name ∷ []) cause.Disabled ∷ [])

abbrev pub port_track_out_row : SwitchPort → LFlow
port_track_out_row q = match_row stage.SwitchTrackOut TRACKS_PRIORITY (tracks (out_is q.name)) (a.Find zone.Out ∷ a.Set reg.Tracked 1 ∷ go_on stage.SwitchTrackOut ∷ [])

abbrev pub port_track_out : Network → SwitchPort → List LFlow
port_track_out net q = port_disabled_out q ++ when (tracks_port net q) (port_track_out_row q ∷ [])

abbrev pub switch_track_out : List LFlow
switch_track_out = base_row stage.SwitchTrackOut ∷ []

-- ---- s_sec_out

-- destinations of groups, and of all
abbrev pub group_ips : List Cidr
group_ips = record { addr = record { 0 = 0xe000_0000 }; len = 4 } ∷ record { addr = record { 0 = 0xffff_ffff }; len = 32 } ∷ []

-- what goes to the entry's Ethernet address: without IPv4 addresses anything, with them what goes to one of these or to a group
abbrev pub may_get : SecurityEntry → List (List Expr)
may_get x = if has_some x.ips then map (λ i. ip_in f.Ip4Dst i ∷ []) x.ips ++ (ip_in_some f.Ip4Dst group_ips ∷ []) ∷ [] else [] ∷ []

-- to the port and the entry's Ethernet address
abbrev pub got_by : SwitchPort → SecurityEntry → List Expr
got_by q x = out_is q.name ∷ mac_is f.EthDst x.mac ∷ []

abbrev pub entry_security_out : SwitchPort → SecurityEntry → List LFlow
entry_security_out q x =
    map (λ terms. pass_row stage.SwitchSecurityOut MAY_GET_PRIORITY (got_by q x ++ terms)) (may_get x)
    ++ drop_row stage.SwitchSecurityOut OTHER_TARGET_PRIORITY (got_by q x ++ e.Is p.Ip4 ∷ []) cause.PortSecurity
    ∷ pass_row stage.SwitchSecurityOut GOT_BY_PRIORITY (got_by q x)
    ∷ []

abbrev pub around_security_out : SwitchPort → List LFlow
around_security_out q =
    pass_row stage.SwitchSecurityOut MULTICAST_PRIORITY (out_is q.name ∷ e.Is p.EthMcast ∷ [])
    ∷ drop_row stage.SwitchSecurityOut NOT_GOT_PRIORITY (out_is q.name ∷ []) cause.PortSecurity
    ∷ []

abbrev pub port_security_out : SwitchPort → List LFlow
port_security_out q = flat_map (entry_security_out q) q.port_security ++ when (has_some q.port_security) (around_security_out q)

abbrev pub switch_security_out : List LFlow
switch_security_out = base_row stage.SwitchSecurityOut ∷ []
