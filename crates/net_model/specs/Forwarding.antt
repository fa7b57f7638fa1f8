-- A packet goes through a router.
use Rattle.std.specs.Prelude.{Bool, true, false, [], ◌∷◌, Option, Some, None}
use Rattle.flow_table.specs.declared.flow.Cause.{Cause}
use Rattle.flow_table.specs.declared.flow.Cause.TheVariants as cause
use Rattle.inet_packet.specs.Rewrites.{with_ip4, ip4_dec_ttl}
use Rattle.inet_packet.specs.declared.packet.Packet.{Packet}
use Rattle.nb_records.specs.Neighbours.{neighbour_of}
use Rattle.nb_records.specs.Network.{Network}
use Rattle.nb_records.specs.Routers.{is_own_ip, translates, partner_of_router_port}
use Rattle.nb_records.specs.Ways.{NextHop, route_of}
use Rattle.nb_records.specs.declared.router.Router.{Router}
use Rattle.nb_records.specs.declared.router.RouterPort.{RouterPort}
use Rattle.ovn_base.specs.declared.address.Mac.{Mac}
use Rattle.ovn_base.specs.names.ByName.{at}
use Rattle.net_model.specs.Dnat.{undo_snat, dnat}
use Rattle.net_model.specs.Entry.{Scene, Onward}
use Rattle.net_model.specs.Headers.{dst_of}
use Rattle.net_model.specs.RouterInput.{Intake, answers_with, becomes, passes_on, refuses, intake}
use Rattle.net_model.specs.Snat.{snat}
use Rattle.net_model.specs.Trail.{Trail, spot_in_router, drop_for, Point, goes, then, finally, unless, first_cause}

-- ---- translation

-- a gateway router with a NAT row or a balancer translates
abbrev pub translates_if : Network → Option Router → Bool
translates_if net None = false
translates_if net (Some router) = translates net router

abbrev pub is_translating : Network → RouterPort → Bool
is_translating net i = translates_if net (at net.routers i.router)

-- a piece of the way, where the router translates; in any other the packet goes on as it is
abbrev pub where_translating : Bool → (Trail → Packet → Point) → Trail → Packet → Point
where_translating true piece t p = piece t p
where_translating false piece t p = goes t p

-- ---- out of the router

-- the packet goes to the port's partner
abbrev pub leave_router : Onward → Network → RouterPort → Trail → Packet → Trail
leave_router onward net out t p = onward (spot_in_router out) (partner_of_router_port net out) t p

-- first its source is translated
abbrev pub send_out : Onward → Scene → Bool → RouterPort → Trail → Packet → Trail
send_out onward s translating out t p =
    finally (where_translating translating (snat s.config.net s.now (spot_in_router out) out.router) t p) (leave_router onward s.config.net out)

-- ---- routing

-- the packet as it goes to the neighbour: one hop less to live, from the port's Ethernet address to the neighbour's
abbrev pub routed : RouterPort → Mac → Packet → Packet
routed out mac p = record (with_ip4 ip4_dec_ttl p) { src = out.mac; dst = mac }

abbrev pub to_neighbour : Onward → Scene → Bool → RouterPort → RouterPort → Option Mac → Trail → Packet → Trail
to_neighbour onward s translating i out None t p = drop_for cause.NoNeighbour (spot_in_router i) t
to_neighbour onward s translating i out (Some mac) t p = send_out onward s translating out t (routed out mac p)

abbrev pub over_hop : Onward → Scene → Bool → RouterPort → Option NextHop → Trail → Packet → Trail
over_hop onward s translating i None t p = drop_for cause.NoRoute (spot_in_router i) t
over_hop onward s translating i (Some hop) t p = to_neighbour onward s translating i hop.port (neighbour_of s.config.net hop.port hop.next) t p

-- by the longest prefix to the next hop, and to the neighbour that has its address
abbrev pub route_on : Onward → Scene → Bool → RouterPort → Trail → Packet → Trail
route_on onward s translating i t p = over_hop onward s translating i (route_of s.config.net i.router (dst_of p)) t p

-- ---- into the router

-- a packet for an address of the router itself ends here
abbrev pub own_address : Network → RouterPort → Packet → Option Cause
own_address net i p = first_cause ((is_own_ip net i.router (dst_of p), cause.ForRouter) ∷ [])

abbrev pub not_own : Scene → RouterPort → Trail → Packet → Point
not_own s i t p = unless (own_address s.config.net i p) (spot_in_router i) t p

abbrev pub translate_destination : Scene → Bool → RouterPort → Trail → Packet → Point
translate_destination s translating i t p = then (where_translating translating (dnat s.config.net s.now (spot_in_router i)) t p) (not_own s i)

-- first a translation of the source is undone, then the destination is translated, and then it must not be the router's own
abbrev pub come_in : Scene → Bool → RouterPort → Trail → Packet → Point
come_in s translating i t p = then (where_translating translating (undo_snat s.now i.router) t p) (translate_destination s translating i)

abbrev pub go_through : Onward → Scene → Bool → RouterPort → Trail → Packet → Trail
go_through onward s translating i t p = finally (come_in s translating i t p) (route_on onward s translating i)

-- ---- as a whole

-- the router's own answer is never translated
abbrev pub take_in : Intake → Onward → Scene → Bool → RouterPort → Trail → Packet → Trail
take_in (refuses why) onward s translating i t p = drop_for why (spot_in_router i) t
take_in (answers_with q) onward s translating i t p = leave_router onward s.config.net i t q
take_in (becomes q) onward s translating i t p = route_on onward s false i t q
take_in passes_on onward s translating i t p = go_through onward s translating i t p

-- a packet enters a router at a port
abbrev pub into_router : Onward → Scene → RouterPort → Trail → Packet → Trail
into_router onward s i t p = take_in (intake s.config.net i p) onward s (is_translating s.config.net i) i t p
