-- How a gateway router translates what comes from outside: it undoes translations of sources, and translates destinations.
use Rattle.std.specs.Prelude.{◌&&◌, ℕ, Bool, Option, Some, None}
use Rattle.std.specs.List.{find}
use Rattle.conn_table.specs.Picks.{to_address}
use Rattle.conn_table.specs.Tracking.{Seen, forward, reply, invalid, new, seen}
use Rattle.conn_table.specs.Tuples.{reversed, with_tuple}
use Rattle.conn_table.specs.declared.tuple.Tuple.{Tuple}
use Rattle.inet_packet.specs.declared.packet.Packet.{Packet}
use Rattle.nb_records.specs.Network.{Network}
use Rattle.nb_records.specs.Routers.{nats_of, translates_destinations}
use Rattle.nb_records.specs.Switches.{same_ip}
use Rattle.nb_records.specs.declared.router.Nat.{Nat}
use Rattle.ovn_base.specs.declared.address.Ip4.{Ip4}
use Rattle.ovn_base.specs.declared.name.Name.{Name}
use Rattle.net_model.specs.Balancing.{Desk, commit_or_drop, Service, service_for, balance}
use Rattle.net_model.specs.Tracking.{carry_onward, carry_back}
use Rattle.net_model.specs.Trail.{Trail, dnat_of, snat_of, list_of, Spot, Point, goes}

-- ---- undoing a translation of the source

-- an answer in the router's SNAT list goes back to the first source; any other packet goes on as it is
abbrev pub undo_as : ℕ → Name → Seen → Trail → Packet → Point
undo_as now router (reply e) t p = carry_back now (snat_of router) e t p
undo_as now router (forward e) t p = goes t p
undo_as now router invalid t p = goes t p
undo_as now router (new tuple) t p = goes t p

abbrev pub undo_snat : ℕ → Name → Trail → Packet → Point
undo_snat now router t p = undo_as now router (seen (list_of t.lists (snat_of router)) p) t p

-- ---- translating the destination

abbrev pub is_dnat_for : Ip4 → Nat → Bool
is_dnat_for ip r = translates_destinations r.kind && same_ip r.external_ip ip

abbrev pub dnat_row : Network → Name → Ip4 → Option Nat
dnat_row net router ip = find (is_dnat_for ip) (nats_of net router)

abbrev pub dnat_desk : ℕ → Spot → Desk
dnat_desk now spot = record { now = now; spot = spot; owner = dnat_of spot.datapath }

abbrev pub dnat_by_row : Desk → Tuple → Option Nat → Trail → Packet → Point
dnat_by_row d tuple None t p = goes t p
dnat_by_row d tuple (Some r) t p = commit_or_drop d tuple (reversed (to_address r.logical_ip.addr tuple)) t (with_tuple (to_address r.logical_ip.addr tuple) p)

-- a new connection: to a virtual address of a balancer, or else by a row
abbrev pub dnat_new : Network → Desk → Tuple → Option Service → Option Nat → Trail → Packet → Point
dnat_new net d tuple (Some s) row t p = balance net d tuple s t p
dnat_new net d tuple None row t p = dnat_by_row d tuple row t p

abbrev pub dnat_as : Network → Desk → Name → Seen → Trail → Packet → Point
dnat_as net d router (forward e) t p = carry_onward d.now d.owner e t p
dnat_as net d router (reply e) t p = carry_back d.now d.owner e t p
dnat_as net d router invalid t p = goes t p
dnat_as net d router (new tuple) t p = dnat_new net d tuple (service_for net router tuple) (dnat_row net router tuple.dst) t p

-- the packet is looked for in the router's DNAT list
abbrev pub dnat : Network → ℕ → Spot → Trail → Packet → Point
dnat net now spot t p = dnat_as net (dnat_desk now spot) spot.datapath (seen (list_of t.lists (dnat_of spot.datapath)) p) t p
