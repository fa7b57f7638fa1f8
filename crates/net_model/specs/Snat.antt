-- How a gateway router translates the sources of what leaves.
use Rattle.std.specs.Prelude.{◌&&◌, nat_lt, ℕ, Bool, true, false, Option, Some, None, cond}
use Rattle.std.specs.List.{filter}
use Rattle.conn_table.specs.Connections.{is_free}
use Rattle.conn_table.specs.Picks.{Chosen, choose_port, from_address, with_port, may_pick, has_free_port}
use Rattle.conn_table.specs.Tracking.{Seen, forward, reply, invalid, new, seen}
use Rattle.conn_table.specs.Tuples.{reversed, with_tuple}
use Rattle.conn_table.specs.declared.tuple.Tuple.{Tuple}
use Rattle.flow_table.specs.declared.flow.Cause.TheVariants as cause
use Rattle.inet_packet.specs.declared.packet.Packet.{Packet}
use Rattle.nb_records.specs.Network.{Network}
use Rattle.nb_records.specs.Routers.{contains, nats_of, translates_sources}
use Rattle.nb_records.specs.Ways.{best_by}
use Rattle.nb_records.specs.declared.router.Nat.{Nat}
use Rattle.ovn_base.specs.declared.address.Ip4.{Ip4}
use Rattle.ovn_base.specs.declared.name.Name.{Name}
use Rattle.net_model.specs.Balancing.{Desk, commit_or_drop}
use Rattle.net_model.specs.Headers.{src_of}
use Rattle.net_model.specs.Tracking.{carry_onward}
use Rattle.net_model.specs.Trail.{Trail, snat_of, list_of, Spot, drop_for, tell, picks_port, after_choice, Point, goes, stops}

-- ---- rows

abbrev pub is_snat_for : Ip4 → Nat → Bool
is_snat_for ip r = translates_sources r.kind && contains r.logical_ip ip

abbrev pub is_narrower : Nat → Nat → Bool
is_narrower a b = nat_lt b.logical_ip.len a.logical_ip.len

-- of the rows that hold the source, the one with the longest prefix
abbrev pub snat_row : Network → Name → Ip4 → Option Nat
snat_row net router ip = best_by is_narrower (filter (is_snat_for ip) (nats_of net router))

abbrev pub snat_desk : ℕ → Spot → Name → Desk
snat_desk now spot router = record { now = now; spot = spot; owner = snat_of router }

-- ---- a new connection

-- it begins with this reply tuple, and the packet gets the source to which that goes
abbrev pub snat_to : Desk → Tuple → Tuple → Trail → Packet → Point
snat_to d tuple back t p = commit_or_drop d tuple back t (with_tuple (reversed back) p)

-- the pick is told before the connection is committed
abbrev pub snat_over : Desk → Name → Tuple → Tuple → Chosen ℕ → Trail → Packet → Point
snat_over d router tuple back c t p = snat_to d tuple (with_port c.what back) (tell (picks_port router c.what) (after_choice c t)) p

abbrev pub pick_port : Bool → Desk → Name → Tuple → Tuple → Trail → Packet → Point
pick_port true d router tuple back t p = snat_over d router tuple back (choose_port (may_pick (list_of t.lists d.owner) back) t.choices) t p
pick_port false d router tuple back t p = stops (drop_for cause.NoFreePort d.spot t)

-- the source port is kept where it is free, else a free one is picked
abbrev pub keep_port : Bool → Desk → Name → Tuple → Tuple → Trail → Packet → Point
keep_port true d router tuple back t p = snat_to d tuple back t p
keep_port false d router tuple back t p = pick_port (has_free_port (list_of t.lists d.owner) back) d router tuple back t p

abbrev pub snat_new : Desk → Name → Tuple → Tuple → Trail → Packet → Point
snat_new d router tuple back t p = keep_port (is_free (list_of t.lists d.owner) back) d router tuple back t p

-- ---- any packet

abbrev pub snat_by_row : Desk → Name → Nat → Seen → Trail → Packet → Point
snat_by_row d router r (forward e) t p = carry_onward d.now d.owner e t p
snat_by_row d router r (reply e) t p = goes t p
snat_by_row d router r invalid t p = stops (drop_for cause.Invalid d.spot t)
snat_by_row d router r (new tuple) t p = snat_new d router tuple (reversed (from_address r.external_ip tuple)) t p

abbrev pub snat_without_row : Desk → Seen → Trail → Packet → Point
snat_without_row d (forward e) t p = carry_onward d.now d.owner e t p
snat_without_row d (reply e) t p = goes t p
snat_without_row d invalid t p = goes t p
snat_without_row d (new tuple) t p = goes t p

-- a known connection is translated whether it has a row or not
abbrev pub snat_as : Desk → Name → Option Nat → Seen → Trail → Packet → Point
snat_as d router None sight t p = snat_without_row d sight t p
snat_as d router (Some r) sight t p = snat_by_row d router r sight t p

-- the packet is looked for in the router's SNAT list; it is dropped at the port by which it leaves
abbrev pub snat : Network → ℕ → Spot → Name → Trail → Packet → Point
snat net now spot router t p = snat_as (snat_desk now spot router) router (snat_row net router (src_of p)) (seen (list_of t.lists (snat_of router)) p) t p
