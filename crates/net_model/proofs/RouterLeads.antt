-- The pieces of the way through a router lead on.
use Rattle.std.specs.Prelude.{◌≡◌, ℕ, Bool, true, false, Option, Some, None, cond, refl}
use Rattle.std.proofs.lemmas.Bool.{false≢true}
use Rattle.conn_table.specs.Connections.{ConnectionList, is_free}
use Rattle.conn_table.specs.Picks.{to_address, with_port, is_free_port, first_port, ports_to_pick, may_pick, some_from, has_free_port, from_address, Chosen, choose_port}
use Rattle.conn_table.specs.Tracking.{Seen, forward, reply, invalid, new, seen}
use Rattle.conn_table.specs.Tuples.{reversed, reversed_protocol, with_tuple, has_ports}
use Rattle.conn_table.specs.declared.tuple.Tuple.{Tuple}
use Rattle.flow_table.specs.declared.flow.Cause.TheVariants as cause
use Rattle.inet_packet.specs.declared.packet.Packet.{Packet}
use Rattle.nb_records.specs.Neighbours.{neighbour_of}
use Rattle.nb_records.specs.Network.{Network}
use Rattle.nb_records.specs.Routers.{partner_of_router_port}
use Rattle.nb_records.specs.Ways.{NextHop, route_of}
use Rattle.nb_records.specs.declared.router.Nat.{Nat}
use Rattle.nb_records.specs.declared.router.RouterPort.{RouterPort}
use Rattle.ovn_base.specs.declared.address.Mac.{Mac}
use Rattle.ovn_base.specs.declared.name.Name.{Name}
use Rattle.net_model.proofs.LeadLaws.{point_on, then_leads, finally_leads, drop_end, unless_leads}
use Rattle.net_model.proofs.SeenLaws.{IsNewTuple, Found, found_seen, addresses_pair, port_pair}
use Rattle.net_model.proofs.SwitchLeads.{commit_leads, onward_leads, back_leads, FreePortsIf, service_for_ports, balance_leads}
use Rattle.net_model.specs.Balancing.{Desk, Service, service_for}
use Rattle.net_model.specs.Dnat.{undo_as, undo_snat, dnat_row, dnat_desk, dnat_by_row, dnat_new, dnat_as, dnat}
use Rattle.net_model.specs.Entry.{Scene, Onward}
use Rattle.net_model.specs.Forwarding.{is_translating, where_translating, leave_router, send_out, routed, to_neighbour, over_hop, route_on, own_address, not_own, translate_destination, come_in, go_through, take_in, into_router}
use Rattle.net_model.specs.Headers.{src_of, dst_of}
use Rattle.net_model.specs.Leads.{stays, tells, chooses, PointLeads, PieceLeads, WayLeads, OnwardLeads}
use Rattle.net_model.specs.RouterInput.{Intake, answers_with, becomes, passes_on, refuses, intake}
use Rattle.net_model.specs.Snat.{snat_row, snat_desk, snat_over, pick_port, keep_port, snat_by_row, snat_without_row, snat_as, snat}
use Rattle.net_model.specs.Trail.{Trail, dnat_of, snat_of, list_of, Spot, spot_in_router, tell, picks_port, after_choice, Point}

-- ---- undoing translations of sources

undo_as_leads : (now : ℕ) (router : Name) (sight : Seen) → PieceLeads now (undo_as now router sight)
undo_as_leads now router (reply e) t p = back_leads now (snat_of router) e t p
undo_as_leads now router (forward e) t p = stays
undo_as_leads now router invalid t p = stays
undo_as_leads now router (new tuple) t p = stays

undo_leads : (now : ℕ) (router : Name) → PieceLeads now (undo_snat now router)
undo_leads now router t p = undo_as_leads now router (seen (list_of t.lists (snat_of router)) p) t p

-- ---- translating destinations

by_row_leads : (d : Desk) (tuple : Tuple) (row : Option Nat) (t : Trail) (p : Packet) → IsNewTuple (list_of t.lists d.owner) tuple → PointLeads d.now t (dnat_by_row d tuple row t p)
by_row_leads d tuple None t p h = stays
by_row_leads d tuple (Some r) t p h =
    let ip = r.logical_ip.addr in
    commit_leads d tuple (reversed (to_address ip tuple)) t (with_tuple (to_address ip tuple) p) h (addresses_pair tuple tuple.src ip h)

dnat_new_leads : (net : Network) (d : Desk) (tuple : Tuple) (o : Option Service) (row : Option Nat) (t : Trail) (p : Packet)
    → IsNewTuple (list_of t.lists d.owner) tuple → FreePortsIf tuple o → PointLeads d.now t (dnat_new net d tuple o row t p)
dnat_new_leads net d tuple (Some s) row t p h free = balance_leads net d tuple s t p h free
dnat_new_leads net d tuple None row t p h free = by_row_leads d tuple row t p h

dnat_as_leads : (net : Network) (d : Desk) (router : Name) (sight : Seen) (t : Trail) (p : Packet) → Found (list_of t.lists d.owner) sight → PointLeads d.now t (dnat_as net d router sight t p)
dnat_as_leads net d router (forward e) t p h = onward_leads d.now d.owner e t p
dnat_as_leads net d router (reply e) t p h = back_leads d.now d.owner e t p
dnat_as_leads net d router invalid t p h = stays
dnat_as_leads net d router (new tuple) t p h = dnat_new_leads net d tuple (service_for net router tuple) (dnat_row net router tuple.dst) t p h (service_for_ports net router tuple)

dnat_leads : (net : Network) (now : ℕ) (spot : Spot) → PieceLeads now (dnat net now spot)
dnat_leads net now spot t p =
    let list = list_of t.lists (dnat_of spot.datapath) in
    dnat_as_leads net (dnat_desk now spot) spot.datapath (seen list p) t p (found_seen list p)

-- ---- translating sources

-- the tuple to which answers come
abbrev back_of : Nat → Tuple → Tuple
back_of r tuple = reversed (from_address r.external_ip tuple)

over_leads : (d : Desk) (router : Name) (r : Nat) (tuple : Tuple) (c : Chosen ℕ) (t : Trail) (p : Packet)
    → IsNewTuple (list_of t.lists d.owner) tuple → has_ports (reversed_protocol tuple.protocol) ≡ true → PointLeads d.now t (snat_over d router tuple (back_of r tuple) c t p)
over_leads d router r tuple c t p h has =
    let back = with_port c.what (back_of r tuple) in
    point_on (snat_over d router tuple (back_of r tuple) c t p) (tells (picks_port router c.what) (chooses c.legal c.left stays))
    (commit_leads d tuple back (tell (picks_port router c.what) (after_choice c t)) (with_tuple (reversed back) p) h (port_pair tuple r.external_ip c.what h has))

pick_leads : (b : Bool) (d : Desk) (router : Name) (r : Nat) (tuple : Tuple) (t : Trail) (p : Packet)
    → IsNewTuple (list_of t.lists d.owner) tuple → (b ≡ true → has_ports (reversed_protocol tuple.protocol) ≡ true) → PointLeads d.now t (pick_port b d router tuple (back_of r tuple) t p)
pick_leads true d router r tuple t p h has = over_leads d router r tuple (choose_port (may_pick (list_of t.lists d.owner) (back_of r tuple)) t.choices) t p h (has refl)
pick_leads false d router r tuple t p h has = tells (drop_end cause.NoFreePort d.spot) stays

free_has_ports : (list : ConnectionList) (back : Tuple) → has_free_port list back ≡ true → has_ports back.protocol ≡ true
free_has_ports list back h = by (has_ports back.protocol) h
  where
    by : (b : Bool) → cond b (some_from (is_free_port list back) first_port ports_to_pick) false ≡ true → b ≡ true
    by true g = refl
    by false g = absurd (false≢true g)

keep_leads : (b : Bool) (d : Desk) (router : Name) (r : Nat) (tuple : Tuple) (t : Trail) (p : Packet)
    → IsNewTuple (list_of t.lists d.owner) tuple → PointLeads d.now t (keep_port b d router tuple (back_of r tuple) t p)
keep_leads true d router r tuple t p h = commit_leads d tuple (back_of r tuple) t (with_tuple (reversed (back_of r tuple)) p) h (addresses_pair tuple r.external_ip tuple.dst h)
keep_leads false d router r tuple t p h =
    let list = list_of t.lists d.owner in
    pick_leads (has_free_port list (back_of r tuple)) d router r tuple t p h (free_has_ports list (back_of r tuple))

snat_by_row_leads : (d : Desk) (router : Name) (r : Nat) (sight : Seen) (t : Trail) (p : Packet) → Found (list_of t.lists d.owner) sight → PointLeads d.now t (snat_by_row d router r sight t p)
snat_by_row_leads d router r (forward e) t p h = onward_leads d.now d.owner e t p
snat_by_row_leads d router r (reply e) t p h = stays
snat_by_row_leads d router r invalid t p h = tells (drop_end cause.Invalid d.spot) stays
snat_by_row_leads d router r (new tuple) t p h = keep_leads (is_free (list_of t.lists d.owner) (back_of r tuple)) d router r tuple t p h

without_row_leads : (d : Desk) (sight : Seen) → PieceLeads d.now (snat_without_row d sight)
without_row_leads d (forward e) t p = onward_leads d.now d.owner e t p
without_row_leads d (reply e) t p = stays
without_row_leads d invalid t p = stays
without_row_leads d (new tuple) t p = stays

snat_as_leads : (d : Desk) (router : Name) (row : Option Nat) (sight : Seen) (t : Trail) (p : Packet) → Found (list_of t.lists d.owner) sight → PointLeads d.now t (snat_as d router row sight t p)
snat_as_leads d router None sight t p h = without_row_leads d sight t p
snat_as_leads d router (Some r) sight t p h = snat_by_row_leads d router r sight t p h

snat_leads : (net : Network) (now : ℕ) (spot : Spot) (router : Name) → PieceLeads now (snat net now spot router)
snat_leads net now spot router t p =
    let list = list_of t.lists (snat_of router) in
    snat_as_leads (snat_desk now spot router) router (snat_row net router (src_of p)) (seen list p) t p (found_seen list p)

-- ---- through a router

where_leads : (b : Bool) (now : ℕ) (piece : Trail → Packet → Point) → PieceLeads now piece → PieceLeads now (where_translating b piece)
where_leads true now piece h t p = h t p
where_leads false now piece h t p = stays

not_own_leads : (s : Scene) (i : RouterPort) → PieceLeads s.now (not_own s i)
not_own_leads s i t p = unless_leads s.now (own_address s.config.net i p) (spot_in_router i) t p

destination_leads : (s : Scene) (b : Bool) (i : RouterPort) → PieceLeads s.now (translate_destination s b i)
destination_leads s b i t p =
    let piece = dnat s.config.net s.now (spot_in_router i) in
    then_leads s.now t (where_translating b piece t p) (not_own s i) (where_leads b s.now piece (dnat_leads s.config.net s.now (spot_in_router i)) t p) (not_own_leads s i)

come_in_leads : (s : Scene) (b : Bool) (i : RouterPort) → PieceLeads s.now (come_in s b i)
come_in_leads s b i t p =
    let piece = undo_snat s.now i.router in
    then_leads s.now t (where_translating b piece t p) (translate_destination s b i) (where_leads b s.now piece (undo_leads s.now i.router) t p) (destination_leads s b i)

module _ (onward : Onward) (s : Scene) (leads : OnwardLeads s.now onward) where
  leave_router_leads : (out : RouterPort) → WayLeads s.now (leave_router onward s.config.net out)
  leave_router_leads out t p = leads (spot_in_router out) (partner_of_router_port s.config.net out) t p

  send_out_leads : (b : Bool) (out : RouterPort) → WayLeads s.now (send_out onward s b out)
  send_out_leads b out t p =
      let piece = snat s.config.net s.now (spot_in_router out) out.router in
      finally_leads s.now t (where_translating b piece t p) (leave_router onward s.config.net out) (where_leads b s.now piece (snat_leads s.config.net s.now (spot_in_router out) out.router) t p) (leave_router_leads out)

  neighbour_leads : (b : Bool) (i out : RouterPort) (mac : Option Mac) → WayLeads s.now (to_neighbour onward s b i out mac)
  neighbour_leads b i out None t p = tells (drop_end cause.NoNeighbour (spot_in_router i)) stays
  neighbour_leads b i out (Some mac) t p = send_out_leads b out t (routed out mac p)

  hop_leads : (b : Bool) (i : RouterPort) (hop : Option NextHop) → WayLeads s.now (over_hop onward s b i hop)
  hop_leads b i None t p = tells (drop_end cause.NoRoute (spot_in_router i)) stays
  hop_leads b i (Some hop) t p = neighbour_leads b i hop.port (neighbour_of s.config.net hop.port hop.next) t p

  route_leads : (b : Bool) (i : RouterPort) → WayLeads s.now (route_on onward s b i)
  route_leads b i t p = hop_leads b i (route_of s.config.net i.router (dst_of p)) t p

  through_leads : (b : Bool) (i : RouterPort) → WayLeads s.now (go_through onward s b i)
  through_leads b i t p = finally_leads s.now t (come_in s b i t p) (route_on onward s b i) (come_in_leads s b i t p) (route_leads b i)

  take_in_leads : (taken : Intake) (b : Bool) (i : RouterPort) → WayLeads s.now (take_in taken onward s b i)
  take_in_leads (refuses why) b i t p = tells (drop_end why (spot_in_router i)) stays
  take_in_leads (answers_with q) b i t p = leave_router_leads i t q
  take_in_leads (becomes q) b i t p = route_leads false i t q
  take_in_leads passes_on b i t p = through_leads b i t p

  pub into_router_leads : (i : RouterPort) → WayLeads s.now (into_router onward s i)
  into_router_leads i t p = take_in_leads (intake s.config.net i p) (is_translating s.config.net i) i t p
