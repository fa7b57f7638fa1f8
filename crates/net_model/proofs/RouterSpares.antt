-- The pieces of the way through a router leave the choices that they don't need.
use Rattle.std.specs.Prelude.{◌≡◌, ◌++◌, ℕ, Bool, true, false, List, [], ◌∷◌, Option, Some, None, refl}
use Rattle.std.proofs.lemmas.Bool.{false≢true}
use Rattle.std.specs.Cmp.{first_so, second_so}
use Rattle.conn_table.specs.Connections.{is_free}
use Rattle.conn_table.specs.Picks.{Choice, to_backend, to_port, Chosen, choose_port, may_pick, has_free_port, to_address, from_address, with_port}
use Rattle.conn_table.specs.Tracking.{Seen, forward, reply, invalid, new, seen}
use Rattle.conn_table.specs.Tuples.{reversed, with_tuple}
use Rattle.conn_table.specs.declared.tuple.Tuple.{Tuple}
use Rattle.inet_packet.specs.declared.packet.Packet.{Packet}
use Rattle.nb_records.specs.Neighbours.{neighbour_of}
use Rattle.nb_records.specs.Network.{Network}
use Rattle.nb_records.specs.Routers.{partner_of_router_port}
use Rattle.nb_records.specs.Ways.{NextHop, route_of}
use Rattle.nb_records.specs.declared.router.Nat.{Nat}
use Rattle.nb_records.specs.declared.router.RouterPort.{RouterPort}
use Rattle.ovn_base.specs.declared.address.Mac.{Mac}
use Rattle.ovn_base.specs.declared.name.Name.{Name}
use Rattle.net_model.proofs.SpareLaws.{with_more, PointSpares, PieceSpares, WaySpares, OnwardSpares, then_spares, finally_spares, unless_spares}
use Rattle.net_model.proofs.SwitchSpares.{commit_spares, onward_spares, back_spares, balance_spares}
use Rattle.net_model.specs.Balancing.{Desk, commit_or_drop, Service, service_for}
use Rattle.net_model.specs.Dnat.{undo_as, undo_snat, dnat_row, dnat_desk, dnat_by_row, dnat_new, dnat_as, dnat}
use Rattle.net_model.specs.Entry.{Scene, Onward}
use Rattle.net_model.specs.Forwarding.{is_translating, where_translating, leave_router, send_out, routed, to_neighbour, over_hop, route_on, own_address, not_own, translate_destination, come_in, go_through, take_in, into_router}
use Rattle.net_model.specs.Headers.{src_of, dst_of}
use Rattle.net_model.specs.RouterInput.{Intake, answers_with, becomes, passes_on, refuses, intake}
use Rattle.net_model.specs.Snat.{snat_row, snat_desk, snat_over, pick_port, keep_port, snat_new, snat_by_row, snat_without_row, snat_as, snat}
use Rattle.net_model.specs.Trail.{Trail, dnat_of, snat_of, list_of, Spot, spot_in_router, tell, picks_port, after_choice, Point}

-- ---- undoing translations of sources

undo_as_spares : (now : ℕ) (router : Name) (sight : Seen) → PieceSpares (undo_as now router sight)
undo_as_spares now router (reply e) more t p = back_spares now (snat_of router) e more t p
undo_as_spares now router (forward e) more t p = λ legal. (legal, refl)
undo_as_spares now router invalid more t p = λ legal. (legal, refl)
undo_as_spares now router (new tuple) more t p = λ legal. (legal, refl)

undo_spares : (now : ℕ) (router : Name) → PieceSpares (undo_snat now router)
undo_spares now router more t p = undo_as_spares now router (seen (list_of t.lists (snat_of router)) p) more t p

-- ---- translating destinations

by_row_spares : (d : Desk) (tuple : Tuple) (row : Option Nat) → PieceSpares (dnat_by_row d tuple row)
by_row_spares d tuple None more t p = λ legal. (legal, refl)
by_row_spares d tuple (Some r) more t p = let to = to_address r.logical_ip.addr tuple in commit_spares d tuple (reversed to) more t (with_tuple to p)

dnat_new_spares : (net : Network) (d : Desk) (tuple : Tuple) (o : Option Service) (row : Option Nat) → PieceSpares (dnat_new net d tuple o row)
dnat_new_spares net d tuple (Some s) row more t p = balance_spares net d tuple s more t p
dnat_new_spares net d tuple None row more t p = by_row_spares d tuple row more t p

dnat_as_spares : (net : Network) (d : Desk) (router : Name) (sight : Seen) → PieceSpares (dnat_as net d router sight)
dnat_as_spares net d router (forward e) more t p = onward_spares d.now d.owner e more t p
dnat_as_spares net d router (reply e) more t p = back_spares d.now d.owner e more t p
dnat_as_spares net d router invalid more t p = λ legal. (legal, refl)
dnat_as_spares net d router (new tuple) more t p = dnat_new_spares net d tuple (service_for net router tuple) (dnat_row net router tuple.dst) more t p

dnat_spares : (net : Network) (now : ℕ) (spot : Spot) → PieceSpares (dnat net now spot)
dnat_spares net now spot more t p = dnat_as_spares net (dnat_desk now spot) spot.datapath (seen (list_of t.lists (dnat_of spot.datapath)) p) more t p

-- ---- translating sources

-- the trail once the pick is told
abbrev picked : Name → Chosen ℕ → Trail → Trail
picked router c t = tell (picks_port router c.what) (after_choice c t)

over_spares : (d : Desk) (router : Name) (tuple back : Tuple) (is_legal : ℕ → Bool) (more : List Choice) (t : Trail) (p : Packet)
    → PointSpares more t (snat_over d router tuple back (choose_port is_legal t.choices) t p) (snat_over d router tuple back (choose_port is_legal (t.choices ++ more)) (with_more more t) p)
over_spares d router tuple back is_legal more t p = by t.choices
  where
    -- all choices were legal, and so was this one
    legal_then : (c : Chosen ℕ) (u : Trail)
        → PointSpares more (picked router c u) (snat_over d router tuple back c u p) (commit_or_drop d tuple (with_port c.what back) (with_more more (picked router c u)) (with_tuple (reversed (with_port c.what back)) p))
    legal_then c u = commit_spares d tuple (with_port c.what back) more (picked router c u) (with_tuple (reversed (with_port c.what back)) p)

    by : (cs : List Choice) → PointSpares more t (snat_over d router tuple back (choose_port is_legal cs) (record t { choices = cs }) p) (snat_over d router tuple back (choose_port is_legal (cs ++ more)) (record t { choices = cs ++ more }) p)
    by [] = λ legal. absurd (false≢true (second_so t.legal false (legal_then (choose_port is_legal []) (record t { choices = [] }) legal).0))
    by (to_port n ∷ cs) = λ legal.
        let h = legal_then (choose_port is_legal (to_port n ∷ cs)) (record t { choices = to_port n ∷ cs }) legal in
        (first_so t.legal (is_legal n) h.0, h.1)
    by (to_backend b ∷ cs) = λ legal. absurd (false≢true (second_so t.legal false (legal_then (choose_port is_legal (to_backend b ∷ cs)) (record t { choices = to_backend b ∷ cs }) legal).0))

pick_spares : (b : Bool) (d : Desk) (router : Name) (tuple back : Tuple) → PieceSpares (pick_port b d router tuple back)
pick_spares true d router tuple back more t p = over_spares d router tuple back (may_pick (list_of t.lists d.owner) back) more t p
pick_spares false d router tuple back more t p = λ legal. (legal, refl)

keep_spares : (b : Bool) (d : Desk) (router : Name) (tuple back : Tuple) → PieceSpares (keep_port b d router tuple back)
keep_spares true d router tuple back more t p = commit_spares d tuple back more t (with_tuple (reversed back) p)
keep_spares false d router tuple back more t p = pick_spares (has_free_port (list_of t.lists d.owner) back) d router tuple back more t p

new_spares : (d : Desk) (router : Name) (tuple back : Tuple) → PieceSpares (snat_new d router tuple back)
new_spares d router tuple back more t p = keep_spares (is_free (list_of t.lists d.owner) back) d router tuple back more t p

snat_by_row_spares : (d : Desk) (router : Name) (r : Nat) (sight : Seen) → PieceSpares (snat_by_row d router r sight)
snat_by_row_spares d router r (forward e) more t p = onward_spares d.now d.owner e more t p
snat_by_row_spares d router r (reply e) more t p = λ legal. (legal, refl)
snat_by_row_spares d router r invalid more t p = λ legal. (legal, refl)
snat_by_row_spares d router r (new tuple) more t p = new_spares d router tuple (reversed (from_address r.external_ip tuple)) more t p

without_row_spares : (d : Desk) (sight : Seen) → PieceSpares (snat_without_row d sight)
without_row_spares d (forward e) more t p = onward_spares d.now d.owner e more t p
without_row_spares d (reply e) more t p = λ legal. (legal, refl)
without_row_spares d invalid more t p = λ legal. (legal, refl)
without_row_spares d (new tuple) more t p = λ legal. (legal, refl)

snat_as_spares : (d : Desk) (router : Name) (row : Option Nat) (sight : Seen) → PieceSpares (snat_as d router row sight)
snat_as_spares d router None sight more t p = without_row_spares d sight more t p
snat_as_spares d router (Some r) sight more t p = snat_by_row_spares d router r sight more t p

snat_spares : (net : Network) (now : ℕ) (spot : Spot) (router : Name) → PieceSpares (snat net now spot router)
snat_spares net now spot router more t p = snat_as_spares (snat_desk now spot router) router (snat_row net router (src_of p)) (seen (list_of t.lists (snat_of router)) p) more t p

-- ---- through a router

where_spares : (b : Bool) (piece : Trail → Packet → Point) → PieceSpares piece → PieceSpares (where_translating b piece)
where_spares true piece h more t p = h more t p
where_spares false piece h more t p = λ legal. (legal, refl)

not_own_spares : (s : Scene) (i : RouterPort) → PieceSpares (not_own s i)
not_own_spares s i more t p = unless_spares (own_address s.config.net i p) (spot_in_router i) more t p

destination_spares : (s : Scene) (b : Bool) (i : RouterPort) → PieceSpares (translate_destination s b i)
destination_spares s b i more t p =
    let piece = dnat s.config.net s.now (spot_in_router i) in
    then_spares (where_translating b piece) (not_own s i) (where_spares b piece (dnat_spares s.config.net s.now (spot_in_router i))) (not_own_spares s i) more t p

come_in_spares : (s : Scene) (b : Bool) (i : RouterPort) → PieceSpares (come_in s b i)
come_in_spares s b i more t p =
    let piece = undo_snat s.now i.router in
    then_spares (where_translating b piece) (translate_destination s b i) (where_spares b piece (undo_spares s.now i.router)) (destination_spares s b i) more t p

module _ (onward : Onward) (s : Scene) (spares : OnwardSpares onward) where
  leave_router_spares : (out : RouterPort) → WaySpares (leave_router onward s.config.net out)
  leave_router_spares out more t p = spares (spot_in_router out) (partner_of_router_port s.config.net out) more t p

  send_out_spares : (b : Bool) (out : RouterPort) → WaySpares (send_out onward s b out)
  send_out_spares b out more t p =
      let piece = snat s.config.net s.now (spot_in_router out) out.router in
      finally_spares (where_translating b piece) (leave_router onward s.config.net out) (where_spares b piece (snat_spares s.config.net s.now (spot_in_router out) out.router)) (leave_router_spares out) more t p

  neighbour_spares : (b : Bool) (i out : RouterPort) (mac : Option Mac) → WaySpares (to_neighbour onward s b i out mac)
  neighbour_spares b i out None more t p = λ legal. (legal, refl)
  neighbour_spares b i out (Some mac) more t p = send_out_spares b out more t (routed out mac p)

  hop_spares : (b : Bool) (i : RouterPort) (hop : Option NextHop) → WaySpares (over_hop onward s b i hop)
  hop_spares b i None more t p = λ legal. (legal, refl)
  hop_spares b i (Some hop) more t p = neighbour_spares b i hop.port (neighbour_of s.config.net hop.port hop.next) more t p

  route_spares : (b : Bool) (i : RouterPort) → WaySpares (route_on onward s b i)
  route_spares b i more t p = hop_spares b i (route_of s.config.net i.router (dst_of p)) more t p

  through_spares : (b : Bool) (i : RouterPort) → WaySpares (go_through onward s b i)
  through_spares b i more t p = finally_spares (come_in s b i) (route_on onward s b i) (come_in_spares s b i) (route_spares b i) more t p

  take_in_spares : (taken : Intake) (b : Bool) (i : RouterPort) → WaySpares (take_in taken onward s b i)
  take_in_spares (refuses why) b i more t p = λ legal. (legal, refl)
  take_in_spares (answers_with q) b i more t p = leave_router_spares i more t q
  take_in_spares (becomes q) b i more t p = route_spares false i more t q
  take_in_spares passes_on b i more t p = through_spares b i more t p

  pub into_router_spares : (i : RouterPort) → WaySpares (into_router onward s i)
  into_router_spares i more t p = take_in_spares (intake s.config.net i p) (is_translating s.config.net i) i more t p
