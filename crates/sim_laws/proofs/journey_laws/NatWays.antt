-- The pieces of a packet's way through a router write no lists but those of the router, and nothing crosses on them.
use Rattle.std.specs.Prelude.{◌≡◌, ℕ, Bool, true, false, [], Option, Some, None, refl}
use Rattle.conn_table.specs.Connections.{is_free, changed, touched}
use Rattle.conn_table.specs.Picks.{to_address, from_address, with_port, Chosen, choose_port, may_pick, has_free_port}
use Rattle.conn_table.specs.Tracking.{Seen, forward, reply, invalid, new, seen}
use Rattle.conn_table.specs.Tuples.{reversed, with_tuple}
use Rattle.conn_table.specs.declared.connection.Entry.{Entry}
use Rattle.conn_table.specs.declared.tuple.Tuple.{Tuple}
use Rattle.flow_table.specs.declared.flow.Cause.TheVariants as cause
use Rattle.inet_packet.specs.declared.packet.Packet.{Packet}
use Rattle.nb_records.specs.Network.{Network}
use Rattle.nb_records.specs.declared.router.Nat.{Nat}
use Rattle.nb_records.specs.declared.router.RouterPort.{RouterPort}
use Rattle.net_model.specs.Balancing.{Desk, Service, service_for, legal_backends}
use Rattle.net_model.specs.Config.{Config}
use Rattle.net_model.specs.Dnat.{undo_as, undo_snat, dnat_row, dnat_desk, dnat_new, dnat_as, dnat}
use Rattle.net_model.specs.Entry.{Scene}
use Rattle.net_model.specs.Forwarding.{where_translating, own_address, not_own, translate_destination, come_in}
use Rattle.net_model.specs.Headers.{src_of}
use Rattle.net_model.specs.Snat.{snat_row, snat_desk, snat_over, pick_port, keep_port, snat_as, snat}
use Rattle.net_model.specs.Tracking.{refresh}
use Rattle.net_model.specs.Trail.{Trail, ListOwner, dnat_of, snat_of, list_of, is_dropped, picks_port, after_choice, tell, Spot, spot_in_router, Point}
use Rattle.ovn_base.specs.declared.name.Name.{Name}
use Rattle.ovn_base.specs.names.ByName.{at}
use Rattle.physical_flows.specs.Bindings.{router_homes}
use Rattle.sim_laws.proofs.journey_laws.SwitchWays.{commit_on, pick_on}
use Rattle.sim_laws.proofs.journey_laws.Ways.{IsHere, WayOn, PointOn, stays, both, told, written, chosen, point_on, then_on, unless_on}

module _ (c : Config) (here : Name) (n : ℕ) where
  -- where the router translates, and where not
  pub where_on : (b : Bool) (piece : Trail → Packet → Point) → (b ≡ true → (t : Trail) (p : Packet) → PointOn c here n t (piece t p)) → (t : Trail) (p : Packet) → PointOn c here n t (where_translating b piece t p)
  where_on true piece on t p = on refl t p
  where_on false piece on t p = stays c here n t

  -- a known connection is refreshed
  used_on : (now : ℕ) (owner : ListOwner) → IsHere c here owner → (e : Entry) (t : Trail) → WayOn c here n [] t (refresh owner (touched now) e t)
  used_on now owner home e t = written c here n owner (changed (touched now) e.forward (list_of t.lists owner)) t home

  -- ---- what comes in

  module _ (now : ℕ) (r : Name) (home : at (router_homes c) r ≡ Some here) (t : Trail) (p : Packet) where
    undo_by : (x : Seen) → PointOn c here n t (undo_as now r x t p)
    undo_by (reply e) = used_on now (snat_of r) home e t
    undo_by (forward e) = stays c here n t
    undo_by invalid = stays c here n t
    undo_by (new tuple) = stays c here n t

    pub undo_on : PointOn c here n t (undo_snat now r t p)
    undo_on = undo_by (seen (list_of t.lists (snat_of r)) p)

  module _ (net : Network) (now : ℕ) (spot : Spot) (home : at (router_homes c) spot.datapath ≡ Some here) (t : Trail) (p : Packet) where
    abbrev d : Desk
    d = dnat_desk now spot

    new_on : (tuple : Tuple) (o : Option Service) (row : Option Nat) → PointOn c here n t (dnat_new net d tuple o row t p)
    new_on tuple (Some s) row = pick_on c here n d home tuple s.vip.at (legal_backends net (list_of t.lists d.owner) tuple s) t p
    new_on tuple None (Some r) = commit_on c here n d home tuple (reversed (to_address r.logical_ip.addr tuple)) t (with_tuple (to_address r.logical_ip.addr tuple) p)
    new_on tuple None None = stays c here n t

    dnat_by : (x : Seen) → PointOn c here n t (dnat_as net d spot.datapath x t p)
    dnat_by (forward e) = used_on now (dnat_of spot.datapath) home e t
    dnat_by (reply e) = used_on now (dnat_of spot.datapath) home e t
    dnat_by invalid = stays c here n t
    dnat_by (new tuple) = new_on tuple (service_for net spot.datapath tuple) (dnat_row net spot.datapath tuple.dst)

    pub dnat_on : PointOn c here n t (dnat net now spot t p)
    dnat_on = dnat_by (seen (list_of t.lists (dnat_of spot.datapath)) p)

  -- ---- what leaves

  module _ (net : Network) (now : ℕ) (spot : Spot) (r : Name) (home : at (router_homes c) r ≡ Some here) (t : Trail) (p : Packet) where
    abbrev desk : Desk
    desk = snat_desk now spot r

    module _ (tuple back : Tuple) where
      picked_on : (b : Bool) → PointOn c here n t (pick_port b desk r tuple back t p)
      picked_on true =
          let choice : Chosen ℕ = choose_port (may_pick (list_of t.lists desk.owner) back) t.choices in
          let first : Trail = after_choice choice t in
          let second : Trail = tell (picks_port r choice.what) first in
          point_on c here n t second (snat_over desk r tuple back choice t p) (both c here n [] [] t first second (chosen c here n choice t) (told c here n (picks_port r choice.what) first tt))
          (commit_on c here n desk home tuple (with_port choice.what back) second (with_tuple (reversed (with_port choice.what back)) p))
      picked_on false = told c here n (is_dropped spot.datapath spot.port cause.NoFreePort) t tt

      kept_on : (b : Bool) → PointOn c here n t (keep_port b desk r tuple back t p)
      kept_on true = commit_on c here n desk home tuple back t (with_tuple (reversed back) p)
      kept_on false = picked_on (has_free_port (list_of t.lists desk.owner) back)

    snat_by : (row : Option Nat) (x : Seen) → PointOn c here n t (snat_as desk r row x t p)
    snat_by None (forward e) = used_on now (snat_of r) home e t
    snat_by None (reply e) = stays c here n t
    snat_by None invalid = stays c here n t
    snat_by None (new tuple) = stays c here n t
    snat_by (Some x) (forward e) = used_on now (snat_of r) home e t
    snat_by (Some x) (reply e) = stays c here n t
    snat_by (Some x) invalid = told c here n (is_dropped spot.datapath spot.port cause.Invalid) t tt
    snat_by (Some x) (new tuple) =
        let back : Tuple = reversed (from_address x.external_ip tuple) in
        kept_on tuple back (is_free (list_of t.lists desk.owner) back)

    pub snat_on : PointOn c here n t (snat net now spot r t p)
    snat_on = snat_by (snat_row net r (src_of p)) (seen (list_of t.lists (snat_of r)) p)

-- ---- into a router

pub come_in_on : (s : Scene) (n : ℕ) (i : RouterPort) (b : Bool) → (b ≡ true → at (router_homes s.config) i.router ≡ Some s.here) → (t : Trail) (p : Packet) → PointOn s.config s.here n t (come_in s b i t p)
come_in_on s n i b home t p =
    then_on s.config s.here n t (where_translating b (undo_snat s.now i.router) t p) (translate_destination s b i)
    (where_on s.config s.here n b (undo_snat s.now i.router) (λ on u q. undo_on s.config s.here n s.now i.router (home on) u q) t p)
    (λ u q.
    then_on s.config s.here n u (where_translating b (dnat s.config.net s.now (spot_in_router i)) u q) (not_own s i)
    (where_on s.config s.here n b (dnat s.config.net s.now (spot_in_router i)) (λ on v r. dnat_on s.config s.here n s.config.net s.now (spot_in_router i) (home on) v r) u q)
    (λ v r. unless_on s.config s.here n (own_address s.config.net i r) (spot_in_router i) v r))
