-- r_route takes the best way to the destination: by the longest prefix, and at equal length by a network before a route.
use Rattle.std.specs.Prelude.{◌≡◌, ◌<◌, ◌+◌, ◌*◌, ◌∷◌, [], ℕ, nat_lt, true, false, List, Option, Some, None, option_map}
use Rattle.std.specs.Map.{keys_of}
use Rattle.std.proofs.Common.{refl, sym, ap, ◌∙◌, arith, subst, inl, inr}
use Rattle.std.proofs.lemmas.Bool.{and_parts, and_from, false≢true, lt-ltb, cases_lt}
use Rattle.ovn_base.proofs.AmongLaws.{among_left, among_right, among_map, map_among}
use Rattle.ovn_base.proofs.ByNameLaws.{at_among}
use Rattle.ovn_base.specs.declared.address.Cidr.{Cidr}
use Rattle.ovn_base.specs.declared.address.Ip4.{Ip4}
use Rattle.ovn_base.specs.declared.name.Name.{Name}
use Rattle.ovn_base.specs.lists.Among.{here}
use Rattle.ovn_base.specs.names.ByName.{at}
use Rattle.flow_table.specs.declared.flow.Cause.TheVariants as cause
use Rattle.inet_packet.specs.declared.regs.Regs.{Regs}
use Rattle.match_language.specs.declared.field.Field.TheVariants as f
use Rattle.nb_records.specs.Grammar.{IsCidr}
use Rattle.nb_records.specs.Network.{Network}
use Rattle.nb_records.specs.Routers.{contains}
use Rattle.nb_records.specs.Ways.{Way, best_by, is_better_way, network_ways, by_route}
use Rattle.nb_records.specs.declared.router.Route.{Route}
use Rattle.logical_flows.specs.Stages.{stage_table}
use Rattle.logical_flows.specs.declared.action.Action.{Action}
use Rattle.logical_flows.specs.declared.flow.LFlow.{LFlow}
use Rattle.logical_flows.specs.declared.stage.Stage.TheVariants as stage
use Rattle.logical_flows.specs.declared.unit.UnitId.TheVariants as unit
use Rattle.stage_rows.specs.RouterRows.{network_row, route_row}
use Rattle.stage_rows.specs.Rows.{ip_in, match_row, drop_row}
use Rattle.stage_rows.specs.Units.{route_rows}
use Rattle.net_model.specs.Headers.{carries_ip4, dst_of}
use Rattle.net_model.specs.Sights.{holds_at}
use Rattle.row_laws.proofs.records.OnePrefix.{network_prefix, route_prefix}
use Rattle.row_laws.proofs.routers.RouterUnits.{RouterRow, by_port, by_neighbour, by_nat, by_balancer, by_router, a_port_row}
use Rattle.row_laws.proofs.routers.RouterUnits as units
use Rattle.row_laws.proofs.routers.BestWays.{IsWay, by_network, by_a_route, network_way, weight, better_is, ways_order, same_weight, way_from, way_to, same_way}
use Rattle.row_laws.proofs.routers.TakenAtRouter.{IsTakenThere, its_unit, fields, taken_terms, none_above, own_place, row_holds}
use Rattle.row_laws.proofs.terms.PacketTerms.{says_dst_in}
use Rattle.row_laws.proofs.units.BestOf.{best_none, best_is}
use Rattle.row_laws.proofs.units.RowUnits.{rows_among, in_some, some_in}
use Rattle.row_laws.proofs.units.TakenRow.{among_one}
use Rattle.row_laws.specs.Rows.{IsRowIn, RowHolds}
use Rattle.row_laws.specs.routers.RouterActions.{ways_to, best_way, route_actions, router_actions_at}
use Rattle.row_laws.specs.routers.RouterCopies.{RouterCopy, router_roster}
use Rattle.row_laws.specs.routers.RouterLaws.{RouterStageLaw}

-- numbers of which neither is less are one
pub tied : (n k : ℕ) → nat_lt k n ≡ false → (n < k → ⊥) → n ≡ k
tied n k low high = elim (cases_lt k n) [ inl less ↦ absurd (false≢true (sym low ∙ lt-ltb k n less)) | inr ge ↦ elim (cases_lt n k) [ inl more ↦ absurd (high more) | inr le ↦ omega (arith, le, ge) ] ]

-- the row of a route that leaves by the best way to its next hop stands in the table
a_route_row : (net : Network) (d q : Name) (x : Route) (v : Way) → at net.routes q ≡ Some x → x.router ≡ d → best_by is_better_way (network_ways net x.router x.nexthop) ≡ Some v
    → IsRowIn net (stage_table stage.RouterRoute) d (route_row x v)
a_route_row net d q x v is on best = record {
  pair = record {
    origin = unit.Route q;
    there =
        let u = unit.Route q in
        let own = among_map unit.Route q (keys_of net.routes) (among_map (λ (e : Name × Route). e.0) (q, x) net.routes (at_among net.routes q x is)) in
        among_left u _ _ (among_left u _ _ (among_left u _ _ (among_left u _ _ (among_left u _ _ (among_right u _ _ own)))));
    among = rows_among net stage.RouterRoute (route_row x v) (unit.Route q)
        (some_in (route_row x v) (at net.routes q) (route_rows stage.RouterRoute net) x is (some_in (route_row x v) (best_by is_better_way (network_ways net x.router x.nexthop)) (λ y. route_row x y ∷ []) v best here));
    on = ap (λ (o : Option Route). option_map (λ (x : Route). x.router) o) is ∙ ap (λ n. Some n) on;
  };
  in_table = refl;
}

module _ (net : Network) (c : RouterCopy) (regs : Regs) (r : LFlow) (t : IsTakenThere net stage.RouterRoute c regs r) where
  abbrev d : Name
  d = c.port.router

  abbrev dst : Ip4
  dst = dst_of c.sight.packet

  -- ---- prefixes that hold the destination

  held : (n : Cidr) → IsCidr n → (priority : ℕ) (actions : List Action) → r ≡ match_row stage.RouterRoute priority (ip_in f.Ip4Dst n ∷ []) actions → contains n dst ≡ true
  held n ok priority actions e =
      let say = (and_parts (holds_at (router_roster net) c.sight (ip_in f.Ip4Dst n)) true (taken_terms t priority (ip_in f.Ip4Dst n ∷ []) actions e)).0 in
      (and_parts (carries_ip4 c.sight.packet) (contains n dst) (sym (says_dst_in (router_roster net) c.sight (fields t) n ok) ∙ say)).1

  holding : (n : Cidr) → IsCidr n → contains n dst ≡ true → (priority : ℕ) (actions : List Action) → RowHolds (router_roster net) regs c.sight (match_row stage.RouterRoute priority (ip_in f.Ip4Dst n ∷ []) actions)
  holding n ok h priority actions =
      row_holds net stage.RouterRoute c.sight regs priority (ip_in f.Ip4Dst n ∷ []) actions
      (and_from (holds_at (router_roster net) c.sight (ip_in f.Ip4Dst n)) true (says_dst_in (router_roster net) c.sight (fields t) n ok ∙ and_from (carries_ip4 c.sight.packet) (contains n dst) t.at_port.passed h) refl)

  -- ---- ways and their rows

  -- the row of a way holds, of a priority by what the way weighs
  record HasRow (w : Way) : Type 0 where
    own : LFlow
    is_row : IsRowIn net (stage_table stage.RouterRoute) d own
    holds_here : RowHolds (router_roster net) regs c.sight own
    priority : own.priority ≡ 100 + weight w

  row_of : (w : Way) → IsWay net d dst w → HasRow w
  row_of w (by_network port is on n m holds e) = subst HasRow (sym e) (record {
    own = network_row port n;
    is_row = a_port_row net stage.RouterRoute (network_row port n) t.valid d port.name port is on (among_map (network_row port) n port.networks m);
    holds_here = holding n (network_prefix net t.valid port.name port is n m) holds _ _;
    priority = omega arith;
  })
  row_of w (by_a_route q x is on holds v best e) = subst HasRow (sym e) (record {
    own = route_row x v;
    is_row = a_route_row net d q x v is on best;
    holds_here = holding x.prefix (route_prefix net t.valid q x is) holds _ _;
    priority = omega arith;
  })

  -- ---- the row that is taken is that of the best way

  routed : (w : Way) → IsWay net d dst w → r.priority ≡ 100 + weight w → r.actions ≡ route_actions (Some w) → r.actions ≡ route_actions (best_way net d dst)
  routed w way priority actions = by (best_way net d dst) refl
    where
      by : (o : Option Way) → best_way net d dst ≡ o → r.actions ≡ route_actions o
      by None none = absurd (best_none is_better_way (ways_to net d dst) none w (way_to net t.valid d dst w way))
      by (Some m) found =
          let b = best_is is_better_way ways_order (ways_to net d dst) m found in
          let its = way_from net t.valid d dst m b.among in
          let h = row_of m its in
          let low = sym (better_is w m) ∙ b.unbeaten w (way_to net t.valid d dst w way) in
          let high : weight w < weight m → ⊥ = λ less. t.best.unbeaten h.own h.is_row h.holds_here (inl (omega (arith, less, priority, h.priority))) in
          let same = same_weight w.length m.length w.is_network m.is_network (tied (weight w) (weight m) low high) in
          actions ∙ ap (λ y. route_actions (Some y)) (same_way net t.valid d dst w m way its same.0 same.1)

  -- where the base row is taken there is none
  unrouted : r.priority ≡ 0 → best_way net d dst ≡ None
  unrouted is = by (best_way net d dst) refl
    where
      by : (o : Option Way) → best_way net d dst ≡ o → o ≡ None
      by None none = refl
      by (Some m) found =
          let h = row_of m (way_from net t.valid d dst m (best_is is_better_way ways_order (ways_to net d dst) m found).among) in
          absurd (none_above t 0 is h.own (omega (arith, h.priority)) h.is_row h.holds_here)

  sent : RouterRow net stage.RouterRoute c.port.router r → r.actions ≡ router_actions_at stage.RouterRoute net c
  sent (by_port q port is on m) =
      let n = map_among (network_row port) r port.networks m in
      let own = own_place net t.valid q port is in
      let holds = held n.0 (network_prefix net t.valid port.name port own n.0 n.1) _ _ n.2 in
      let priority : r.priority ≡ 100 + 2 * n.0.len + 1 = ap (λ (z : LFlow). z.priority) n.2 in
      routed (network_way dst port n.0) (by_network port own on n.0 n.1 holds refl) (omega (arith, priority)) (ap (λ (z : LFlow). z.actions) n.2)
  sent (units.by_route q x is on m) =
      let w = in_some r (best_by is_better_way (network_ways net x.router x.nexthop)) (λ y. route_row x y ∷ []) m in
      let e = among_one r (route_row x w.0) w.2 in
      let holds = held x.prefix (route_prefix net t.valid q x is) _ _ e in
      let priority : r.priority ≡ 100 + 2 * x.prefix.len = ap (λ (z : LFlow). z.priority) e in
      routed (by_route x w.0) (by_a_route q x is on holds w.0 w.1 refl) (omega (arith, priority)) (ap (λ (z : LFlow). z.actions) e)
  sent (by_neighbour q port is on ip mac known m) = elim m [ ]
  sent (by_nat q x is on m) = elim m [ ]
  sent (by_balancer b x is m) = elim m [ ]
  sent (by_router x is m) =
      let e = among_one r (drop_row stage.RouterRoute 0 [] cause.NoRoute) m in
      ap (λ (z : LFlow). z.actions) e ∙ ap route_actions (sym (unrouted (ap (λ (z : LFlow). z.priority) e)))

pub route_law : RouterStageLaw stage.RouterRoute
route_law net valid c regs h r best = let t : IsTakenThere net stage.RouterRoute c regs r = record { valid = valid; of = refl; at_port = h; best = best } in sent net c regs r t (its_unit t)
