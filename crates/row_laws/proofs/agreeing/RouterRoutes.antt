-- r_route: of one length and kind there is one way to a destination.
use Rattle.std.specs.Prelude.{◌≡◌, ◌+◌, ◌*◌, ◌∷◌, [], ℕ, true, List, Some}
use Rattle.std.proofs.Common.{refl, sym, ap, ◌∙◌, arith}
use Rattle.std.proofs.lemmas.Bool.{and_parts}
use Rattle.ovn_base.proofs.AmongLaws.{map_among}
use Rattle.ovn_base.specs.declared.address.Cidr.{Cidr}
use Rattle.ovn_base.specs.declared.address.Ip4.{Ip4}
use Rattle.ovn_base.specs.declared.name.Name.{Name}
use Rattle.flow_table.specs.declared.flow.Cause.TheVariants as cause
use Rattle.inet_packet.specs.declared.regs.Regs.{Regs}
use Rattle.match_language.specs.declared.field.Field.TheVariants as f
use Rattle.nb_records.specs.Grammar.{IsCidr}
use Rattle.nb_records.specs.Network.{Network}
use Rattle.nb_records.specs.Routers.{contains}
use Rattle.nb_records.specs.Ways.{Way, best_by, is_better_way, network_ways, by_route}
use Rattle.logical_flows.specs.declared.action.Action.{Action}
use Rattle.logical_flows.specs.declared.action.Action.TheVariants as a
use Rattle.logical_flows.specs.declared.flow.LFlow.{LFlow}
use Rattle.logical_flows.specs.declared.stage.Stage.TheVariants as stage
use Rattle.stage_rows.specs.RouterRows.{network_row, route_row}
use Rattle.stage_rows.specs.Rows.{ip_in, match_row, drop_row}
use Rattle.net_model.specs.Headers.{carries_ip4, dst_of}
use Rattle.net_model.specs.Sights.{Sight, holds_at}
use Rattle.row_laws.proofs.agreeing.TwoRouterRows.{AreTakenThere, OwnRow, of_port, of_route, of_neighbour, of_router, same_priority, terms_hold}
use Rattle.row_laws.proofs.records.OnePrefix.{network_prefix, route_prefix}
use Rattle.row_laws.proofs.routers.BestWays.{IsWay, by_network, by_a_route, network_way, weight, same_weight, same_way}
use Rattle.row_laws.proofs.routers.TakenAtRouter.{own_place}
use Rattle.row_laws.proofs.terms.PacketTerms.{says_dst_in}
use Rattle.row_laws.proofs.units.RowUnits.{in_some}
use Rattle.row_laws.proofs.units.TakenRow.{among_one}
use Rattle.row_laws.specs.Rows.{RowHolds}
use Rattle.row_laws.specs.routers.RouterActions.{route_actions}
use Rattle.row_laws.specs.routers.RouterCopies.{router_roster}

module _ (net : Network) (d : Name) (regs : Regs) (sight : Sight) (r q : LFlow) (t : AreTakenThere net stage.RouterRoute d regs sight r q) where
  abbrev dst : Ip4
  dst = dst_of sight.packet

  abbrev Holds : LFlow → Type 0
  Holds row = RowHolds (router_roster net) regs sight row

  -- a row drops what has no route, or is that of a way to the destination
  data Kind (row : LFlow) : Type 0 where
    drops : row.priority ≡ 0 → row.actions ≡ a.Drop cause.NoRoute ∷ [] → Kind row
    routes : (w : Way) → IsWay net d dst w → row.priority ≡ 100 + weight w → row.actions ≡ route_actions (Some w) → Kind row

  -- a prefix of a row that holds has the destination
  held : (row : LFlow) → Holds row → (n : Cidr) → IsCidr n → (priority : ℕ) (actions : List Action) → row ≡ match_row stage.RouterRoute priority (ip_in f.Ip4Dst n ∷ []) actions → contains n dst ≡ true
  held row holds n ok priority actions e =
      let say = (and_parts (holds_at (router_roster net) sight (ip_in f.Ip4Dst n)) true (terms_hold net stage.RouterRoute sight regs row holds priority (ip_in f.Ip4Dst n ∷ []) actions e)).0 in
      (and_parts (carries_ip4 sight.packet) (contains n dst) (sym (says_dst_in (router_roster net) sight t.fields n ok) ∙ say)).1

  kind : (row : LFlow) → Holds row → OwnRow net stage.RouterRoute d row → Kind row
  kind row holds (of_port name port is on m) =
      let n = map_among (network_row port) row port.networks m in
      let own = own_place net t.valid name port is in
      let has = held row holds n.0 (network_prefix net t.valid port.name port own n.0 n.1) _ _ n.2 in
      let priority : row.priority ≡ 100 + 2 * n.0.len + 1 = ap (λ (z : LFlow). z.priority) n.2 in
      routes (network_way dst port n.0) (by_network port own on n.0 n.1 has refl) (omega (arith, priority)) (ap (λ (z : LFlow). z.actions) n.2)
  kind row holds (of_route name x is on m) =
      let w = in_some row (best_by is_better_way (network_ways net x.router x.nexthop)) (λ y. route_row x y ∷ []) m in
      let e = among_one row (route_row x w.0) w.2 in
      let has = held row holds x.prefix (route_prefix net t.valid name x is) _ _ e in
      let priority : row.priority ≡ 100 + 2 * x.prefix.len = ap (λ (z : LFlow). z.priority) e in
      routes (by_route x w.0) (by_a_route name x is on has w.0 w.1 refl) (omega (arith, priority)) (ap (λ (z : LFlow). z.actions) e)
  kind row holds (of_neighbour name port is on ip mac known m) = elim m [ ]
  kind row holds (of_router x is m) =
      let e = among_one row (drop_row stage.RouterRoute 0 [] cause.NoRoute) m in
      drops (ap (λ (z : LFlow). z.priority) e) (ap (λ (z : LFlow). z.actions) e)

  agree : Kind r → Kind q → r.actions ≡ q.actions
  agree (drops h k) (drops l m) = k ∙ sym m
  agree (drops h k) (routes w way l m) = let same = same_priority t in absurd (omega (arith, same, h, l))
  agree (routes w way h k) (drops l m) = let same = same_priority t in absurd (omega (arith, same, h, l))
  agree (routes w way h k) (routes v other l m) =
      let same = same_priority t in
      let heavy : weight w ≡ weight v = omega (arith, same, h, l) in
      let parts = same_weight w.length v.length w.is_network v.is_network heavy in
      k ∙ ap (λ y. route_actions (Some y)) (same_way net t.valid d dst w v way other parts.0 parts.1) ∙ sym m

  pub routed : OwnRow net stage.RouterRoute d r → OwnRow net stage.RouterRoute d q → r.actions ≡ q.actions
  routed first second = agree (kind r t.first.holds_here first) (kind q t.second.holds_here second)
