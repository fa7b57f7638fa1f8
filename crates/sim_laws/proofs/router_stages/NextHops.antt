-- The next hop of a way is an address that a register holds.
use Rattle.std.specs.Prelude.{◌≡◌, ◌≤◌, ◌<◌, ◌^◌, Bool, true, false, Some, refl}
use Rattle.std.proofs.Common.{sym, ap, ◌∙◌, arith}
use Rattle.inet_packet.specs.Fields as field
use Rattle.inet_packet.specs.Whole.{IsWhole, IsWholeBody}
use Rattle.inet_packet.specs.declared.packet.Body.{Body}
use Rattle.inet_packet.specs.declared.packet.Body.TheVariants as body
use Rattle.inet_packet.specs.declared.packet.Packet.{Packet}
use Rattle.nb_records.specs.Grammar.{IsInGrammar}
use Rattle.nb_records.specs.Network.{Network, records_of}
use Rattle.nb_records.specs.Ways.{Way, is_better_way}
use Rattle.nb_records.specs.declared.record.Record.TheVariants as row
use Rattle.nb_records.specs.declared.router.Route.{Route}
use Rattle.nb_rules.specs.Valid.{IsValid}
use Rattle.net_model.specs.Headers.{dst_of}
use Rattle.ovn_base.proofs.AmongLaws.{among_all, among_left, among_right, among_map}
use Rattle.ovn_base.proofs.ByNameLaws.{at_among}
use Rattle.ovn_base.specs.declared.address.Ip4.{Ip4}
use Rattle.ovn_base.specs.declared.name.Name.{Name}
use Rattle.ovn_base.specs.names.ByName.{at}
use Rattle.row_laws.proofs.routers.BestWays.{IsWay, way_from}
use Rattle.row_laws.proofs.routers.BestWays.IsWay.{by_network, by_a_route}
use Rattle.row_laws.proofs.units.BestOf.{best_among}
use Rattle.row_laws.specs.routers.RouterActions.{best_way, ways_to}
use Rattle.switch_engine.specs.Headers.{ttl_spent}
use Rattle.switch_engine.specs.declared.carried.Carried.{Carried}
use Rattle.sim_laws.proofs.router_stages.RouterDoings.{hop_by}
use Rattle.sim_laws.proofs.router_stages.RouterPackets.{spent_is, dst_stays}

-- ---- in range

dst_small : (p : Packet) → IsWhole p → field.ip4_dst p.body < 2 ^ 32
dst_small p whole = by p.body whole.body
  where
    by : (b : Body) → IsWholeBody b p.tail → field.ip4_dst b < 2 ^ 32
    by (body.Ip4 i) w = w.within.dst
    by (body.Arp a) w = omega arith
    by (body.Other t) w = omega arith

module _ (net : Network) (valid : IsValid net) where
  route_small : (q : Name) (x : Route) → at net.routes q ≡ Some x → x.nexthop.0 < 2 ^ 32
  route_small q x is =
      let r = row.Route x in
      let own = among_map (λ (e : Name × Route). row.Route e.1) (q, x) net.routes (at_among net.routes q x is) in
      (among_all IsInGrammar r (records_of net) valid.in_grammar (among_left r _ _ (among_left r _ _ (among_left r _ _ (among_right r _ _ own))))).nexthop

  pub next_small : (d : Name) (p : Packet) → IsWhole p → (w : Way) → best_way net d (dst_of p) ≡ Some w → w.hop.next.0 ≤ 0xffff_ffff
  next_small d p whole w found = by (way_from net valid d (dst_of p) w (best_among is_better_way (ways_to net d (dst_of p)) w found))
    where
      by : IsWay net d (dst_of p) w → w.hop.next.0 ≤ 0xffff_ffff
      by (by_network port is on n m holds e) = let l = dst_small p whole in let k = ap (λ (x : Way). x.hop.next.0) e in omega (arith, l, k)
      by (by_a_route q x is on holds v best e) = let l = route_small q x is in let k = ap (λ (y : Way). y.hop.next.0) e in omega (arith, l, k)

-- ---- as it is set

-- by a network it is read off the packet, and else it is told
pub hop_is : (b : Bool) (copy : Carried) (p : Packet) (next : Ip4) → copy.packet ≡ p → (b ≡ true → next ≡ dst_of p) → hop_by b copy next.0 ≡ next.0
hop_is true copy p next is h =
    ap (λ (q : Packet). field.ip4_dst (ttl_spent q).body) is ∙ ap (λ (q : Packet). field.ip4_dst q.body) (spent_is p) ∙ ap (λ (ip : Ip4). ip.0) (dst_stays p ∙ sym (h refl))
hop_is false copy p next is h = refl
