-- The ways of a router to a destination: which of two is better, what each is by, and that of one length and kind there is one.
use Rattle.std.specs.Prelude.{◌≡◌, ◌+◌, ◌*◌, ◌==◌, ◌&&◌, ◌||◌, nat_lt, ℕ, Bool, true, false, not, cond, filter, filter_map, Option, Some, None, option_map}
use Rattle.std.specs.Map.{values_of}
use Rattle.std.proofs.Common.{refl, sym, ap, ◌∙◌, arith, subst, inl, inr}
use Rattle.std.proofs.lemmas.Bool.{false≢true, cond-true}
use Rattle.std.proofs.lemmas.Bool.Decides.{nat_tests}
use Rattle.std.proofs.lemmas.Option.{none-some, same_Some}
use Rattle.ovn_base.proofs.AmongLaws.{among_append, among_left, among_right, among_map, map_among, among_filter, filter_among, among_flat_map, flat_map_among, among_filter_map, filter_map_among}
use Rattle.ovn_base.proofs.ByNameLaws.{at_among, among_at}
use Rattle.ovn_base.specs.declared.address.Cidr.{Cidr}
use Rattle.ovn_base.specs.declared.address.Ip4.{Ip4}
use Rattle.ovn_base.specs.declared.name.Name.{Name}
use Rattle.ovn_base.specs.lists.Among.{Among}
use Rattle.ovn_base.specs.names.ByName.{at}
use Rattle.ovn_base.specs.names.SameName.{same_name, bytes_decides}
use Rattle.nb_records.specs.Network.{Network}
use Rattle.nb_records.specs.Routers.{contains, router_ports_of}
use Rattle.nb_records.specs.Ways.{Way, best_by, is_better_way, ways_of_port, network_ways, by_route, route_way, routes_of}
use Rattle.nb_records.specs.declared.router.Route.{Route}
use Rattle.nb_records.specs.declared.router.RouterPort.{RouterPort}
use Rattle.nb_rules.specs.Valid.{IsValid}
use Rattle.row_laws.proofs.records.OnePrefix.{one_prefix, one_network_port, one_route}
use Rattle.row_laws.proofs.routers.OwnIps.{in_ports, ports_in}
use Rattle.row_laws.proofs.units.BestOf.{IsOrder, best_is}
use Rattle.row_laws.specs.Copies.{flag_number}
use Rattle.row_laws.specs.routers.RouterActions.{ways_to}
use Rattle.row_laws.specs.routers.RouterLaws.{BestWayLaw}

-- ---- which is better

-- the longer prefix weighs more, and at equal length a network more than a route
abbrev pub weight : Way → ℕ
weight w = 2 * w.length + flag_number w.is_network

weigh : (m n : ℕ) (x y : Bool) → (nat_lt n m || ((m == n) && (x && not y))) ≡ nat_lt (2 * n + flag_number y) (2 * m + flag_number x)
weigh m n true true = grind (arith, nat_tests)
weigh m n true false = grind (arith, nat_tests)
weigh m n false true = grind (arith, nat_tests)
weigh m n false false = grind (arith, nat_tests)

-- the better of two is the one that weighs more
pub better_is : (a b : Way) → is_better_way a b ≡ nat_lt (weight b) (weight a)
better_is a b = weigh a.length b.length a.is_network b.is_network

pub less_other : (m n : ℕ) → nat_lt n m ≡ true → nat_lt m n ≡ false
less_other m n h = grind (arith, nat_tests)

pub less_itself : (m : ℕ) → nat_lt m m ≡ false
less_itself m = grind (arith, nat_tests)

pub less_along : (m n k : ℕ) → nat_lt n m ≡ false → nat_lt k n ≡ false → nat_lt k m ≡ false
less_along m n k h j = grind (arith, nat_tests)

pub ways_order : IsOrder is_better_way
ways_order = record {
  other = λ a b h. better_is b a ∙ less_other (weight a) (weight b) (sym (better_is a b) ∙ h);
  itself = λ a. better_is a a ∙ less_itself (weight a);
  along = λ a b c h j. better_is a c ∙ less_along (weight a) (weight b) (weight c) (sym (better_is a b) ∙ h) (sym (better_is b c) ∙ j);
}

-- two that weigh the same are of one length and kind
pub same_weight : (m n : ℕ) (x y : Bool) → 2 * m + flag_number x ≡ 2 * n + flag_number y → (m ≡ n) × (x ≡ y)
same_weight m n true true h = (omega (arith, h), refl)
same_weight m n true false h = absurd (omega (arith, h))
same_weight m n false true h = absurd (omega (arith, h))
same_weight m n false false h = (omega (arith, h), refl)

-- ---- by what it is

abbrev pub network_way : Ip4 → RouterPort → Cidr → Way
network_way dst port n = record { length = n.len; is_network = true; hop = record { port = port; next = dst } }

-- by a network of a port of the router, or by a route of it, that holds the destination
pub data IsWay (net : Network) (d : Name) (dst : Ip4) (w : Way) : Type 0 where
  by_network : (port : RouterPort) → at net.router_ports port.name ≡ Some port → port.router ≡ d → (n : Cidr) → Among n port.networks → contains n dst ≡ true → w ≡ network_way dst port n → IsWay net d dst w
  by_a_route : (q : Name) (x : Route) → at net.routes q ≡ Some x → x.router ≡ d → contains x.prefix dst ≡ true → (v : Way) → best_by is_better_way (network_ways net x.router x.nexthop) ≡ Some v → w ≡ by_route x v → IsWay net d dst w

-- the port of a way by a network is one of the router
network_port : (net : Network) → IsValid net → (d : Name) (dst : Ip4) (w : Way) → Among w (network_ways net d dst) → (at net.router_ports w.hop.port.name ≡ Some w.hop.port) × (w.hop.port.router ≡ d)
network_port net valid d dst w m =
    let p = flat_map_among (ways_of_port dst) w (router_ports_of net d) m in
    let n = map_among (network_way dst p.0) w (filter (λ n. contains n dst) p.0.networks) p.2 in
    subst (λ (x : Way). (at net.router_ports x.hop.port.name ≡ Some x.hop.port) × (x.hop.port.router ≡ d)) (sym n.2) (ports_in net d valid p.0 p.1)

module _ (net : Network) (valid : IsValid net) (d : Name) (dst : Ip4) where
  -- each of the list is by one of these
  network_from : (w : Way) → Among w (network_ways net d dst) → IsWay net d dst w
  network_from w m =
      let p = flat_map_among (ways_of_port dst) w (router_ports_of net d) m in
      let there = ports_in net d valid p.0 p.1 in
      let n = map_among (network_way dst p.0) w (filter (λ n. contains n dst) p.0.networks) p.2 in
      let two = filter_among (λ n. contains n dst) n.0 p.0.networks n.1 in
      by_network p.0 there.0 there.1 n.0 two.0 two.1 n.2

  by_its_route : (q : Name) (x : Route) → at net.routes q ≡ Some x → x.router ≡ d → (w : Way) (b : Bool) → contains x.prefix dst ≡ b → (o : Option Way) → best_by is_better_way (network_ways net x.router x.nexthop) ≡ o
      → cond b (option_map (by_route x) o) None ≡ Some w → IsWay net d dst w
  by_its_route q x is on w true holds (Some v) best e = by_a_route q x is on holds v best (sym (same_Some (by_route x v) w e))
  by_its_route q x is on w true holds None best e = absurd (none-some w e)
  by_its_route q x is on w false holds o best e = absurd (none-some w e)

  pub way_from : (w : Way) → Among w (ways_to net d dst) → IsWay net d dst w
  way_from w m = elim (among_append w (network_ways net d dst) (filter_map (route_way net dst) (routes_of net d)) m) [
    | inl n ↦ network_from w n
    | inr n ↦
        let x = filter_map_among (route_way net dst) w (routes_of net d) n in
        let two = filter_among (λ (r : Route). same_name r.router d) x.0 (values_of net.routes) x.1 in
        let e = map_among (λ (e : Name × Route). e.1) x.0 net.routes two.0 in
        let is = among_at e.0.0 e.0.1 net.routes valid.in_order.routes e.1 ∙ ap (λ r. Some r) (sym e.2) in
        by_its_route e.0.0 x.0 is ((bytes_decides x.0.router d).0 two.1) w (contains x.0.prefix dst) refl (best_by is_better_way (network_ways net x.0.router x.0.nexthop)) refl x.2
  ]

  -- and the other way round
  pub way_to : (w : Way) → IsWay net d dst w → Among w (ways_to net d dst)
  way_to w (by_network port is on n m holds e) =
      let one = among_map (network_way dst port) n _ (among_filter (λ n. contains n dst) n port.networks m holds) in
      let all = among_flat_map (ways_of_port dst) port (network_way dst port n) (router_ports_of net d) (in_ports net d port.name port is on) one in
      subst (λ x. Among x (ways_to net d dst)) (sym e) (among_left (network_way dst port n) (network_ways net d dst) _ all)
  way_to w (by_a_route q x is on holds v best e) =
      let own = among_filter (λ (r : Route). same_name r.router d) x (values_of net.routes) (among_map (λ (e : Name × Route). e.1) (q, x) net.routes (at_among net.routes q x is)) ((bytes_decides x.router d).1 on) in
      let made = cond-true (contains x.prefix dst) (option_map (by_route x) (best_by is_better_way (network_ways net x.router x.nexthop))) None holds ∙ ap (λ (o : Option Way). option_map (by_route x) o) best in
      subst (λ x. Among x (ways_to net d dst)) (sym e) (among_right (by_route x v) (network_ways net d dst) _ (among_filter_map (route_way net dst) x (by_route x v) (routes_of net d) own made))

  -- of one length and kind there is one
  pub same_way : (w v : Way) → IsWay net d dst w → IsWay net d dst v → w.length ≡ v.length → w.is_network ≡ v.is_network → w ≡ v
  same_way w v (by_network port is on n m holds e) (by_network port' is' on' n' m' holds' e') long kind =
      let len : n.len ≡ n'.len = sym (ap (λ (x : Way). x.length) e) ∙ long ∙ ap (λ (x : Way). x.length) e' in
      let same = one_network_port net valid port port' is is' (on ∙ sym on') n n' m m' (one_prefix n n' dst len holds holds') (one_prefix n' n dst (sym len) holds' holds) in
      e ∙ (λ i. record { length = len i; is_network = true; hop = record { port = same i; next = dst } }) ∙ sym e'
  same_way w v (by_a_route q x is on holds y best e) (by_a_route q' x' is' on' holds' y' best' e') long kind =
      let len : x.prefix.len ≡ x'.prefix.len = sym (ap (λ (z : Way). z.length) e) ∙ long ∙ ap (λ (z : Way). z.length) e' in
      let same = one_route net valid q q' x x' is is' (on ∙ sym on') (one_prefix x.prefix x'.prefix dst len holds holds') (one_prefix x'.prefix x.prefix dst (sym len) holds' holds) in
      let over = same_Some y y' (sym best ∙ ap (λ (r : Route). best_by is_better_way (network_ways net r.router r.nexthop)) same ∙ best') in
      e ∙ (λ i. by_route (same i) (over i)) ∙ sym e'
  same_way w v (by_network port is on n m holds e) (by_a_route q x is' on' holds' y best e') long kind =
      absurd (false≢true (sym (ap (λ (z : Way). z.is_network) e') ∙ sym kind ∙ ap (λ (z : Way). z.is_network) e))
  same_way w v (by_a_route q x is on holds y best e) (by_network port is' on' n m holds' e') long kind =
      absurd (false≢true (sym (ap (λ (z : Way). z.is_network) e) ∙ kind ∙ ap (λ (z : Way). z.is_network) e'))

  -- its port is one of the router
  pub way_port : (w : Way) → IsWay net d dst w → (at net.router_ports w.hop.port.name ≡ Some w.hop.port) × (w.hop.port.router ≡ d)
  way_port w (by_network port is on n m holds e) = subst (λ (x : Way). (at net.router_ports x.hop.port.name ≡ Some x.hop.port) × (x.hop.port.router ≡ d)) (sym e) (is, on)
  way_port w (by_a_route q x is on holds v best e) =
      let own = network_port net valid x.router x.nexthop v (best_is is_better_way ways_order (network_ways net x.router x.nexthop) v best).among in
      subst (λ (y : Way). (at net.router_ports y.hop.port.name ≡ Some y.hop.port) × (y.hop.port.router ≡ d)) (sym e) (own.0, own.1 ∙ on)

  -- by a network the next hop is the destination
  pub network_next : (w : Way) → IsWay net d dst w → w.is_network ≡ true → w.hop.next ≡ dst
  network_next w (by_network port is on n m holds e) h = ap (λ (x : Way). x.hop.next) e
  network_next w (by_a_route q x is on holds v best e) h = absurd (false≢true (sym (ap (λ (x : Way). x.is_network) e) ∙ h))

-- ---- the network's route

pub best_way_law : BestWayLaw
best_way_law net valid router dst = (
  λ w found.
      let way = way_from net valid router dst w (best_is is_better_way ways_order (ways_to net router dst) w found).among in
      let port = way_port net valid router dst w way in
      record {
        route = ap (λ (o : Option Way). option_map (λ (x : Way). x.hop) o) found;
        next = network_next net valid router dst w way;
        there = port.0;
        on = port.1;
      },
  λ none. ap (λ (o : Option Way). option_map (λ (x : Way). x.hop) o) none,
)
