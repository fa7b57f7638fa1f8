-- Of the balancers of a switch or router one alone has a virtual address, with its port and protocol, and has it once.
use Rattle.std.specs.Prelude.{◌≡◌, ◌==◌, ◌&&◌, Bool, true, false, cond, List, [], ◌∷◌, map, Option, Some, None, refl}
use Rattle.std.specs.Cmp.{IsTotalOrder}
use Rattle.std.specs.List.{AllByRecursion}
use Rattle.std.specs.List.Sorted.{IsStrictlySortedBy}
use Rattle.std.specs.declared.cmp.Ordering.TheVariants.{Less, Equal}
use Rattle.std.proofs.Common.{sym, ap, ◌∙◌, subst, inl, inr}
use Rattle.std.proofs.lemmas.Bool.{cond-true, and_from, eq-eqb, false≢true}
use Rattle.std.proofs.lemmas.Cmp.{nat_cmp_total, on_total, then_total, tied_itself}
use Rattle.std.proofs.lemmas.Option.{same_Some}
use Rattle.ovn_base.proofs.AmongLaws.{among_cases, among_none, among_all, among_left, among_right, among_map, among_any}
use Rattle.ovn_base.proofs.ByNameLaws.{at_among}
use Rattle.ovn_base.specs.declared.address.Backend.{Backend}
use Rattle.ovn_base.specs.declared.address.Ip4.{Ip4}
use Rattle.ovn_base.specs.declared.name.Name.{Name}
use Rattle.ovn_base.specs.lists.Among.{Among}
use Rattle.ovn_base.specs.names.ByName.{at}
use Rattle.nb_records.specs.Grammar.{IsInGrammar, IsLoadBalancer}
use Rattle.nb_records.specs.Network.{Network, records_of, same_backend, backend_cmp}
use Rattle.nb_records.specs.Switches.{serves_at}
use Rattle.nb_records.specs.declared.balancer.BalancerProtocol.{BalancerProtocol}
use Rattle.nb_records.specs.declared.balancer.BalancerProtocol.TheVariants as balanced
use Rattle.nb_records.specs.declared.balancer.LoadBalancer.{LoadBalancer}
use Rattle.nb_records.specs.declared.balancer.Vip.{Vip}
use Rattle.nb_records.specs.declared.record.Record.TheVariants as row
use Rattle.nb_records.specs.declared.router.Router.{Router}
use Rattle.nb_records.specs.declared.switch.Switch.{Switch}
use Rattle.nb_rules.specs.First.{least_of}
use Rattle.nb_rules.specs.Holders.{is_before, ip_number, vip_ip, same_protocol, has_vip_at, is_balancer_before, is_taken_vip, taken_vip, repeated_vip_from, repeated_vip}
use Rattle.nb_rules.specs.Valid.{IsValid}
use Rattle.row_laws.proofs.records.ValidPorts.{none_passes, some_least, InOrder, ordered, whole}

-- ---- what stands once in order

backends_total : IsTotalOrder backend_cmp
backends_total = then_total (on_total (λ (b : Backend). b.ip.0) nat_cmp_total) (on_total (λ (b : Backend). b.port) nat_cmp_total)

behind_head : (a : Backend) (vs : List Vip) → AllByRecursion (λ b. backend_cmp a b ≡ Less) (map (λ (v : Vip). v.at) vs) → (v : Vip) → Among v vs → backend_cmp a v.at ≡ Less
behind_head a vs h v m = among_all (λ b. backend_cmp a b ≡ Less) v.at (map (λ (x : Vip). x.at) vs) h (among_map (λ (x : Vip). x.at) v vs m)

never_less : (a b : Backend) → a ≡ b → backend_cmp a b ≡ Less → ⊥
never_less a b same less = let clash : Less ≡ Equal = sym less ∙ ap (backend_cmp a) (sym same) ∙ tied_itself backends_total a in cc

one_vip : (vs : List Vip) → IsStrictlySortedBy backend_cmp (map (λ (v : Vip). v.at) vs) → (v w : Vip) → Among v vs → Among w vs → v.at ≡ w.at → v ≡ w
unfolding IsStrictlySortedBy
one_vip [] s v w m n e = absurd (among_none v m)
one_vip (x ∷ vs) s v w m n e = elim (among_cases v x vs m) [
  | inl own ↦ elim (among_cases w x vs n) [
    | inl too ↦ own ∙ sym too
    | inr later ↦ absurd (never_less x.at w.at (ap (λ (y : Vip). y.at) (sym own) ∙ e) (behind_head x.at vs s.0 w later))
  ]
  | inr later ↦ elim (among_cases w x vs n) [
    | inl too ↦ absurd (never_less x.at v.at (ap (λ (y : Vip). y.at) (sym too) ∙ sym e) (behind_head x.at vs s.0 v later))
    | inr after ↦ one_vip vs s.1 v w later after e
  ]
]

-- ---- no virtual address is repeated

module _ (net : Network) (d : Name) where
  -- a least one that was found stays
  still : (a : Ip4) (test : Vip → Bool) (vs : List Vip) → (b : Ip4) × (least_of ip_number vip_ip test (Some a) vs ≡ Some b)
  still a test vs = by (least_of ip_number vip_ip test (Some a) vs) refl
    where
      by : (o : Option Ip4) → least_of ip_number vip_ip test (Some a) vs ≡ o → (b : Ip4) × (least_of ip_number vip_ip test (Some a) vs ≡ Some b)
      by None is = absurd (some_least ip_number vip_ip test a vs is)
      by (Some b) is = (b, is)

  found_by : (a b : Ip4) (es : List (Name × LoadBalancer)) (o : Option Ip4) → o ≡ Some b → (repeated_vip_from net d (Some b) es ≡ None → ⊥) → (repeated_vip_from net d (Some a) es ≡ None → ⊥)
      → (s : Bool) → repeated_vip_from net d (cond s o (Some a)) es ≡ None → ⊥
  found_by a b es o is first second true h = first (subst (λ x. repeated_vip_from net d x es ≡ None) is h)
  found_by a b es o is first second false h = second h

  found_stays : (es : List (Name × LoadBalancer)) (a : Ip4) → repeated_vip_from net d (Some a) es ≡ None → ⊥
  found_stays [] a h = cc
  found_stays (e ∷ es) a h =
      let b = still a (is_taken_vip net d e.1) e.1.vips in
      found_by a b.0 es (least_of ip_number vip_ip (is_taken_vip net d e.1) (Some a) e.1.vips) b.1 (found_stays es b.0) (found_stays es a) (serves_at d e.1) h

  -- where none is repeated, none is taken
  none_taken : (es : List (Name × LoadBalancer)) → repeated_vip_from net d None es ≡ None → (e : Name × LoadBalancer) → Among e es → serves_at d e.1 ≡ true → (v : Vip) → Among v e.1.vips → is_taken_vip net d e.1 v ≡ false
  none_taken [] h e m serves v n = absurd (among_none e m)
  none_taken (x ∷ es) h e m serves v n = by (taken_vip net d None x.1) refl (λ k. none_taken es k e) h
    where
      by : (o : Option Ip4) → taken_vip net d None x.1 ≡ o → (repeated_vip_from net d None es ≡ None → Among e es → serves_at d e.1 ≡ true → (v : Vip) → Among v e.1.vips → is_taken_vip net d e.1 v ≡ false) → repeated_vip_from net d o es ≡ None
          → is_taken_vip net d e.1 v ≡ false
      by (Some a) is rest k = absurd (found_stays es a k)
      by None is rest k = elim (among_cases e x es m) [
        | inl own ↦
            let served : serves_at d x.1 ≡ true = subst (λ (y : Name × LoadBalancer). serves_at d y.1 ≡ true) own serves in
            let none = sym (cond-true (serves_at d x.1) (least_of ip_number vip_ip (is_taken_vip net d x.1) None x.1.vips) None served) ∙ is in
            subst (λ (y : Name × LoadBalancer). is_taken_vip net d y.1 v ≡ false) (sym own) (none_passes ip_number vip_ip (is_taken_vip net d x.1) x.1.vips none v (subst (λ (y : Name × LoadBalancer). Among v y.1.vips) own n))
        | inr later ↦ rest k later serves v n
      ]

own_protocol : (k : BalancerProtocol) → same_protocol k k ≡ true
own_protocol balanced.Tcp = refl
own_protocol balanced.Udp = refl

own_backend : (b : Backend) → same_backend b b ≡ true
own_backend b = and_from (b.ip.0 == b.ip.0) (b.port == b.port) (eq-eqb b.ip.0 b.ip.0 refl) (eq-eqb b.port b.port refl)

-- a balancer that is there and serves the switch or router
pub record IsServingAt (net : Network) (d : Name) (name : Name) (b : LoadBalancer) : Type 0 where
  pub there' : at net.load_balancers name ≡ Some b
  pub serves : serves_at d b ≡ true

module _ (net : Network) (valid : IsValid net) where
  pub own_name : (name : Name) (b : LoadBalancer) → at net.load_balancers name ≡ Some b → b.name ≡ name
  own_name name b is = among_all (λ (e : Name × LoadBalancer). e.1.name ≡ e.0) (name, b) net.load_balancers valid.named.load_balancers (at_among net.load_balancers name b is)

  pub in_grammar : (name : Name) (b : LoadBalancer) → at net.load_balancers name ≡ Some b → IsLoadBalancer b
  in_grammar name b is =
      let r = row.LoadBalancer b in
      let own = among_map (λ (e : Name × LoadBalancer). row.LoadBalancer e.1) (name, b) net.load_balancers (at_among net.load_balancers name b is) in
      among_all IsInGrammar r (records_of net) valid.in_grammar (among_left r _ _ (among_right r _ _ own))

  -- a balancer has an address once
  pub one_of_its : (name : Name) (b : LoadBalancer) → at net.load_balancers name ≡ Some b → (v w : Vip) → Among v b.vips → Among w b.vips → v.at ≡ w.at → v ≡ w
  one_of_its name b is v w m n e = one_vip b.vips (in_grammar name b is).vips.in_order v w m n e

  module _ (d : Name) (once : repeated_vip net d ≡ None) where
    -- one before another has no address of it
    before_clash : (m n : Name) (x y : LoadBalancer) → IsServingAt net d m x → IsServingAt net d n y → x.protocol ≡ y.protocol → (v w : Vip) → Among v x.vips → Among w y.vips → v.at ≡ w.at → is_before x.name y.name ≡ true → ⊥
    before_clash m n x y a b kind v w in_x in_y same earlier =
        let free = none_taken net d net.load_balancers once (n, y) (at_among net.load_balancers n y b.there') b.serves w in_y in
        let has : has_vip_at w.at x ≡ true = among_any (λ (u : Vip). same_backend w.at u.at) v x.vips in_x (ap (same_backend w.at) same ∙ own_backend w.at) in
        let taken : is_taken_vip net d y w ≡ true =
        among_any (λ (e : Name × LoadBalancer). is_balancer_before d y e.1 && (same_protocol e.1.protocol y.protocol && has_vip_at w.at e.1)) (m, x) net.load_balancers (at_among net.load_balancers m x a.there')
        (and_from (is_balancer_before d y x) (same_protocol x.protocol y.protocol && has_vip_at w.at x) (and_from (serves_at d x) (is_before x.name y.name) a.serves earlier)
        (and_from (same_protocol x.protocol y.protocol) (has_vip_at w.at x) (ap (λ k. same_protocol k y.protocol) kind ∙ own_protocol y.protocol) has)) in
        false≢true (sym free ∙ taken)

    pub one_serving : (m n : Name) (x y : LoadBalancer) → IsServingAt net d m x → IsServingAt net d n y → x.protocol ≡ y.protocol → (v w : Vip) → Among v x.vips → Among w y.vips → v.at ≡ w.at → x ≡ y
    one_serving m n x y a b kind v w in_x in_y same = by (ordered x.name y.name)
      where
        by : InOrder x.name y.name → x ≡ y
        by (InOrder.same e) = same_Some x y (sym a.there' ∙ ap (λ k. at net.load_balancers k) (sym (own_name m x a.there') ∙ e ∙ own_name n y b.there') ∙ b.there')
        by (InOrder.before e) = absurd (before_clash m n x y a b kind v w in_x in_y same e)
        by (InOrder.behind e) = absurd (before_clash n m y x b a (sym kind) w v in_y in_x (sym same) e)

  -- no virtual address stands twice on a router
  pub once_on_router : (d : Name) (x : Router) → at net.routers d ≡ Some x → repeated_vip net d ≡ None
  once_on_router d x is =
      let e = at_among net.routers d x is in
      subst (λ n. repeated_vip net n ≡ None) (among_all (λ (e : Name × Router). e.1.name ≡ e.0) (d, x) net.routers valid.named.routers e)
      (among_all (λ (e : Name × Router). repeated_vip net e.1.name ≡ None) (d, x) net.routers (whole net valid).router_vips e)

-- ---- on a switch

module _ (net : Network) (valid : IsValid net) (d : Name) (sw : Switch) (is_switch : at net.switches d ≡ Some sw) where
  -- no virtual address stands twice on the switch
  pub none_repeated : repeated_vip net d ≡ None
  none_repeated =
      let e = at_among net.switches d sw is_switch in
      subst (λ n. repeated_vip net n ≡ None) (among_all (λ (e : Name × Switch). e.1.name ≡ e.0) (d, sw) net.switches valid.named.switches e)
      (among_all (λ (e : Name × Switch). repeated_vip net e.1.name ≡ None) (d, sw) net.switches (whole net valid).switch_vips e)

  -- a balancer that is there and serves the switch
  abbrev pub IsServing : Name → LoadBalancer → Type 0
  IsServing name b = IsServingAt net d name b

  pub one_balancer : (m n : Name) (x y : LoadBalancer) → IsServing m x → IsServing n y → x.protocol ≡ y.protocol → (v w : Vip) → Among v x.vips → Among w y.vips → v.at ≡ w.at → x ≡ y
  one_balancer = one_serving net valid d none_repeated

  pub balancer_ok : (name : Name) (b : LoadBalancer) → at net.load_balancers name ≡ Some b → IsLoadBalancer b
  balancer_ok = in_grammar net valid

  -- and one alone of its own
  pub one_of_vips : (name : Name) (b : LoadBalancer) → at net.load_balancers name ≡ Some b → (v w : Vip) → Among v b.vips → Among w b.vips → v.at ≡ w.at → v ≡ w
  one_of_vips = one_of_its net valid

  pub name_of_balancer : (name : Name) (b : LoadBalancer) → at net.load_balancers name ≡ Some b → b.name ≡ name
  name_of_balancer = own_name net valid
