-- The list of all zones, and how many of them keep numbers.
use Rattle.std.specs.Prelude.{◌≡◌, ◌+◌, ℕ, Bool, true, false, not, cond, List, [], ◌∷◌, ◌++◌, Some, length, map, filter, flat_map, refl}
use mathlib.Core.Path.{sym, ap, subst, ◌∙◌}
use mathlib.Core.Logic.{inl, inr}
use native.Mathlib.Omega.{arith}
use Rattle.std.proofs.lemmas.Bool.{true≢false}
use Rattle.std.proofs.lemmas.List.{length-append, length-map, map-append}
use Rattle.ovn_base.specs.declared.name.Name.{Name}
use Rattle.ovn_base.specs.lists.Among.{Among, here, there}
use Rattle.ovn_base.specs.lists.Once.{EachOnce}
use Rattle.ovn_base.specs.names.ByName.{at, IsByName}
use Rattle.ovn_base.specs.names.SameName.{same_name}
use Rattle.ovn_base.proofs.AmongLaws.{among_none, among_cases, among_append, among_left, among_right, among_map, map_among, among_flat_map, flat_map_among, filter_among}
use Rattle.ovn_base.proofs.ByNameLaws.{at_among, among_at, below_apart}
use Rattle.conn_zones.specs.declared.numbers.ZonePlace.{ZonePlace}
use Rattle.conn_zones.specs.declared.numbers.ZoneUse.{ZoneUse}
use Rattle.conn_zones.specs.declared.numbers.ZoneUse.TheVariants.{Port, Dnat, Snat}
use Rattle.conn_zones.specs.Zoning.{KnownHomes, GivenNumbers, home_for, number_on, AreInNameOrder}
use Rattle.conn_zones.specs.Rezoning.{zones_in}
use Rattle.conn_zones.specs.Giving.{numbers_in, numbers_of}
use Rattle.ovn_base.proofs.OnceLaws.{once_append, once_filter, once_named}
use Rattle.ovn_base.proofs.SameEntries.{rest_sorted, first_below}
use Rattle.conn_zones.proofs.PlaceLaws.{name_in, placed, one_name, number_placed, one_if, size_more}

-- ---- the zones of who is at home

abbrev pub port_zone : Name × Name → ZoneUse × Name
port_zone e = (Port e.0, e.1)

abbrev pub router_zones : Name × Name → List (ZoneUse × Name)
router_zones e = (Dnat e.0, e.1) ∷ (Snat e.0, e.1) ∷ []

module _ (homes : KnownHomes) (ports : IsByName homes.ports) (routers : IsByName homes.routers) where
  of_port : (z : ZoneUse) (c : Name) (e : Name × Name) → Among e homes.ports → (z, c) ≡ port_zone e → home_for homes z ≡ Some c
  of_port z c e m same =
      subst (λ (a : ZoneUse × Name). home_for homes a.0 ≡ Some a.1) (sym same) (among_at e.0 e.1 homes.ports ports m)

  of_router : (z : ZoneUse) (c : Name) (e : Name × Name) → Among e homes.routers → Among (z, c) (router_zones e) → home_for homes z ≡ Some c
  of_router z c e m n = elim (among_cases (z, c) (Dnat e.0, e.1) ((Snat e.0, e.1) ∷ []) n) [
    | inl same ↦ subst (λ (a : ZoneUse × Name). home_for homes a.0 ≡ Some a.1) (sym same) (among_at e.0 e.1 homes.routers routers m)
    | inr behind ↦ elim (among_cases (z, c) (Snat e.0, e.1) [] behind) [
      | inl same ↦ subst (λ (a : ZoneUse × Name). home_for homes a.0 ≡ Some a.1) (sym same) (among_at e.0 e.1 homes.routers routers m)
      | inr none ↦ absurd (among_none (z, c) none)
    ]
  ]

  pub zone_home : (z : ZoneUse) (c : Name) → Among (z, c) (zones_in homes) → home_for homes z ≡ Some c
  zone_home z c m = elim (among_append (z, c) (map port_zone homes.ports) (flat_map router_zones homes.routers) m) [
    | inl p ↦ (let r = map_among port_zone (z, c) homes.ports p in of_port z c r.0 r.1 r.2)
    | inr q ↦ (let r = flat_map_among router_zones (z, c) homes.routers q in of_router z c r.0 r.1 r.2)
  ]

-- and they are all there
pub home_zone : (homes : KnownHomes) (z : ZoneUse) (c : Name) → home_for homes z ≡ Some c → Among (z, c) (zones_in homes)
home_zone homes (Port p) c h =
    among_left (Port p, c) (map port_zone homes.ports) (flat_map router_zones homes.routers) (among_map port_zone (p, c) homes.ports (at_among homes.ports p c h))
home_zone homes (Dnat r) c h =
    among_right (Dnat r, c) (map port_zone homes.ports) (flat_map router_zones homes.routers)
    (among_flat_map router_zones (r, c) (Dnat r, c) homes.routers (at_among homes.routers r c h) here)
home_zone homes (Snat r) c h =
    among_right (Snat r, c) (map port_zone homes.ports) (flat_map router_zones homes.routers)
    (among_flat_map router_zones (r, c) (Snat r, c) homes.routers (at_among homes.routers r c h) (there here))

-- ---- each once

abbrev pub zone_of : ZoneUse × Name → ZoneUse
zone_of a = a.0

-- the kind of a zone
abbrev is_port : ZoneUse → Bool
is_port (Port p) = true
is_port (Dnat r) = false
is_port (Snat r) = false

router_not : (z : ZoneUse) (c : Name) (es : List (Name × Name)) → Among (z, c) (flat_map router_zones es) → (e : Name × Name) × Among e es × (name_in z ≡ e.0) × (is_port z ≡ false)
router_not z c es m =
    let r = flat_map_among router_zones (z, c) es m in
    elim (among_cases (z, c) (Dnat r.0.0, r.0.1) ((Snat r.0.0, r.0.1) ∷ []) r.2) [
      | inl same ↦ (r.0, r.1, ap (λ (a : ZoneUse × Name). name_in a.0) same, ap (λ (a : ZoneUse × Name). is_port a.0) same)
      | inr behind ↦ elim (among_cases (z, c) (Snat r.0.0, r.0.1) [] behind) [
        | inl same ↦ (r.0, r.1, ap (λ (a : ZoneUse × Name). name_in a.0) same, ap (λ (a : ZoneUse × Name). is_port a.0) same)
        | inr none ↦ absurd (among_none (z, c) none)
      ]
    ]

routers_once : (es : List (Name × Name)) → IsByName es → EachOnce (map zone_of (flat_map router_zones es))
routers_once [] s = tt
routers_once (e ∷ es) s = (
  λ m. elim (among_cases (Dnat e.0) (Snat e.0) (map zone_of (flat_map router_zones es)) m) [ inl same ↦ cc | inr behind ↦ later (Dnat e.0) refl behind ],
  (later (Snat e.0) refl, routers_once es (rest_sorted e es s)),
)
  where
    later : (z : ZoneUse) → name_in z ≡ e.0 → ¬ Among z (map zone_of (flat_map router_zones es))
    later z named m =
        let a = map_among zone_of z (flat_map router_zones es) m in
        let r = router_not a.0.0 a.0.1 es a.1 in
        below_apart e.0 r.0.0 (first_below e es s r.0 r.1) (sym r.2 ∙ ap name_in (sym a.2) ∙ named)

port_names : (es : List (Name × Name)) → map zone_of (map port_zone es) ≡ map (λ e. Port e.0) es
port_names [] = refl
port_names (e ∷ es) = ap (λ (l : List ZoneUse). Port e.0 ∷ l) (port_names es)

ports_once : (es : List (Name × Name)) → IsByName es → EachOnce (map zone_of (map port_zone es))
ports_once es s = subst (λ (l : List ZoneUse). EachOnce l) (sym (port_names es)) (once_named (λ (e : Name × Name). Port e.0) (λ d e same. ap name_in same) es s)

pub zones_once : (homes : KnownHomes) → IsByName homes.ports → IsByName homes.routers → EachOnce (map zone_of (zones_in homes))
zones_once homes ports routers =
    subst (λ (l : List ZoneUse). EachOnce l) (sym (map-append zone_of (map port_zone homes.ports) (flat_map router_zones homes.routers)))
    (once_append (map zone_of (map port_zone homes.ports)) (map zone_of (flat_map router_zones homes.routers))
    (ports_once homes.ports ports) (routers_once homes.routers routers)
    (λ z m n.
    let a = map_among zone_of z (map port_zone homes.ports) m in
    let e = map_among port_zone a.0 homes.ports a.1 in
    let b = map_among zone_of z (flat_map router_zones homes.routers) n in
    let r = router_not b.0.0 b.0.1 homes.routers b.1 in
    true≢false (sym (ap is_port (a.2 ∙ ap zone_of e.2)) ∙ ap is_port b.2 ∙ r.3)))

-- ---- the zones that have numbers on the chassis

module _ (c : Name) where
  abbrev here_on : Name × ZonePlace → Bool
  here_on e = same_name e.1.chassis c

  abbrev used_in : (Name → ZoneUse) → List (Name × ZonePlace) → List ZoneUse
  used_in make es = map (λ e. make e.0) (filter here_on es)

  -- one for each number
  abbrev pub used_on : GivenNumbers → List ZoneUse
  used_on ns = used_in Port ns.ports ++ used_in Dnat ns.dnat ++ used_in Snat ns.snat

  used_length : (make : Name → ZoneUse) (es : List (Name × ZonePlace)) → length (used_in make es) ≡ length (numbers_in es c)
  used_length make es = length-map (filter here_on es) (λ (e : Name × ZonePlace). make e.0) ∙ sym (length-map (filter here_on es) (λ (e : Name × ZonePlace). e.1.number))

  pub as_many : (ns : GivenNumbers) → length (used_on ns) ≡ length (numbers_of ns c)
  as_many ns =
      let a = length-append (used_in Port ns.ports ++ used_in Dnat ns.dnat) (used_in Snat ns.snat) in
      let b = length-append (used_in Port ns.ports) (used_in Dnat ns.dnat) in
      let d = length-append (numbers_in ns.ports c ++ numbers_in ns.dnat c) (numbers_in ns.snat c) in
      let e = length-append (numbers_in ns.ports c) (numbers_in ns.dnat c) in
      let p = used_length Port ns.ports in
      let q = used_length Dnat ns.dnat in
      let r = used_length Snat ns.snat in
      omega (arith, a, b, d, e, p, q, r)

  used_is : (make : Name → ZoneUse) (es : List (Name × ZonePlace)) → IsByName es → (z : ZoneUse) → Among z (used_in make es) → (q : Name) × (n : ℕ) × (z ≡ make q) × (at es q ≡ Some (placed c n))
  used_is make es s z m =
      let r = map_among (λ (e : Name × ZonePlace). make e.0) z (filter here_on es) m in
      let k = filter_among here_on r.0 es r.1 in
      let chassis = one_name r.0.1.chassis c k.1 in
      let place : r.0.1 ≡ placed c r.0.1.number = λ i. record { chassis = chassis i; number = r.0.1.number } in
      (r.0.0, r.0.1.number, r.2, among_at r.0.0 r.0.1 es s k.0 ∙ ap (λ p. Some p) place)

  -- each has its number
  pub used_has : (ns : GivenNumbers) → AreInNameOrder ns → (z : ZoneUse) → Among z (used_on ns) → (n : ℕ) × (number_on ns c z ≡ Some n)
  used_has ns s z m = elim (among_append z (used_in Port ns.ports ++ used_in Dnat ns.dnat) (used_in Snat ns.snat) m) [
    | inl b ↦ elim (among_append z (used_in Port ns.ports) (used_in Dnat ns.dnat) b) [
      | inl p ↦ (let u = used_is Port ns.ports s.ports z p in (u.1, subst (λ y. number_on ns c y ≡ Some u.1) (sym u.2) (number_placed ns c (Port u.0) u.1 u.3)))
      | inr d ↦ (let u = used_is Dnat ns.dnat s.dnat z d in (u.1, subst (λ y. number_on ns c y ≡ Some u.1) (sym u.2) (number_placed ns c (Dnat u.0) u.1 u.3)))
    ]
    | inr e ↦ (let u = used_is Snat ns.snat s.snat z e in (u.1, subst (λ y. number_on ns c y ≡ Some u.1) (sym u.2) (number_placed ns c (Snat u.0) u.1 u.3)))
  ]

  used_once_in : (make : Name → ZoneUse) → ((q : Name) → name_in (make q) ≡ q) → (es : List (Name × ZonePlace)) → IsByName es → EachOnce (used_in make es)
  used_once_in make back es s =
      once_filter (λ (e : Name × ZonePlace). make e.0) here_on es (once_named (λ (e : Name × ZonePlace). make e.0) (λ d e same. sym (back d.0) ∙ ap name_in same ∙ back e.0) es s)

  -- and stands once
  pub used_once : (ns : GivenNumbers) → AreInNameOrder ns → EachOnce (used_on ns)
  used_once ns s =
      once_append (used_in Port ns.ports ++ used_in Dnat ns.dnat) (used_in Snat ns.snat)
      (once_append (used_in Port ns.ports) (used_in Dnat ns.dnat) (used_once_in Port (λ q. refl) ns.ports s.ports) (used_once_in Dnat (λ q. refl) ns.dnat s.dnat)
      (λ z m n.
      let p = used_is Port ns.ports s.ports z m in
      let d = used_is Dnat ns.dnat s.dnat z n in
      let clash : Port p.0 ≡ Dnat d.0 = sym p.2 ∙ d.2 in
      cc))
      (used_once_in Snat (λ q. refl) ns.snat s.snat)
      (λ z m n. elim (among_append z (used_in Port ns.ports) (used_in Dnat ns.dnat) m) [
        | inl b ↦ (let p = used_is Port ns.ports s.ports z b in let e = used_is Snat ns.snat s.snat z n in let clash : Port p.0 ≡ Snat e.0 = sym p.2 ∙ e.2 in cc)
        | inr b ↦ (let d = used_is Dnat ns.dnat s.dnat z b in let e = used_is Snat ns.snat s.snat z n in let clash : Dnat d.0 ≡ Snat e.0 = sym d.2 ∙ e.2 in cc)
      ])

-- those that pass one test and another, and those that pass the one and not the other, are those that pass the one
pub both_ways : {X : Type 0} (one other : X → Bool) (xs : List X) → length (filter one (filter (λ x. not (other x)) xs)) + length (filter other (filter one xs)) ≡ length (filter one xs)
both_ways one other [] = refl
both_ways {X = X} one other (x ∷ xs) = by (one x) refl (other x) refl (both_ways one other xs)
  where
    by : (a : Bool) → one x ≡ a → (b : Bool) → other x ≡ b → length (filter one (filter (λ y. not (other y)) xs)) + length (filter other (filter one xs)) ≡ length (filter one xs)
        → length (filter one (cond (not b) (x ∷ filter (λ y. not (other y)) xs) (filter (λ y. not (other y)) xs))) + length (filter other (cond a (x ∷ filter one xs) (filter one xs))) ≡ length (cond a (x ∷ filter one xs) (filter one xs))
    by true s true t h =
        let more = size_more other x (filter one xs) in
        let is : one_if (other x) ≡ 1 = ap one_if t in
        omega (arith, h, more, is)
    by true s false t h =
        let more = size_more one x (filter (λ y. not (other y)) xs) in
        let is : one_if (one x) ≡ 1 = ap one_if s in
        let same = size_more other x (filter one xs) in
        let isnt : one_if (other x) ≡ 0 = ap one_if t in
        omega (arith, h, more, is, same, isnt)
    by false s true t h = h
    by false s false t h =
        let more = size_more one x (filter (λ y. not (other y)) xs) in
        let isnt : one_if (one x) ≡ 0 = ap one_if s in
        omega (arith, h, more, isnt)
