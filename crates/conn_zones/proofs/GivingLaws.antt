-- What becomes of numbers as zones are given theirs in turn.
use Rattle.std.specs.Prelude.{◌≡◌, ◌≢◌, ◌≤◌, ◌<◌, ◌+◌, ◌↔◌, ◌⊎◌, ℕ, Bool, true, false, cond, List, [], ◌∷◌, Some, None, IsSome, length, map, refl}
use mathlib.Core.Path.{sym, ap, subst, ◌∙◌}
use mathlib.Core.Logic.{inl, inr}
use native.Mathlib.Omega.{arith}
use Rattle.std.proofs.lemmas.Bool.{false≢true}
use Rattle.std.proofs.lemmas.Option.{none-some, same_Some}
use Rattle.ovn_base.specs.declared.name.Name.{Name}
use Rattle.ovn_base.specs.lists.Among.{Among, here, there}
use Rattle.ovn_base.specs.lists.Once.{EachOnce}
use Rattle.ovn_base.specs.names.SameName.{same_name, bytes_decides}
use Rattle.ovn_base.proofs.AmongLaws.{among_cases, among_map}
use Rattle.conn_zones.specs.declared.numbers.TheConstants.{MAX_ZONE}
use Rattle.conn_zones.specs.declared.numbers.ZonePlace.{ZonePlace}
use Rattle.conn_zones.specs.declared.numbers.ZoneUse.{ZoneUse}
use Rattle.conn_zones.specs.Zoning.{KnownHomes, GivenNumbers, home_for, place_for, number_on, AreInNameOrder}
use Rattle.conn_zones.specs.Rezoning.{of_chassis, IsLeastFree, TakeLeast}
use Rattle.conn_zones.specs.Giving.{numbers_of, IsGivenOne, AreGiven, HaveNumbers}
use Rattle.conn_zones.proofs.PlaceLaws.{own_name, one_name, has_value, some_value, one_zone_or_two, placed, number_placed, placed_number, put_same, put_apart, put_in_order, number_used, used_number, one_if, size_more, few_more}

-- ---- room for those that are left

pub room_for_one : (ns : GivenNumbers) (a : ZoneUse × Name) (zs : List (ZoneUse × Name)) → HaveNumbers ns (a ∷ zs) → length (numbers_of ns a.1) < MAX_ZONE
room_for_one ns a zs room =
    let all = room a.1 in
    let more = size_more (λ (z : ZoneUse × Name). same_name z.1 a.1) a zs in
    let one : one_if (same_name a.1 a.1) ≡ 1 = ap one_if (own_name a.1) in
    omega (arith, all, more, one)

pub room_for_rest : (ns : GivenNumbers) (a : ZoneUse × Name) (zs : List (ZoneUse × Name)) (between : GivenNumbers) → HaveNumbers ns (a ∷ zs) → IsGivenOne ns a.0 a.1 between → HaveNumbers between zs
room_for_rest ns a zs between room g c =
    let all = room c in
    let more = size_more (λ (z : ZoneUse × Name). same_name z.1 c) a zs in
    let few : length (numbers_of between c) ≤ one_if (same_name a.1 c) + length (numbers_of ns c) =
    subst (λ (l : GivenNumbers). length (numbers_of l c) ≤ one_if (same_name a.1 c) + length (numbers_of ns c)) (sym g.put) (few_more c ns a.0 (placed a.1 g.number)) in
    omega (arith, all, more, few)

-- ---- midway

module _ (homes : KnownHomes) where
  -- some zones have numbers, and the others are left
  pub record Midway (ns : GivenNumbers) (zs : List (ZoneUse × Name)) : Type 0 where
    pub in_order : AreInNameOrder ns
    pub known : (c : Name) (z : ZoneUse) (n : ℕ) → number_on ns c z ≡ Some n → home_for homes z ≡ Some c
    pub in_range : (c : Name) (z : ZoneUse) (n : ℕ) → number_on ns c z ≡ Some n → (1 ≤ n) × (n ≤ MAX_ZONE)
    pub apart : (c : Name) (y z : ZoneUse) (n : ℕ) → number_on ns c y ≡ Some n → number_on ns c z ≡ Some n → y ≡ z
    pub left : (a : ZoneUse × Name) → Among a zs → (home_for homes a.0 ≡ Some a.1) × (place_for ns a.0 ≡ None)
    pub once : EachOnce (map (λ a. a.0) zs)
    pub all : (c : Name) (z : ZoneUse) → home_for homes z ≡ Some c → IsSome (number_on ns c z) ⊎ Among (z, c) zs

-- one zone is given its number
module _ (ns : GivenNumbers) (zone : ZoneUse) (chassis : Name) (after : GivenNumbers) (none : place_for ns zone ≡ None) (g : IsGivenOne ns zone chassis after) where
  -- it has the number
  pub given_place : place_for after zone ≡ Some (placed chassis g.number)
  given_place = ap (λ (l : GivenNumbers). place_for l zone) g.put ∙ put_same ns zone (placed chassis g.number)

  pub given_number : number_on after chassis zone ≡ Some g.number
  given_number = number_placed after chassis zone g.number given_place

  -- and the others have what they had
  pub other_place : (y : ZoneUse) → y ≢ zone → place_for after y ≡ place_for ns y
  other_place y apart = ap (λ (l : GivenNumbers). place_for l y) g.put ∙ put_apart ns zone (placed chassis g.number) y apart

  kept_place : (y : ZoneUse) (p : ZonePlace) → place_for ns y ≡ Some p → place_for after y ≡ Some p
  kept_place y p h = other_place y (λ same. none-some p (sym (sym h ∙ ap (λ (u : ZoneUse). place_for ns u) same ∙ none))) ∙ h

  kept_number : (c : Name) (y : ZoneUse) (n : ℕ) → number_on ns c y ≡ Some n → number_on after c y ≡ Some n
  kept_number c y n h = number_placed after c y n (kept_place y (placed c n) (placed_number ns c y n h))

  -- so a number is the new one or an old one
  number_cases : (c : Name) (y : ZoneUse) (n : ℕ) → number_on after c y ≡ Some n → ((y ≡ zone) × (c ≡ chassis) × (n ≡ g.number)) ⊎ (number_on ns c y ≡ Some n)
  number_cases c y n h = elim (one_zone_or_two y zone) [
    | inl same ↦
        let place : placed c n ≡ placed chassis g.number = same_Some (placed c n) (placed chassis g.number) (sym (placed_number after c y n h) ∙ ap (λ (u : ZoneUse). place_for after u) same ∙ given_place) in
        inl (same, ap (λ (p : ZonePlace). p.chassis) place, ap (λ (p : ZonePlace). p.number) place)
    | inr apart ↦ inr (number_placed ns c y n (sym (other_place y apart) ∙ placed_number after c y n h))
  ]

  -- the numbers of a chassis
  pub taken_after : AreInNameOrder ns → AreInNameOrder after → (c : Name) (m : ℕ) → Among m (numbers_of after c) ↔ (Among m (numbers_of ns c) ⊎ ((c ≡ chassis) × (m ≡ g.number)))
  taken_after s t c m = (
    λ a. let u = number_used after t c m a in elim (number_cases c u.0 m u.1) [ inl new ↦ inr (new.1, new.2) | inr old ↦ inl (used_number ns c u.0 m old) ],
    λ o. elim o [
      | inl old ↦ (let u = number_used ns s c m old in used_number after c u.0 m (kept_number c u.0 m u.1))
      | inr new ↦ subst (λ k. Among k (numbers_of after c)) (sym new.1) (subst (λ (d : Name). Among g.number (numbers_of after d)) (sym new.0) (used_number after chassis zone g.number given_number))
    ],
  )

  -- no other zone of the chassis has the new number
  fresh : (y : ZoneUse) (c : Name) → c ≡ chassis → number_on ns c y ≡ Some g.number → ⊥
  fresh y c same h = g.least.free (used_number ns chassis y g.number (subst (λ (d : Name). number_on ns d y ≡ Some g.number) same h))

  pub apart_after : ((c : Name) (y z : ZoneUse) (n : ℕ) → number_on ns c y ≡ Some n → number_on ns c z ≡ Some n → y ≡ z) → (c : Name) (y z : ZoneUse) (n : ℕ) → number_on after c y ≡ Some n → number_on after c z ≡ Some n → y ≡ z
  apart_after apart c y z n h k = elim (number_cases c y n h) [
    | inl p ↦ elim (number_cases c z n k) [
      | inl q ↦ p.0 ∙ sym q.0
      | inr old ↦ absurd (fresh z c p.1 (old ∙ ap (λ m. Some m) p.2))
    ]
    | inr older ↦ elim (number_cases c z n k) [
      | inl q ↦ absurd (fresh y c q.1 (older ∙ ap (λ m. Some m) q.2))
      | inr old ↦ apart c y z n older old
    ]
  ]

module _ (homes : KnownHomes) (ns : GivenNumbers) (a : ZoneUse × Name) (zs : List (ZoneUse × Name)) (between : GivenNumbers) (mid : Midway homes ns (a ∷ zs)) (g : IsGivenOne ns a.0 a.1 between) where
  head_none : place_for ns a.0 ≡ None
  head_none = (mid.left a here).1

  pub order_next : AreInNameOrder between
  order_next = subst (λ l. AreInNameOrder l) (sym g.put) (put_in_order ns a.0 (placed a.1 g.number) mid.in_order)

  known_next : (c : Name) (z : ZoneUse) (n : ℕ) → number_on between c z ≡ Some n → home_for homes z ≡ Some c
  known_next c z n h = elim (number_cases ns a.0 a.1 between head_none g c z n h) [
    | inl new ↦ ap (λ (u : ZoneUse). home_for homes u) new.0 ∙ (mid.left a here).0 ∙ ap (λ (d : Name). Some d) (sym new.1)
    | inr old ↦ mid.known c z n old
  ]

  range_next : (c : Name) (z : ZoneUse) (n : ℕ) → number_on between c z ≡ Some n → (1 ≤ n) × (n ≤ MAX_ZONE)
  range_next c z n h = elim (number_cases ns a.0 a.1 between head_none g c z n h) [
    | inl new ↦ (subst (λ m. 1 ≤ m) (sym new.2) g.least.some, subst (λ m. m ≤ MAX_ZONE) (sym new.2) g.few)
    | inr old ↦ mid.in_range c z n old
  ]

  left_next : (b : ZoneUse × Name) → Among b zs → (home_for homes b.0 ≡ Some b.1) × (place_for between b.0 ≡ None)
  left_next b m =
      let was = mid.left b (there m) in
      let apart : b.0 ≢ a.0 = λ same. mid.once.0 (subst (λ (u : ZoneUse). Among u (map (λ (x : ZoneUse × Name). x.0) zs)) same (among_map (λ (x : ZoneUse × Name). x.0) b zs m)) in
      (was.0, other_place ns a.0 a.1 between head_none g b.0 apart ∙ was.1)

  all_next : (c : Name) (z : ZoneUse) → home_for homes z ≡ Some c → IsSome (number_on between c z) ⊎ Among (z, c) zs
  all_next c z h = elim (mid.all c z h) [
    | inl has ↦ (let v = some_value (number_on ns c z) has in inl (has_value (number_on between c z) v.0 (kept_number ns a.0 a.1 between head_none g c z v.0 v.1)))
    | inr m ↦ elim (among_cases (z, c) a zs m) [
      | inl same ↦ inl (subst (λ (b : ZoneUse × Name). IsSome (number_on between b.1 b.0)) (sym same) (has_value (number_on between a.1 a.0) g.number (given_number ns a.0 a.1 between head_none g)))
      | inr behind ↦ inr behind
    ]
  ]

  pub midway_next : Midway homes between zs
  midway_next = record {
    in_order = order_next;
    known = known_next;
    in_range = range_next;
    apart = apart_after ns a.0 a.1 between head_none g mid.apart;
    left = left_next;
    once = mid.once.1;
    all = all_next;
  }

module _ (homes : KnownHomes) where
  -- to the end
  pub midway_end : (ns : GivenNumbers) (zs : List (ZoneUse × Name)) (after : GivenNumbers) → Midway homes ns zs → AreGiven ns zs after → Midway homes after []
  midway_end ns [] after mid given = subst (λ l. Midway homes l []) (sym given) mid
  midway_end ns (a ∷ zs) after mid given = midway_end given.0 zs after (midway_next homes ns a zs given.0 mid given.1) given.2

  -- who has a number keeps it
  pub place_end : (ns : GivenNumbers) (zs : List (ZoneUse × Name)) (after : GivenNumbers) → Midway homes ns zs → AreGiven ns zs after → (z : ZoneUse) (p : ZonePlace) → place_for ns z ≡ Some p → place_for after z ≡ Some p
  place_end ns [] after mid given z p h = ap (λ (l : GivenNumbers). place_for l z) given ∙ h
  place_end ns (a ∷ zs) after mid given z p h =
      place_end given.0 zs after (midway_next homes ns a zs given.0 mid given.1) given.2 z p (kept_place ns a.0 a.1 given.0 (mid.left a here).1 given.1 z p h)

  -- and who is given one takes the least
  pub takes : (ns : GivenNumbers) (zs : List (ZoneUse × Name)) (after : GivenNumbers) → Midway homes ns zs → AreGiven ns zs after
      → (c : Name) (taken : ℕ → Type 0) → ((m : ℕ) → taken m ↔ Among m (numbers_of ns c)) → TakeLeast taken (of_chassis c zs) (number_on after c)
  takes ns [] after mid given c taken same = tt
  takes ns (a ∷ zs) after mid given c taken same = by (same_name a.1 c) refl (takes given.0 zs after (midway_next homes ns a zs given.0 mid given.1) given.2 c)
    where
      next : Midway homes given.0 zs
      next = midway_next homes ns a zs given.0 mid given.1

      none : place_for ns a.0 ≡ None
      none = (mid.left a here).1

      after_it : (m : ℕ) → Among m (numbers_of given.0 c) ↔ (Among m (numbers_of ns c) ⊎ ((c ≡ a.1) × (m ≡ given.1.number)))
      after_it = taken_after ns a.0 a.1 given.0 none given.1 mid.in_order next.in_order c

      here_too : c ≡ a.1 → (m : ℕ) → (taken m ⊎ (m ≡ given.1.number)) ↔ Among m (numbers_of given.0 c)
      here_too is m = (
        λ o. elim o [ inl t ↦ (after_it m).1 (inl ((same m).0 t)) | inr n ↦ (after_it m).1 (inr (is, n)) ],
        λ u. elim ((after_it m).0 u) [ inl old ↦ inl ((same m).1 old) | inr new ↦ inr new.1 ],
      )

      elsewhere : c ≢ a.1 → (m : ℕ) → taken m ↔ Among m (numbers_of given.0 c)
      elsewhere apart m = (
        λ t. (after_it m).1 (inl ((same m).0 t)),
        λ u. elim ((after_it m).0 u) [ inl old ↦ (same m).1 old | inr new ↦ absurd (apart new.0) ],
      )

      least : c ≡ a.1 → IsLeastFree taken given.1.number
      least is = record {
        some = given.1.least.some;
        free = λ t. given.1.least.free (subst (λ (d : Name). Among given.1.number (numbers_of ns d)) is ((same given.1.number).0 t));
        least = λ m from to. (same m).1 (subst (λ (d : Name). Among m (numbers_of ns d)) (sym is) (given.1.least.least m from to));
      }

      number : c ≡ a.1 → number_on after c a.0 ≡ Some given.1.number
      number is =
          subst (λ (d : Name). number_on after d a.0 ≡ Some given.1.number) (sym is)
          (number_placed after a.1 a.0 given.1.number (place_end given.0 zs after next given.2 a.0 (placed a.1 given.1.number) (given_place ns a.0 a.1 given.0 none given.1)))

      by : (b : Bool) → same_name a.1 c ≡ b → ((t : ℕ → Type 0) → ((m : ℕ) → t m ↔ Among m (numbers_of given.0 c)) → TakeLeast t (of_chassis c zs) (number_on after c))
          → TakeLeast taken (cond b (a ∷ of_chassis c zs) (of_chassis c zs)) (number_on after c)
      by true is rest =
          let one = sym (one_name a.1 c is) in
          (given.1.number, number one, least one, rest (λ m. taken m ⊎ (m ≡ given.1.number)) (here_too one))
      by false is rest =
          rest taken (elsewhere (λ e. false≢true (sym is ∙ (bytes_decides a.1 c).1 (sym e))))
