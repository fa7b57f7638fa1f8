-- The homes are changed, numbers are kept, and zones that come are given theirs: so the zones are as the change asks.
use Rattle.std.specs.Prelude.{◌≡◌, ◌+◌, ◌⊎◌, ℕ, Bool, true, false, ◌&&◌, not, List, [], Option, Some, None, IsSome, length, map, filter, refl}
use mathlib.Core.Path.{sym, ap, subst, ◌∙◌}
use mathlib.Core.Logic.{inl, inr}
use native.Mathlib.Omega.{arith}
use Rattle.std.specs.Cmp.{first_so, second_so}
use Rattle.std.proofs.lemmas.Bool.{false≢true, cases_Bool}
use Rattle.std.proofs.lemmas.Option.{same_Some}
use Rattle.std.proofs.lemmas.List.{length-map}
use Rattle.ovn_base.specs.declared.name.Name.{Name}
use Rattle.ovn_base.specs.lists.Among.{Among}
use Rattle.ovn_base.specs.names.ByName.{at, IsByName}
use Rattle.ovn_base.specs.names.SameName.{same_name}
use Rattle.ovn_base.proofs.AmongLaws.{among_none, among_filter, filter_among, among_map}
use Rattle.conn_zones.specs.declared.change.HomeChange.{HomeChange}
use Rattle.conn_zones.specs.declared.numbers.ZonePlace.{ZonePlace}
use Rattle.conn_zones.specs.declared.numbers.ZoneUse.{ZoneUse}
use Rattle.conn_zones.specs.declared.numbers.ZoneUse.TheVariants.{Port, Dnat, Snat}
use Rattle.conn_zones.specs.Zoning.{KnownHomes, GivenNumbers, Zoned, home_for, place_for, number_on, IsZoned}
use Rattle.conn_zones.specs.Rezoning.{IsRehomed, IsHomeChange, zones_in, of_chassis, is_home_on, remains, stays_on, coming, IsKeptNumber, IsRezoned}
use Rattle.conn_zones.specs.Giving.{keep_places, AreKeptNumbers, AreGiven, HaveNumbers}
use Rattle.conn_zones.proofs.Lists.{found_kept, kept_found}
use Rattle.ovn_base.proofs.OnceLaws.{once_filter, once_few}
use Rattle.conn_zones.proofs.PlaceLaws.{own_name, one_name, some_value, has_value, placed, number_placed, placed_number, number_used, used_number}
use Rattle.conn_zones.proofs.ZoneLists.{zone_of, zone_home, home_zone, zones_once, used_on, as_many, used_has, used_once, both_ways}
use Rattle.conn_zones.proofs.GivingLaws.{Midway, midway_end, place_end, takes}

-- ---- who remains

home_is : (o : Option Name) (c : Name) → is_home_on o c ≡ true → o ≡ Some c
home_is None c h = absurd (false≢true h)
home_is (Some b) c h = ap (λ n. Some n) (one_name b c h)

is_home : (o : Option Name) (c : Name) → o ≡ Some c → is_home_on o c ≡ true
is_home o c h = ap (λ p. is_home_on p c) h ∙ own_name c

both : (a b : Bool) → a ≡ true → b ≡ true → (a && b) ≡ true
both a b h k = ap (λ x. x && b) h ∙ k

-- one list of places, with the homes before and after
module _ (before after : List (Name × Name)) (replaced : List (Name × Option Name)) (es : List (Name × ZonePlace)) (sorted : IsByName es) (kept_sorted : IsByName (keep_places after replaced es)) where
  abbrev test : Name × ZonePlace → Bool
  test e = remains after replaced e.0 e.1.chassis

  -- what is kept is the place of one who stays
  kept_is : ((c q : Name) (n : ℕ) → at es q ≡ Some (placed c n) → at before q ≡ Some c) → (c q : Name) (n : ℕ) → at (keep_places after replaced es) q ≡ Some (placed c n)
      → (at after q ≡ Some c) × (remains before replaced q c ≡ true) × (at es q ≡ Some (placed c n))
  kept_is at_home c q n h =
      let k = found_kept test es sorted q (placed c n) h in
      let home = home_is (at after q) c (first_so (is_home_on (at after q) c) _ k.1) in
      let fresh = second_so (is_home_on (at after q) c) _ k.1 in
      (home, both (is_home_on (at before q) c) _ (is_home (at before q) c (at_home c q n k.0)) fresh, k.0)

  is_kept : (c q : Name) (n : ℕ) → at after q ≡ Some c → remains before replaced q c ≡ true → at es q ≡ Some (placed c n) → at (keep_places after replaced es) q ≡ Some (placed c n)
  is_kept c q n home stays found =
      kept_found test es kept_sorted q (placed c n) found (both (is_home_on (at after q) c) _ (is_home (at after q) c home) (second_so (is_home_on (at before q) c) _ stays))

module _ (before : Zoned) (change : HomeChange) (homes : KnownHomes) (kept after : GivenNumbers)
    (zoned : IsZoned before) (fits : IsHomeChange before.homes change) (rehomed : IsRehomed before.homes change homes)
    (keeps : AreKeptNumbers before.numbers change homes kept) where
  -- ---- what is kept

  was_home : (c : Name) (z : ZoneUse) (n : ℕ) → place_for before.numbers z ≡ Some (placed c n) → home_for before.homes z ≡ Some c
  was_home c z n h = (zoned.at_home c z).1 (has_value (number_on before.numbers c z) n (number_placed before.numbers c z n h))

  -- a zone of which a number is kept is one that stays
  abbrev IsStaying : Name → ZoneUse → ℕ → Type 0
  IsStaying c z n = (home_for homes z ≡ Some c) × (stays_on before.homes change c z ≡ true) × (place_for before.numbers z ≡ Some (placed c n))

  kept_stays : (c : Name) (z : ZoneUse) (n : ℕ) → place_for kept z ≡ Some (placed c n) → IsStaying c z n
  kept_stays c (Port q) n h =
      kept_is before.homes.ports homes.ports [] before.numbers.ports zoned.numbers_in_order.ports (subst IsByName keeps.ports keeps.in_order.ports) (λ d r m. was_home d (Port r) m) c q n (sym (ap (λ l. at l q) keeps.ports) ∙ h)
  kept_stays c (Dnat q) n h =
      kept_is before.homes.routers homes.routers change.routers before.numbers.dnat zoned.numbers_in_order.dnat (subst IsByName keeps.dnat keeps.in_order.dnat) (λ d r m. was_home d (Dnat r) m) c q n (sym (ap (λ l. at l q) keeps.dnat) ∙ h)
  kept_stays c (Snat q) n h =
      kept_is before.homes.routers homes.routers change.routers before.numbers.snat zoned.numbers_in_order.snat (subst IsByName keeps.snat keeps.in_order.snat) (λ d r m. was_home d (Snat r) m) c q n (sym (ap (λ l. at l q) keeps.snat) ∙ h)

  stays_kept : (c : Name) (z : ZoneUse) (n : ℕ) → IsStaying c z n → place_for kept z ≡ Some (placed c n)
  stays_kept c (Port q) n s =
      ap (λ l. at l q) keeps.ports ∙ is_kept before.homes.ports homes.ports [] before.numbers.ports zoned.numbers_in_order.ports (subst IsByName keeps.ports keeps.in_order.ports) c q n s.0 s.1 s.2
  stays_kept c (Dnat q) n s =
      ap (λ l. at l q) keeps.dnat ∙ is_kept before.homes.routers homes.routers change.routers before.numbers.dnat zoned.numbers_in_order.dnat (subst IsByName keeps.dnat keeps.in_order.dnat) c q n s.0 s.1 s.2
  stays_kept c (Snat q) n s =
      ap (λ l. at l q) keeps.snat ∙ is_kept before.homes.routers homes.routers change.routers before.numbers.snat zoned.numbers_in_order.snat (subst IsByName keeps.snat keeps.in_order.snat) c q n s.0 s.1 s.2

  number_stays : (c : Name) (z : ZoneUse) (n : ℕ) → number_on kept c z ≡ Some n → (home_for homes z ≡ Some c) × (stays_on before.homes change c z ≡ true) × (number_on before.numbers c z ≡ Some n)
  number_stays c z n h = let s = kept_stays c z n (placed_number kept c z n h) in (s.0, s.1, number_placed before.numbers c z n s.2)

  stays_number : (c : Name) (z : ZoneUse) (n : ℕ) → home_for homes z ≡ Some c → stays_on before.homes change c z ≡ true → number_on before.numbers c z ≡ Some n → number_on kept c z ≡ Some n
  stays_number c z n home stays number = number_placed kept c z n (stays_kept c z n (home, stays, placed_number before.numbers c z n number))

  -- who stays was at home there before
  stays_home : (c : Name) (z : ZoneUse) → stays_on before.homes change c z ≡ true → home_for before.homes z ≡ Some c
  stays_home c (Port q) h = home_is (at before.homes.ports q) c (first_so (is_home_on (at before.homes.ports q) c) _ h)
  stays_home c (Dnat q) h = home_is (at before.homes.routers q) c (first_so (is_home_on (at before.homes.routers q) c) _ h)
  stays_home c (Snat q) h = home_is (at before.homes.routers q) c (first_so (is_home_on (at before.homes.routers q) c) _ h)

  had_number : (c : Name) (z : ZoneUse) → stays_on before.homes change c z ≡ true → (n : ℕ) × (number_on before.numbers c z ≡ Some n)
  had_number c z h = some_value (number_on before.numbers c z) ((zoned.at_home c z).0 (stays_home c z h))

  -- ---- what comes

  abbrev comes : ZoneUse × Name → Bool
  comes a = not (stays_on before.homes change a.1 a.0)

  abbrev come : List (ZoneUse × Name)
  come = coming before.homes change homes

  not_true : (b : Bool) → not b ≡ true → b ≡ false
  not_true true h = absurd (false≢true h)
  not_true false h = refl

  place_none : (a : ZoneUse × Name) → home_for homes a.0 ≡ Some a.1 → stays_on before.homes change a.1 a.0 ≡ false → place_for kept a.0 ≡ None
  place_none a home away = by (place_for kept a.0) refl
    where
      by : (o : Option ZonePlace) → place_for kept a.0 ≡ o → o ≡ None
      by None is = refl
      by (Some p) is =
          let s = kept_stays p.chassis a.0 p.number is in
          let same : p.chassis ≡ a.1 = same_Some p.chassis a.1 (sym s.0 ∙ home) in
          absurd (false≢true (sym away ∙ subst (λ (d : Name). stays_on before.homes change d a.0 ≡ true) same s.1))

  left : (a : ZoneUse × Name) → Among a come → (home_for homes a.0 ≡ Some a.1) × (place_for kept a.0 ≡ None)
  left a m =
      let r = filter_among comes a (zones_in homes) m in
      let home = zone_home homes rehomed.ports.in_order rehomed.routers.in_order a.0 a.1 r.0 in
      (home, place_none a home (not_true (stays_on before.homes change a.1 a.0) r.1))

  all : (c : Name) (z : ZoneUse) → home_for homes z ≡ Some c → IsSome (number_on kept c z) ⊎ Among (z, c) come
  all c z home = elim (cases_Bool (stays_on before.homes change c z)) [
    | inl stays ↦ (let n = had_number c z stays in inl (has_value (number_on kept c z) n.0 (stays_number c z n.0 home stays n.1)))
    | inr away ↦ inr (among_filter comes (z, c) (zones_in homes) (home_zone homes z c home) (ap not away))
  ]

  pub start : Midway homes kept come
  start = record {
    in_order = keeps.in_order;
    known = λ c z n h. (number_stays c z n h).0;
    in_range = λ c z n h. zoned.in_range c z n (number_stays c z n h).2;
    apart = λ c y z n h k. zoned.apart c y z n (number_stays c y n h).2 (number_stays c z n k).2;
    left = left;
    once = once_filter zone_of comes (zones_in homes) (zones_once homes rehomed.ports.in_order rehomed.routers.in_order);
    all = all;
  }

  -- ---- room

  abbrev on_it : Name → ZoneUse × Name → Bool
  on_it c a = same_name a.1 c

  abbrev stayer : ZoneUse × Name → Bool
  stayer a = stays_on before.homes change a.1 a.0

  used_stays : (c : Name) (z : ZoneUse) → Among z (used_on c kept) → Among z (map zone_of (filter stayer (of_chassis c (zones_in homes))))
  used_stays c z m =
      let n = used_has c kept keeps.in_order z m in
      let s = number_stays c z n.0 n.1 in
      among_map zone_of (z, c) (filter stayer (of_chassis c (zones_in homes)))
      (among_filter stayer (z, c) (of_chassis c (zones_in homes)) (among_filter (on_it c) (z, c) (zones_in homes) (home_zone homes z c s.0) (own_name c)) s.1)

  pub room : HaveNumbers kept come
  room c =
      let all = fits.few homes rehomed c in
      let few = once_few (used_on c kept) (map zone_of (filter stayer (of_chassis c (zones_in homes)))) (used_once c kept keeps.in_order) (λ z m. used_stays c z m) in
      let long = length-map (filter stayer (of_chassis c (zones_in homes))) zone_of in
      let many = as_many c kept in
      let sum : length (of_chassis c come) + length (filter stayer (of_chassis c (zones_in homes))) ≡ length (of_chassis c (zones_in homes)) = both_ways (on_it c) stayer (zones_in homes) in
      omega (arith, all, few, long, many, sum)

  -- ---- the end

  module _ (given : AreGiven kept come after) where
    end : Midway homes after []
    end = midway_end homes kept come after start given

    zoned_after : IsZoned (record { homes = homes; numbers = after })
    zoned_after = record {
      ports_in_order = rehomed.ports.in_order;
      routers_in_order = rehomed.routers.in_order;
      numbers_in_order = end.in_order;
      at_home = λ c z. (
        λ h. elim (end.all c z h) [ inl has ↦ has | inr none ↦ absurd (among_none (z, c) none) ],
        λ h. (let n = some_value (number_on after c z) h in end.known c z n.0 n.1),
      );
      in_range = end.in_range;
      apart = end.apart;
    }

    stay_after : (c : Name) (z : ZoneUse) → home_for homes z ≡ Some c → stays_on before.homes change c z ≡ true → number_on after c z ≡ number_on before.numbers c z
    stay_after c z home stays =
        let n = had_number c z stays in
        number_placed after c z n.0 (place_end homes kept come after start given z (placed c n.0) (stays_kept c z n.0 (home, stays, placed_number before.numbers c z n.0 n.1))) ∙ sym n.1

    pub rezoned : IsRezoned before change (record { homes = homes; numbers = after })
    rezoned = record {
      homes = rehomed;
      zoned = zoned_after;
      stay = stay_after;
      come = λ c. takes homes kept come after start given c (IsKeptNumber before change homes c) (λ m. (
        λ t. used_number kept c t.zone m (stays_number c t.zone m t.home t.stay t.number),
        λ a. (let u = number_used kept keeps.in_order c m a in let s = number_stays c u.0 m u.1 in record { zone = u.0; home = s.0; stay = s.1; number = s.2 }),
      ));
    }
