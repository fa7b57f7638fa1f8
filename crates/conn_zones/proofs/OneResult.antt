-- What is held and a change determine the homes and the numbers after it.
use Rattle.std.specs.Prelude.{◌≡◌, ◌⊎◌, ℕ, true, false, ◌&&◌, not, is_some, List, [], ◌∷◌, Option, Some, None, refl}
use mathlib.Core.Path.{sym, ap, subst, ◌∙◌}
use mathlib.Core.Logic.{inl, inr}
use Rattle.std.specs.Option.{unwrap_or}
use Rattle.std.proofs.lemmas.Bool.{cases_Bool, cases_order, false≢true}
use Rattle.ovn_base.specs.declared.name.Name.{Name}
use Rattle.ovn_base.specs.lists.Among.{Among, here, there}
use Rattle.ovn_base.specs.names.ByName.{at}
use Rattle.ovn_base.specs.names.SameName.{same_name}
use Rattle.ovn_base.proofs.AmongLaws.{among_filter}
use Rattle.conn_zones.specs.declared.change.HomeChange.{HomeChange}
use Rattle.conn_zones.specs.declared.numbers.ZonePlace.{ZonePlace}
use Rattle.conn_zones.specs.declared.numbers.ZoneUse.{ZoneUse}
use Rattle.conn_zones.specs.declared.numbers.ZoneUse.TheVariants.{Port, Dnat, Snat}
use Rattle.conn_zones.specs.Zoning.{KnownHomes, GivenNumbers, Zoned, home_for, place_for, number_on}
use Rattle.conn_zones.specs.Rezoning.{AreHomesAfter, IsRehomed, zones_in, of_chassis, is_home_on, remains, names_zone, stays_on, coming, IsLeastFree, TakeLeast, IsRezoned}
use Rattle.ovn_base.proofs.SameEntries.{same_found}
use Rattle.conn_zones.proofs.PlaceLaws.{own_name, has_value, number_placed, placed_number}
use Rattle.conn_zones.proofs.ZoneLists.{home_zone}

-- ---- homes

one_list : (before : List (Name × Name)) (change : List (Name × Option Name)) (a b : List (Name × Name)) → AreHomesAfter before change a → AreHomesAfter before change b → a ≡ b
one_list before change a b h k = same_found a b h.in_order k.in_order (λ n v e. k.homes n ∙ sym (h.homes n) ∙ e) (λ n v e. h.homes n ∙ sym (k.homes n) ∙ e)

one_homes : (before : KnownHomes) (change : HomeChange) (a b : KnownHomes) → IsRehomed before change a → IsRehomed before change b → a ≡ b
one_homes before change a b h k =
    let ports = one_list before.ports change.ports a.ports b.ports h.ports k.ports in
    let routers = one_list before.routers change.routers a.routers b.routers h.routers k.routers in
    λ i. record { ports = ports i; routers = routers i }

-- ---- numbers

one_least : (taken : ℕ → Type 0) (m n : ℕ) → IsLeastFree taken m → IsLeastFree taken n → m ≡ n
one_least taken m n h k = elim (cases_order m n) [
  | inl same ↦ same
  | inr apart ↦ elim apart [ inl less ↦ absurd (h.free (k.least m h.some less)) | inr more ↦ absurd (k.free (h.least n k.some more)) ]
]

one_taking : (zs : List (ZoneUse × Name)) (taken : ℕ → Type 0) (f g : ZoneUse → Option ℕ) → TakeLeast taken zs f → TakeLeast taken zs g → (a : ZoneUse × Name) → Among a zs → f a.0 ≡ g a.0
one_taking [] taken f g h k a m = elim m [ ]
one_taking (z ∷ zs) taken f g h k a here = h.1 ∙ ap (λ n. Some n) (one_least taken h.0 k.0 h.2 k.2) ∙ sym k.1
one_taking (z ∷ zs) taken f g h k a (there m) =
    let same = one_least taken h.0 k.0 h.2 k.2 in
    one_taking zs (λ n. taken n ⊎ (n ≡ k.0)) f g (subst (λ n. TakeLeast (λ i. taken i ⊎ (i ≡ n)) zs f) same h.3) k.3 a m

module _ (before : Zoned) (change : HomeChange) (homes : KnownHomes) (a b : GivenNumbers) (h : IsRezoned before change (record { homes = homes; numbers = a })) (k : IsRezoned before change (record { homes = homes; numbers = b })) where
  -- who has a number has it in both
  number_too : (c : Name) (z : ZoneUse) (n : ℕ) → number_on a c z ≡ Some n → number_on b c z ≡ Some n
  number_too c z n e =
      let home : home_for homes z ≡ Some c = (h.zoned.at_home c z).1 (has_value (number_on a c z) n e) in
      elim (cases_Bool (stays_on before.homes change c z)) [
        | inl stays ↦ k.stay c z home stays ∙ sym (h.stay c z home stays) ∙ e
        | inr away ↦
            let m = among_filter (λ (x : ZoneUse × Name). same_name x.1 c) (z, c) (coming before.homes change homes)
            (among_filter (λ (x : ZoneUse × Name). not (stays_on before.homes change x.1 x.0)) (z, c) (zones_in homes) (home_zone homes z c home) (ap not away)) (own_name c) in
            sym (one_taking (of_chassis c (coming before.homes change homes)) _ (number_on a c) (number_on b c) (h.come c) (k.come c) (z, c) m) ∙ e
      ]

  pub place_too : (z : ZoneUse) (p : ZonePlace) → place_for a z ≡ Some p → place_for b z ≡ Some p
  place_too z p e = placed_number b p.chassis z p.number (number_too p.chassis z p.number (number_placed a p.chassis z p.number e))

one_numbers : (before : Zoned) (change : HomeChange) (homes : KnownHomes) (a b : GivenNumbers) → IsRezoned before change (record { homes = homes; numbers = a }) → IsRezoned before change (record { homes = homes; numbers = b }) → a ≡ b
one_numbers before change homes a b h k =
    let s = h.zoned.numbers_in_order in
    let t = k.zoned.numbers_in_order in
    let there_too = place_too before change homes a b h k in
    let here_too = place_too before change homes b a k h in
    let ports = same_found a.ports b.ports s.ports t.ports (λ n. there_too (Port n)) (λ n. here_too (Port n)) in
    let dnat = same_found a.dnat b.dnat s.dnat t.dnat (λ n. there_too (Dnat n)) (λ n. here_too (Dnat n)) in
    let snat = same_found a.snat b.snat s.snat t.snat (λ n. there_too (Snat n)) (λ n. here_too (Snat n)) in
    λ i. record { ports = ports i; dnat = dnat i; snat = snat i }

pub one_result : (before : Zoned) (change : HomeChange) (one other : Zoned) → IsRezoned before change one → IsRezoned before change other → one ≡ other
one_result before change one other h k =
    let homes = one_homes before.homes change one.homes other.homes h.homes k.homes in
    let numbers = one_numbers before change other.homes one.numbers other.numbers (subst (λ l. IsRezoned before change (record { homes = l; numbers = one.numbers })) homes h) k in
    λ i. record { homes = homes i; numbers = numbers i }

-- ---- who isn't named

unnamed : {X : Type 0} (o : Option X) → is_some o ≡ false → o ≡ None
unnamed None h = refl
unnamed (Some x) h = absurd (false≢true (sym h))

module _ (before : Zoned) (change : HomeChange) (after : Zoned) (h : IsRezoned before change after) where
  stays_port : (c p : Name) → names_zone change (Port p) ≡ false → at before.homes.ports p ≡ Some c → (at after.homes.ports p ≡ Some c) × (stays_on before.homes change c (Port p) ≡ true)
  stays_port c p away home = (
    h.homes.ports.homes p ∙ ap (λ (o : Option (Option Name)). unwrap_or o (at before.homes.ports p)) (unnamed (at change.ports p) away) ∙ home,
    ap (λ o. is_home_on o c && true) home ∙ ap (λ b. b && true) (own_name c),
  )

  home_stays : (c r : Name) → is_some (at change.routers r) ≡ false → at before.homes.routers r ≡ Some c → at after.homes.routers r ≡ Some c
  home_stays c r away home = h.homes.routers.homes r ∙ ap (λ (o : Option (Option Name)). unwrap_or o (at before.homes.routers r)) (unnamed (at change.routers r) away) ∙ home

  router_stays : (c r : Name) → is_some (at change.routers r) ≡ false → at before.homes.routers r ≡ Some c → remains before.homes.routers change.routers r c ≡ true
  router_stays c r away home = ap (λ o. is_home_on o c && not (is_some (at change.routers r))) home ∙ ap (λ b. b && not (is_some (at change.routers r))) (own_name c) ∙ ap not away

  pub keeps_all : (c : Name) (z : ZoneUse) → names_zone change z ≡ false → home_for before.homes z ≡ Some c → (home_for after.homes z ≡ Some c) × (number_on after.numbers c z ≡ number_on before.numbers c z)
  keeps_all c (Port p) away home = let s = stays_port c p away home in (s.0, h.stay c (Port p) s.0 s.1)
  keeps_all c (Dnat r) away home = let there_still = home_stays c r away home in (there_still, h.stay c (Dnat r) there_still (router_stays c r away home))
  keeps_all c (Snat r) away home = let there_still = home_stays c r away home in (there_still, h.stay c (Snat r) there_still (router_stays c r away home))
