-- Zones that are emptied one after another.
use Rattle.std.specs.Prelude.{◌≡◌, ◌≤◌, ◌+◌, ℕ, nat_eq, ◌&&◌, Bool, true, false, cond, List, [], ◌∷◌, map, length, Option, Some, None, refl}
use Rattle.std.specs.List.{AllByRecursion}
use Rattle.std.proofs.Common.{arith, sym, ap, subst, ◌∙◌}
use Rattle.std.proofs.lemmas.Bool.{eqb-true, eqb-false}
use Rattle.std.proofs.lemmas.Option.{none-some}
use Rattle.std.specs.Map.Calls.{RetainsPairs}
use Rattle.ovn_base.specs.declared.name.Name.{Name}
use Rattle.ovn_base.specs.names.SameName.{same_name, bytes_decides}
use Rattle.switch_engine.specs.Zones.{HeldZones, ZoneLists, zone_at, IsEmptied}
use Rattle.chassis_sim.specs.Changing.{AreEmptied, emptied_at, HasRoomFor, HaveRoom, IsFresh}
use Rattle.chassis_sim.specs.State.{at_name}
use Rattle.chassis_sim.specs.Tables.{seen_by, zones_held}
use Rattle.chassis_sim.proofs.Lookups.{seen_found, seen_same}

abbrev pub lists : HeldZones → ZoneLists
lists held = held.zones

-- where no zone is named, all stay
pub emptied_none : (name : Name) (zones : Option ZoneLists) → AreEmptied [] name zones zones
emptied_none name None = refl
emptied_none name (Some old) = (old, refl, λ z. refl)

-- first one zone, and then the others
pub emptied_more : (e : Name × ℕ) (es : List (Name × ℕ)) (name : Name) (old between new : Option ZoneLists) → AreEmptied (e ∷ []) name old between → AreEmptied es name between new → AreEmptied (e ∷ es) name old new
emptied_more e es name None between new one rest = subst (λ o. AreEmptied es name o new) one rest
emptied_more e es name (Some old) between new one rest =
    let next = subst (λ o. AreEmptied es name o new) one.1 rest in
    (next.0, next.1, λ z. next.2 z ∙ ap (emptied_at es name z) (one.2 z))

-- on another chassis all stay
stays : (e : Name × ℕ) (other : Name) (zones : Option ZoneLists) → same_name e.0 other ≡ false → AreEmptied (e ∷ []) other zones zones
stays e other None apart = refl
stays e other (Some old) apart = (old, refl, λ z. ap (λ b. cond (b && nat_eq e.1 z) (Some []) (zone_at old z)) (sym apart))

-- the zone of the number, among those of its chassis
its_zone : (number : ℕ) (old new : ZoneLists) → IsEmptied number old new → (name : Name) (z : ℕ) → zone_at new z ≡ emptied_at ((name, number) ∷ []) name z (zone_at old z)
its_zone number old new emptied name z = by (nat_eq number z) refl ∙ ap (λ b. cond (b && nat_eq number z) (Some []) (zone_at old z)) (sym ((bytes_decides name name).1 refl))
  where
    by : (b : Bool) → nat_eq number z ≡ b → zone_at new z ≡ cond (nat_eq number z) (Some []) (zone_at old z)
    by true is = ap (zone_at new) (sym (eqb-true number z is)) ∙ emptied.empty ∙ ap (λ b. cond b (Some []) (zone_at old z)) (sym is)
    by false is = emptied.others z (λ same. eqb-false number z is (sym same)) ∙ ap (λ b. cond b (Some []) (zone_at old z)) (sym is)

module _ (old new : List (Name × HeldZones)) (name : Name) (number : ℕ) (before after : HeldZones) (was : at_name old name ≡ Some before) (is_now : at_name new name ≡ Some after)
    (emptied : IsEmptied number before.zones after.zones) (others : (other : Name) → same_name name other ≡ false → at_name new other ≡ at_name old other) where
  -- one zone of the chassis is emptied
  pub one_emptied : (other : Name) → AreEmptied ((name, number) ∷ []) other (at_name (zones_held old) other) (at_name (zones_held new) other)
  one_emptied other = by (same_name name other) refl
    where
      here : AreEmptied ((name, number) ∷ []) name (at_name (zones_held old) name) (at_name (zones_held new) name)
      here = subst (λ o. AreEmptied ((name, number) ∷ []) name o (at_name (zones_held new) name)) (sym (seen_found lists old name before was)) (after.zones, seen_found lists new name after is_now, its_zone number before.zones after.zones emptied name)

      by : (b : Bool) → same_name name other ≡ b → AreEmptied ((name, number) ∷ []) other (at_name (zones_held old) other) (at_name (zones_held new) other)
      by true is = subst (λ n. AreEmptied ((name, number) ∷ []) n (at_name (zones_held old) n) (at_name (zones_held new) n)) ((bytes_decides name other).0 is) here
      by false is = subst (AreEmptied ((name, number) ∷ []) other (at_name (zones_held old) other)) (sym (seen_same lists old new other (others other is))) (stays (name, number) other (at_name (zones_held old) other) is)

  -- it takes the room of at most one zone
  pub one_less : before.room ≤ after.room + 1 → (n z : ℕ) (other : Name) → HasRoomFor (n + 1) z (at_name old other) → HasRoomFor n z (at_name new other)
  one_less less n z other h = by (same_name name other) refl
    where
      left : HasRoomFor (n + 1) z (Some before) → zone_at after.zones z ≡ None → n ≤ after.room
      left enough absent = by_number (nat_eq number z) refl
        where
          by_number : (b : Bool) → nat_eq number z ≡ b → n ≤ after.room
          by_number true is = absurd (none-some [] (sym absent ∙ ap (zone_at after.zones) (sym (eqb-true number z is)) ∙ emptied.empty))
          by_number false is = omega (arith, less, enough (sym (emptied.others z (λ same. eqb-false number z is (sym same))) ∙ absent))

      by : (b : Bool) → same_name name other ≡ b → HasRoomFor n z (at_name new other)
      by true is =
          let same = (bytes_decides name other).0 is in
          subst (HasRoomFor n z) (sym (ap (at_name new) (sym same) ∙ is_now)) (left (subst (HasRoomFor (n + 1) z) (ap (at_name old) (sym same) ∙ was) h))
      by false is = subst (HasRoomFor n z) (sym (others other is)) (fewer (at_name old other) h)
        where
          fewer : (o : Option HeldZones) → HasRoomFor (n + 1) z o → HasRoomFor n z o
          fewer None enough = tt
          fewer (Some held) enough = λ absent. omega (arith, enough absent)

-- where there is no such chassis, nothing comes of it
pub absent_emptied : (e : Name × ℕ) (zones : List (Name × ZoneLists)) → at_name zones e.0 ≡ None → (other : Name) → AreEmptied (e ∷ []) other (at_name zones other) (at_name zones other)
absent_emptied e zones absent other = by (same_name e.0 other) refl
  where
    by : (b : Bool) → same_name e.0 other ≡ b → AreEmptied (e ∷ []) other (at_name zones other) (at_name zones other)
    by true is = subst (λ n. AreEmptied (e ∷ []) n (at_name zones n) (at_name zones n)) ((bytes_decides e.0 other).0 is) (subst (λ o. AreEmptied (e ∷ []) e.0 o o) (sym absent) refl)
    by false is = stays e other (at_name zones other) is

-- less room is asked
pub less_room : (n m z : ℕ) (held : Option HeldZones) → n ≤ m → HasRoomFor m z held → HasRoomFor n z held
less_room n m z None le h = tt
less_room n m z (Some held) le h = λ absent. omega (arith, le, h absent)

-- all of what is asked for so many more
pub less_rooms : (n : ℕ) (old new : List (Name × HeldZones)) → ((z : ℕ) (other : Name) → HasRoomFor (n + 1) z (at_name old other) → HasRoomFor n z (at_name new other)) → (es : List (Name × ℕ)) → HaveRoom (n + 1) old es → HaveRoom n new es
less_rooms n old new less [] h = tt
less_rooms n old new less (e ∷ es) h = (less e.1 e.0 h.0, less_rooms n old new less es h.1)

-- what holds of each name goes on to hold of all
pub same_rooms : (n : ℕ) (old new : List (Name × HeldZones)) → ((z : ℕ) (other : Name) → HasRoomFor n z (at_name old other) → HasRoomFor n z (at_name new other)) → (es : List (Name × ℕ)) → HaveRoom n old es → HaveRoom n new es
same_rooms n old new keeps [] h = tt
same_rooms n old new keeps (e ∷ es) h = (keeps e.1 e.0 h.0, same_rooms n old new keeps es h.1)

-- fresh zones have room for fewer, too
pub fresh_less : (n m : ℕ) (fresh : List HeldZones) → n ≤ m → AllByRecursion (IsFresh m) fresh → AllByRecursion (IsFresh n) fresh
fresh_less n m [] le h = tt
fresh_less n m (held ∷ fresh) le h = (record { none = h.0.none; enough = omega (arith, le, h.0.enough) }, fresh_less n m fresh le h.1)

-- what another room of one chassis does
pub more_room : (old new : List (Name × HeldZones)) (name : Name) (before after : HeldZones) → at_name old name ≡ Some before → at_name new name ≡ Some after
    → ((other : Name) → same_name name other ≡ false → at_name new other ≡ at_name old other)
    → (n : ℕ) → ((z : ℕ) → HasRoomFor n z (Some before) → HasRoomFor n z (Some after))
    → (z : ℕ) (other : Name) → HasRoomFor n z (at_name old other) → HasRoomFor n z (at_name new other)
more_room old new name before after was is_now others n more z other h = by (same_name name other) refl
  where
    by : (b : Bool) → same_name name other ≡ b → HasRoomFor n z (at_name new other)
    by true is =
        let same = (bytes_decides name other).0 is in
        subst (HasRoomFor n z) (sym (ap (at_name new) (sym same) ∙ is_now)) (more z (subst (HasRoomFor n z) (ap (at_name old) (sym same) ∙ was) h))
    by false is = subst (HasRoomFor n z) (sym (others other is)) h

module _ {F : Type 0} (Takes : F → Name → HeldZones → Bool → HeldZones → F → Type 0) where
  -- a closure that always answers `true` and makes g of the lists, and stays as it was
  pub seen_kept : (g : ZoneLists → ZoneLists) (f : F) → ((k : Name) (v : HeldZones) (b : Bool) (w : HeldZones) (f' : F) → Takes f k v b w f' → (b ≡ true) × (w.zones ≡ g v.zones) × (f' ≡ f))
      → (es kept : List (Name × HeldZones)) → RetainsPairs Takes f es kept → zones_held kept ≡ map (seen_by g) (zones_held es)
  seen_kept g f h [] kept r = ap zones_held r
  seen_kept g f h (e ∷ es) kept r =
      let a = h e.0 e.1 r.0 r.1 r.2 r.4 in
      let rest = seen_kept g f h es r.3 (subst (λ u. RetainsPairs Takes u es r.3) a.2 r.5) in
      ap zones_held (r.6 ∙ ap (λ b. cond b ((e.0, r.1) ∷ r.3) r.3) a.0) ∙ (λ i. (e.0, a.1 i) ∷ rest i)

-- what is put with room, or taken out, leaves room
pub room_put : (n z : ℕ) (put : Option HeldZones) → HasRoomFor n z put → (test : Bool) (old new : Option HeldZones) → new ≡ cond test put old → HasRoomFor n z old → HasRoomFor n z new
room_put n z put enough test old new is h = subst (HasRoomFor n z) (sym is) (by test)
  where
    by : (b : Bool) → HasRoomFor n z (cond b put old)
    by true = enough
    by false = h

-- where none is left, the list is over
pub none_left : {X : Type 0} (xs : List X) → length xs ≡ 0 → xs ≡ []
none_left [] h = refl
none_left (x ∷ xs) h = absurd (omega (arith, h))
