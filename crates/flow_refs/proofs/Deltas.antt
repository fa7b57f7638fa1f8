-- What comes and what goes, read off the numbers.
use Rattle.std.proofs.Common.{◌≡◌, ◌≤◌, ◌∙◌, ◌↔◌, ℕ, refl, sym, ap, subst, arith, Bool, true, false, cond, not, ◌&&◌, ◌||◌, nat_eq, List, [], ◌∷◌, Option, Some, None, is_some, unwrap_or}
use Prim.Native.Nat.{zero, suc}
use Rattle.std.proofs.lemmas.Bool.{false≢true}
use Rattle.std.proofs.lemmas.Bool.Decides.{Decides-eqb}
use Rattle.std.proofs.lemmas.Map.Keys.{IsDistinct-head, IsDistinct-tail, IsDistinct-cons}
use Rattle.std.specs.Cmp.{IsEquivalence}
use Rattle.std.specs.List.{IsDistinct, AllByRecursion}
use Rattle.std.specs.Map.{keys_of, lookup}
use Rattle.std.specs.Option.{option_map_or}
use Rattle.std.specs.Set.{is_member}
use Rattle.ovn_base.specs.declared.delta.Delta.{Delta}
use Rattle.flow_refs.specs.Counts.{positive, new_number_of}
use Rattle.flow_refs.specs.Difference.{begins, ends, flows_where}
use Rattle.flow_refs.specs.Origins.{IsHeld, IsDifference}
use Rattle.flow_refs.proofs.Lookups.{found_alike, none_behind}

module _ {F : Type 0} {eq : F → F → Bool} (laws : IsEquivalence eq) (test : Bool → ℕ → Bool) (counts : List (F × ℕ)) where
  -- whether the flow is one of those
  abbrev picks : F → Option ℕ → Bool
  picks q number = option_map_or (λ n. test (is_some (lookup (eq q) counts)) n) number false

  pub where_member : (ns : List (F × ℕ)) → IsDistinct eq (keys_of ns) → (q : F) → is_member eq (flows_where eq test counts ns) q ≡ picks q (lookup (eq q) ns)
  where_member [] once q = refl
  where_member (n ∷ ns) once q = by (eq q n.0) refl (test (is_some (lookup (eq n.0) counts)) n.1) refl (where_member ns (IsDistinct-tail eq n.0 (keys_of ns) once) q)
    where
      by : (b : Bool) → eq q n.0 ≡ b → (t : Bool) → test (is_some (lookup (eq n.0) counts)) n.1 ≡ t → is_member eq (flows_where eq test counts ns) q ≡ picks q (lookup (eq q) ns)
          → is_member eq (cond t (n.0 ∷ flows_where eq test counts ns) (flows_where eq test counts ns)) q ≡ picks q (cond b (Some n.1) (lookup (eq q) ns))
      by true same true is ih = ap (λ b. b || is_member eq (flows_where eq test counts ns) q) same ∙ sym (ap (λ x. test (is_some x) n.1) (found_alike laws q n.0 same counts) ∙ is)
      by true same false is ih = ih ∙ ap (picks q) (none_behind laws n ns q once (laws.symm n.0 q ∙ same)) ∙ sym (ap (λ x. test (is_some x) n.1) (found_alike laws q n.0 same counts) ∙ is)
      by false apart true is ih = ap (λ b. b || is_member eq (flows_where eq test counts ns) q) apart ∙ ih
      by false apart false is ih = ih

  where_apart : (f : F) (ns : List (F × ℕ)) → AllByRecursion (λ y. eq f y ≡ false) (keys_of ns) → AllByRecursion (λ y. eq f y ≡ false) (flows_where eq test counts ns)
  where_apart f [] h = tt
  where_apart f (n ∷ ns) h = by (test (is_some (lookup (eq n.0) counts)) n.1) (where_apart f ns h.1)
    where
      by : (t : Bool) → AllByRecursion (λ y. eq f y ≡ false) (flows_where eq test counts ns) → AllByRecursion (λ y. eq f y ≡ false) (cond t (n.0 ∷ flows_where eq test counts ns) (flows_where eq test counts ns))
      by true rest = (h.0, rest)
      by false rest = rest

  -- each stands once
  pub where_once : (ns : List (F × ℕ)) → IsDistinct eq (keys_of ns) → IsDistinct eq (flows_where eq test counts ns)
  where_once [] once = once
  where_once (n ∷ ns) once = by (test (is_some (lookup (eq n.0) counts)) n.1) (where_once ns (IsDistinct-tail eq n.0 (keys_of ns) once))
    where
      by : (t : Bool) → IsDistinct eq (flows_where eq test counts ns) → IsDistinct eq (cond t (n.0 ∷ flows_where eq test counts ns) (flows_where eq test counts ns))
      by true rest = IsDistinct-cons eq n.0 (flows_where eq test counts ns) (where_apart n.0 ns (IsDistinct-head eq n.0 (keys_of ns) once)) rest
      by false rest = rest

not_zero : (n : ℕ) → nat_eq (suc n) 0 ≡ false
not_zero n = by (nat_eq (suc n) 0) refl
  where
    by : (b : Bool) → nat_eq (suc n) 0 ≡ b → b ≡ false
    by true is = absurd (omega (arith, (Decides-eqb (suc n) 0).0 is))
    by false is = refl

-- from no number to some
begins_where : (had has : ℕ) → (begins (is_some (positive had)) has ≡ true) ↔ ((had ≡ 0) × (1 ≤ has))
begins_where zero zero = (λ h. absurd (false≢true h), λ h. absurd (omega (arith, h.1)))
begins_where zero (suc n) = (λ h. (refl, omega arith), λ h. ap (λ b. not b && true) (not_zero n))
begins_where (suc m) zero = (λ h. absurd (false≢true h), λ h. absurd (omega (arith, h.0)))
begins_where (suc m) (suc n) = (λ h. absurd (false≢true (sym (ap (λ b. not b && false) (not_zero n)) ∙ h)), λ h. absurd (omega (arith, h.0)))

-- from some number to none
ends_where : (had has : ℕ) → (ends (is_some (positive had)) has ≡ true) ↔ ((1 ≤ had) × (has ≡ 0))
ends_where zero zero = (λ h. absurd (false≢true h), λ h. absurd (omega (arith, h.0)))
ends_where zero (suc n) = (λ h. absurd (false≢true (sym (ap (λ b. b && false) (not_zero n)) ∙ h)), λ h. absurd (omega (arith, h.0)))
ends_where (suc m) zero = (λ h. (omega arith, refl), λ h. refl)
ends_where (suc m) (suc n) = (λ h. absurd (false≢true (sym (ap (λ b. b && true) (not_zero n)) ∙ h)), λ h. absurd (omega (arith, h.1)))

-- a number that stays neither begins nor ends
begins_picked : (number : Option ℕ) (had has : ℕ) → unwrap_or number (unwrap_or (positive had) 0) ≡ has → (option_map_or (λ n. begins (is_some (positive had)) n) number false ≡ true) ↔ ((had ≡ 0) × (1 ≤ has))
begins_picked None zero has is = (λ h. absurd (false≢true h), λ h. absurd (omega (arith, h.1, is)))
begins_picked None (suc m) has is = (λ h. absurd (false≢true h), λ h. absurd (omega (arith, h.0)))
begins_picked (Some n) had has is = subst (λ m. (begins (is_some (positive had)) n ≡ true) ↔ ((had ≡ 0) × (1 ≤ m))) is (begins_where had n)

ends_picked : (number : Option ℕ) (had has : ℕ) → unwrap_or number (unwrap_or (positive had) 0) ≡ has → (option_map_or (λ n. ends (is_some (positive had)) n) number false ≡ true) ↔ ((1 ≤ had) × (has ≡ 0))
ends_picked None zero has is = (λ h. absurd (false≢true h), λ h. absurd (omega (arith, h.0)))
ends_picked None (suc m) has is = (λ h. absurd (false≢true h), λ h. absurd (omega (arith, h.1, is)))
ends_picked (Some n) had has is = subst (λ m. (ends (is_some (positive had)) n ≡ true) ↔ ((1 ≤ had) × (m ≡ 0))) is (ends_where had n)

-- what is kept of a number: the new one, unless it is 0
pub kept_where : (number old : Option ℕ) (had has : ℕ) → old ≡ positive had → unwrap_or number (unwrap_or old 0) ≡ has → option_map_or positive number old ≡ positive has
kept_where None old had has was is = was ∙ ap positive (sym (positive_back had) ∙ ap (λ o. unwrap_or o 0) (sym was) ∙ is)
  where
    positive_back : (n : ℕ) → unwrap_or (positive n) 0 ≡ n
    positive_back zero = refl
    positive_back (suc n) = refl
kept_where (Some n) old had has was is = ap positive is

module _ {F O : Type 0} {eq : F → F → Bool} (laws : IsEquivalence eq) (before after : O → List F) (had has : F → ℕ)
    (held_before : (q : F) → IsHeld eq before q ↔ (1 ≤ had q)) (held_after : (q : F) → IsHeld eq after q ↔ (1 ≤ has q))
    (counts numbers : List (F × ℕ)) (counted : (q : F) → lookup (eq q) counts ≡ positive (had q)) (once : IsDistinct eq (keys_of numbers))
    (new : (q : F) → new_number_of eq numbers counts q ≡ has q) where
  pub is_difference : (delta : Delta F) → delta.added ≡ flows_where eq begins counts numbers → delta.removed ≡ flows_where eq ends counts numbers → IsDifference eq before after delta
  is_difference delta added removed = record {
    come = λ q.
        let p = begins_picked (lookup (eq q) numbers) (had q) (has q) (ap (λ o. unwrap_or (lookup (eq q) numbers) (unwrap_or o 0)) (sym (counted q)) ∙ new q) in
        let m = ap (λ l. is_member eq l q) added ∙ where_member laws begins counts numbers once q ∙ ap (λ o. option_map_or (λ n. begins (is_some o) n) (lookup (eq q) numbers) false) (counted q) in (
          λ h. let r = p.0 (sym m ∙ h) in (λ held. absurd (omega (arith, (held_before q).0 held, r.0)), (held_after q).1 r.1),
          λ h. m ∙ p.1 (none_held q h.0, (held_after q).0 h.1),
        );
    go = λ q.
        let p = ends_picked (lookup (eq q) numbers) (had q) (has q) (ap (λ o. unwrap_or (lookup (eq q) numbers) (unwrap_or o 0)) (sym (counted q)) ∙ new q) in
        let m = ap (λ l. is_member eq l q) removed ∙ where_member laws ends counts numbers once q ∙ ap (λ o. option_map_or (λ n. ends (is_some o) n) (lookup (eq q) numbers) false) (counted q) in (
          λ h. let r = p.0 (sym m ∙ h) in ((held_before q).1 r.0, λ held. absurd (omega (arith, (held_after q).0 held, r.1))),
          λ h. m ∙ p.1 ((held_before q).0 h.0, none_held_after q h.1),
        );
    come_once = subst (IsDistinct eq) (sym added) (where_once laws begins counts numbers once);
    go_once = subst (IsDistinct eq) (sym removed) (where_once laws ends counts numbers once);
  }
    where
      zero_or_more : (n : ℕ) → ¬ (1 ≤ n) → n ≡ 0
      zero_or_more zero h = refl
      zero_or_more (suc n) h = absurd (h (omega arith))

      none_held : (q : F) → ¬ IsHeld eq before q → had q ≡ 0
      none_held q h = zero_or_more (had q) (λ some. h ((held_before q).1 some))

      none_held_after : (q : F) → ¬ IsHeld eq after q → has q ≡ 0
      none_held_after q h = zero_or_more (has q) (λ some. h ((held_after q).1 some))
