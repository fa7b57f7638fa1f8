-- A flow is held exactly where it counts.
use Rattle.std.proofs.Common.{◌≡◌, ◌≤◌, ◌+◌, ◌∙◌, ◌↔◌, ℕ, refl, sym, ap, arith, Bool, true, false, cond, List, [], ◌∷◌, Some, is_some, unwrap_or}
use Rattle.std.proofs.lemmas.Bool.{false≢true}
use Prim.Native.Nat.{zero, suc}
use Rattle.std.proofs.lemmas.Map.Keys.{IsDistinct-tail}
use Rattle.std.specs.BTreeMap.{is_at}
use Rattle.std.specs.Cmp.{IsEquivalence}
use Rattle.std.specs.Map.{keys_of, lookup}
use Rattle.std.specs.Ordering.{eq_by_cmp}
use Rattle.std.specs.Set.{is_member}
use Rattle.std.specs.declared.cmp.Ordering.{Ordering}
use Rattle.flow_refs.specs.Counts.{bit, count_of, positive}
use Rattle.flow_refs.specs.Origins.{flows_of, IsEachOnce, IsHeld}
use Rattle.flow_refs.proofs.CountLaws.{here_counts}
use Rattle.flow_refs.proofs.Lookups.{none_behind}

module _ {F O : Type 0} (eq : F → F → Bool) (cmp : O → O → Ordering) (laws : IsEquivalence (eq_by_cmp cmp)) where
  -- an origin that has it behind the first, has it
  held_behind : (e : O × List F) (es : List (O × List F)) (q : F) → IsEachOnce cmp (e ∷ es) → IsHeld eq (flows_of cmp es) q → IsHeld eq (flows_of cmp (e ∷ es)) q
  held_behind e es q once h = record { origin = h.origin; has = by (is_at (cmp h.origin) e.0) refl }
    where
      by : (b : Bool) → is_at (cmp h.origin) e.0 ≡ b → is_member eq (unwrap_or (cond b (Some e.1) (lookup (is_at (cmp h.origin)) es)) []) q ≡ true
      by true same = absurd (false≢true (sym (ap (λ x. is_member eq (unwrap_or x []) q) (none_behind laws e es h.origin once (laws.symm e.0 h.origin ∙ same))) ∙ h.has))
      by false apart = h.has

  -- what counts is held
  pub held_where_counted : (es : List (O × List F)) → IsEachOnce cmp es → (q : F) → 1 ≤ count_of eq es q → IsHeld eq (flows_of cmp es) q
  held_where_counted [] once q some = absurd (omega arith)
  held_where_counted (e ∷ es) once q some = by (is_member eq e.1 q) refl some (held_where_counted es (IsDistinct-tail (eq_by_cmp cmp) e.0 (keys_of es) once) q)
    where
      by : (b : Bool) → is_member eq e.1 q ≡ b → 1 ≤ bit b + count_of eq es q → (1 ≤ count_of eq es q → IsHeld eq (flows_of cmp es) q) → IsHeld eq (flows_of cmp (e ∷ es)) q
      by true is some ih = record { origin = e.0; has = ap (λ b. is_member eq (unwrap_or (cond b (Some e.1) (lookup (is_at (cmp e.0)) es)) []) q) (laws.refl e.0) ∙ is }
      by false is some ih = held_behind e es q once (ih (omega arith))

  -- what is held counts
  pub counted_where_held : (es : List (O × List F)) (q : F) → IsHeld eq (flows_of cmp es) q → 1 ≤ count_of eq es q
  counted_where_held es q h = let at = here_counts eq (is_at (cmp h.origin)) es q in let one = ap bit h.has in omega arith

-- a number is listed where it is not 0
pub listed_where_counted : (n : ℕ) → (is_some (positive n) ≡ true) ↔ (1 ≤ n)
listed_where_counted n = by n
  where
    by : (m : ℕ) → (is_some (positive m) ≡ true) ↔ (1 ≤ m)
    by zero = (λ h. absurd (false≢true h), λ h. absurd (omega arith))
    by (suc m) = (λ h. omega arith, λ h. refl)
