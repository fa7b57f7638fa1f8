-- Laws of buckets that are taken away.
use Rattle.std.specs.Prelude.{◌≡◌, ℕ, Bool, true, false, cond, List, [], ◌∷◌, None, nat_eq, refl}
use mathlib.Core.Path.{sym, ap, subst, ◌∙◌}
use mathlib.Core.Logic.{inl, inr}
use Rattle.std.specs.Cmp.Lexicographic.{pointwise}
use Rattle.std.specs.List.{AllByRecursion, IsDistinct}
use Rattle.std.specs.Map.{lookup, keys_of, KeepsOthers}
use Rattle.std.specs.Option.{option_map_or}
use Rattle.std.proofs.lemmas.Bool.{false≢true}
use Rattle.std.proofs.lemmas.Map.Keys.{IsDistinct-tail, IsDistinct-head}
use Rattle.ovn_base.specs.lists.Among.{Among}
use Rattle.ovn_base.specs.lists.Once.{EachOnce}
use Rattle.ovn_base.proofs.AmongLaws.{among_none, among_cases}
use Rattle.flow_table.specs.declared.flow.Flow.{Flow}
use Rattle.tuple_space.specs.Bunches.{Bunch, IsFalling, flows_under, promised_under, AreBunches}
use Rattle.tuple_space.proofs.BunchLaws.{key_exact, key_own}
use Rattle.tuple_space.proofs.MapLaws.{turned}

-- keys that are distinct stand once
no_such : (es : List (List ℕ × Bunch)) (k : List ℕ) → AllByRecursion (λ (v : List ℕ). pointwise nat_eq k v ≡ false) (keys_of es) → Among k (keys_of es) → ⊥
no_such [] k h m = among_none k m
no_such (e ∷ es) k h m =
    elim (among_cases k e.0 (keys_of es) m) [
      | inl s ↦ false≢true (sym h.0 ∙ subst (λ x. pointwise nat_eq k x ≡ true) s (key_own k))
      | inr n ↦ no_such es k h.1 n
    ]

pub distinct_keys : (es : List (List ℕ × Bunch)) → IsDistinct (pointwise nat_eq) (keys_of es) → EachOnce (keys_of es)
distinct_keys [] h = tt
distinct_keys (e ∷ es) h = (
  no_such es e.0 (IsDistinct-head (pointwise nat_eq) e.0 (keys_of es) h),
  distinct_keys es (IsDistinct-tail (pointwise nat_eq) e.0 (keys_of es) h),
)

module _ (key : List ℕ) (es after : List (List ℕ × Bunch)) (gone : lookup (pointwise nat_eq key) after ≡ None) (others : KeepsOthers (pointwise nat_eq) (pointwise nat_eq key) es after) where
  -- what is found after a bucket was taken away
  cleared_at : (k : List ℕ) → lookup (pointwise nat_eq k) after ≡ cond (pointwise nat_eq key k) None (lookup (pointwise nat_eq k) es)
  unfolding KeepsOthers
  cleared_at k = by (pointwise nat_eq key k) refl
    where
      by : (b : Bool) → pointwise nat_eq key k ≡ b → lookup (pointwise nat_eq k) after ≡ cond b None (lookup (pointwise nat_eq k) es)
      by true e = subst (λ q. lookup (pointwise nat_eq q) after ≡ None) (key_exact key k e) gone
      by false e =
          others (pointwise nat_eq k)
          (λ x y h. ap (λ z. pointwise nat_eq z y) (key_exact k x h))
          (λ v h. subst (λ z. pointwise nat_eq k z ≡ false) (key_exact key v h) (turned (pointwise nat_eq) key_exact key_own key k e))

  module _ (idle : (flows_under es key ≡ []) × (promised_under es key ≡ 0)) where
    pub cleared_under : (k : List ℕ) → flows_under after k ≡ flows_under es k
    cleared_under k = ap (λ o. option_map_or (λ (b : Bunch). b.flows) o []) (cleared_at k) ∙ by (pointwise nat_eq key k) refl
      where
        by : (b : Bool) → pointwise nat_eq key k ≡ b → option_map_or (λ (x : Bunch). x.flows) (cond b None (lookup (pointwise nat_eq k) es)) [] ≡ flows_under es k
        by true e = subst (λ q. [] ≡ flows_under es q) (key_exact key k e) (sym idle.0)
        by false e = refl

    pub cleared_promised : (k : List ℕ) → promised_under after k ≡ promised_under es k
    cleared_promised k = ap (λ o. option_map_or (λ (b : Bunch). b.promised) o 0) (cleared_at k) ∙ by (pointwise nat_eq key k) refl
      where
        by : (b : Bool) → pointwise nat_eq key k ≡ b → option_map_or (λ (x : Bunch). x.promised) (cond b None (lookup (pointwise nat_eq k) es)) 0 ≡ promised_under es k
        by true e = subst (λ q. 0 ≡ promised_under es q) (key_exact key k e) (sym idle.1)
        by false e = refl

    pub cleared_law : AreBunches es → IsDistinct (pointwise nat_eq) (keys_of after) → AreBunches after
    cleared_law law distinct = record {
      keys = distinct_keys after distinct;
      once = λ k. subst (λ (l : List Flow). EachOnce l) (sym (cleared_under k)) (law.once k);
      falls = λ k. subst (λ (l : List Flow). IsFalling l) (sym (cleared_under k)) (law.falls k);
    }
