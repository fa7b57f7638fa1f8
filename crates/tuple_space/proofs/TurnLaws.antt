-- Laws of turns in order.
use Rattle.std.specs.Prelude.{◌≡◌, ◌<◌, ◌⊎◌, ℕ, List, [], ◌∷◌, ◌++◌, Option, Some, None, is_some, slice_get, take, drop, remove, length, zero, suc, true, refl}
use Rattle.std.proofs.Common.{get_or}
use mathlib.Core.Path.{sym, ap, subst, ◌∙◌}
use mathlib.Core.Logic.{inl, inr}
use native.Mathlib.Omega.{arith}
use Rattle.std.proofs.lemmas.Bool.{false≢true}
use Rattle.std.proofs.lemmas.Option.{none-some, same_Some}
use Rattle.std.proofs.lemmas.List.{append-nil}
use Rattle.ovn_base.specs.lists.Among.{Among, here, there}
use Rattle.ovn_base.proofs.AmongLaws.{among_none, among_cases, get_among}
use Rattle.tuple_space.specs.declared.turn.Turn.{Turn}
use Rattle.tuple_space.specs.Turns.{IsUnder, IsByBound, HasTurn}
use Rattle.tuple_space.proofs.RankLaws.{ranked_from, ranked_insert, ranked_without, ranked_at, among_insert}

-- bounds in a row
pub under_through : (p r : ℕ) (t u : Turn) → IsUnder p r t → IsUnder t.priority t.rank u → IsUnder p r u
under_through p r t u a b = grind arith

-- where a bound doesn't hold, the pair is greater
pub under_other : (p r : ℕ) (t u : Turn) → p ≡ u.priority → r ≡ u.rank → ¬ IsUnder p r t → IsUnder t.priority t.rank u
under_other p r t u e f n = grind arith

-- behind a bound that doesn't hold none does
pub not_under : (p r : ℕ) (turns : List Turn) (i : ℕ) (d t : Turn) → i < length turns → t ≡ get_or turns i d → ¬ IsUnder p r t → IsByBound turns → (u : Turn) → Among u (drop i turns) → ¬ IsUnder p r u
not_under p r turns i d t l is n order u m h =
    elim (ranked_from (λ x y. IsUnder y.priority y.rank x) turns i d t l is order u m) [ inl e ↦ n (subst (λ x. IsUnder p r x) e h) | inr b ↦ n (under_through p r u t h b) ]

-- each bound holds for nothing
pub zero_under : (t : Turn) → IsUnder 0 0 t
zero_under t = by t.priority refl
  where
    by : (n : ℕ) → t.priority ≡ n → IsUnder 0 0 t
    by zero e = inr (sym e, omega arith)
    by (suc n) e = inl (omega (arith, e))

-- a turn that was found
pub turn_found : (turns : List Turn) (number : ℕ) (o : Option ℕ) → ((i : ℕ) → o ≡ Some i → (t : Turn) × (slice_get turns i ≡ Some t) × (t.number ≡ number)) → is_some o ≡ true → HasTurn turns number 0 0
turn_found turns number None found h = absurd (false≢true h)
turn_found turns number (Some i) found h = let r = found i refl in (r.0, get_among i r.0 turns r.1, r.2, zero_under r.0)

-- one turn more, whose bound is the least
pub order_push : (turns : List Turn) (t : Turn) → t.priority ≡ 0 → t.rank ≡ 0 → IsByBound turns → IsByBound (turns ++ t ∷ [])
order_push turns t p r h =
    ranked_insert (λ x y. IsUnder y.priority y.rank x) turns [] t (subst (λ l. IsByBound l) (sym (append-nil turns)) h)
    (λ u m. subst (λ n. IsUnder n t.rank u) (sym p) (subst (λ n. IsUnder 0 n u) (sym r) (zero_under u)))
    (λ u m. absurd (among_none u m))

-- around the turn at an index
split_at : (turns : List Turn) (i : ℕ) (t : Turn) → slice_get turns i ≡ Some t → turns ≡ take i turns ++ t ∷ drop (suc i) turns
split_at [] i t h = absurd (none-some t h)
split_at (u ∷ us) zero t h = λ j. same_Some u t h j ∷ us
split_at (u ∷ us) (suc i) t h = let r = split_at us i t h in λ j. u ∷ r j

pub other_left : (xs ys : List Turn) (t u : Turn) → Among u (xs ++ t ∷ ys) → (u ≡ t) ⊎ Among u (xs ++ ys)
other_left [] ys t u m = among_cases u t ys m
other_left (x ∷ xs) ys t u m =
    elim (among_cases u x (xs ++ t ∷ ys) m) [
      | inl e ↦ inr (subst (λ z. Among z (x ∷ (xs ++ ys))) (sym e) here)
      | inr n ↦ elim (other_left xs ys t u n) [ inl e ↦ inl e | inr a ↦ inr (there a) ]
    ]

-- a turn that is taken out, and put in again with a greater bound
module _ (turns : List Turn) (i : ℕ) (t u : Turn) (at : slice_get turns i ≡ Some t) (number : t.number ≡ u.number) (more : ¬ IsUnder u.priority u.rank t) (place : ℕ) where
  pub raised_has : HasTurn (take place (remove turns i) ++ u ∷ drop place (remove turns i)) u.number u.priority u.rank
  raised_has = (u, (among_insert (remove turns i) place u u).1 (inl refl), refl, inr (refl, omega arith))

  pub raised_kept : (n p r : ℕ) → HasTurn turns n p r → HasTurn (take place (remove turns i) ++ u ∷ drop place (remove turns i)) n p r
  raised_kept n p r h =
      elim (other_left (take i turns) (drop (suc i) turns) t h.0 (subst (λ l. Among h.0 l) (split_at turns i t at) h.1)) [
        | inl e ↦ (u, (among_insert (remove turns i) place u u).1 (inl refl), sym number ∙ ap (λ (x : Turn). x.number) (sym e) ∙ h.2, under_through p r t u (subst (λ x. IsUnder p r x) e h.3) (under_other u.priority u.rank t u refl refl more))
        | inr m ↦ (h.0, (among_insert (remove turns i) place u h.0).1 (inr m), h.2, h.3)
      ]

  pub raised_order : IsByBound turns → ((x : Turn) → Among x (take place (remove turns i)) → IsUnder u.priority u.rank x) → (IsByBound (remove turns i) → (x : Turn) → Among x (drop place (remove turns i)) → ¬ IsUnder u.priority u.rank x) → IsByBound (take place (remove turns i) ++ u ∷ drop place (remove turns i))
  raised_order h before behind =
      let left : IsByBound (remove turns i) = ranked_without (λ x y. IsUnder y.priority y.rank x) (take i turns) (drop (suc i) turns) t (subst (λ l. IsByBound l) (split_at turns i t at) h) in
      ranked_at (λ x y. IsUnder y.priority y.rank x) (remove turns i) place u left before (λ x m. under_other u.priority u.rank x u refl refl (behind left x m))
