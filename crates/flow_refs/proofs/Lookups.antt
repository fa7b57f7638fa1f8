-- Look-ups by keys that are equal, and by keys that differ.
use Rattle.std.proofs.Common.{◌≡◌, ◌∙◌, refl, sym, ap, Bool, true, false, cond, List, [], ◌∷◌, ◌++◌, Option, Some, None, is_some, length, arith}
use Rattle.std.proofs.lemmas.Bool.{false≢true}
use Rattle.std.specs.Cmp.{IsEquivalence}
use Rattle.std.specs.List.{AllByRecursion, IsDistinct}
use Rattle.std.specs.Map.{keys_of, lookup}
use Rattle.std.specs.Iterator.{Drains, DrainsIf}
use Rattle.std.proofs.lemmas.Map.Keys.{IsDistinct-head}

-- what has no length has no element
pub nil_from_length : {X : Type 0} (xs : List X) → length xs ≡ 0 → xs ≡ []
nil_from_length [] h = refl
nil_from_length (x ∷ xs) h = absurd (omega (arith, h))

-- what isn't there is none
pub none_from : {X : Type 0} (o : Option X) → is_some o ≡ false → o ≡ None
none_from None h = refl
none_from (Some x) h = absurd (false≢true (sym h))

-- what an iterator gave to a call that takes all, and that it gives nothing more
pub drained : {S A : Type 0} (steps : S → Option A → S → Type 0) (s : S) (xs : List A) → DrainsIf steps (Unit {0}) s xs → Drains steps s xs
drained steps s xs d = ((d.2 tt).0, (d.0, d.1, (d.2 tt).1))

-- one more at the end, before others
pub push_more : {X : Type 0} (xs : List X) (x : X) (ys : List X) → (xs ++ x ∷ []) ++ ys ≡ xs ++ x ∷ ys
push_more [] x ys = refl
push_more (z ∷ xs) x ys = ap (λ l. z ∷ l) (push_more xs x ys)

pub append_nil : {X : Type 0} (xs : List X) → xs ++ [] ≡ xs
append_nil [] = refl
append_nil (x ∷ xs) = ap (λ l. x ∷ l) (append_nil xs)

-- all of a list with one more at its end
pub all_push : {X : Type 0} (P : X → Type 0) (xs : List X) (x : X) → AllByRecursion P xs → P x → AllByRecursion P (xs ++ x ∷ [])
all_push P [] x h p = (p, tt)
all_push P (y ∷ ys) x h p = (h.0, all_push P ys x h.1 p)

-- what follows from each follows from all
pub all_on : {X : Type 0} (P Q : X → Type 0) (xs : List X) → ((x : X) → P x → Q x) → AllByRecursion P xs → AllByRecursion Q xs
all_on P Q [] f h = tt
all_on P Q (x ∷ xs) f h = (f x h.0, all_on P Q xs f h.1)

module _ {K X : Type 0} where
  -- no key passes, so none is found
  pub none_found : (test : K → Bool) (es : List (K × X)) → AllByRecursion (λ k. test k ≡ false) (keys_of es) → lookup test es ≡ None
  none_found test [] h = refl
  none_found test (e ∷ es) h = ap (λ b. cond b (Some e.1) (lookup test es)) h.0 ∙ none_found test es h.1

  module _ {eq : K → K → Bool} (laws : IsEquivalence eq) where
    -- equal keys find the same
    pub found_alike : (a b : K) → eq a b ≡ true → (es : List (K × X)) → lookup (eq a) es ≡ lookup (eq b) es
    found_alike a b same [] = refl
    found_alike a b same (e ∷ es) =
        let head = laws.congr a b e.0 same in
        let rest = found_alike a b same es in
        λ i. cond (head i) (Some e.1) (rest i)

    -- a key that is equal to the first is found nowhere behind it
    pub none_behind : (e : K × X) (es : List (K × X)) (q : K) → IsDistinct eq (keys_of (e ∷ es)) → eq e.0 q ≡ true → lookup (eq q) es ≡ None
    none_behind e es q once same = sym (found_alike e.0 q same es) ∙ none_found (eq e.0) es (IsDistinct-head eq e.0 (keys_of es) once)
