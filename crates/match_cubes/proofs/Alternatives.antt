-- Lists of alternatives, of which one is to pass a test.
use Rattle.std.specs.Prelude.{◌≡◌, ◌≤◌, ℕ, ◌+◌, ◌*◌, Bool, true, false, ◌&&◌, ◌||◌, List, [], ◌∷◌, map, flat_map, length}
use Rattle.std.specs.List.{list_any}
use Rattle.std.proofs.Common.{refl, sym, ap, ◌∙◌, arith, length-append}
use Rattle.std.proofs.Math.Bool.{or-false}
use Rattle.std.proofs.lemmas.List.Folds.{list_any-append}
use Rattle.match_cubes.specs.Ternary.{meets}

-- ---- tests

and_zero : (a : Bool) → (a && false) ≡ false
and_zero true = refl
and_zero false = refl

and_or : (a b c : Bool) → ((a && b) || (a && c)) ≡ (a && (b || c))
and_or true b c = refl
and_or false b c = refl

or_self : (c : Bool) → (c || c) ≡ c
or_self true = refl
or_self false = refl

or_and : (a b c : Bool) → ((a && c) || (b && c)) ≡ ((a || b) && c)
or_and true true c = or_self c
or_and true false c = or-false c
or_and false b c = refl

-- one of the images passes where one passes the test of its image
pub any_map : {X Y : Type 0} (p : Y → Bool) (h : X → Y) (xs : List X) → list_any p (map h xs) ≡ list_any (λ x. p (h x)) xs
any_map p h [] = refl
any_map p h (x ∷ xs) = ap (λ (b : Bool). p (h x) || b) (any_map p h xs)

-- the same test, written otherwise
pub any_same : {X : Type 0} (p q : X → Bool) → ((x : X) → p x ≡ q x) → (xs : List X) → list_any p xs ≡ list_any q xs
any_same p q e [] = refl
any_same p q e (x ∷ xs) = ap (λ (b : Bool). b || list_any p xs) (e x) ∙ ap (λ (b : Bool). q x || b) (any_same p q e xs)

-- a test that all share
pub any_and : {X : Type 0} (a : Bool) (p : X → Bool) (xs : List X) → list_any (λ x. a && p x) xs ≡ (a && list_any p xs)
any_and a p [] = sym (and_zero a)
any_and a p (x ∷ xs) = ap (λ (b : Bool). (a && p x) || b) (any_and a p xs) ∙ and_or a (p x) (list_any p xs)

module _ {X : Type 0} (p : X → Bool) (meet : X → X → List X) (met : (x y : X) → list_any p (meet x y) ≡ (p x && p y)) where
  any_meet : (x : X) (ys : List X) → list_any p (flat_map (meet x) ys) ≡ (p x && list_any p ys)
  any_meet x [] = sym (and_zero (p x))
  any_meet x (y ∷ ys) =
      list_any-append p (meet x y) (flat_map (meet x) ys)
      ∙ ap (λ (b : Bool). b || list_any p (flat_map (meet x) ys)) (met x y)
      ∙ ap (λ (b : Bool). (p x && p y) || b) (any_meet x ys)
      ∙ and_or (p x) (p y) (list_any p ys)

  -- one of the meets passes exactly where one of each list does
  pub any_meets : (xs ys : List X) → list_any p (meets meet xs ys) ≡ (list_any p xs && list_any p ys)
  unfolding meets
  any_meets [] ys = refl
  any_meets (x ∷ xs) ys =
      list_any-append p (flat_map (meet x) ys) (flat_map (λ z. flat_map (meet z) ys) xs)
      ∙ ap (λ (b : Bool). b || list_any p (flat_map (λ z. flat_map (meet z) ys) xs)) (any_meet x ys)
      ∙ ap (λ (b : Bool). (p x && list_any p ys) || b) (any_meets xs ys)
      ∙ or_and (p x) (list_any p xs) (list_any p ys)

suc_times : (a b : ℕ) → (1 + a) * b ≡ b + a * b
suc_times a b = grind arith

module _ {X : Type 0} (meet : X → X → List X) (few : (x y : X) → length (meet x y) ≤ 1) where
  few_meet : (x : X) (ys : List X) → length (flat_map (meet x) ys) ≤ length ys
  few_meet x [] = omega arith
  few_meet x (y ∷ ys) = omega (arith, length-append (meet x y) (flat_map (meet x) ys), few x y, few_meet x ys)

  -- there are at most as many meets as pairs
  pub few_meets : (xs ys : List X) → length (meets meet xs ys) ≤ length xs * length ys
  unfolding meets
  few_meets [] ys = omega arith
  few_meets (x ∷ xs) ys =
      omega (arith, length-append (flat_map (meet x) ys) (flat_map (λ z. flat_map (meet z) ys) xs), few_meet x ys, few_meets xs ys, suc_times (length xs) (length ys))
