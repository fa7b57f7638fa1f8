-- Which expressions have a text.
use Rattle.std.specs.Prelude.{◌≡◌, ◌≤◌, ℕ, suc, Bool, true, false, not, ◌==◌, List, [], ◌∷◌, bit_and}
use Rattle.std.specs.List.{list_all}
use Rattle.ovn_base.specs.names.NameText.{IsName}
use Rattle.match_language.specs.declared.expr.Expr.{Expr}
use Rattle.match_language.specs.declared.expr.Expr.TheVariants as e
use Rattle.match_language.specs.declared.expr.Value.{Value}
use Rattle.match_language.specs.declared.expr.Value.TheVariants as v
use Rattle.match_language.specs.declared.expr.Rel.{Rel}
use Rattle.match_language.specs.declared.field.Field.{Field}
use Rattle.match_language.specs.declared.field.Predicate.{Predicate}
use Rattle.match_language.specs.declared.field.Direction.{Direction}
use Rattle.match_language.specs.Tables.{field_max, is_port_field, is_address, stands}
use Rattle.match_language.specs.Relations.{is_equality}

-- The field and the relation take the value: a number of the field, under a mask after == and != alone; a text without a quote
-- or a group after == and != of a port; a set after == and != of an address.
pub data TakesValue : Field → Rel → Value → Type 0 where
  takes_number : (f : Field) (r : Rel) (n : ℕ) → is_port_field f ≡ false → n ≤ field_max f → TakesValue f r (v.Number n (field_max f))
  takes_masked : (f : Field) (r : Rel) (n m : ℕ) → is_equality r ≡ true → is_port_field f ≡ false → n ≤ field_max f → m ≤ field_max f → bit_and n m ≡ n → TakesValue f r (v.Number n m)
  takes_port : (f : Field) (r : Rel) (text : List ℕ) → is_port_field f ≡ true → is_equality r ≡ true → list_all (λ b. not (b == 34)) text ≡ true → TakesValue f r (v.Port text)
  takes_group : (f : Field) (r : Rel) (name : List ℕ) → is_port_field f ≡ true → is_equality r ≡ true → IsName name → TakesValue f r (v.Group name)
  takes_set : (f : Field) (r : Rel) (name : List ℕ) → is_address f ≡ true → is_equality r ≡ true → IsName name → TakesValue f r (v.Set name)

-- one or more values that they take
pub data TakesEach : Field → Rel → List Value → Type 0 where
  takes_last : (f : Field) (r : Rel) (x : Value) → TakesValue f r x → TakesEach f r (x ∷ [])
  takes_more : (f : Field) (r : Rel) (x : Value) (xs : List Value) → TakesValue f r x → TakesEach f r xs → TakesEach f r (x ∷ xs)

-- one value that they take, or several after == and !=
pub data TakesAll : Field → Rel → List Value → Type 0 where
  takes_one : (f : Field) (r : Rel) (x : Value) → TakesValue f r x → TakesAll f r (x ∷ [])
  takes_several : (f : Field) (r : Rel) (x y : Value) (xs : List Value) → is_equality r ≡ true → TakesValue f r x → TakesEach f r (y ∷ xs) → TakesAll f r (x ∷ y ∷ xs)

mutual
  -- Within another expression of a rule of this direction it takes at most n levels of negations and parentheses.
  pub data Nests : Direction → ℕ → Expr → Type 0 where
    nests_constant : (way : Direction) (n : ℕ) (b : Bool) → Nests way n (e.Const b)
    nests_predicate : (way : Direction) (n : ℕ) (p : Predicate) → Nests way n (e.Is p)
    nests_compared : (way : Direction) (n : ℕ) (f : Field) (r : Rel) (xs : List Value) → stands way f ≡ true → TakesAll f r xs → Nests way n (e.Compare f r xs)
    nests_negated : (way : Direction) (n : ℕ) (x : Expr) → Nests way n x → Nests way (suc n) (e.Not x)
    nests_all : (way : Direction) (n : ℕ) (x : Expr) (xs : List Expr) → Nests way n x → AllNest way n xs → Nests way (suc n) (e.All (x ∷ xs))
    nests_any : (way : Direction) (n : ℕ) (x : Expr) (xs : List Expr) → Nests way n x → AllNest way n xs → Nests way (suc n) (e.Any (x ∷ xs))

  -- one or more of them
  pub data AllNest : Direction → ℕ → List Expr → Type 0 where
    nests_last : (way : Direction) (n : ℕ) (x : Expr) → Nests way n x → AllNest way n (x ∷ [])
    nests_before : (way : Direction) (n : ℕ) (x : Expr) (xs : List Expr) → Nests way n x → AllNest way n xs → AllNest way n (x ∷ xs)

-- Alone it takes at most n levels: a joined one stands in no parentheses.
pub data FitsLevels : Direction → ℕ → Expr → Type 0 where
  fits_one : (way : Direction) (n : ℕ) (x : Expr) → Nests way n x → FitsLevels way n x
  fits_all : (way : Direction) (n : ℕ) (x : Expr) (xs : List Expr) → Nests way n x → AllNest way n xs → FitsLevels way n (e.All (x ∷ xs))
  fits_any : (way : Direction) (n : ℕ) (x : Expr) (xs : List Expr) → Nests way n x → AllNest way n xs → FitsLevels way n (e.Any (x ∷ xs))
