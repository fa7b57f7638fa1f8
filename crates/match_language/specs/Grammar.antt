-- The grammar: which expression stands between two places of a text.
use Rattle.std.specs.Prelude.{◌≡◌, ℕ, suc, Bool, true, false, List, [], ◌∷◌, Some, bit_and}
use Rattle.ovn_base.specs.declared.limits.TheConstants.{MAX_DEPTH}
use Rattle.match_language.specs.declared.expr.Expr.{Expr}
use Rattle.match_language.specs.declared.expr.Expr.TheVariants as e
use Rattle.match_language.specs.declared.expr.Value.{Value}
use Rattle.match_language.specs.declared.expr.Value.TheVariants as v
use Rattle.match_language.specs.declared.expr.Rel.{Rel}
use Rattle.match_language.specs.declared.field.Field.{Field}
use Rattle.match_language.specs.declared.field.Predicate.{Predicate}
use Rattle.match_language.specs.declared.field.Direction.{Direction}
use Rattle.match_language.specs.declared.token.Token.{Token}
use Rattle.match_language.specs.declared.token.Token.TheVariants as t
use Rattle.match_language.specs.Tables.{field_max, is_port_field, is_address, stands}
use Rattle.match_language.specs.Relations.{is_equality}
use Rattle.match_language.specs.Values.{constant_of, mask_of}
use Rattle.match_language.specs.Input.{Input, token, next, quoted, skip}

-- a mask may follow here
abbrev pub is_slash : Token → Bool
is_slash t.Slash = true
is_slash _ = false

-- From the token at i up to that at j stands one value of the field, as the relation takes it. Masks, strings, groups and sets
-- follow == and != alone; strings and groups stand with ports, sets with addresses.
pub data IsOne : Field → Rel → Value → Input → Input → Type 0 where
  unmasked : (f : Field) (r : Rel) (n : ℕ) (i : Input) → constant_of f (token i) ≡ Some n → is_slash (token (next i)) ≡ false
      → IsOne f r (v.Number n (field_max f)) i (next i)
  masked : (f : Field) (r : Rel) (n m : ℕ) (i : Input) → is_equality r ≡ true → constant_of f (token i) ≡ Some n → token (next i) ≡ t.Slash
      → mask_of f (token i) (token (next (next i))) ≡ Some m → bit_and n m ≡ n → IsOne f r (v.Number n m) i (next (next (next i)))
  port : (f : Field) (r : Rel) (i : Input) → is_port_field f ≡ true → is_equality r ≡ true → token i ≡ t.Text → IsOne f r (v.Port (quoted i)) i (next i)
  of_group : (f : Field) (r : Rel) (name : List ℕ) (i : Input) → is_port_field f ≡ true → is_equality r ≡ true → token i ≡ t.Group name → IsOne f r (v.Group name) i (next i)
  of_set : (f : Field) (r : Rel) (name : List ℕ) (i : Input) → is_address f ≡ true → is_equality r ≡ true → token i ≡ t.Set name → IsOne f r (v.Set name) i (next i)

-- one or more values, with a comma or none between
pub data IsList : Field → Rel → List Value → Input → Input → Type 0 where
  last_value : (f : Field) (r : Rel) (x : Value) (i j : Input) → IsOne f r x i j → IsList f r (x ∷ []) i j
  with_comma : (f : Field) (r : Rel) (x : Value) (xs : List Value) (i j k : Input) → IsOne f r x i j → token j ≡ t.Comma → IsList f r xs (next j) k → IsList f r (x ∷ xs) i k
  without_comma : (f : Field) (r : Rel) (x : Value) (xs : List Value) (i j k : Input) → IsOne f r x i j → IsList f r xs j k → IsList f r (x ∷ xs) i k

-- one value, or a list of them in braces, which follows == and != alone
pub data IsValues : Field → Rel → List Value → Input → Input → Type 0 where
  one_value : (f : Field) (r : Rel) (x : Value) (i j : Input) → IsOne f r x i j → IsValues f r (x ∷ []) i j
  in_braces : (f : Field) (r : Rel) (xs : List Value) (i j : Input) → is_equality r ≡ true → token i ≡ t.OpenBrace → IsList f r xs (next i) j → token j ≡ t.CloseBrace
      → IsValues f r xs i (next j)

mutual
  -- From the token at i up to that at j stands the term x of a rule of this direction, with at most n levels of negations and
  -- parentheses.
  pub data IsTerm : Direction → ℕ → Expr → Input → Input → Type 0 where
    constant : (way : Direction) (n : ℕ) (b : Bool) (i : Input) → token i ≡ t.Bit b → IsTerm way n (e.Const b) i (next i)
    predicate : (way : Direction) (n : ℕ) (p : Predicate) (i : Input) → token i ≡ t.Predicate p → IsTerm way n (e.Is p) i (next i)
    compared : (way : Direction) (n : ℕ) (f : Field) (r : Rel) (xs : List Value) (i j : Input) → token i ≡ t.Field f → stands way f ≡ true → token (next i) ≡ t.Relation r
        → IsValues f r xs (next (next i)) j → IsTerm way n (e.Compare f r xs) i j
    negated : (way : Direction) (n : ℕ) (x : Expr) (i j : Input) → token i ≡ t.Bang → IsTerm way n x (next i) j → IsTerm way (suc n) (e.Not x) i j
    grouped : (way : Direction) (n : ℕ) (x : Expr) (i j : Input) → token i ≡ t.Open → IsExpr way n x (next i) j → token j ≡ t.Close → IsTerm way (suc n) x i (next j)

  -- a term, or terms joined by && alone, or terms joined by || alone
  pub data IsExpr : Direction → ℕ → Expr → Input → Input → Type 0 where
    alone : (way : Direction) (n : ℕ) (x : Expr) (i j : Input) → IsTerm way n x i j → IsExpr way n x i j
    all_of : (way : Direction) (n : ℕ) (x : Expr) (xs : List Expr) (i j k : Input) → IsTerm way n x i j → token j ≡ t.And → IsJoined way n t.And xs (next j) k
        → IsExpr way n (e.All (x ∷ xs)) i k
    any_of : (way : Direction) (n : ℕ) (x : Expr) (xs : List Expr) (i j k : Input) → IsTerm way n x i j → token j ≡ t.Or → IsJoined way n t.Or xs (next j) k
        → IsExpr way n (e.Any (x ∷ xs)) i k

  -- one or more terms with the operator between them
  pub data IsJoined : Direction → ℕ → Token → List Expr → Input → Input → Type 0 where
    last_term : (way : Direction) (n : ℕ) (op : Token) (x : Expr) (i j : Input) → IsTerm way n x i j → IsJoined way n op (x ∷ []) i j
    before_others : (way : Direction) (n : ℕ) (op : Token) (x : Expr) (xs : List Expr) (i j k : Input) → IsTerm way n x i j → token j ≡ op → IsJoined way n op xs (next j) k
        → IsJoined way n op (x ∷ xs) i k

-- The whole text spells the expression, in a rule of this direction.
pub record SpellsExpr (way : Direction) (text : List ℕ) (x : Expr) : Type 0 where
  pub end : Input
  pub body : IsExpr way MAX_DEPTH x (skip 0 text) end
  pub whole : token end ≡ t.End
