-- Reading a text from left to right: the expression and the place behind it, or the first fault.
use Rattle.std.specs.Prelude.{ℕ, zero, suc, ◌≡◌, Bool, true, false, not, ◌&&◌, if◌then◌else◌, ◌==◌, List, [], ◌∷◌, ◌++◌, Option, Some, None, Result, Ok, Err, bit_and}
use Rattle.ovn_base.specs.declared.limits.TheConstants.{MAX_DEPTH}
use Rattle.match_language.specs.declared.expr.Expr.{Expr}
use Rattle.match_language.specs.declared.expr.Expr.TheVariants as e
use Rattle.match_language.specs.declared.expr.Value.{Value}
use Rattle.match_language.specs.declared.expr.Value.TheVariants as v
use Rattle.match_language.specs.declared.expr.Rel.{Rel}
use Rattle.match_language.specs.declared.fault.MatchFault.{MatchFault}
use Rattle.match_language.specs.declared.fault.MatchFault.TheVariants as fault
use Rattle.match_language.specs.declared.fault.ParseFault.{ParseFault}
use Rattle.match_language.specs.declared.fault.ParseFault.TheVariants as pf
use Rattle.match_language.specs.declared.field.Field.{Field}
use Rattle.match_language.specs.declared.field.Direction.{Direction}
use Rattle.match_language.specs.declared.token.Token.{Token}
use Rattle.match_language.specs.declared.token.Token.TheVariants as t
use Rattle.match_language.specs.Tables.{field_max, is_port_field, is_address, stands}
use Rattle.match_language.specs.Relations.{is_equality}
use Rattle.match_language.specs.Values.{is_constant_token, constant_of, mask_of}
use Rattle.match_language.specs.Input.{Input, token, next, quoted, skip, left}

abbrev pub Read : Type 0 → Type 0
Read A = Result (A × Input) MatchFault

infixl 10 ◌>>=◌
abbrev pub ◌>>=◌ : {A B : Type 0} → Read A → (A × Input → Read B) → Read B
(Ok x) >>= f = f x
(Err e) >>= f = Err e

-- what a function that reads ensures: what reading gives, unless memory ran out
abbrev pub ReadsAs : {A : Type 0} → Read A → Result A ParseFault → Input → Type 0
ReadsAs read (Ok a) new = read ≡ Ok (a, new)
ReadsAs read (Err pf.Memory) new = Unit {0}
ReadsAs read (Err (pf.Bad f)) new = read ≡ Err f

-- the fault of a token that can't stand where it does
abbrev pub unexpected : Token → ℕ → MatchFault
unexpected t.Bad place = fault.Token place
unexpected _ place = fault.Syntax place

-- ---- comparisons

abbrev pub relation_by : Token → Input → Read Rel
relation_by (t.Relation r) i = Ok (r, next i)
relation_by other i = Err (unexpected other i.place)

unfoldable pub relation : Input → Read Rel
relation i = relation_by (token i) i

-- A number under its mask, whose constant stands at the place: it has no bit outside the mask.
abbrev pub masked_value : ℕ → ℕ → Option ℕ → Input → Read Value
masked_value n place (Some m) i = if bit_and n m == n then Ok (v.Number n m, next i) else Err (fault.BadConstant place)
masked_value n place None i = Err (fault.BadConstant i.place)

-- the mask behind the constant k, of number n
abbrev pub mask_by : Field → Rel → Token → ℕ → ℕ → Token → Input → Read Value
mask_by f r k n place m i =
    if is_constant_token m then (if is_equality r then masked_value n place (mask_of f k m) i else Err (fault.BadConstant i.place))
    else Err (unexpected m i.place)

unfoldable pub mask : Field → Rel → Token → ℕ → ℕ → Input → Read Value
mask f r k n place i = mask_by f r k n place (token i) i

abbrev pub after_constant : Field → Rel → Token → ℕ → ℕ → Token → Input → Read Value
after_constant f r k n place t.Slash i = mask f r k n place (next i)
after_constant f r k n place _ i = Ok (v.Number n (field_max f), i)

abbrev pub number_by : Field → Rel → Token → Option ℕ → Input → Read Value
number_by f r k (Some n) i = after_constant f r k n i.place (token (next i)) (next i)
number_by f r k None i = Err (fault.BadConstant i.place)

-- a constant, and a mask or none
unfoldable pub number : Field → Rel → Token → Input → Read Value
number f r k i = number_by f r k (constant_of f k) i

-- a value that stands there where it may
abbrev pub where_taken : Bool → Value → Input → Read Value
where_taken taken x i = if taken then Ok (x, next i) else Err (fault.BadConstant i.place)

abbrev pub one_by : Field → Rel → Token → Input → Read Value
one_by f r t.Text i = where_taken (is_port_field f && is_equality r) (v.Port (quoted i)) i
one_by f r (t.Group name) i = where_taken (is_port_field f && is_equality r) (v.Group name) i
one_by f r (t.Set name) i = where_taken (is_address f && is_equality r) (v.Set name) i
one_by f r k i = if is_constant_token k then number f r k i else Err (unexpected k i.place)

unfoldable pub one : Field → Rel → Input → Read Value
one f r i = one_by f r (token i) i

abbrev pub closes : Token → Bool
closes t.CloseBrace = true
closes _ = false

abbrev pub past_comma : Token → Input → Input
past_comma t.Comma i = next i
past_comma _ i = i

-- The values behind those before, up to the brace. The number bounds the turns, each of which takes a token.
unfoldable pub more_values : Field → Rel → ℕ → List Value → Input → Read (List Value)
more_values f r zero xs i = Err (fault.Syntax i.place)
more_values f r (suc n) xs i =
    if closes (token i) then Ok (xs, next i)
    else (one f r (past_comma (token i) i) >>= λ x. more_values f r n (xs ++ x.0 ∷ []) x.1)

-- the values behind a brace
unfoldable pub several : Field → Rel → Input → Read (List Value)
several f r i = one f r i >>= λ x. more_values f r (left x.1) (x.0 ∷ []) x.1

abbrev pub opens : Token → Bool
opens t.OpenBrace = true
opens _ = false

unfoldable pub values : Field → Rel → Input → Read (List Value)
values f r i =
    if opens (token i) then (if is_equality r then several f r (next i) else Err (fault.BadConstant i.place))
    else (one f r i >>= λ x. Ok (x.0 ∷ [], x.1))

-- the relation and the values behind a field
unfoldable pub comparison : Field → Input → Read Expr
comparison f i = relation i >>= λ rel. values f rel.0 rel.1 >>= λ xs. Ok (e.Compare f rel.0 xs.0, xs.1)

-- ---- terms

-- a term that holds no other
abbrev pub leaf_by : Direction → Token → Input → Read Expr
leaf_by way (t.Bit b) i = Ok (e.Const b, next i)
leaf_by way (t.Predicate p) i = Ok (e.Is p, next i)
leaf_by way (t.Field f) i = if stands way f then comparison f (next i) else Err (fault.UnknownField i.place)
leaf_by way t.Unknown i = Err (fault.UnknownField i.place)
leaf_by way other i = Err (unexpected other i.place)

unfoldable pub leaf : Direction → Input → Read Expr
leaf way i = leaf_by way (token i) i

abbrev pub is_operator : Bool → Token → Bool
is_operator true t.And = true
is_operator false t.Or = true
is_operator _ _ = false

-- The terms after an operator, behind those before it. The number bounds the turns, each of which takes a token.
unfoldable pub more : (Input → Read Expr) → Bool → ℕ → List Expr → Input → Read (List Expr)
more term is_and zero xs i = Err (fault.Syntax i.place)
more term is_and (suc n) xs i =
    term (next i) >>= λ x.
    (if is_operator is_and (token x.1) then more term is_and n (xs ++ x.0 ∷ []) x.1
    else (if is_operator (not is_and) (token x.1) then Err (fault.MixedAndOr x.1.place) else Ok (xs ++ x.0 ∷ [], x.1)))

unfoldable pub joined_terms : (Input → Read Expr) → Bool → Expr → Input → Read (List Expr)
joined_terms term is_and first i = more term is_and (left i) (first ∷ []) i

abbrev pub after_first : (Input → Read Expr) → Expr → Token → Input → Read Expr
after_first term first t.And i = joined_terms term true first i >>= λ x. Ok (e.All x.0, x.1)
after_first term first t.Or i = joined_terms term false first i >>= λ x. Ok (e.Any x.0, x.1)
after_first term first _ i = Ok (first, i)

-- a term, or terms that one operator joins
unfoldable pub expression : (Input → Read Expr) → Input → Read Expr
expression term i = term i >>= λ x. after_first term x.0 (token x.1) x.1

abbrev pub closed_by : Expr → Token → Input → Read Expr
closed_by x t.Close i = Ok (x, next i)
closed_by x other i = Err (unexpected other i.place)

unfoldable pub group : (Input → Read Expr) → Input → Read Expr
group term i = expression term (next i) >>= λ x. closed_by x.0 (token x.1) x.1

unfoldable pub negation : (Input → Read Expr) → Input → Read Expr
negation term i = term (next i) >>= λ x. Ok (e.Not x.0, x.1)

abbrev pub deep_by : Direction → (Input → Read Expr) → Token → Input → Read Expr
deep_by way term t.Bang i = negation term i
deep_by way term t.Open i = group term i
deep_by way term _ i = leaf way i

-- a term that may open a level
unfoldable pub deep : Direction → (Input → Read Expr) → Input → Read Expr
deep way term i = deep_by way term (token i) i

abbrev pub flat_by : Direction → Token → Input → Read Expr
flat_by way t.Bang i = Err (fault.TooDeep i.place)
flat_by way t.Open i = Err (fault.TooDeep i.place)
flat_by way _ i = leaf way i

-- a term where no level may be opened
unfoldable pub flat : Direction → Input → Read Expr
flat way i = flat_by way (token i) i

-- a term with at most so many levels of negations and parentheses
unfoldable pub term : Direction → ℕ → Input → Read Expr
term way zero i = flat way i
term way (suc levels) i = deep way (term way levels) i

abbrev pub ended_by : Expr → Token → Input → Result Expr MatchFault
ended_by x t.End i = Ok x
ended_by x other i = Err (unexpected other i.place)

abbrev pub ended : Read Expr → Result Expr MatchFault
ended (Ok x) = ended_by x.0 (token x.1) x.1
ended (Err f) = Err f

-- all of the text, with at most 64 levels
unfoldable pub whole : Direction → List ℕ → Result Expr MatchFault
whole way text = ended (expression (term way MAX_DEPTH) (skip 0 text))
