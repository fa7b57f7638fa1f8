-- The first fault of a text: the token at which no text goes on, which fault that token shows, and the place that it names.
use Rattle.std.specs.Prelude.{◌≡◌, ◌⊎◌, ◌<◌, ◌+◌, ℕ, zero, suc, Bool, true, false, ◌&&◌, ◌||◌, if◌then◌else◌, List, [], ◌∷◌, Option, Some, None}
use Rattle.match_language.specs.declared.expr.Expr.{Expr}
use Rattle.match_language.specs.declared.expr.Rel.{Rel}
use Rattle.match_language.specs.declared.fault.MatchFault.{MatchFault}
use Rattle.match_language.specs.declared.fault.MatchFault.TheVariants as fault
use Rattle.match_language.specs.declared.field.Direction.{Direction}
use Rattle.match_language.specs.declared.field.Field.{Field}
use Rattle.match_language.specs.declared.token.Token.{Token}
use Rattle.match_language.specs.declared.token.Token.TheVariants as t
use Rattle.match_language.specs.Input.{Input, token, next, quoted, skip}
use Rattle.match_language.specs.Relations.{is_equality}
use Rattle.match_language.specs.Values.{is_constant_token, mask_of}
use Rattle.match_language.specs.Grammar.{SpellsExpr}

-- ---- the tokens of a text

-- behind n tokens
abbrev pub after : ℕ → Input → Input
after zero i = i
after (suc n) i = after n (next i)

-- the same token, and of strings the same bytes
abbrev pub Same : Input → Input → Type 0
Same i j = (token i ≡ token j) × (token i ≡ t.Text → quoted i ≡ quoted j)

-- the first n tokens are the same
abbrev pub Shares : ℕ → Input → Input → Type 0
Shares zero i j = Unit {0}
Shares (suc n) i j = Same i j × Shares n (next i) (next j)

-- the first n tokens, the last of them first, and then others
abbrev pub tokens_seen : ℕ → Input → List Token → List Token
tokens_seen zero i others = others
tokens_seen (suc n) i others = tokens_seen n (next i) (token i ∷ others)

-- Some text that spells an expression begins with the first n tokens of this one.
pub record IsAlive (way : Direction) (text : List ℕ) (n : ℕ) : Type 0 where
  pub other : List ℕ
  pub expr : Expr
  pub shares : Shares n (skip 0 text) (skip 0 other)
  pub spells : SpellsExpr way other expr

-- ---- what stands behind the tokens before, the last of them first

-- a constant, a string, a set or a group
abbrev pub is_value : Token → Bool
is_value t.Text = true
is_value (t.Set name) = true
is_value (t.Group name) = true
is_value c = is_constant_token c

-- with values, commas and slashes left out they end in an open brace
abbrev pub in_braces : List Token → Bool
in_braces [] = false
in_braces (t.OpenBrace ∷ others) = true
in_braces (t.Comma ∷ others) = in_braces others
in_braces (t.Slash ∷ others) = in_braces others
in_braces (c ∷ others) = is_value c && in_braces others

-- what the grammar has behind a token
pub data Wanted : Type 0 where
  wants_term : Wanted
  wants_relation : Wanted
  wants_value : Wanted
  wants_mask : Wanted
  wants_more : Wanted
  wants_operator : Wanted

-- A term at the text's begin and behind `!`, `(` and an operator; a relation behind a field; one value or a brace behind a
-- relation; a mask behind a slash; more values in braces; else an operator, a `)` or the end.
abbrev pub wanted : List Token → Wanted
wanted [] = wants_term
wanted (t.Bang ∷ others) = wants_term
wanted (t.Open ∷ others) = wants_term
wanted (t.And ∷ others) = wants_term
wanted (t.Or ∷ others) = wants_term
wanted (t.Field f ∷ others) = wants_relation
wanted (t.Relation r ∷ others) = wants_value
wanted (t.Slash ∷ others) = wants_mask
wanted (c ∷ others) = if in_braces (c ∷ others) then wants_more else wants_operator

-- ---- which fault a token shows

abbrev pub is_open_brace : Token → Bool
is_open_brace t.OpenBrace = true
is_open_brace _ = false

-- a constant that doesn't stand there, or another token that doesn't
abbrev pub misplaced : Bool → ℕ → MatchFault
misplaced true place = fault.BadConstant place
misplaced false place = fault.Syntax place

-- The fault that the token shows where this is wanted: no token; a word that is no field of the rule's direction where a term
-- begins, or one level too many there; a value, or a mask, that doesn't stand there; the operator that isn't the one of its list;
-- else a text that can't go on so.
abbrev pub fault_by : Wanted → Token → ℕ → MatchFault
fault_by w t.Bad place = fault.Token place
fault_by wants_term t.Unknown place = fault.UnknownField place
fault_by wants_term (t.Field f) place = fault.UnknownField place
fault_by wants_term t.Bang place = fault.TooDeep place
fault_by wants_term t.Open place = fault.TooDeep place
fault_by wants_value c place = misplaced (is_value c || is_open_brace c) place
fault_by wants_more c place = misplaced (is_value c) place
fault_by wants_mask c place = misplaced (is_constant_token c) place
fault_by wants_operator t.And place = fault.MixedAndOr place
fault_by wants_operator t.Or place = fault.MixedAndOr place
fault_by w c place = fault.Syntax place

-- ---- which place the fault names

-- the field and the relation of the comparison that is begun
abbrev pub compared : List Token → Option (Field × Rel)
compared [] = None
compared (t.Relation r ∷ t.Field f ∷ others) = Some (f, r)
compared (c ∷ others) = compared others

abbrev pub is_some : Option ℕ → Bool
is_some (Some n) = true
is_some None = false

-- the mask stands behind such a constant, where masks stand
abbrev pub takes_mask : Option (Field × Rel) → Token → Token → Bool
takes_mask (Some x) k m = is_equality x.1 && is_some (mask_of x.0 k m)
takes_mask None k m = false

-- a mask that stands there, so that it is the constant before the slash that doesn't
abbrev pub is_outside : List Token → Token → Bool
is_outside (t.Slash ∷ k ∷ others) m = takes_mask (compared others) k m
is_outside _ m = false

-- how many tokens before the one that shows the fault it is named: at the constant whose bits are outside of the mask
abbrev pub back : List Token → Token → ℕ
back others c = if is_outside others c then 2 else 0

-- ---- the first fault

abbrev is_field_first : List Token → Bool
is_field_first (t.Field f ∷ others) = true
is_field_first _ = false

abbrev is_lone_constant : List Token → Bool
is_lone_constant (k ∷ t.Relation r ∷ others) = is_constant_token k
is_lone_constant _ = false

-- The last token is a relation behind a field, or a slash behind a constant behind a relation. Whether a value, or a mask, can
-- follow there hangs on the field and the relation; where none can, the fault is still named at the token behind.
abbrev pub is_passed : List Token → Bool
is_passed (t.Relation r ∷ others) = is_field_first others
is_passed (t.Slash ∷ others) = is_lone_constant others
is_passed _ = false

-- the token of the index, and its place
abbrev pub token_at : List ℕ → ℕ → Token
token_at text index = token (after index (skip 0 text))

abbrev pub place_at : List ℕ → ℕ → ℕ
place_at text index = (after index (skip 0 text)).place

-- the tokens before it, the last of them first
abbrev pub before : List ℕ → ℕ → List Token
before text index = tokens_seen index (skip 0 text) []

-- it is one of those that are passed over
abbrev pub is_passed_at : List ℕ → ℕ → Bool
is_passed_at text index = is_passed (before text (suc index))

-- No text that spells an expression begins with the tokens up to that of the index, and one begins with those before it; tokens
-- that are passed over are left out. The fault is the one that this token shows, at the place of the token that it names.
pub record IsFirstFault (way : Direction) (text : List ℕ) (f : MatchFault) : Type 0 where
  pub index : ℕ
  pub dead : IsAlive way text (suc index) → ⊥
  pub settled : is_passed_at text index ≡ false
  pub alive : (j : ℕ) → j < index → (is_passed_at text j ≡ true) ⊎ IsAlive way text (suc j)
  pub named : ℕ
  pub at : index ≡ named + back (before text index) (token_at text index)
  pub is : f ≡ fault_by (wanted (before text index)) (token_at text index) (place_at text named)
