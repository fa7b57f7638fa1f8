-- The text of an expression within another, by the cases of the expression.
use Rattle.std.specs.Prelude.{◌≡◌, ℕ, Bool, true, false, if◌then◌else◌, List, [], ◌∷◌, ◌++◌, map, codes}
use Rattle.std.proofs.Common.{ap, ◌∙◌}
use Rattle.logical_flows.proofs.Tops.{one_const, one_is, one_not, one_all, one_any, one_compare, any_const, any_is, any_not, any_all, any_any, any_compare}
use Rattle.match_language.proofs.ExprTexts.{spells_const, spells_is, spells_not, spells_all, spells_any, spells_compare, joined_is, joined_not, joined_any, joined_compare}
use Rattle.match_language.specs.Spelling.{text_of, spelling, inner_spelling, comparison_text, joined_text}
use Rattle.match_language.specs.Tables.{predicate_name}
use Rattle.match_language.specs.declared.expr.Expr.{Expr}
use Rattle.match_language.specs.declared.expr.Expr.TheVariants as ex
use Rattle.match_language.specs.declared.expr.Rel.{Rel}
use Rattle.match_language.specs.declared.expr.Value.{Value}
use Rattle.match_language.specs.declared.field.Field.{Field}
use Rattle.match_language.specs.declared.field.Predicate.{Predicate}

alone : (x : Expr) → (text_of x).is_joined ≡ false → inner_spelling x ≡ spelling x
unfolding inner_spelling spelling
alone x h = ap (λ (b : Bool). if b then 40 ∷ ((text_of x).bare ++ (41 ∷ [])) else (text_of x).bare) h

within : (x : Expr) → (text_of x).is_joined ≡ true → inner_spelling x ≡ 40 ∷ (spelling x ++ (41 ∷ []))
unfolding inner_spelling spelling
within x h = ap (λ (b : Bool). if b then 40 ∷ ((text_of x).bare ++ (41 ∷ [])) else (text_of x).bare) h

pub inner_is : (p : Predicate) → inner_spelling (ex.Is p) ≡ predicate_name p
inner_is p = alone (ex.Is p) (joined_is p) ∙ spells_is p

pub inner_not : (x : Expr) → inner_spelling (ex.Not x) ≡ 33 ∷ inner_spelling x
inner_not x = alone (ex.Not x) (joined_not x) ∙ spells_not x

pub inner_compare : (f : Field) (r : Rel) (vs : List Value) → inner_spelling (ex.Compare f r vs) ≡ comparison_text f r vs
inner_compare f r vs = alone (ex.Compare f r vs) (joined_compare f r vs) ∙ spells_compare f r vs

pub inner_any : (xs : List Expr) → inner_spelling (ex.Any xs) ≡ 40 ∷ (joined_text (codes " || ") (map inner_spelling xs) ++ (41 ∷ []))
inner_any xs = within (ex.Any xs) (joined_any xs) ∙ ap (λ (t : List ℕ). 40 ∷ (t ++ (41 ∷ []))) (spells_any xs)

-- what rewrites the text of a flow
pub ruleset texts = (
  one_const,
  one_is,
  one_not,
  one_all,
  one_any,
  one_compare,
  any_const,
  any_is,
  any_not,
  any_all,
  any_any,
  any_compare,
  spells_const,
  spells_is,
  spells_not,
  spells_all,
  spells_any,
  spells_compare,
  inner_is,
  inner_not,
  inner_compare,
  inner_any,
)
