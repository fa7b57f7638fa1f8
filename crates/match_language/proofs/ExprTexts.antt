-- The text of an expression, by the cases of the expression.
use Rattle.std.specs.Prelude.{◌≡◌, ℕ, Bool, true, false, List, [], ◌∷◌, ◌++◌, map, codes, Result, Ok, Err, OnOk}
use Rattle.std.proofs.Common.{refl, ap, ◌∙◌, sym, append_assoc}
use Rattle.match_language.specs.declared.expr.Expr.{Expr, Expr-F, fold-roll-Expr}
use Rattle.match_language.specs.declared.expr.Expr.TheVariants as ex
use Rattle.match_language.specs.declared.expr.Value.{Value}
use Rattle.match_language.specs.declared.expr.Rel.{Rel}
use Rattle.match_language.specs.declared.field.Field.{Field}
use Rattle.match_language.specs.declared.field.Predicate.{Predicate}
use Rattle.match_language.specs.Tables.{predicate_name}
use Rattle.match_language.specs.Spelling.{Text, step, text_of, spelling, inner_spelling, inner, whole, joined, joined_text, bit_text, comparison_text}

text_const : (b : Bool) → text_of (ex.Const b) ≡ whole (bit_text b)
unfolding text_of
text_const b = ap text_of (sym (ex.rolls-Const b)) ∙ fold-roll-Expr Text step (Expr-F.Const b)

text_is : (p : Predicate) → text_of (ex.Is p) ≡ whole (predicate_name p)
unfolding text_of
text_is p = ap text_of (sym (ex.rolls-Is p)) ∙ fold-roll-Expr Text step (Expr-F.Is p)

text_not : (x : Expr) → text_of (ex.Not x) ≡ whole (33 ∷ inner (text_of x))
unfolding text_of
text_not x = ap text_of (sym (ex.rolls-Not x)) ∙ fold-roll-Expr Text step (Expr-F.Not x)

pub text_all : (xs : List Expr) → text_of (ex.All xs) ≡ joined (codes " && ") (map text_of xs)
unfolding text_of
text_all xs = ap text_of (sym (ex.rolls-All xs)) ∙ fold-roll-Expr Text step (Expr-F.All xs)

pub text_any : (xs : List Expr) → text_of (ex.Any xs) ≡ joined (codes " || ") (map text_of xs)
unfolding text_of
text_any xs = ap text_of (sym (ex.rolls-Any xs)) ∙ fold-roll-Expr Text step (Expr-F.Any xs)

text_compare : (f : Field) (r : Rel) (xs : List Value) → text_of (ex.Compare f r xs) ≡ whole (comparison_text f r xs)
unfolding text_of
text_compare f r xs = ap text_of (sym (ex.rolls-Compare f r xs)) ∙ fold-roll-Expr Text step (Expr-F.Compare f r xs)

inners : (xs : List Expr) → map inner (map text_of xs) ≡ map inner_spelling xs
unfolding inner_spelling
inners [] = refl
inners (x ∷ xs) = ap (λ (ys : List (List ℕ)). inner (text_of x) ∷ ys) (inners xs)

pub spells_const : (b : Bool) → spelling (ex.Const b) ≡ bit_text b
unfolding spelling
spells_const b = ap (λ (x : Text). x.bare) (text_const b)

pub spells_is : (p : Predicate) → spelling (ex.Is p) ≡ predicate_name p
unfolding spelling
spells_is p = ap (λ (x : Text). x.bare) (text_is p)

pub spells_not : (x : Expr) → spelling (ex.Not x) ≡ 33 ∷ inner_spelling x
unfolding spelling inner_spelling
spells_not x = ap (λ (x : Text). x.bare) (text_not x)

pub spells_all : (xs : List Expr) → spelling (ex.All xs) ≡ joined_text (codes " && ") (map inner_spelling xs)
unfolding spelling
spells_all xs = ap (λ (x : Text). x.bare) (text_all xs) ∙ ap (joined_text (codes " && ")) (inners xs)

pub spells_any : (xs : List Expr) → spelling (ex.Any xs) ≡ joined_text (codes " || ") (map inner_spelling xs)
unfolding spelling
spells_any xs = ap (λ (x : Text). x.bare) (text_any xs) ∙ ap (joined_text (codes " || ")) (inners xs)

pub spells_compare : (f : Field) (r : Rel) (xs : List Value) → spelling (ex.Compare f r xs) ≡ comparison_text f r xs
unfolding spelling
spells_compare f r xs = ap (λ (x : Text). x.bare) (text_compare f r xs)

pub joined_const : (b : Bool) → (text_of (ex.Const b)).is_joined ≡ false
joined_const b = ap (λ (x : Text). x.is_joined) (text_const b)

pub joined_is : (p : Predicate) → (text_of (ex.Is p)).is_joined ≡ false
joined_is p = ap (λ (x : Text). x.is_joined) (text_is p)

pub joined_not : (x : Expr) → (text_of (ex.Not x)).is_joined ≡ false
joined_not x = ap (λ (x : Text). x.is_joined) (text_not x)

pub joined_all : (xs : List Expr) → (text_of (ex.All xs)).is_joined ≡ true
joined_all xs = ap (λ (x : Text). x.is_joined) (text_all xs)

pub joined_any : (xs : List Expr) → (text_of (ex.Any xs)).is_joined ≡ true
joined_any xs = ap (λ (x : Text). x.is_joined) (text_any xs)

pub joined_compare : (f : Field) (r : Rel) (xs : List Value) → (text_of (ex.Compare f r xs)).is_joined ≡ false
joined_compare f r xs = ap (λ (x : Text). x.is_joined) (text_compare f r xs)

-- what is written after a `!` is the text of the negation
pub not_written : {A E : Type 0} (r : Result A E) (new pushed old : List ℕ) (x y term : Expr) → OnOk r (new ≡ pushed ++ inner_spelling y) → y ≡ term → pushed ≡ old ++ 33 ∷ [] → x ≡ ex.Not term → OnOk r (new ≡ old ++ spelling x)
not_written (Ok a) new pushed old x y term h same bang is =
    h ∙ ap (λ (w : List ℕ). w ++ inner_spelling y) bang ∙ append_assoc old (33 ∷ []) (inner_spelling y)
    ∙ ap (λ (z : Expr). old ++ 33 ∷ inner_spelling z) same ∙ ap (λ (w : List ℕ). old ++ w) (sym (spells_not term)) ∙ ap (λ (z : Expr). old ++ spelling z) (sym is)
not_written (Err e) new pushed old x y term h same bang is = tt
