-- What each kind of expression means.
use Rattle.std.specs.Prelude.{◌≡◌, Bool, true, false, not, List, [], ◌∷◌, map}
use Rattle.std.proofs.Common.{refl, sym, ap, ◌∙◌}
use Rattle.match_language.specs.declared.expr.Expr.{Expr, Expr-F}
use Rattle.match_language.specs.declared.expr.Expr.TheVariants as ex
use Rattle.match_language.specs.declared.expr.Rel.{Rel}
use Rattle.match_language.specs.declared.expr.Value.{Value}
use Rattle.match_language.specs.declared.field.Field.{Field}
use Rattle.match_language.specs.declared.field.Predicate.{Predicate}
use Rattle.match_cubes.specs.Inwards.{Meaning, turn, turned_rel, joins, predicate, meaning}
use Rattle.match_cubes.proofs.Relations.{meaning_roll}

each_at : {X : Type 0} (h : Expr → Bool → X) (positive : Bool) (es : List Expr) → map (λ x. x positive) (map h es) ≡ map (λ e. h e positive) es
each_at h positive [] = refl
each_at {X} h positive (e ∷ es) = ap (λ (xs : List X). h e positive ∷ xs) (each_at h positive es)

module _ {X : Type 0} (m : Meaning X) (positive : Bool) where
  pub meaning_const : (b : Bool) → meaning m (ex.Const b) positive ≡ m.constant (turn positive b)
  meaning_const b = ap (λ (e : Expr). meaning m e positive) (sym (ex.rolls-Const b)) ∙ meaning_roll m (Expr-F.Const b) positive

  pub meaning_is : (p : Predicate) → meaning m (ex.Is p) positive ≡ predicate m p positive
  meaning_is p = ap (λ (e : Expr). meaning m e positive) (sym (ex.rolls-Is p)) ∙ meaning_roll m (Expr-F.Is p) positive

  pub meaning_not : (x : Expr) → meaning m (ex.Not x) positive ≡ meaning m x (not positive)
  meaning_not x = ap (λ (e : Expr). meaning m e positive) (sym (ex.rolls-Not x)) ∙ meaning_roll m (Expr-F.Not x) positive

  pub meaning_all : (es : List Expr) → meaning m (ex.All es) positive ≡ joins m (turn positive true) (map (λ e. meaning m e positive) es)
  meaning_all es =
      ap (λ (e : Expr). meaning m e positive) (sym (ex.rolls-All es)) ∙ meaning_roll m (Expr-F.All es) positive
      ∙ ap (joins m (turn positive true)) (each_at (meaning m) positive es)

  pub meaning_any : (es : List Expr) → meaning m (ex.Any es) positive ≡ joins m (turn positive false) (map (λ e. meaning m e positive) es)
  meaning_any es =
      ap (λ (e : Expr). meaning m e positive) (sym (ex.rolls-Any es)) ∙ meaning_roll m (Expr-F.Any es) positive
      ∙ ap (joins m (turn positive false)) (each_at (meaning m) positive es)

  pub meaning_compare : (f : Field) (r : Rel) (vs : List Value) → meaning m (ex.Compare f r vs) positive ≡ m.compare f (turned_rel positive r) vs
  meaning_compare f r vs = ap (λ (e : Expr). meaning m e positive) (sym (ex.rolls-Compare f r vs)) ∙ meaning_roll m (Expr-F.Compare f r vs) positive
