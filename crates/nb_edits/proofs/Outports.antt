-- Whether a match names the port of exit, by its parts.
use Rattle.std.specs.Prelude.{◌≡◌, ◌||◌, Bool, false, List, [], ◌∷◌, map}
use Rattle.std.specs.List.{list_any}
use Rattle.std.proofs.Common.{refl, sym, ap, ◌∙◌}
use Rattle.match_language.specs.declared.expr.Expr.{Expr, Expr-F, fold-roll-Expr}
use Rattle.match_language.specs.declared.expr.Expr.TheVariants as ex
use Rattle.match_language.specs.declared.expr.Rel.{Rel}
use Rattle.match_language.specs.declared.expr.Value.{Value}
use Rattle.match_language.specs.declared.field.Field.{Field}
use Rattle.match_language.specs.declared.field.Predicate.{Predicate}
use Rattle.nb_edits.specs.Directions.{is_outport, layer_outport, names_outport}

any_all : (xs : List Expr) → list_any (λ x. x) (map names_outport xs) ≡ list_any names_outport xs
any_all [] = refl
any_all (x ∷ xs) = ap (λ b. names_outport x || b) (any_all xs)

pub outport_const : (b : Bool) → names_outport (ex.Const b) ≡ false
unfolding names_outport
outport_const b = ap names_outport (sym (ex.rolls-Const b)) ∙ fold-roll-Expr Bool layer_outport (Expr-F.Const b)

pub outport_is : (p : Predicate) → names_outport (ex.Is p) ≡ false
unfolding names_outport
outport_is p = ap names_outport (sym (ex.rolls-Is p)) ∙ fold-roll-Expr Bool layer_outport (Expr-F.Is p)

pub outport_not : (x : Expr) → names_outport (ex.Not x) ≡ names_outport x
unfolding names_outport
outport_not x = ap names_outport (sym (ex.rolls-Not x)) ∙ fold-roll-Expr Bool layer_outport (Expr-F.Not x)

pub outport_all : (xs : List Expr) → names_outport (ex.All xs) ≡ list_any names_outport xs
unfolding names_outport
outport_all xs = ap names_outport (sym (ex.rolls-All xs)) ∙ fold-roll-Expr Bool layer_outport (Expr-F.All xs) ∙ any_all xs

pub outport_any : (xs : List Expr) → names_outport (ex.Any xs) ≡ list_any names_outport xs
unfolding names_outport
outport_any xs = ap names_outport (sym (ex.rolls-Any xs)) ∙ fold-roll-Expr Bool layer_outport (Expr-F.Any xs) ∙ any_all xs

pub outport_compare : (f : Field) (r : Rel) (vs : List Value) → names_outport (ex.Compare f r vs) ≡ is_outport f
unfolding names_outport
outport_compare f r vs = ap names_outport (sym (ex.rolls-Compare f r vs)) ∙ fold-roll-Expr Bool layer_outport (Expr-F.Compare f r vs)
