-- What an expression is at its top, by the cases of the expression.
use Rattle.std.specs.Prelude.{◌≡◌, Bool, true, false, List}
use Rattle.std.proofs.Common.{ap, ◌∙◌, sym}
use Rattle.match_language.specs.declared.expr.Expr.{Expr, Expr-F, fold-roll-Expr}
use Rattle.match_language.specs.declared.expr.Expr.TheVariants as ex
use Rattle.match_language.specs.declared.expr.Value.{Value}
use Rattle.match_language.specs.declared.expr.Rel.{Rel}
use Rattle.match_language.specs.declared.field.Field.{Field}
use Rattle.match_language.specs.declared.field.Predicate.{Predicate}
use Rattle.logical_flows.specs.FlowText.{Top, top_step, top_of, plain_top}

top_const : (b : Bool) → top_of (ex.Const b) ≡ record { is_one = b; is_any = false }
unfolding top_of
top_const b = ap top_of (sym (ex.rolls-Const b)) ∙ fold-roll-Expr Top top_step (Expr-F.Const b)

top_is : (p : Predicate) → top_of (ex.Is p) ≡ plain_top
unfolding top_of
top_is p = ap top_of (sym (ex.rolls-Is p)) ∙ fold-roll-Expr Top top_step (Expr-F.Is p)

top_not : (x : Expr) → top_of (ex.Not x) ≡ plain_top
unfolding top_of
top_not x = ap top_of (sym (ex.rolls-Not x)) ∙ fold-roll-Expr Top top_step (Expr-F.Not x)

top_all : (xs : List Expr) → top_of (ex.All xs) ≡ plain_top
unfolding top_of
top_all xs = ap top_of (sym (ex.rolls-All xs)) ∙ fold-roll-Expr Top top_step (Expr-F.All xs)

top_any : (xs : List Expr) → top_of (ex.Any xs) ≡ record { is_one = false; is_any = true }
unfolding top_of
top_any xs = ap top_of (sym (ex.rolls-Any xs)) ∙ fold-roll-Expr Top top_step (Expr-F.Any xs)

top_compare : (f : Field) (r : Rel) (xs : List Value) → top_of (ex.Compare f r xs) ≡ plain_top
unfolding top_of
top_compare f r xs = ap top_of (sym (ex.rolls-Compare f r xs)) ∙ fold-roll-Expr Top top_step (Expr-F.Compare f r xs)

pub one_const : (b : Bool) → (top_of (ex.Const b)).is_one ≡ b
one_const b = ap (λ (x : Top). x.is_one) (top_const b)

pub one_is : (p : Predicate) → (top_of (ex.Is p)).is_one ≡ false
one_is p = ap (λ (x : Top). x.is_one) (top_is p)

pub one_not : (x : Expr) → (top_of (ex.Not x)).is_one ≡ false
one_not x = ap (λ (x : Top). x.is_one) (top_not x)

pub one_all : (xs : List Expr) → (top_of (ex.All xs)).is_one ≡ false
one_all xs = ap (λ (x : Top). x.is_one) (top_all xs)

pub one_any : (xs : List Expr) → (top_of (ex.Any xs)).is_one ≡ false
one_any xs = ap (λ (x : Top). x.is_one) (top_any xs)

pub one_compare : (f : Field) (r : Rel) (xs : List Value) → (top_of (ex.Compare f r xs)).is_one ≡ false
one_compare f r xs = ap (λ (x : Top). x.is_one) (top_compare f r xs)

pub any_const : (b : Bool) → (top_of (ex.Const b)).is_any ≡ false
any_const b = ap (λ (x : Top). x.is_any) (top_const b)

pub any_is : (p : Predicate) → (top_of (ex.Is p)).is_any ≡ false
any_is p = ap (λ (x : Top). x.is_any) (top_is p)

pub any_not : (x : Expr) → (top_of (ex.Not x)).is_any ≡ false
any_not x = ap (λ (x : Top). x.is_any) (top_not x)

pub any_all : (xs : List Expr) → (top_of (ex.All xs)).is_any ≡ false
any_all xs = ap (λ (x : Top). x.is_any) (top_all xs)

pub any_any : (xs : List Expr) → (top_of (ex.Any xs)).is_any ≡ true
any_any xs = ap (λ (x : Top). x.is_any) (top_any xs)

pub any_compare : (f : Field) (r : Rel) (xs : List Value) → (top_of (ex.Compare f r xs)).is_any ≡ false
any_compare f r xs = ap (λ (x : Top). x.is_any) (top_compare f r xs)
