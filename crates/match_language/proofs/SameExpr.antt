-- Expressions are equal exactly where they are the same.
use Rattle.std.specs.Prelude.{◌≡◌, Bool, true, false, ◌&&◌, List, [], ◌∷◌, map}
use Rattle.std.specs.Cmp.{first_so, second_so, booleans_Decides}
use Rattle.std.specs.Cmp.Lexicographic.{pointwise}
use Rattle.std.proofs.Common.{refl, ap, ◌∙◌, sym, subst}
use Rattle.std.proofs.Math.Bool.{beq}
use mathlib.Core.Bool.{false≢true}
use denote.Hole.Compared.{compared, compared_is}
use Rattle.ovn_base.proofs.Exact.{pointwise_exact}
use Rattle.match_language.specs.declared.expr.Expr.{Expr, Expr-F, out-Expr, roll-Expr, out-roll-Expr, roll-out-Expr, map-Expr, ind-Expr}
use Rattle.match_language.specs.declared.expr.Expr.TheBlock as block
use Rattle.match_language.specs.declared.expr.Value.{Value}
use Rattle.match_language.specs.declared.expr.Rel.{Rel}
use Rattle.match_language.specs.declared.field.Field.{Field}
use Rattle.match_language.specs.declared.field.Predicate.{Predicate}
use Rattle.match_language.specs.contracts.expr.ExprPartialEq.TheImpl as of_expr
use Rattle.match_language.specs.contracts.expr.ExprPartialEq.TheImpl.Laws as laws
use Rattle.match_language.specs.contracts.expr.ValuePartialEq.TheImpl as of_value
use Rattle.match_language.specs.contracts.expr.RelPartialEq.TheImpl as of_rel
use Rattle.match_language.specs.contracts.field.FieldPartialEq.TheImpl as of_field
use Rattle.match_language.specs.contracts.field.PredicatePartialEq.TheImpl as of_predicate

-- the derived test
abbrev pub same : Expr → Expr → Bool
same a b = compared block.the_members block.the_family block.the_depth Bool true of_expr.the_step block.member-Expr a b

-- two variants, by a test of what they hold
abbrev same_layer : Expr-F Expr → Expr-F Expr → Bool
same_layer (Expr-F.Const b) (Expr-F.Const c) = beq b c
same_layer (Expr-F.Is p) (Expr-F.Is q) = of_predicate.ghosts.eq p q
same_layer (Expr-F.Not x) (Expr-F.Not y) = same x y
same_layer (Expr-F.All xs) (Expr-F.All ys) = pointwise same xs ys
same_layer (Expr-F.Any xs) (Expr-F.Any ys) = pointwise same xs ys
same_layer (Expr-F.Compare f r vs) (Expr-F.Compare g s ws) = of_field.ghosts.eq f g && (of_rel.ghosts.eq r s && pointwise of_value.ghosts.eq vs ws)
same_layer _ _ = false

-- the test of two values is that of what they hold
step_is : (x y : Expr-F Expr) (a b : Expr) → out-Expr a ≡ x → out-Expr b ≡ y → of_expr.the_step (compared block.the_members block.the_family block.the_depth Bool true of_expr.the_step) block.member-Expr a b ≡ same_layer x y
step_is (Expr-F.Const p) (Expr-F.Const q) a b e g = rw (e, g) refl
step_is (Expr-F.Is p) (Expr-F.Is q) a b e g = rw (e, g) refl
step_is (Expr-F.Not x) (Expr-F.Not y) a b e g = rw (e, g) refl
step_is (Expr-F.All xs) (Expr-F.All ys) a b e g = rw (e, g) refl
step_is (Expr-F.Any xs) (Expr-F.Any ys) a b e g = rw (e, g) refl
step_is (Expr-F.Compare f r vs) (Expr-F.Compare h s ws) a b e g = rw (e, g) refl
step_is _ _ a b e g = rw (e, g) refl

same_is : (a b : Expr) (x y : Expr-F Expr) → out-Expr a ≡ x → out-Expr b ≡ y → same a b ≡ same_layer x y
same_is a b x y e g =
    compared_is block.the_members block.the_family block.the_depth Bool true of_expr.the_step laws.local block.member-Expr a b ∙ step_is x y a b e g

-- an expression that is equal to no other
abbrev Exact : Expr → Type 0
Exact a = (b : Expr) → same a b ≡ true → a ≡ b

abbrev Such : Type 0
Such = (a : Expr) × Exact a

abbrev first : Such → Expr
first e = e.0

list_exact : (es : List Such) (ws : List Expr) → pointwise same (map first es) ws ≡ true → map first es ≡ ws
list_exact [] [] h = refl
list_exact [] (w ∷ ws) h = absurd (false≢true h)
list_exact (e ∷ es) [] h = absurd (false≢true h)
list_exact (e ∷ es) (w ∷ ws) h =
    let a = e.1 w (first_so (same e.0 w) (pointwise same (map first es) ws) h) in
    let b = list_exact es ws (second_so (same e.0 w) (pointwise same (map first es) ws) h) in
    λ i. a i ∷ b i

module _ (predicate : (p q : Predicate) → of_predicate.ghosts.eq p q ≡ true → p ≡ q) (field : (f g : Field) → of_field.ghosts.eq f g ≡ true → f ≡ g) (rel : (r s : Rel) → of_rel.ghosts.eq r s ≡ true → r ≡ s) (value : (v w : Value) → of_value.ghosts.eq v w ≡ true → v ≡ w) where
  layer_exact : (y : Expr-F Such) (z : Expr-F Expr) → same_layer (map-Expr Such Expr first y) z ≡ true → map-Expr Such Expr first y ≡ z
  layer_exact (Expr-F.Const b) (Expr-F.Const c) h = ap (λ (x : Bool). Expr-F.Const x) ((booleans_Decides b c).0 h)
  layer_exact (Expr-F.Is p) (Expr-F.Is q) h = ap (λ (x : Predicate). Expr-F.Is x) (predicate p q h)
  layer_exact (Expr-F.Not e) (Expr-F.Not w) h = ap (λ (x : Expr). Expr-F.Not x) (e.1 w h)
  layer_exact (Expr-F.All es) (Expr-F.All ws) h = ap (λ (x : List Expr). Expr-F.All x) (list_exact es ws h)
  layer_exact (Expr-F.Any es) (Expr-F.Any ws) h = ap (λ (x : List Expr). Expr-F.Any x) (list_exact es ws h)
  layer_exact (Expr-F.Compare f r vs) (Expr-F.Compare g s ws) h =
      let rest = second_so (of_field.ghosts.eq f g) (of_rel.ghosts.eq r s && pointwise of_value.ghosts.eq vs ws) h in
      let a = field f g (first_so (of_field.ghosts.eq f g) (of_rel.ghosts.eq r s && pointwise of_value.ghosts.eq vs ws) h) in
      let b = rel r s (first_so (of_rel.ghosts.eq r s) (pointwise of_value.ghosts.eq vs ws) rest) in
      let c = pointwise_exact of_value.ghosts.eq value vs ws (second_so (of_rel.ghosts.eq r s) (pointwise of_value.ghosts.eq vs ws) rest) in
      λ i. Expr-F.Compare (a i) (b i) (c i)
  layer_exact _ _ h = absurd (false≢true h)

  rolled : (y : Expr-F Such) → Exact (roll-Expr (map-Expr Such Expr first y))
  rolled y b h =
      let x = map-Expr Such Expr first y in
      let told = sym (same_is (roll-Expr x) b x (out-Expr b) (out-roll-Expr x) refl) ∙ h in
      ap roll-Expr (layer_exact y (out-Expr b) told) ∙ roll-out-Expr b

  -- equal expressions are the same
  pub exact : (a : Expr) → Exact a
  exact = ind-Expr Exact (λ x y e. subst (λ (z : Expr-F Expr). Exact (roll-Expr z)) e (rolled y))
