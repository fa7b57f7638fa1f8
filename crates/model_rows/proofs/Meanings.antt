-- What the matches of the rows mean.
use Rattle.std.specs.Prelude.{◌≡◌, Bool, true, List, [], ◌∷◌}
use Rattle.std.proofs.Common.{sym, ap, ◌∙◌}
use Rattle.match_language.specs.declared.expr.Expr.{Expr, Expr-F, roll-Expr, map-Expr, fold-roll-Expr}
use Rattle.match_language.specs.declared.expr.Expr.TheVariants as ex
use Rattle.match_language.specs.declared.expr.Rel.{Rel}
use Rattle.match_language.specs.declared.expr.Value.{Value}
use Rattle.match_language.specs.declared.field.Field.{Field}
use Rattle.match_language.specs.declared.field.Predicate.{Predicate}
use Rattle.match_cubes.specs.Inwards.{Meaning, layer, predicate, meaning}

-- an expression's meaning is its outermost layer's
meaning_roll : {X : Type 0} (m : Meaning X) (x : Expr-F Expr) → meaning m (roll-Expr x) true ≡ layer m (map-Expr Expr (Bool → X) (meaning m) x) true
unfolding meaning
meaning_roll {X} m x = ap (λ (h : Bool → X). h true) (fold-roll-Expr (Bool → X) (layer m) x)

module _ {X : Type 0} (m : Meaning X) where
  pub meaning_is : (p : Predicate) → meaning m (ex.Is p) true ≡ predicate m p true
  meaning_is p = ap (λ (e : Expr). meaning m e true) (sym (ex.rolls-Is p)) ∙ meaning_roll m (Expr-F.Is p)

  pub meaning_compare : (f : Field) (r : Rel) (vs : List Value) → meaning m (ex.Compare f r vs) true ≡ m.compare f r vs
  meaning_compare f r vs = ap (λ (e : Expr). meaning m e true) (sym (ex.rolls-Compare f r vs)) ∙ meaning_roll m (Expr-F.Compare f r vs)

  -- a comparison and a predicate
  pub meaning_both : (f : Field) (r : Rel) (vs : List Value) (p : Predicate) → meaning m (ex.All (ex.Compare f r vs ∷ ex.Is p ∷ [])) true ≡ m.every (m.compare f r vs ∷ predicate m p true ∷ [])
  meaning_both f r vs p =
      ap (λ (e : Expr). meaning m e true) (sym (ex.rolls-All (ex.Compare f r vs ∷ ex.Is p ∷ [])))
      ∙ meaning_roll m (Expr-F.All (ex.Compare f r vs ∷ ex.Is p ∷ []))
      ∙ (λ i. m.every (meaning_compare f r vs i ∷ meaning_is p i ∷ []))
