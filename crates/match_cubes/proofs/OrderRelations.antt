-- The alternatives and the width of order relations.
use Rattle.std.specs.Prelude.{◌≡◌, ◌≢◌, ◌≤◌, ◌<◌, ℕ, List}
use Rattle.std.proofs.Common.{refl, arith}
use Rattle.match_language.specs.declared.expr.Rel.{Rel}
use Rattle.match_language.specs.declared.expr.Rel.TheVariants as r
use Rattle.match_language.specs.declared.expr.Value.{Value}
use Rattle.match_language.specs.declared.field.Field.{Field}
use Rattle.match_cubes.specs.Asked.{bit_width}
use Rattle.match_cubes.specs.Points.{Setting}
use Rattle.match_cubes.specs.Cubes.{ordered, alternatives}
use Rattle.match_cubes.specs.Width.{saturated}

pub alternatives_order : (s : Setting) (f : Field) (rel : Rel) (vs : List Value) → rel ≢ r.Eq → rel ≢ r.Ne → alternatives s f rel vs ≡ ordered (bit_width f) rel vs
unfolding alternatives
alternatives_order s f r.Eq vs a b = absurd (a refl)
alternatives_order s f r.Ne vs a b = absurd (b refl)
alternatives_order s f r.Lt vs a b = refl
alternatives_order s f r.Le vs a b = refl
alternatives_order s f r.Gt vs a b = refl
alternatives_order s f r.Ge vs a b = refl

-- a width that is capped is over 65,536 where the match is wider
pub too_wide : (n w : ℕ) → n ≡ saturated w → 65536 < n → 65536 < w
too_wide n w h k = omega arith

pub not_wide : (n w : ℕ) → n ≡ saturated w → n ≤ 65536 → w ≤ 65536
not_wide n w h k = omega arith
