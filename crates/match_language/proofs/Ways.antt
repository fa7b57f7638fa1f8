-- What fits in a rule of any direction fits in a to-lport rule.
use Rattle.std.specs.Prelude.{◌≡◌, ℕ, true, List}
use Rattle.std.proofs.Common.{refl}
use Rattle.match_language.specs.declared.expr.Expr.{Expr}
use Rattle.match_language.specs.declared.field.Field.{Field}
use Rattle.match_language.specs.declared.field.Direction.{Direction}
use Rattle.match_language.specs.declared.field.Direction.TheVariants as d
use Rattle.match_language.specs.Tables.{stands}
use Rattle.match_language.specs.Nesting.{Nests, AllNest, FitsLevels}
use Rattle.match_language.specs.Nesting.Nests.{nests_constant, nests_predicate, nests_compared, nests_negated, nests_all, nests_any}
use Rattle.match_language.specs.Nesting.AllNest.{nests_last, nests_before}
use Rattle.match_language.specs.Nesting.FitsLevels.{fits_one, fits_all, fits_any}

stands_to : (f : Field) → stands d.ToLport f ≡ true
stands_to f = refl

mutual
  nests_to : (way : Direction) (n : ℕ) (x : Expr) → Nests way n x → Nests d.ToLport n x
  nests_to _ _ _ (nests_constant way n b) = nests_constant d.ToLport n b
  nests_to _ _ _ (nests_predicate way n p) = nests_predicate d.ToLport n p
  nests_to _ _ _ (nests_compared way n f r xs stood h) = nests_compared d.ToLport n f r xs (stands_to f) h
  nests_to _ _ _ (nests_negated way n x h) = nests_negated d.ToLport n x (nests_to way n x h)
  nests_to _ _ _ (nests_all way n x xs h hs) = nests_all d.ToLport n x xs (nests_to way n x h) (all_to way n xs hs)
  nests_to _ _ _ (nests_any way n x xs h hs) = nests_any d.ToLport n x xs (nests_to way n x h) (all_to way n xs hs)

  all_to : (way : Direction) (n : ℕ) (xs : List Expr) → AllNest way n xs → AllNest d.ToLport n xs
  all_to _ _ _ (nests_last way n x h) = nests_last d.ToLport n x (nests_to way n x h)
  all_to _ _ _ (nests_before way n x xs h hs) = nests_before d.ToLport n x xs (nests_to way n x h) (all_to way n xs hs)

pub fits_to : (way : Direction) (n : ℕ) (x : Expr) → FitsLevels way n x → FitsLevels d.ToLport n x
fits_to _ _ _ (fits_one way n x h) = fits_one d.ToLport n x (nests_to way n x h)
fits_to _ _ _ (fits_all way n x xs h hs) = fits_all d.ToLport n x xs (nests_to way n x h) (all_to way n xs hs)
fits_to _ _ _ (fits_any way n x xs h hs) = fits_any d.ToLport n x xs (nests_to way n x h) (all_to way n xs hs)
