-- A match that a rule on what leaves can have, and that names no port of exit, is one for every rule.
use Rattle.std.specs.Prelude.{◌≡◌, ◌||◌, ℕ, Bool, true, false, List, ◌∷◌, refl}
use Rattle.std.specs.List.{list_any}
use Rattle.std.proofs.lemmas.Bool.{true≢false}
use mathlib.Core.Path.{sym, ◌∙◌}
use Rattle.match_language.specs.declared.expr.Expr.{Expr}
use Rattle.match_language.specs.declared.field.Direction.{Direction}
use Rattle.match_language.specs.declared.field.Direction.TheVariants.{FromLport}
use Rattle.match_language.specs.declared.field.Field.{Field}
use Rattle.match_language.specs.declared.field.Field.TheVariants as field
use Rattle.match_language.specs.Nesting.{Nests, AllNest, FitsLevels}
use Rattle.match_language.specs.Nesting.Nests.{nests_constant, nests_predicate, nests_compared, nests_negated, nests_all, nests_any}
use Rattle.match_language.specs.Nesting.AllNest.{nests_last, nests_before}
use Rattle.match_language.specs.Nesting.FitsLevels.{fits_one, fits_all, fits_any}
use Rattle.match_language.specs.Tables.{stands}
use Rattle.nb_edits.specs.Directions.{is_outport, names_outport}
use Rattle.nb_edits.proofs.Outports.{outport_not, outport_all, outport_any, outport_compare}

stands_too : (f : Field) → is_outport f ≡ false → stands FromLport f ≡ true
stands_too field.Outport h = absurd (true≢false h)
stands_too _ h = refl

neither : (a b : Bool) → (a || b) ≡ false → (a ≡ false) × (b ≡ false)
neither true b h = absurd (true≢false h)
neither false b h = (refl, h)

mutual
  nests_too : (way : Direction) (n : ℕ) (x : Expr) → Nests way n x → names_outport x ≡ false → Nests FromLport n x
  nests_too _ _ _ (nests_constant way n b) none = nests_constant FromLport n b
  nests_too _ _ _ (nests_predicate way n p) none = nests_predicate FromLport n p
  nests_too _ _ _ (nests_compared way n f r xs stood h) none = nests_compared FromLport n f r xs (stands_too f (sym (outport_compare f r xs) ∙ none)) h
  nests_too _ _ _ (nests_negated way n x h) none = nests_negated FromLport n x (nests_too way n x h (sym (outport_not x) ∙ none))
  nests_too _ _ _ (nests_all way n x xs h hs) none =
      let each = neither (names_outport x) (list_any names_outport xs) (sym (outport_all (x ∷ xs)) ∙ none) in
      nests_all FromLport n x xs (nests_too way n x h each.0) (all_too way n xs hs each.1)
  nests_too _ _ _ (nests_any way n x xs h hs) none =
      let each = neither (names_outport x) (list_any names_outport xs) (sym (outport_any (x ∷ xs)) ∙ none) in
      nests_any FromLport n x xs (nests_too way n x h each.0) (all_too way n xs hs each.1)

  all_too : (way : Direction) (n : ℕ) (xs : List Expr) → AllNest way n xs → list_any names_outport xs ≡ false → AllNest FromLport n xs
  all_too _ _ _ (nests_last way n x h) none = nests_last FromLport n x (nests_too way n x h (neither (names_outport x) false none).0)
  all_too _ _ _ (nests_before way n x xs h hs) none =
      let each = neither (names_outport x) (list_any names_outport xs) none in
      nests_before FromLport n x xs (nests_too way n x h each.0) (all_too way n xs hs each.1)

pub fits_too : (way : Direction) (n : ℕ) (x : Expr) → FitsLevels way n x → names_outport x ≡ false → FitsLevels FromLport n x
fits_too _ _ _ (fits_one way n x h) none = fits_one FromLport n x (nests_too way n x h none)
fits_too _ _ _ (fits_all way n x xs h hs) none =
    let each = neither (names_outport x) (list_any names_outport xs) (sym (outport_all (x ∷ xs)) ∙ none) in
    fits_all FromLport n x xs (nests_too way n x h each.0) (all_too way n xs hs each.1)
fits_too _ _ _ (fits_any way n x xs h hs) none =
    let each = neither (names_outport x) (list_any names_outport xs) (sym (outport_any (x ∷ xs)) ∙ none) in
    fits_any FromLport n x xs (nests_too way n x h each.0) (all_too way n xs hs each.1)
