-- A match has the same cubes in two settings where the ports that it names have the same keys in both.
use Rattle.std.specs.Prelude.{◌≡◌, ◌++◌, Bool, true, false, List, [], ◌∷◌, map, flat_map, option_to_list}
use Rattle.std.specs.List.{list_all}
use Rattle.std.proofs.Common.{refl, ap}
use Rattle.std.proofs.lemmas.Bool.{and_parts, false≢true}
use Rattle.ovn_base.specs.declared.name.Name.{Name}
use Rattle.match_language.specs.declared.expr.Expr.{Expr}
use Rattle.match_language.specs.declared.expr.Rel.{Rel}
use Rattle.match_language.specs.declared.expr.Rel.TheVariants as r
use Rattle.match_language.specs.declared.expr.Value.{Value}
use Rattle.match_language.specs.declared.expr.Value.TheVariants as v
use Rattle.match_language.specs.declared.field.Field.{Field}
use Rattle.match_cubes.proofs.Relations.{Zips, zips_none, zips_more, related}
use Rattle.match_cubes.specs.Asked.{bit_width, all_packets}
use Rattle.match_cubes.specs.Cubes.{unlike, alternatives, comparing, meets_with, all_cubes, as_cubes, cubes_in, cubes_of}
use Rattle.match_cubes.specs.Inwards.{are_all}
use Rattle.match_cubes.specs.Points.{Setting, key_bits, points_of, points}
use Rattle.match_cubes.specs.Ternary.{any_bits}

-- lists of which each element is that of the other are one
zipped : {X : Type 0} (xs ys : List X) → Zips (λ a b. a ≡ b) xs ys → xs ≡ ys
zipped [] [] zips_none = refl
zipped (x ∷ xs) (y ∷ ys) (zips_more _ _ _ _ e z) = λ i. e i ∷ zipped xs ys z i
zipped [] (y ∷ ys) z = elim z [ ]
zipped (x ∷ xs) [] z = elim z [ ]

module _ (known : Name → Bool) where
  -- the value is no set, no group and no port but a known one
  abbrev pub is_known : Value → Bool
  is_known (v.Number n m) = true
  is_known (v.Port text) = known text
  is_known (v.Set name) = false
  is_known (v.Group name) = false

  -- the match names known ports alone
  abbrev pub names_known : Expr → Bool
  names_known e = are_all (λ g rel xs. list_all is_known xs) e true

  module _ (s t : Setting) (keys : (q : Name) → known q ≡ true → s.key q ≡ t.key q) where
    value_same : (g : Field) (x : Value) → is_known x ≡ true → points_of s g x ≡ points_of t g x
    value_same g (v.Number n m) ok = refl
    value_same g (v.Port text) ok = ap (λ k. key_bits k ∷ []) (keys text ok)
    value_same g (v.Set name) ok = absurd (false≢true ok)
    value_same g (v.Group name) ok = absurd (false≢true ok)

    points_same : (g : Field) (xs : List Value) → list_all is_known xs ≡ true → points s g xs ≡ points t g xs
    unfolding points
    points_same g [] ok = refl
    points_same g (x ∷ xs) ok =
        let parts = and_parts (is_known x) (list_all is_known xs) ok in
        λ i. value_same g x parts.0 i ++ points_same g xs parts.1 i

    alternatives_same : (g : Field) (rel : Rel) (xs : List Value) → list_all is_known xs ≡ true → alternatives s g rel xs ≡ alternatives t g rel xs
    unfolding alternatives
    alternatives_same g r.Eq xs ok = ap (flat_map option_to_list) (points_same g xs ok)
    alternatives_same g r.Ne xs ok = ap (unlike (bit_width g) (any_bits ∷ [])) (points_same g xs ok)
    alternatives_same g _ xs ok = refl

    -- a match that names known ports alone has the same cubes in both settings
    pub cubes_same : (e : Expr) → names_known e ≡ true → cubes_of s e ≡ cubes_of t e
    unfolding cubes_in
    cubes_same e ok =
        related (as_cubes s) (as_cubes t) (λ g rel xs. list_all is_known xs) (λ a b. a ≡ b) (λ b. refl) (λ g rel xs h. ap (map (comparing g)) (alternatives_same g rel xs h))
        (λ xs ys z. ap (meets_with (all_packets ∷ [])) (zipped xs ys z)) (λ xs ys z. ap all_cubes (zipped xs ys z)) e true ok
