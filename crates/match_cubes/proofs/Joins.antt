-- The cubes of an expression, by its cases, and of lists of terms, one by one.
use Rattle.std.specs.Prelude.{◌≡◌, ◌≤◌, ◌<◌, ℕ, ◌+◌, Bool, true, false, not, List, [], ◌∷◌, ◌++◌, map, flat_map, length, drop, get_or}
use Rattle.std.proofs.Common.{refl, sym, ap, ◌∙◌, append-nil, append_assoc}
use Rattle.std.proofs.lemmas.List.{drop_more, drop_all}
use Rattle.inet_packet.specs.declared.cube.Bits.{Bits}
use Rattle.inet_packet.specs.declared.cube.Cube.{Cube}
use Rattle.match_language.specs.declared.expr.Expr.{Expr}
use Rattle.match_language.specs.declared.expr.Expr.TheVariants as ex
use Rattle.match_language.specs.declared.expr.Rel.{Rel}
use Rattle.match_language.specs.declared.expr.Value.{Value}
use Rattle.match_language.specs.declared.field.Field.{Field}
use Rattle.match_language.specs.declared.field.Predicate.{Predicate}
use Rattle.match_cubes.specs.Ternary.{meets}
use Rattle.match_cubes.specs.Asked.{all_packets, meet}
use Rattle.match_cubes.specs.Inwards.{turn, turned_rel, tests, asks_all, joins, tested, predicate, meaning}
use Rattle.match_cubes.specs.Points.{Setting, points}
use Rattle.match_cubes.specs.Cubes.{unlike, alternatives, comparing, meets_with, all_cubes, constant_cubes, as_cubes, cubes_in}
use Rattle.match_cubes.specs.Steps.{join_one, join_from, joined_in, test_in, predicate_in}
use Rattle.match_cubes.proofs.Cases.{meaning_const, meaning_is, meaning_not, meaning_all, meaning_any, meaning_compare}

-- ---- one list after another

pub join_every : (so_far : List Cube) (css : List (List Cube)) → meets_with so_far css ≡ join_from true so_far css
unfolding meets_with join_from
join_every so_far [] = refl
join_every so_far (cs ∷ css) = join_every (meets meet so_far cs) css

join_either : (so_far : List Cube) (css : List (List Cube)) → so_far ++ all_cubes css ≡ join_from false so_far css
unfolding all_cubes join_from
join_either so_far [] = append-nil so_far
join_either so_far (cs ∷ css) = sym (append_assoc so_far cs (flat_map (λ x. x) css)) ∙ join_either (so_far ++ cs) css

joins_is : (s : Setting) (is_every : Bool) (css : List (List Cube)) → joins (as_cubes s) is_every css ≡ join_from is_every (constant_cubes is_every) css
joins_is s true css = join_every (all_packets ∷ []) css
joins_is s false css = join_either [] css

-- ---- the cases

test_is : (s : Setting) (positive : Bool) (t : Field × Bits) → tested (as_cubes s) positive t ≡ test_in positive t
unfolding alternatives points unlike test_in
test_is s true t = refl
test_is s false t = refl

tests_are : (s : Setting) (positive : Bool) (ts : List (Field × Bits)) → map (tested (as_cubes s) positive) ts ≡ map (test_in positive) ts
tests_are s positive [] = refl
tests_are s positive (t ∷ ts) = ap (λ (cs : List Cube). cs ∷ map (tested (as_cubes s) positive) ts) (test_is s positive t) ∙ ap (λ (css : List (List Cube)). test_in positive t ∷ css) (tests_are s positive ts)

predicate_is : (s : Setting) (p : Predicate) (positive : Bool) → predicate (as_cubes s) p positive ≡ predicate_in p positive
unfolding predicate_in
predicate_is s p positive =
    ap (joins (as_cubes s) (turn positive (asks_all p))) (tests_are s positive (tests p)) ∙ joins_is s (turn positive (asks_all p)) (map (test_in positive) (tests p))

pub turn_true : (positive : Bool) → turn positive true ≡ positive
turn_true true = refl
turn_true false = refl

pub turn_false : (positive : Bool) → turn positive false ≡ not positive
turn_false true = refl
turn_false false = refl

module _ (s : Setting) (positive : Bool) where
  pub cubes_const : (b : Bool) → cubes_in s (ex.Const b) positive ≡ constant_cubes (turn positive b)
  unfolding cubes_in
  cubes_const b = meaning_const (as_cubes s) positive b

  pub cubes_is : (p : Predicate) → cubes_in s (ex.Is p) positive ≡ predicate_in p positive
  unfolding cubes_in
  cubes_is p = meaning_is (as_cubes s) positive p ∙ predicate_is s p positive

  pub cubes_not : (x : Expr) → cubes_in s (ex.Not x) positive ≡ cubes_in s x (not positive)
  unfolding cubes_in
  cubes_not x = meaning_not (as_cubes s) positive x

  joined_is : (is_every : Bool) (es : List Expr) → joins (as_cubes s) is_every (map (λ e. meaning (as_cubes s) e positive) es) ≡ joined_in s is_every positive es
  unfolding cubes_in joined_in
  joined_is is_every es = joins_is s is_every (map (λ e. meaning (as_cubes s) e positive) es)

  pub cubes_all : (es : List Expr) → cubes_in s (ex.All es) positive ≡ joined_in s positive positive es
  unfolding cubes_in
  cubes_all es = meaning_all (as_cubes s) positive es ∙ joined_is (turn positive true) es ∙ ap (λ (b : Bool). joined_in s b positive es) (turn_true positive)

  pub cubes_any : (es : List Expr) → cubes_in s (ex.Any es) positive ≡ joined_in s (not positive) positive es
  unfolding cubes_in
  cubes_any es = meaning_any (as_cubes s) positive es ∙ joined_is (turn positive false) es ∙ ap (λ (b : Bool). joined_in s b positive es) (turn_false positive)

  pub cubes_compare : (f : Field) (r : Rel) (vs : List Value) → cubes_in s (ex.Compare f r vs) positive ≡ map (comparing f) (alternatives s f (turned_rel positive r) vs)
  unfolding cubes_in
  cubes_compare f r vs = meaning_compare (as_cubes s) positive f r vs

-- ---- the loops

module _ {A : Type 0} (g : A → List Cube) (is_every : Bool) where
  -- one term more
  pub join_at : (so_far : List Cube) (xs : List A) (i : ℕ) (x : A) → i < length xs → x ≡ get_or xs i x → join_from is_every (join_one is_every so_far (g x)) (map g (drop (i + 1) xs)) ≡ join_from is_every so_far (map g (drop i xs))
  unfolding join_from
  join_at so_far xs i x less is =
      sym (ap (λ (ys : List A). join_from is_every so_far (map g ys)) (drop_more xs i x less ∙ ap (λ (y : A). y ∷ drop (i + 1) xs) (sym is)))

  pub join_at_or : (so_far : List Cube) (xs : List A) (i : ℕ) (d : A) → i < length xs → join_from is_every (join_one is_every so_far (g (get_or xs i d))) (map g (drop (i + 1) xs)) ≡ join_from is_every so_far (map g (drop i xs))
  unfolding join_from
  join_at_or so_far xs i d less = sym (ap (λ (ys : List A). join_from is_every so_far (map g ys)) (drop_more xs i d less))

  -- no term more
  pub join_done : (so_far : List Cube) (xs : List A) (i : ℕ) → length xs ≤ i → join_from is_every so_far (map g (drop i xs)) ≡ so_far
  unfolding join_from
  join_done so_far xs i all = ap (λ (ys : List A). join_from is_every so_far (map g ys)) (drop_all i xs all)
