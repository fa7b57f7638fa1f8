-- Two meanings of expressions that are related in each comparison are related.
use Rattle.std.specs.Prelude.{◌≡◌, Bool, true, false, not, ◌&&◌, if◌then◌else◌, List, [], ◌∷◌, map}
use Rattle.std.specs.List.{list_all}
use Rattle.std.proofs.Common.{refl, sym, ap, ◌∙◌, subst}
use Rattle.std.proofs.lemmas.Bool.{and_parts}
use Rattle.inet_packet.specs.declared.cube.Bits.{Bits}
use Rattle.match_language.specs.declared.expr.Expr.{Expr, Expr-F, roll-Expr, map-Expr, ind-Expr, fold-roll-Expr}
use Rattle.match_language.specs.declared.expr.Rel.{Rel}
use Rattle.match_language.specs.declared.expr.Rel.TheVariants as r
use Rattle.match_language.specs.declared.expr.Value.{Value}
use Rattle.match_language.specs.declared.expr.Value.TheVariants as v
use Rattle.match_language.specs.declared.field.Field.{Field}
use Rattle.match_cubes.specs.Inwards.{Meaning, turn, turned_rel, tests, asks_all, joins, tested, layer, meaning, each_compare, are_all}

-- the elements of two lists are related, each with the one at its place
pub data Zips {X Y : Type 0} (R : X → Y → Type 0) : List X → List Y → Type 0 where
  zips_none : Zips R [] []
  zips_more : (x : X) (y : Y) (xs : List X) (ys : List Y) → R x y → Zips R xs ys → Zips R (x ∷ xs) (y ∷ ys)

-- an expression's meaning is its outermost layer's
pub meaning_roll : {X : Type 0} (m : Meaning X) (x : Expr-F Expr) (positive : Bool) → meaning m (roll-Expr x) positive ≡ layer m (map-Expr Expr (Bool → X) (meaning m) x) positive
unfolding meaning
meaning_roll {X} m x positive = ap (λ (h : Bool → X). h positive) (fold-roll-Expr (Bool → X) (layer m) x)

module _ {X Y : Type 0} (m : Meaning X) (n : Meaning Y) (ok : Field → Rel → List Value → Bool) (R : X → Y → Type 0)
    (constant : (b : Bool) → R (m.constant b) (n.constant b))
    (compare : (f : Field) (r : Rel) (vs : List Value) → ok f r vs ≡ true → R (m.compare f r vs) (n.compare f r vs))
    (every : (xs : List X) (ys : List Y) → Zips R xs ys → R (m.every xs) (n.every ys))
    (either : (xs : List X) (ys : List Y) → Zips R xs ys → R (m.either xs) (n.either ys)) where
  abbrev Related : Expr → Type 0
  Related e = (positive : Bool) → meaning (each_compare ok) e positive ≡ true → R (meaning m e positive) (meaning n e positive)

  abbrev Such : Type 0
  Such = (e : Expr) × Related e

  abbrev first : Such → Expr
  first e = e.0

  joined : (is_every : Bool) (xs : List X) (ys : List Y) → Zips R xs ys → R (joins m is_every xs) (joins n is_every ys)
  joined true xs ys z = every xs ys z
  joined false xs ys z = either xs ys z

  joined_ok : (is_every : Bool) (bs : List Bool) → joins (each_compare ok) is_every bs ≡ true → list_all (λ b. b) bs ≡ true
  joined_ok true bs h = h
  joined_ok false bs h = h

  tests_related : (positive : Bool) (ts : List (Field × Bits)) → list_all (λ b. b) (map (tested (each_compare ok) positive) ts) ≡ true → Zips R (map (tested m positive) ts) (map (tested n positive) ts)
  tests_related positive [] h = zips_none
  tests_related positive (t ∷ ts) h =
      let parts = and_parts (tested (each_compare ok) positive t) (list_all (λ b. b) (map (tested (each_compare ok) positive) ts)) h in
      zips_more (tested m positive t) (tested n positive t) (map (tested m positive) ts) (map (tested n positive) ts)
      (compare t.0 (if positive then r.Eq else r.Ne) (v.Number t.1.value t.1.mask ∷ []) parts.0)
      (tests_related positive ts parts.1)

  terms_related : (positive : Bool) (es : List Such)
      → list_all (λ b. b) (map (λ x. x positive) (map (meaning (each_compare ok)) (map first es))) ≡ true
      → Zips R (map (λ x. x positive) (map (meaning m) (map first es))) (map (λ x. x positive) (map (meaning n) (map first es)))
  terms_related positive [] h = zips_none
  terms_related positive (e ∷ es) h =
      let parts = and_parts (meaning (each_compare ok) e.0 positive) (list_all (λ b. b) (map (λ (x : Bool → Bool). x positive) (map (meaning (each_compare ok)) (map first es)))) h in
      zips_more (meaning m e.0 positive) (meaning n e.0 positive) (map (λ (x : Bool → X). x positive) (map (meaning m) (map first es))) (map (λ (x : Bool → Y). x positive) (map (meaning n) (map first es)))
      (e.1 positive parts.0)
      (terms_related positive es parts.1)

  -- one layer: y is a layer with a proof beside each part
  layered : (y : Expr-F Such) (positive : Bool)
      → layer (each_compare ok) (map-Expr Expr (Bool → Bool) (meaning (each_compare ok)) (map-Expr Such Expr first y)) positive ≡ true
      → R (layer m (map-Expr Expr (Bool → X) (meaning m) (map-Expr Such Expr first y)) positive) (layer n (map-Expr Expr (Bool → Y) (meaning n) (map-Expr Such Expr first y)) positive)
  layered (Expr-F.Const b) positive h = constant (turn positive b)
  layered (Expr-F.Is p) positive h =
      joined (turn positive (asks_all p)) (map (tested m positive) (tests p)) (map (tested n positive) (tests p))
      (tests_related positive (tests p) (joined_ok (turn positive (asks_all p)) (map (tested (each_compare ok) positive) (tests p)) h))
  layered (Expr-F.Not e) positive h = e.1 (not positive) h
  layered (Expr-F.All es) positive h =
      joined (turn positive true) (map (λ (x : Bool → X). x positive) (map (meaning m) (map first es))) (map (λ (x : Bool → Y). x positive) (map (meaning n) (map first es)))
      (terms_related positive es (joined_ok (turn positive true) (map (λ (x : Bool → Bool). x positive) (map (meaning (each_compare ok)) (map first es))) h))
  layered (Expr-F.Any es) positive h =
      joined (turn positive false) (map (λ (x : Bool → X). x positive) (map (meaning m) (map first es))) (map (λ (x : Bool → Y). x positive) (map (meaning n) (map first es)))
      (terms_related positive es (joined_ok (turn positive false) (map (λ (x : Bool → Bool). x positive) (map (meaning (each_compare ok)) (map first es))) h))
  layered (Expr-F.Compare f rel vs) positive h = compare f (turned_rel positive rel) vs h

  rolled : (y : Expr-F Such) → Related (roll-Expr (map-Expr Such Expr first y))
  rolled y positive h =
      let x = map-Expr Such Expr first y in
      let told = layered y positive (sym (meaning_roll (each_compare ok) x positive) ∙ h) in
      subst (λ (a : X). R a (meaning n (roll-Expr x) positive)) (sym (meaning_roll m x positive))
      (subst (λ (b : Y). R (layer m (map-Expr Expr (Bool → X) (meaning m) x) positive) b) (sym (meaning_roll n x positive)) told)

  pub related : (e : Expr) (positive : Bool) → are_all ok e positive ≡ true → R (meaning m e positive) (meaning n e positive)
  unfolding are_all
  related = ind-Expr Related (λ x y is. subst (λ (z : Expr-F Expr). Related (roll-Expr z)) is (rolled y))

-- ---- where nothing is asked of comparisons

abbrev asks_nothing : Meaning Bool
asks_nothing = each_compare (λ f rel vs. true)

abbrev Always : Expr → Type 0
Always e = (positive : Bool) → meaning asks_nothing e positive ≡ true

abbrev Sure : Type 0
Sure = (e : Expr) × Always e

abbrev sure : Sure → Expr
sure e = e.0

sure_terms : (positive : Bool) (es : List Sure) → list_all (λ b. b) (map (λ x. x positive) (map (meaning asks_nothing) (map sure es))) ≡ true
sure_terms positive [] = refl
sure_terms positive (e ∷ es) = ap (λ (b : Bool). b && list_all (λ b. b) (map (λ (x : Bool → Bool). x positive) (map (meaning asks_nothing) (map sure es)))) (e.1 positive) ∙ sure_terms positive es

sure_joins : (is_every : Bool) (bs : List Bool) → list_all (λ b. b) bs ≡ true → joins asks_nothing is_every bs ≡ true
sure_joins true bs h = h
sure_joins false bs h = h

sure_tests : (positive : Bool) (ts : List (Field × Bits)) → list_all (λ b. b) (map (tested asks_nothing positive) ts) ≡ true
sure_tests positive [] = refl
sure_tests positive (t ∷ ts) = sure_tests positive ts

sure_layer : (y : Expr-F Sure) (positive : Bool) → layer asks_nothing (map-Expr Expr (Bool → Bool) (meaning asks_nothing) (map-Expr Sure Expr sure y)) positive ≡ true
sure_layer (Expr-F.Const b) positive = refl
sure_layer (Expr-F.Is p) positive = sure_joins (turn positive (asks_all p)) (map (tested asks_nothing positive) (tests p)) (sure_tests positive (tests p))
sure_layer (Expr-F.Not e) positive = e.1 (not positive)
sure_layer (Expr-F.All es) positive = sure_joins (turn positive true) (map (λ (x : Bool → Bool). x positive) (map (meaning asks_nothing) (map sure es))) (sure_terms positive es)
sure_layer (Expr-F.Any es) positive = sure_joins (turn positive false) (map (λ (x : Bool → Bool). x positive) (map (meaning asks_nothing) (map sure es))) (sure_terms positive es)
sure_layer (Expr-F.Compare f rel vs) positive = refl

pub always : (e : Expr) (positive : Bool) → are_all (λ f rel vs. true) e positive ≡ true
unfolding are_all
always = ind-Expr Always (λ x y is. subst (λ (z : Expr-F Expr). Always (roll-Expr z)) is (λ positive. meaning_roll asks_nothing (map-Expr Sure Expr sure y) positive ∙ sure_layer y positive))
