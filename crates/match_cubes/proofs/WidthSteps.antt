-- Widths that grow value by value and term by term, up to the greatest number.
use Rattle.std.specs.Prelude.{◌≡◌, ◌≢◌, ◌⊎◌, ◌≤◌, ◌<◌, ℕ, zero, suc, ◌+◌, ◌-◌, ◌*◌, ◌^◌, min, Bool, true, false, not, if◌then◌else◌, count_ones, List, [], ◌∷◌, ◌++◌, map, flat_map, length, drop, get_or, slice_get, Some, None}
use Rattle.std.proofs.Common.{refl, sym, ap, ◌∙◌, arith, inl, inr, length-append}
use Rattle.std.proofs.lemmas.Bool.{cases_lt}
use Rattle.std.proofs.lemmas.List.{drop_more, drop_all}
use Rattle.std.specs.Int.Count.{ones-ones}
use Rattle.std.proofs.lemmas.Nat.{mul-le, ones_cat}
use Rattle.match_language.specs.declared.expr.Expr.{Expr}
use Rattle.match_language.specs.declared.expr.Expr.TheVariants as ex
use Rattle.match_language.specs.declared.expr.Rel.{Rel}
use Rattle.match_language.specs.declared.expr.Rel.TheVariants as r
use Rattle.match_language.specs.declared.expr.Value.{Value}
use Rattle.match_language.specs.declared.field.Field.{Field}
use Rattle.match_language.specs.declared.field.Predicate.{Predicate}
use Rattle.match_language.specs.declared.field.Predicate.TheVariants as p
use Rattle.match_cubes.specs.Asked.{bit_width}
use Rattle.match_cubes.specs.Inwards.{turn, turned_rel, joins, predicate, meaning}
use Rattle.match_cubes.specs.Points.{Members}
use Rattle.match_cubes.specs.Cubes.{ordered}
use Rattle.match_cubes.specs.Width.{product, total, weights, compare_width, widths, width_in, saturated}
use Rattle.match_cubes.specs.Steps.{grown, widened, predicate_weight, negated_weight, width_joined}
use Rattle.match_cubes.proofs.Cases.{meaning_const, meaning_is, meaning_not, meaning_all, meaning_any, meaning_compare}
use Rattle.match_cubes.proofs.Joins.{turn_true, turn_false}

-- ---- capped sums and products

pub add_capped : (a b m : ℕ) → min (min a m + b) m ≡ min (a + b) m
add_capped a b m = omega arith

grown_by : (a b : ℕ) → a ≤ a * suc b
grown_by a b = grind arith

min_left : (a m : ℕ) → a < m → min a m ≡ a
min_left a m h = omega arith

min_right : (a m : ℕ) → m ≤ a → min a m ≡ m
min_right a m h = omega arith

times_turn : (a b : ℕ) → a * b ≡ b * a
times_turn a b = omega arith

times_group : (a b c : ℕ) → a * (b * c) ≡ (a * b) * c
times_group a b c = grind arith

plus_group : (a b c : ℕ) → (a + b) + c ≡ a + (b + c)
plus_group a b c = omega arith

one_times : (a : ℕ) → a * 1 ≡ a
one_times a = omega arith

one_first : (a : ℕ) → 1 * a ≡ a
one_first a = omega arith

refl_total : (a : ℕ) → a ≡ 0 + a
refl_total a = omega arith

grows : (a b : ℕ) → 0 < b → a ≤ a * b
grows a zero h = absurd (omega arith)
grows a (suc b) h = grown_by a b

mul_by : (a b m : ℕ) → (a < m) ⊎ (m ≤ a) → min (min a m * b) m ≡ min (a * b) m
mul_by a b m (inl l) = ap (λ (k : ℕ). min (k * b) m) (min_left a m l)
mul_by a zero m (inr g) = omega arith
mul_by a (suc b) m (inr g) =
    ap (λ (k : ℕ). min (k * suc b) m) (min_right a m g) ∙ omega (arith, grows m (suc b) (omega arith), mul-le m (suc b) a (suc b) g (omega arith))

pub mul_capped : (a b m : ℕ) → min (min a m * b) m ≡ min (a * b) m
mul_capped a b m = mul_by a b m (cases_lt a m)

pub mul_capped_both : (a b m : ℕ) → min (a * min b m) m ≡ min (a * b) m
mul_capped_both a b m = ap (λ (k : ℕ). min k m) (times_turn a (min b m)) ∙ mul_capped b a m ∙ ap (λ (k : ℕ). min k m) (times_turn b a)

-- ---- values

length_cat : (us ws : List ℕ) → length (us ++ ws) ≡ length us + length ws
length_cat us ws = length-append us ws

product_cat : (us ws : List ℕ) → product (us ++ ws) ≡ product us * product ws
product_cat [] ws = omega arith
product_cat (u ∷ us) ws = ap (λ (k : ℕ). u * k) (product_cat us ws) ∙ times_group u (product us) (product ws)

-- more values
pub grown_cat : (is_equal : Bool) (n m : ℕ) (us ws : List ℕ) → m ≡ saturated (grown is_equal n us) → saturated (grown is_equal m ws) ≡ saturated (grown is_equal n (us ++ ws))
grown_cat true n m us ws h =
    ap (λ (k : ℕ). saturated (k + length ws)) h ∙ add_capped (n + length us) (length ws) (2 ^ 128 - 1) ∙ ap saturated (plus_group n (length us) (length ws) ∙ ap (λ (k : ℕ). n + k) (sym (length_cat us ws)))
grown_cat false n m us ws h =
    ap (λ (k : ℕ). saturated (k * product ws)) h ∙ mul_capped (n * product us) (product ws) (2 ^ 128 - 1) ∙ ap saturated (sym (times_group n (product us) (product ws)) ∙ ap (λ (k : ℕ). n * k) (sym (product_cat us ws)))

-- one value more of a list
pub grown_at : {A : Type 0} (g : A → ℕ) (is_equal : Bool) (n m : ℕ) (xs : List A) (i : ℕ) (x : A) → i < length xs → x ≡ get_or xs i x → m ≡ saturated (grown is_equal n (g x ∷ [])) → saturated (grown is_equal m (map g (drop (i + 1) xs))) ≡ saturated (grown is_equal n (map g (drop i xs)))
grown_at {A} g is_equal n m xs i x less is h =
    grown_cat is_equal n m (g x ∷ []) (map g (drop (i + 1) xs)) h
    ∙ sym (ap (λ (ys : List A). saturated (grown is_equal n (map g ys))) (drop_more xs i x less ∙ ap (λ (y : A). y ∷ drop (i + 1) xs) (sym is)))

some_same : {A : Type 0} (x y : A) → Some x ≡ Some y → x ≡ y
some_same x y h = cc

suc_is : (i : ℕ) → suc i ≡ i + 1
suc_is i = omega arith

grown_none : (is_equal : Bool) (n : ℕ) → n < 2 ^ 128 → saturated (grown is_equal n []) ≡ n
grown_none true n h = omega arith
grown_none false n h = omega arith

-- an element of the list, by its index
drop_get : {A : Type 0} (xs : List A) (i : ℕ) (x : A) → Some x ≡ slice_get xs i → drop i xs ≡ x ∷ drop (suc i) xs
drop_get [] i x h = absurd cc
drop_get {A} (y ∷ ys) zero x h = ap (λ (z : A). z ∷ ys) (some_same y x (sym h))
drop_get (y ∷ ys) (suc i) x h = drop_get ys i x h

drop_none : {A : Type 0} (xs : List A) (i : ℕ) → None ≡ slice_get xs i → drop i xs ≡ []
drop_none [] zero h = refl
drop_none [] (suc i) h = refl
drop_none (y ∷ ys) zero h = absurd cc
drop_none (y ∷ ys) (suc i) h = drop_none ys i h

pub grown_get : {A : Type 0} (g : A → ℕ) (is_equal : Bool) (n m : ℕ) (xs : List A) (i : ℕ) (x : A) → Some x ≡ slice_get xs i → m ≡ saturated (grown is_equal n (g x ∷ [])) → saturated (grown is_equal m (map g (drop (i + 1) xs))) ≡ saturated (grown is_equal n (map g (drop i xs)))
grown_get {A} g is_equal n m xs i x get h =
    grown_cat is_equal n m (g x ∷ []) (map g (drop (i + 1) xs)) h
    ∙ sym (ap (λ (ys : List A). saturated (grown is_equal n (map g ys))) (drop_get xs i x get ∙ ap (λ (k : ℕ). x ∷ drop k xs) (suc_is i)))

pub grown_end : {A : Type 0} (g : A → ℕ) (is_equal : Bool) (n : ℕ) (xs : List A) (i : ℕ) → n < 2 ^ 128 → None ≡ slice_get xs i → n ≡ saturated (grown is_equal n (map g (drop i xs)))
grown_end {A} g is_equal n xs i small none = sym (ap (λ (ys : List A). saturated (grown is_equal n (map g ys))) (drop_none xs i none) ∙ grown_none is_equal n small)

-- the values of one value more of the text
pub grown_at_each : {A : Type 0} (g : A → List ℕ) (is_equal : Bool) (n m : ℕ) (xs : List A) (i : ℕ) (x : A) → i < length xs → x ≡ get_or xs i x → m ≡ saturated (grown is_equal n (g x)) → saturated (grown is_equal m (flat_map g (drop (i + 1) xs))) ≡ saturated (grown is_equal n (flat_map g (drop i xs)))
grown_at_each {A} g is_equal n m xs i x less is h =
    grown_cat is_equal n m (g x) (flat_map g (drop (i + 1) xs)) h
    ∙ sym (ap (λ (ys : List A). saturated (grown is_equal n (flat_map g ys))) (drop_more xs i x less ∙ ap (λ (y : A). y ∷ drop (i + 1) xs) (sym is)))

-- no value more
pub grown_done : {A : Type 0} (g : A → ℕ) (is_equal : Bool) (n : ℕ) (xs : List A) (i : ℕ) → n < 2 ^ 128 → length xs ≤ i → saturated (grown is_equal n (map g (drop i xs))) ≡ n
grown_done {A} g is_equal n xs i small all = ap (λ (ys : List A). saturated (grown is_equal n (map g ys))) (drop_all i xs all) ∙ grown_none is_equal n small

pub grown_done_each : {A : Type 0} (g : A → List ℕ) (is_equal : Bool) (n : ℕ) (xs : List A) (i : ℕ) → n < 2 ^ 128 → length xs ≤ i → saturated (grown is_equal n (flat_map g (drop i xs))) ≡ n
grown_done_each {A} g is_equal n xs i small all = ap (λ (ys : List A). saturated (grown is_equal n (flat_map g ys))) (drop_all i xs all) ∙ grown_none is_equal n small

-- ---- terms

-- one term more, of width k
widened_step : (is_every : Bool) (n m k : ℕ) (ws : List ℕ) → m ≡ saturated (widened is_every n (saturated k ∷ [])) → saturated (widened is_every m ws) ≡ saturated (widened is_every n (k ∷ ws))
widened_step true n m k ws h =
    ap (λ (a : ℕ). saturated (a * product ws)) (h ∙ ap (λ (a : ℕ). saturated (n * a)) (one_times (saturated k)) ∙ mul_capped_both n k (2 ^ 128 - 1))
    ∙ mul_capped (n * k) (product ws) (2 ^ 128 - 1) ∙ ap saturated (sym (times_group n k (product ws)))
widened_step false n m k ws h =
    ap (λ (a : ℕ). saturated (a + total ws)) (h ∙ omega arith) ∙ add_capped (n + k) (total ws) (2 ^ 128 - 1) ∙ ap saturated (plus_group n k (total ws))

pub widened_at : {A : Type 0} (g : A → ℕ) (is_every : Bool) (n m : ℕ) (xs : List A) (i : ℕ) (x : A) → i < length xs → x ≡ get_or xs i x → m ≡ saturated (widened is_every n (saturated (g x) ∷ [])) → saturated (widened is_every m (map g (drop (i + 1) xs))) ≡ saturated (widened is_every n (map g (drop i xs)))
widened_at {A} g is_every n m xs i x less is h =
    widened_step is_every n m (g x) (map g (drop (i + 1) xs)) h
    ∙ sym (ap (λ (ys : List A). saturated (widened is_every n (map g ys))) (drop_more xs i x less ∙ ap (λ (y : A). y ∷ drop (i + 1) xs) (sym is)))

widened_none : (is_every : Bool) (n : ℕ) → n < 2 ^ 128 → saturated (widened is_every n []) ≡ n
widened_none true n h = omega arith
widened_none false n h = omega arith

pub widened_done : {A : Type 0} (g : A → ℕ) (is_every : Bool) (n : ℕ) (xs : List A) (i : ℕ) → n < 2 ^ 128 → length xs ≤ i → saturated (widened is_every n (map g (drop i xs))) ≡ n
widened_done {A} g is_every n xs i small all = ap (λ (ys : List A). saturated (widened is_every n (map g ys))) (drop_all i xs all) ∙ widened_none is_every n small

-- ---- predicates

ones_16 : count_ones 0xffff ≡ 16
ones_16 = ones-ones 16

ones_8 : count_ones 0xff ≡ 8
ones_8 = ones-ones 8

ones_48 : count_ones 0xffff_ffff_ffff ≡ 48
ones_48 = ones-ones 48

ones_group : count_ones 0x100_0000_0000 ≡ 1
ones_group = ones_cat 40 1 0 (omega arith) ∙ ap (λ (n : ℕ). n + count_ones 0) (ones-ones 1) ∙ ap (λ (n : ℕ). 1 + n) (ones-ones 0)

ones_class : count_ones 0xf000_0000 ≡ 4
ones_class = ones_cat 28 15 0 (omega arith) ∙ ap (λ (n : ℕ). n + count_ones 0) (ones-ones 4) ∙ ap (λ (n : ℕ). 4 + n) (ones-ones 0)

weighs : (s : Members) (p : Predicate) (positive : Bool) → saturated (predicate (widths s) p positive) ≡ (if positive then predicate_weight p else negated_weight p)
unfolding compare_width weights
weighs s p.Ip true = refl
weighs s _ true = refl
weighs s p.Ip4 false = ap (λ (n : ℕ). saturated (n * 1 + 0)) ones_16
weighs s p.Ip6 false = ap (λ (n : ℕ). saturated (n * 1 + 0)) ones_16
weighs s p.Arp false = ap (λ (n : ℕ). saturated (n * 1 + 0)) ones_16
weighs s p.Ip false = ap (λ (n : ℕ). saturated (n * 1 * (n * 1 * 1))) ones_16
weighs s p.Tcp false = ap (λ (n : ℕ). saturated (n * 1 + (count_ones 0xff * 1 + 0))) ones_16 ∙ ap (λ (n : ℕ). saturated (16 + (n * 1 + 0))) ones_8
weighs s p.Udp false = ap (λ (n : ℕ). saturated (n * 1 + (count_ones 0xff * 1 + 0))) ones_16 ∙ ap (λ (n : ℕ). saturated (16 + (n * 1 + 0))) ones_8
weighs s p.Icmp4 false = ap (λ (n : ℕ). saturated (n * 1 + (count_ones 0xff * 1 + 0))) ones_16 ∙ ap (λ (n : ℕ). saturated (16 + (n * 1 + 0))) ones_8
weighs s p.EthBcast false = ap (λ (n : ℕ). saturated (n * 1 + 0)) ones_48
weighs s p.EthMcast false = ap (λ (n : ℕ). saturated (n * 1 + 0)) ones_group
weighs s p.Ip4Mcast false = ap (λ (n : ℕ). saturated (n * 1 + (count_ones 0xf000_0000 * 1 + 0))) ones_16 ∙ ap (λ (n : ℕ). saturated (16 + (n * 1 + 0))) ones_class

-- ---- comparisons

pub saturated_is : (n : ℕ) → n < 2 ^ 128 → n ≡ saturated n
saturated_is n h = omega arith

pub compare_order : (s : Members) (f : Field) (rel : Rel) (vs : List Value) → rel ≢ r.Eq → rel ≢ r.Ne → compare_width s f rel vs ≡ length (ordered (bit_width f) rel vs)
unfolding compare_width
compare_order s f r.Eq vs a b = absurd (a refl)
compare_order s f r.Ne vs a b = absurd (b refl)
compare_order s f r.Lt vs a b = refl
compare_order s f r.Le vs a b = refl
compare_order s f r.Gt vs a b = refl
compare_order s f r.Ge vs a b = refl

pub compare_equal : (s : Members) (f : Field) (vs : List Value) → saturated (grown true 0 (weights s f vs)) ≡ saturated (compare_width s f r.Eq vs)
unfolding compare_width
compare_equal s f vs = ap saturated (sym (refl_total (length (weights s f vs))))

pub compare_unlike : (s : Members) (f : Field) (vs : List Value) → saturated (grown false 1 (weights s f vs)) ≡ saturated (compare_width s f r.Ne vs)
unfolding compare_width
compare_unlike s f vs = ap saturated (one_first (product (weights s f vs)))

-- ---- the cases

module _ (s : Members) (positive : Bool) where
  pub width_const : (b : Bool) → width_in s (ex.Const b) positive ≡ 1
  unfolding width_in
  width_const b = meaning_const (widths s) positive b

  pub width_not : (x : Expr) → width_in s (ex.Not x) positive ≡ width_in s x (not positive)
  unfolding width_in
  width_not x = meaning_not (widths s) positive x

  pub width_is : (p : Predicate) → width_in s (ex.Is p) positive ≡ predicate (widths s) p positive
  unfolding width_in
  width_is p = meaning_is (widths s) positive p

  widths_join : (is_every : Bool) (es : List Expr) → joins (widths s) is_every (map (λ e. meaning (widths s) e positive) es) ≡ width_joined s is_every positive es
  unfolding width_in width_joined
  widths_join true es = sym (one_first (product (map (λ e. meaning (widths s) e positive) es)))
  widths_join false es = refl_total (total (map (λ e. meaning (widths s) e positive) es))

  pub width_all : (es : List Expr) → width_in s (ex.All es) positive ≡ width_joined s positive positive es
  unfolding width_in
  width_all es = meaning_all (widths s) positive es ∙ widths_join (turn positive true) es ∙ ap (λ (b : Bool). width_joined s b positive es) (turn_true positive)

  pub width_any : (es : List Expr) → width_in s (ex.Any es) positive ≡ width_joined s (not positive) positive es
  unfolding width_in
  width_any es = meaning_any (widths s) positive es ∙ widths_join (turn positive false) es ∙ ap (λ (b : Bool). width_joined s b positive es) (turn_false positive)

  -- a predicate's width is that of the table
  pub width_is_weight : (p : Predicate) → saturated (width_in s (ex.Is p) positive) ≡ (if positive then predicate_weight p else negated_weight p)
  width_is_weight p = ap saturated (width_is p) ∙ weighs s p positive

  pub width_compare : (f : Field) (r : Rel) (vs : List Value) → width_in s (ex.Compare f r vs) positive ≡ compare_width s f (turned_rel positive r) vs
  unfolding width_in
  width_compare f r vs = meaning_compare (widths s) positive f r vs
