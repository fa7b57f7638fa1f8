-- Tests that answer for sameness: from the elements to the lists, and from the parts to the whole.
use Rattle.std.specs.Prelude.{◌≡◌, ℕ, Bool, true, ◌&&◌, List, [], ◌∷◌, Decides, nat_eq, refl}
use mathlib.Core.Path.{ap, subst}
use Rattle.std.proofs.lemmas.Bool.{false≢true}
use Rattle.std.proofs.lemmas.Bool.Decides.{same_from_decides, Decides-eqb}
use base.Stored.{Coded}
use mathlib.Core.Bool.{true≢false}
use Rattle.std.specs.Ordering.{is_eq, is_lt, is_gt, ordering_then}
use Rattle.std.specs.BTreeMap.{is_at}
use Rattle.std.specs.declared.cmp.Ordering.{Ordering}
use Rattle.std.specs.declared.cmp.Ordering.TheVariants.{Less, Equal, Greater}
use Rattle.ovn_base.specs.lists.ByCode.{by_code, by_code_decides}
use Rattle.std.specs.Cmp.{first_so, second_so}
use Rattle.std.specs.List.{AllZip}
use Rattle.std.specs.Cmp.Lexicographic.{pointwise, slice_cmp}

-- numbers
pub nat_exact : (x y : ℕ) → nat_eq x y ≡ true → x ≡ y
nat_exact x y h = (Decides-eqb x y).0 h

-- lists, by a test of the elements
pub pointwise_exact : {K : Type 0} (E : K → K → Bool) → ((x y : K) → E x y ≡ true → x ≡ y) → (xs ys : List K) → pointwise E xs ys ≡ true → xs ≡ ys
pointwise_exact E exact [] [] h = refl
pointwise_exact E exact [] (y ∷ ys) h = absurd (false≢true h)
pointwise_exact E exact (x ∷ xs) [] h = absurd (false≢true h)
pointwise_exact E exact (x ∷ xs) (y ∷ ys) h =
    let a = exact x y (first_so (E x y) (pointwise E xs ys) h) in
    let b = pointwise_exact E exact xs ys (second_so (E x y) (pointwise E xs ys) h) in
    λ i. a i ∷ b i

-- lists, by a relation of the elements
pub zip_exact : {K : Type 0} (R : K → K → Type 0) → ((x y : K) → R x y → y ≡ x) → (xs ys : List K) → AllZip R xs ys → ys ≡ xs
zip_exact R exact [] [] h = refl
zip_exact R exact [] (y ∷ ys) h = absurd h
zip_exact R exact (x ∷ xs) [] h = absurd h
zip_exact R exact (x ∷ xs) (y ∷ ys) h =
    let a = exact x y h.0 in
    let b = zip_exact R exact xs ys h.1 in
    λ i. a i ∷ b i

-- a test that answers `true` for a value and itself, and for no two others, answers for sameness
pub decides_from_exact : {K : Type 0} (E : K → K → Bool) → ((x : K) → E x x ≡ true) → ((x y : K) → E x y ≡ true → x ≡ y) → (x y : K) → Decides (E x y) (x ≡ y)
decides_from_exact E own exact x y = (exact x y, λ e. subst (λ z. E x z ≡ true) e (own x))

-- two parts, first and then second
pub pair_exact : {A B : Type 0} (E : A → A → Bool) (F : B → B → Bool) → ((x y : A) → E x y ≡ true → x ≡ y) → ((x y : B) → F x y ≡ true → x ≡ y) → (p q : A × B) → (E p.0 q.0 && F p.1 q.1) ≡ true → p ≡ q
pair_exact E F e f p q h =
    let a = e p.0 q.0 (first_so (E p.0 q.0) (F p.1 q.1) h) in
    let b = f p.1 q.1 (second_so (E p.0 q.0) (F p.1 q.1) h) in
    λ i. (a i, b i)

-- what answers whether two values are one answers as their codes do
pub by_code_answer : {A : Type 0} (c : Coded A) (a b : A) (r : Bool) → Decides r (a ≡ b) → r ≡ by_code c a b
by_code_answer c a b r d = same_from_decides r (by_code c a b) d (by_code_decides c a b)

-- orders: both parts tie
both_tie : (a b : Ordering) → ordering_then a b ≡ Equal → (a ≡ Equal) × (b ≡ Equal)
both_tie Less b e = absurd (true≢false (ap is_lt e))
both_tie Equal b e = (refl, e)
both_tie Greater b e = absurd (true≢false (ap is_gt e))

-- lists, by an order of the elements
pub slice_cmp_exact : {K : Type 0} (R : K → K → Ordering) → ((x y : K) → R x y ≡ Equal → x ≡ y) → (xs ys : List K) → slice_cmp R xs ys ≡ Equal → xs ≡ ys
slice_cmp_exact R exact [] [] h = refl
slice_cmp_exact R exact [] (y ∷ ys) h = absurd (true≢false (ap is_lt h))
slice_cmp_exact R exact (x ∷ xs) [] h = absurd (true≢false (ap is_gt h))
slice_cmp_exact R exact (x ∷ xs) (y ∷ ys) h =
    let k = both_tie (R x y) (slice_cmp R xs ys) h in
    let a = exact x y k.0 in
    let b = slice_cmp_exact R exact xs ys k.1 in
    λ i. a i ∷ b i

-- two parts, first and then second
pub pair_cmp_exact : {A B : Type 0} (R : A → A → Ordering) (S : B → B → Ordering) → ((x y : A) → R x y ≡ Equal → x ≡ y) → ((x y : B) → S x y ≡ Equal → x ≡ y) → (p q : A × B) → ordering_then (R p.0 q.0) (S p.1 q.1) ≡ Equal → p ≡ q
pair_cmp_exact R S e f p q h =
    let k = both_tie (R p.0 q.0) (S p.1 q.1) h in
    let a = e p.0 q.0 k.0 in
    let b = f p.1 q.1 k.1 in
    λ i. (a i, b i)

-- a test by the order, of which maps speak
pub at_exact : {K : Type 0} (R : K → K → Ordering) → ((x y : K) → R x y ≡ Equal → x ≡ y) → (x y : K) → is_at (R x) y ≡ true → x ≡ y
at_exact R exact x y h = exact x y (tie (R x y) h)
  where
    tie : (o : Ordering) → is_eq o ≡ true → o ≡ Equal
    tie Equal g = refl
    tie Less g = absurd (false≢true g)
    tie Greater g = absurd (false≢true g)
