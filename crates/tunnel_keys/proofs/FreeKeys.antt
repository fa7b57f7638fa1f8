-- The free keys, and lists of owners side by side with keys.
use Rattle.std.specs.Prelude.{Some, ◌≡◌, ◌≢◌, ℕ, zero, suc, ◌+◌, ◌-◌, ◌≤◌, ◌<◌, Bool, true, false, cond, not, List, [], ◌∷◌, ◌++◌, length, map, take, refl}
use mathlib.Core.Path.{sym, ap, subst, ◌∙◌}
use mathlib.Core.Logic.{inl, inr}
use native.Mathlib.Omega.{arith}
use Rattle.std.specs.Result.{MatchResult, is_ok}
use Rattle.std.specs.declared.result.Result.{Result}
use Rattle.std.specs.declared.result.Result.TheVariants.{Ok, Err}
use Rattle.std.specs.List.{slice_index_or as get_or}
use Rattle.std.specs.List.Sorted.{IsBinarySearchResult, IsNonDecreasing, IsPermutation}
use Rattle.std.proofs.lemmas.List.Sorted.{searched, list_any-IsPermutation}
use Rattle.std.proofs.lemmas.Option.{slice_get-get_or, get_or_from_slice_get, slice_get_within}
use Rattle.std.proofs.lemmas.Bool.{false≢true, true≢false, cases_lt}
use Rattle.std.proofs.lemmas.Bool.Decides.{Decides-eqb}
use Rattle.std.proofs.Math.Dec.{eqb as nat_eq}
use Rattle.std.specs.List.{AllByRecursion, filter}
use Rattle.std.specs.List.Sorted.{IsStrictlySortedBy}
use Rattle.std.specs.Set.{is_member}
use Rattle.std.specs.Map.{keys_of}
use Rattle.std.specs.declared.cmp.Ordering.TheVariants.{Less}
use Rattle.std.specs.Cmp.Lexicographic.{slice_cmp}
use Rattle.std.specs.Ordering.{nat_cmp}
use Rattle.ovn_base.specs.lists.Among.{Among, here, there}
use Rattle.ovn_base.proofs.AmongLaws.{among_same, among_none, among_cases, among_append, filter_among, among_member, member_among, all_among, among_take, get_among, among_get}
use Rattle.ovn_base.specs.declared.name.Name.{Name}
use Rattle.ovn_base.specs.declared.address.Birth.{Birth}
use Rattle.ovn_base.specs.names.ByName.{IsByName}
use Rattle.ovn_base.specs.lists.Once.{EachOnce}
use Rattle.std.proofs.Common.{append_assoc, length-append}
use Rattle.tunnel_keys.specs.Keys.{numbers_to, free_in, free_one, IsFreeIn}
use Rattle.tunnel_keys.specs.Giving.{with_keys}
use Rattle.tunnel_keys.proofs.Lists.{append_none, once_more, once_filter}

-- ---- free keys

in_numbers : (n k : ℕ) → Among k (numbers_to n) → (1 ≤ k) × (k ≤ n)
unfolding numbers_to
in_numbers zero k m = absurd (among_none k m)
in_numbers (suc n) k m = elim (among_append k (numbers_to n) (suc n ∷ []) m) [
  | inl a ↦ let r = in_numbers n k a in (r.0, omega (arith, r.1))
  | inr b ↦ elim (among_cases k (suc n) [] b) [ inl e ↦ (omega (arith, e), omega (arith, e)) | inr c ↦ absurd (among_none k c) ]
]

numbers_once : (n : ℕ) → EachOnce (numbers_to n)
unfolding numbers_to
numbers_once zero = tt
numbers_once (suc n) = once_more (numbers_to n) (suc n) (numbers_once n) (λ m. let r = in_numbers n (suc n) m in absurd (omega (arith, r.1)))

nat_exact : (a b : ℕ) → nat_eq a b ≡ true → a ≡ b
nat_exact a b h = (Decides-eqb a b).0 h

nat_own : (a : ℕ) → nat_eq a a ≡ true
nat_own a = (Decides-eqb a a).1 refl

pub not_true : (b : Bool) → not b ≡ true → b ≡ false
not_true true h = absurd (false≢true h)
not_true false h = refl

irreflexive : (k : ℕ) → k < k → ⊥
irreflexive k h = omega (arith, h)

pub free_is_free : (range : ℕ) (taken : List ℕ) (k : ℕ) → Among k (free_in range taken) → IsFreeIn range taken k
free_is_free range taken k m =
    let r = filter_among (λ key. not (is_member nat_eq taken key)) k (numbers_to range) m in
    let s = in_numbers range k r.0 in
    record {
      low = s.0;
      high = s.1;
      free = λ a. absurd (true≢false (sym (among_member nat_eq nat_own k taken a) ∙ not_true (is_member nat_eq taken k) r.1));
    }

pub free_once : (range : ℕ) (taken : List ℕ) → EachOnce (free_in range taken)
free_once range taken = once_filter (λ key. not (is_member nat_eq taken key)) (numbers_to range) (numbers_once range)

pub free_below : (range : ℕ) (taken : List ℕ) → AllByRecursion (λ k. k ≤ range) (free_in range taken)
free_below range taken = all_among (λ k. k ≤ range) (free_in range taken) (λ k m. (free_is_free range taken k m).high)

-- ---- owners with keys

module _ {X : Type 0} (make : Birth → ℕ → X) where
  pub with_keys_none : (as' : List (Name × Birth)) → with_keys make as' [] ≡ []
  with_keys_none [] = refl
  with_keys_none (a ∷ as') = refl

  pub with_keys_take : (as' : List (Name × Birth)) (keys : List ℕ) → with_keys make as' (take (length as') keys) ≡ with_keys make as' keys
  with_keys_take [] keys = refl
  with_keys_take (a ∷ as') [] = refl
  with_keys_take (a ∷ as') (k ∷ ks) = ap (λ (es : List (Name × X)). (a.0, make a.1 k) ∷ es) (with_keys_take as' ks)

  -- each owner gets a key, where there are enough
  pub with_keys_there : (as' : List (Name × Birth)) (keys : List ℕ) → length as' ≤ length keys → (a : Name × Birth) → Among a as' → (k : ℕ) × Among (a.0, make a.1 k) (with_keys make as' keys) × Among k keys
  with_keys_there [] keys h a m = absurd (among_none a m)
  with_keys_there (b ∷ bs) [] h a m = absurd (omega (arith, h))
  with_keys_there (b ∷ bs) (k ∷ ks) h a m = elim (among_cases a b bs m) [
    | inl e ↦ (k, among_same (a.0, make a.1 k) (b.0, make b.1 k) (with_keys make bs ks) (ap (λ (c : Name × Birth). (c.0, make c.1 k)) e), here)
    | inr n ↦ let r = with_keys_there bs ks (omega (arith, h)) a n in (r.0, there r.1, there r.2)
  ]

  -- and who has a key is an owner
  pub with_keys_cases : (as' : List (Name × Birth)) (keys : List ℕ) (e : Name × X) → Among e (with_keys make as' keys) → (a : Name × Birth) × (k : ℕ) × Among a as' × Among k keys × (e ≡ (a.0, make a.1 k))
  with_keys_cases [] keys e m = absurd (among_none e m)
  with_keys_cases (b ∷ bs) [] e m = absurd (among_none e m)
  with_keys_cases (b ∷ bs) (k ∷ ks) e m = elim (among_cases e (b.0, make b.1 k) (with_keys make bs ks) m) [
    | inl f ↦ (b, k, here, here, f)
    | inr n ↦ let r = with_keys_cases bs ks e n in (r.0, r.1, there r.2, there r.3, r.4)
  ]

  all_with_keys : (P : Name → Type 0) (as' : List (Name × Birth)) (keys : List ℕ) → AllByRecursion P (keys_of as') → AllByRecursion P (keys_of (with_keys make as' keys))
  all_with_keys P [] keys h = tt
  all_with_keys P (b ∷ bs) [] h = tt
  all_with_keys P (b ∷ bs) (k ∷ ks) h = (h.0, all_with_keys P bs ks h.1)

  -- the order stays
  pub with_keys_sorted : (as' : List (Name × Birth)) (keys : List ℕ) → IsByName as' → IsByName (with_keys make as' keys)
  unfolding IsStrictlySortedBy
  with_keys_sorted [] keys s = tt
  with_keys_sorted (b ∷ bs) [] s = tt
  with_keys_sorted (b ∷ bs) (k ∷ ks) s = (all_with_keys (λ y. slice_cmp nat_cmp b.0 y ≡ Less) bs ks s.0, with_keys_sorted bs ks s.1)

  module _ (key_of : X → ℕ) (told : (b : Birth) (k : ℕ) → key_of (make b k) ≡ k) where
    -- the keys are the first ones
    pub with_keys_first : (as' : List (Name × Birth)) (keys : List ℕ) → map (λ e. key_of e.1) (with_keys make as' keys) ≡ take (length (with_keys make as' keys)) keys
    with_keys_first [] keys = refl
    with_keys_first (b ∷ bs) [] = refl
    with_keys_first (b ∷ bs) (k ∷ ks) = λ i. told b.1 k i ∷ with_keys_first bs ks i

    key_among : (as' : List (Name × Birth)) (keys : List ℕ) (e : Name × X) → Among e (with_keys make as' keys) → Among (key_of e.1) keys
    key_among as' keys e m =
        let r = with_keys_cases as' keys e m in
        subst (λ k. Among k keys) (sym (ap (λ (f : Name × X). key_of f.1) r.4 ∙ told r.0.1 r.1)) r.3

    -- no two have one key
    pub with_keys_apart : (as' : List (Name × Birth)) (keys : List ℕ) → EachOnce keys → (e f : Name × X) → Among e (with_keys make as' keys) → Among f (with_keys make as' keys) → key_of e.1 ≡ key_of f.1 → e ≡ f
    with_keys_apart [] keys once e f m n same = absurd (among_none e m)
    with_keys_apart (b ∷ bs) [] once e f m n same = absurd (among_none e m)
    with_keys_apart (b ∷ bs) (k ∷ ks) once e f m n same = elim (among_cases e (b.0, make b.1 k) (with_keys make bs ks) m) [
      | inl p ↦ elim (among_cases f (b.0, make b.1 k) (with_keys make bs ks) n) [
        | inl q ↦ p ∙ sym q
        | inr q ↦
            let is : key_of f.1 ≡ k = sym same ∙ ap (λ (g : Name × X). key_of g.1) p ∙ told b.1 k in
            absurd (once.0 (subst (λ j. Among j ks) is (key_among bs ks f q)))
      ]
      | inr p ↦ elim (among_cases f (b.0, make b.1 k) (with_keys make bs ks) n) [
        | inl q ↦
            let is : key_of e.1 ≡ k = same ∙ ap (λ (g : Name × X). key_of g.1) q ∙ told b.1 k in
            absurd (once.0 (subst (λ j. Among j ks) is (key_among bs ks e p)))
        | inr q ↦ with_keys_apart bs ks once.1 e f p q same
      ]
    ]

-- ---- the search

pub free_none : (taken : List ℕ) → free_in 0 taken ≡ []
unfolding numbers_to
free_none taken = refl

filter_append : {X : Type 0} (p : X → Bool) (xs ys : List X) → filter p (xs ++ ys) ≡ filter p xs ++ filter p ys
filter_append p [] ys = refl
filter_append p (x ∷ xs) ys = by (p x) (filter_append p xs ys)
  where
    by : (b : Bool) → filter p (xs ++ ys) ≡ filter p xs ++ filter p ys → cond b (x ∷ filter p (xs ++ ys)) (filter p (xs ++ ys)) ≡ cond b (x ∷ filter p xs) (filter p xs) ++ filter p ys
    by true ih = ap (λ t. x ∷ t) ih
    by false ih = ih

one_filter : (b : Bool) (k : ℕ) → cond (not b) (k ∷ []) [] ≡ cond b [] (k ∷ [])
one_filter true k = refl
one_filter false k = refl

pub free_more : (n : ℕ) (taken : List ℕ) → free_in (suc n) taken ≡ free_in n taken ++ free_one taken (suc n)
unfolding numbers_to
free_more n taken = filter_append (λ key. not (is_member nat_eq taken key)) (numbers_to n) (suc n ∷ []) ∙ ap (λ t. free_in n taken ++ t) (one_filter (is_member nat_eq taken (suc n)) (suc n))

-- the free keys begin with those below
free_begins : (n m : ℕ) (taken : List ℕ) → (rest : List ℕ) × (free_in (n + m) taken ≡ free_in n taken ++ rest)
free_begins n zero taken = ([], ap (λ k. free_in k taken) (omega arith) ∙ sym (append_none (free_in n taken)))
free_begins n (suc m) taken =
    let r = free_begins n m taken in
    (r.0 ++ free_one taken (suc (n + m)), ap (λ k. free_in k taken) (omega arith) ∙ free_more (n + m) taken ∙ ap (λ t. t ++ free_one taken (suc (n + m))) r.1 ∙ append_assoc (free_in n taken) r.0 (free_one taken (suc (n + m))))

take_front : {X : Type 0} (xs ys : List X) → take (length xs) (xs ++ ys) ≡ xs
take_front [] ys = refl
take_front (x ∷ xs) ys = ap (λ t. x ∷ t) (take_front xs ys)

-- enough were found
pub free_first : (n range : ℕ) (taken : List ℕ) (count : ℕ) → n ≤ range → length (free_in n taken) ≡ count → free_in n taken ≡ take count (free_in range taken)
free_first n range taken count h enough =
    let r = free_begins n (range - n) taken in
    let sum : n + (range - n) ≡ range = omega (arith, h) in
    let whole : free_in range taken ≡ free_in n taken ++ r.0 = ap (λ k. free_in k taken) (sym sum) ∙ r.1 in
    sym (ap (λ c. take c (free_in range taken)) (sym enough) ∙ ap (λ t. take (length (free_in n taken)) t) whole ∙ take_front (free_in n taken) r.0)

-- one more number
pub free_next : (n : ℕ) (taken found new : List ℕ) → found ≡ free_in n taken → new ≡ found ++ free_one taken (n + 1) → new ≡ free_in (n + 1) taken
free_next n taken found new h e =
    let next : suc n ≡ n + 1 = omega arith in
    e ∙ ap (λ t. t ++ free_one taken (n + 1)) h ∙ ap (λ k. free_in n taken ++ free_one taken k) (sym next) ∙ sym (free_more n taken) ∙ ap (λ k. free_in k taken) next

one_short : (b : Bool) (k : ℕ) (xs : List ℕ) → length (xs ++ cond b [] (k ∷ [])) ≤ length xs + 1
one_short true k xs = omega (arith, ap length (append_none xs))
one_short false k xs = omega (arith, length-append xs (k ∷ []))

pub free_few : (taken found new : List ℕ) (k count : ℕ) → new ≡ found ++ free_one taken k → length found ≤ count → length found ≢ count → length new ≤ count
free_few taken found new k count e few apart =
    let short = one_short (is_member nat_eq taken k) k found in
    let same : length new ≡ length (found ++ free_one taken k) = ap length e in
    omega (arith, short, same, few, apart)

pub take_short : {X : Type 0} (n : ℕ) (xs : List X) → length (take n xs) ≤ length xs
take_short zero xs = omega arith
take_short (suc n) [] = omega arith
take_short (suc n) (x ∷ xs) = omega (arith, take_short n xs)

pub taken_below : (range : ℕ) (taken : List ℕ) (n : ℕ) → range < 65536 → AllByRecursion (λ k. k < 65536) (take n (free_in range taken))
taken_below range taken n h = all_among (λ k. k < 65536) (take n (free_in range taken)) (λ k m. omega (arith, h, (free_is_free range taken k (among_take n k (free_in range taken) m)).high))

-- ---- a search among rising keys

-- the free keys beside some are those beside the same in another order
pub free_moved : (range : ℕ) (taken moved : List ℕ) → IsPermutation taken moved → free_in range moved ≡ free_in range taken
free_moved range taken moved h = kept (numbers_to range)
  where
    kept : (ks : List ℕ) → filter (λ key. not (is_member nat_eq moved key)) ks ≡ filter (λ key. not (is_member nat_eq taken key)) ks
    kept [] = refl
    kept (k ∷ ks) =
        ap (λ b. cond (not b) (k ∷ filter (λ key. not (is_member nat_eq moved key)) ks) (filter (λ key. not (is_member nat_eq moved key)) ks)) (sym (list_any-IsPermutation (λ t. nat_eq k t) taken moved h))
        ∙ ap (λ l. cond (not (is_member nat_eq taken k)) (k ∷ l) l) (kept ks)

-- a search finds the keys that are there
pub search_finds : (taken : List ℕ) (k : ℕ) (r : Result ℕ ℕ) → IsBinarySearchResult (λ y. nat_cmp y k) taken r → IsNonDecreasing taken → is_ok r ≡ is_member nat_eq taken k
search_finds taken k r found rising = by r (searched taken k r found (λ i j le below. rising i j 0 le below))
  where
    by : (r : Result ℕ ℕ) → MatchResult r (λ i. (i < length taken) × (get_or taken i 0 ≡ k)) (λ i. (i ≤ length taken) × ((j : ℕ) → j < i → get_or taken j 0 < k) × ((j : ℕ) → i ≤ j → j < length taken → k < get_or taken j 0)) → is_ok r ≡ is_member nat_eq taken k
    by (Ok i) h = sym (among_member nat_eq nat_own k taken (get_among i k taken (slice_get-get_or taken i 0 h.0 ∙ ap (λ x. Some x) h.1)))
    by (Err i) h = absent (is_member nat_eq taken k) refl
      where
        absent : (b : Bool) → is_member nat_eq taken k ≡ b → false ≡ b
        absent false is = refl
        absent true is =
            let g = among_get k taken (member_among nat_eq nat_exact k taken is) in
            let at_g = get_or_from_slice_get taken g.0 k 0 g.1 in
            let inside = slice_get_within taken g.0 k g.1 in
            absurd (elim (cases_lt g.0 i) [ inl less ↦ irreflexive k (subst (λ x. x < k) at_g (h.1 g.0 less)) | inr more ↦ irreflexive k (subst (λ x. k < x) at_g (h.2 g.0 more inside)) ])
