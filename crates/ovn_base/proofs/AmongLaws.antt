-- Membership in lists that are made of lists.
use Rattle.std.specs.Prelude.{◌≡◌, ℕ, zero, suc, Bool, true, false, cond, ◌||◌, ◌⊎◌, List, [], ◌∷◌, ◌++◌, map, take, drop, Option, Some, None, Contains, filter, flat_map, filter_map, slice_get, refl}
use mathlib.Core.Path.{sym, ap, subst, ◌∙◌}
use mathlib.Core.Logic.{inl, inr}
use Rattle.std.proofs.lemmas.Bool.{false≢true}
use Rattle.std.proofs.lemmas.Option.{none-some, same_Some}
use Rattle.std.proofs.lemmas.List.{take-append-drop}
use Rattle.std.specs.Set.{is_member}
use native.Mathlib.Omega.{arith}
use Rattle.std.specs.List.{AllByRecursion, cons_option, list_any}
use Rattle.ovn_base.specs.lists.Among.{Among, here, there}

module _ {X : Type 0} where
  -- in a list that has a first element
  pub among_cases : (x y : X) (ys : List X) → Among x (y ∷ ys) → (x ≡ y) ⊎ Among x ys
  among_cases x y ys here = inl refl
  among_cases x y ys (there m) = inr m

  pub among_none : (x : X) → Among x [] → ⊥
  among_none x m = elim m [ ]

  -- the same element
  pub among_same : (x y : X) (ys : List X) → x ≡ y → Among x (y ∷ ys)
  among_same x y ys e = subst (λ z. Among x (z ∷ ys)) e here

  -- in the one or the other of two lists
  pub among_left : (x : X) (xs ys : List X) → Among x xs → Among x (xs ++ ys)
  among_left x xs ys here = here
  among_left x xs ys (there m) = there (among_left x _ ys m)

  pub among_right : (x : X) (xs ys : List X) → Among x ys → Among x (xs ++ ys)
  among_right x [] ys m = m
  among_right x (z ∷ zs) ys m = there (among_right x zs ys m)

  pub among_append : (x : X) (xs ys : List X) → Among x (xs ++ ys) → Among x xs ⊎ Among x ys
  among_append x [] ys m = inr m
  among_append x (z ∷ zs) ys here = inl here
  among_append x (z ∷ zs) ys (there m) = elim (among_append x zs ys m) [ inl a ↦ inl (there a) | inr b ↦ inr b ]

  -- at a place
  pub contains_among : (x : X) (xs : List X) → Contains xs x → Among x xs
  contains_among x [] c = absurd (omega (arith, c.1))
  contains_among x (y ∷ ys) (zero, l, e) = among_same x y ys (sym e)
  contains_among x (y ∷ ys) (suc k, l, e) = there (contains_among x ys (k, omega (arith, l), e))

  pub among_contains : (x : X) (xs : List X) → Among x xs → Contains xs x
  among_contains x xs here = (0, omega arith, refl)
  among_contains x xs (there m) = let c = among_contains x _ m in (suc c.0, omega (arith, c.1), c.2)

  -- with a property that all have
  pub among_all : (P : X → Type 0) (x : X) (xs : List X) → AllByRecursion P xs → Among x xs → P x
  among_all P x xs h here = h.0
  among_all P x xs h (there m) = among_all P x _ h.1 m

  pub all_among : (P : X → Type 0) (xs : List X) → ((x : X) → Among x xs → P x) → AllByRecursion P xs
  all_among P [] h = tt
  all_among P (x ∷ xs) h = (h x here, all_among P xs (λ y m. h y (there m)))

  -- in a part from the front, or up to the end
  pub among_take : (n : ℕ) (x : X) (xs : List X) → Among x (take n xs) → Among x xs
  among_take n x xs m = subst (λ ys. Among x ys) (take-append-drop n xs) (among_left x (take n xs) (drop n xs) m)

  pub among_drop : (n : ℕ) (x : X) (xs : List X) → Among x (drop n xs) → Among x xs
  among_drop n x xs m = subst (λ ys. Among x ys) (take-append-drop n xs) (among_right x (take n xs) (drop n xs) m)

  -- between what stands before and what stands after
  pub among_split : (x : X) (xs : List X) → Among x xs → (before : List X) × (after : List X) × (xs ≡ before ++ x ∷ after)
  among_split x [] m = elim m [ ]
  among_split x (y ∷ ys) here = ([], ys, refl)
  among_split x (y ∷ ys) (there m) = let s = among_split x ys m in (y ∷ s.0, s.1, ap (λ zs. y ∷ zs) s.2)

  pub split_among : (x : X) (before after : List X) → Among x (before ++ x ∷ after)
  split_among x before after = among_right x before (x ∷ after) here

  -- of those that pass a test
  pub among_filter : (test : X → Bool) (x : X) (xs : List X) → Among x xs → test x ≡ true → Among x (filter test xs)
  among_filter test x [] m e = elim m [ ]
  among_filter test x (y ∷ ys) here e = subst (λ b. Among x (cond b (y ∷ filter test ys) (filter test ys))) (sym e) here
  among_filter test x (y ∷ ys) (there m) e = by (test y) (among_filter test x ys m e)
    where
      by : (b : Bool) → Among x (filter test ys) → Among x (cond b (y ∷ filter test ys) (filter test ys))
      by true a = there a
      by false a = a

  pub filter_among : (test : X → Bool) (x : X) (xs : List X) → Among x (filter test xs) → Among x xs × (test x ≡ true)
  filter_among test x [] m = absurd (among_none x m)
  filter_among test x (y ∷ ys) m = by (test y) refl m (filter_among test x ys)
    where
      by : (b : Bool) → test y ≡ b → Among x (cond b (y ∷ filter test ys) (filter test ys)) → (Among x (filter test ys) → Among x ys × (test x ≡ true)) → Among x (y ∷ ys) × (test x ≡ true)
      by false e a ih = let r = ih a in (there r.0, r.1)
      by true e a ih = elim (among_cases x y (filter test ys) a) [ inl s ↦ (among_same x y ys s, ap test s ∙ e) | inr b ↦ let r = ih b in (there r.0, r.1) ]

module _ {X Y : Type 0} where
  -- of images
  pub among_map : (f : X → Y) (x : X) (xs : List X) → Among x xs → Among (f x) (map f xs)
  among_map f x xs here = here
  among_map f x xs (there m) = there (among_map f x _ m)

  pub map_among : (f : X → Y) (y : Y) (xs : List X) → Among y (map f xs) → (x : X) × Among x xs × (y ≡ f x)
  map_among f y [] m = absurd (among_none y m)
  map_among f y (x ∷ xs) m = elim (among_cases y (f x) (map f xs) m) [ inl e ↦ (x, here, e) | inr n ↦ let r = map_among f y xs n in (r.0, there r.1, r.2) ]

  -- of lists, one of each element
  pub among_flat_map : (f : X → List Y) (x : X) (y : Y) (xs : List X) → Among x xs → Among y (f x) → Among y (flat_map f xs)
  among_flat_map f x y xs here n = among_left y (f x) (flat_map f _) n
  among_flat_map f x y xs (there {y = z} m) n = among_right y (f z) _ (among_flat_map f x y _ m n)

  pub flat_map_among : (f : X → List Y) (y : Y) (xs : List X) → Among y (flat_map f xs) → (x : X) × Among x xs × Among y (f x)
  flat_map_among f y [] m = absurd (among_none y m)
  flat_map_among f y (x ∷ xs) m = elim (among_append y (f x) (flat_map f xs) m) [ inl a ↦ (x, here, a) | inr b ↦ let r = flat_map_among f y xs b in (r.0, there r.1, r.2) ]

  -- of the images that there are
  pub among_filter_map : (f : X → Option Y) (x : X) (y : Y) (xs : List X) → Among x xs → f x ≡ Some y → Among y (filter_map f xs)
  among_filter_map f x y [] m e = elim m [ ]
  among_filter_map f x y (z ∷ zs) here e = subst (λ o. Among y (cons_option o (filter_map f zs))) (sym e) here
  among_filter_map f x y (z ∷ zs) (there m) e = by (f z) (among_filter_map f x y zs m e)
    where
      by : (o : Option Y) → Among y (filter_map f zs) → Among y (cons_option o (filter_map f zs))
      by None a = a
      by (Some w) a = there a

  pub filter_map_among : (f : X → Option Y) (y : Y) (xs : List X) → Among y (filter_map f xs) → (x : X) × Among x xs × (f x ≡ Some y)
  filter_map_among f y [] m = absurd (among_none y m)
  filter_map_among f y (z ∷ zs) m = by (f z) refl m (filter_map_among f y zs)
    where
      by : (o : Option Y) → f z ≡ o → Among y (cons_option o (filter_map f zs)) → (Among y (filter_map f zs) → (x : X) × Among x zs × (f x ≡ Some y)) → (x : X) × Among x (z ∷ zs) × (f x ≡ Some y)
      by None e a ih = let r = ih a in (r.0, there r.1, r.2)
      by (Some w) e a ih =
          elim (among_cases y w (filter_map f zs) a) [ inl s ↦ (z, here, e ∙ ap (λ v. Some v) (sym s)) | inr b ↦ let r = ih b in (r.0, there r.1, r.2) ]

module _ {X : Type 0} where
  -- with an element that passes a test
  pub among_any : (test : X → Bool) (x : X) (xs : List X) → Among x xs → test x ≡ true → list_any test xs ≡ true
  among_any test x [] m e = elim m [ ]
  among_any test x (y ∷ ys) here e = ap (λ (b : Bool). b || list_any test ys) e
  among_any test x (y ∷ ys) (there m) e = or_right (test y) (list_any test ys) (among_any test x ys m e)
    where
      or_right : (a b : Bool) → b ≡ true → (a || b) ≡ true
      or_right true b h = refl
      or_right false b h = h

  pub any_among : (test : X → Bool) (xs : List X) → list_any test xs ≡ true → (x : X) × Among x xs × (test x ≡ true)
  any_among test [] h = absurd (false≢true h)
  any_among test (y ∷ ys) h = by (test y) refl h (any_among test ys)
    where
      by : (b : Bool) → test y ≡ b → (b || list_any test ys) ≡ true → (list_any test ys ≡ true → (x : X) × Among x ys × (test x ≡ true)) → (x : X) × Among x (y ∷ ys) × (test x ≡ true)
      by true e g ih = (y, here, e)
      by false e g ih = let r = ih g in (r.0, there r.1, r.2)

  -- found by a test that answers for sameness
  pub member_among : (eq : X → X → Bool) → ((x y : X) → eq x y ≡ true → x ≡ y) → (x : X) (xs : List X) → is_member eq xs x ≡ true → Among x xs
  member_among eq exact x xs h =
      let r = any_among (eq x) xs h in
      subst (λ y. Among y xs) (sym (exact x r.0 r.2)) r.1

  pub among_member : (eq : X → X → Bool) → ((x : X) → eq x x ≡ true) → (x : X) (xs : List X) → Among x xs → is_member eq xs x ≡ true
  among_member eq own x xs m = among_any (eq x) x xs m (own x)

  -- at an index
  pub get_among : (i : ℕ) (x : X) (xs : List X) → slice_get xs i ≡ Some x → Among x xs
  get_among i x [] e = absurd (none-some x e)
  get_among zero x (y ∷ ys) e = among_same x y ys (sym (same_Some y x e))
  get_among (suc i) x (y ∷ ys) e = there (get_among i x ys e)

  pub among_get : (x : X) (xs : List X) → Among x xs → (i : ℕ) × (slice_get xs i ≡ Some x)
  among_get x [] m = elim m [ ]
  among_get x (y ∷ ys) here = (0, refl)
  among_get x (y ∷ ys) (there m) = let r = among_get x ys m in (suc r.0, r.1)
