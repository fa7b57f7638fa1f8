-- Lists by number: what is found, what is removed, what comes behind.
use Rattle.std.specs.Prelude.{◌≡◌, ◌<◌, ◌≤◌, ℕ, Bool, true, false, cond, List, [], ◌∷◌, ◌++◌, map, Some, option_map, nat_lt, refl}
use Rattle.std.proofs.Common.{sym, ap, ◌∙◌, subst, arith, inl, inr, lt-ltb, le-ltb, ne_eqb}
use Rattle.std.proofs.Math.Dec.{eqb as nat_eq}
use Rattle.std.proofs.lemmas.Bool.{cond-true, cond-false, false≢true}
use Rattle.std.proofs.lemmas.Bool.Decides.{Decides-eqb}
use Rattle.std.proofs.lemmas.Option.{same_Some, none-some}
use Rattle.std.specs.BTreeMap.{insert_entry, is_at}
use Rattle.std.specs.List.{AllByRecursion}
use Rattle.std.specs.List.Sorted.{IsStrictlySortedBy}
use Rattle.std.specs.Map.{keys_of, remove_entry}
use Rattle.std.specs.Ordering.{is_eq, match_ordering, nat_cmp}
use Rattle.std.specs.declared.cmp.Ordering.TheVariants.{Less, Equal, Greater}
use Rattle.ovn_base.specs.lists.Among.{Among, here, there}
use Rattle.ovn_base.proofs.AmongLaws.{among_cases}
use Rattle.chassis_sim.specs.State.{numbered}

-- numbers that compare equal are one
pub same_number : (n k : ℕ) → is_at (nat_cmp n) k ≡ true → n ≡ k
same_number n k e = by (nat_lt n k) (nat_eq n k) refl e
  where
    by : (l q : Bool) → nat_eq n k ≡ q → is_eq (cond l Less (cond q Equal Greater)) ≡ true → n ≡ k
    by true q is h = absurd (false≢true h)
    by false true is h = (Decides-eqb n k).0 is
    by false false is h = absurd (false≢true h)

less_is : (a b : ℕ) → a < b → nat_cmp a b ≡ Less
less_is a b h = cond-true _ _ _ (lt-ltb a b h)

module _ {X : Type 0} where
  -- what is found is one of them
  pub numbered_among : (ws : List (ℕ × X)) (n : ℕ) (x : X) → numbered ws n ≡ Some x → Among (n, x) ws
  numbered_among [] n x e = absurd (none-some x e)
  numbered_among (w ∷ ws) n x e = by (is_at (nat_cmp n) w.0) refl e (numbered_among ws n x)
    where
      by : (b : Bool) → is_at (nat_cmp n) w.0 ≡ b → cond b (Some w.1) (numbered ws n) ≡ Some x → (numbered ws n ≡ Some x → Among (n, x) ws) → Among (n, x) (w ∷ ws)
      by true is h rest =
          let number : n ≡ w.0 = same_number n w.0 is in
          let value : x ≡ w.1 = sym (same_Some w.1 x h) in
          subst (λ (v : ℕ × X). Among v (w ∷ ws)) (λ i. (sym number i, sym value i)) here
      by false is h rest = there (rest h)

  -- what is left is one of them
  pub removed_among : (ws : List (ℕ × X)) (n : ℕ) (v : ℕ × X) → Among v (remove_entry (is_at (nat_cmp n)) ws) → Among v ws
  removed_among [] n v m = m
  removed_among (w ∷ ws) n v m = by (is_at (nat_cmp n) w.0) m (removed_among ws n v)
    where
      by : (b : Bool) → Among v (cond b ws (w ∷ remove_entry (is_at (nat_cmp n)) ws)) → (Among v (remove_entry (is_at (nat_cmp n)) ws) → Among v ws) → Among v (w ∷ ws)
      by true h rest = there h
      by false h rest = elim (among_cases v w (remove_entry (is_at (nat_cmp n)) ws) h) [ inl same ↦ subst (λ (u : ℕ × X). Among u (w ∷ ws)) (sym same) here | inr later ↦ there (rest later) ]

  removed_all : (P : ℕ → Type 0) (ws : List (ℕ × X)) (n : ℕ) → AllByRecursion P (keys_of ws) → AllByRecursion P (keys_of (remove_entry (is_at (nat_cmp n)) ws))
  removed_all P [] n h = h
  removed_all P (w ∷ ws) n h = by (is_at (nat_cmp n) w.0) (removed_all P ws n h.1)
    where
      by : (b : Bool) → AllByRecursion P (keys_of (remove_entry (is_at (nat_cmp n)) ws)) → AllByRecursion P (keys_of (cond b ws (w ∷ remove_entry (is_at (nat_cmp n)) ws)))
      by true rest = h.1
      by false rest = (h.0, rest)

  -- the others stay in order
  pub removed_sorted : (ws : List (ℕ × X)) (n : ℕ) → IsStrictlySortedBy nat_cmp (keys_of ws) → IsStrictlySortedBy nat_cmp (keys_of (remove_entry (is_at (nat_cmp n)) ws))
  unfolding IsStrictlySortedBy
  removed_sorted [] n s = s
  removed_sorted (w ∷ ws) n s = by (is_at (nat_cmp n) w.0) (removed_sorted ws n s.1)
    where
      by : (b : Bool) → IsStrictlySortedBy nat_cmp (keys_of (remove_entry (is_at (nat_cmp n)) ws)) → IsStrictlySortedBy nat_cmp (keys_of (cond b ws (w ∷ remove_entry (is_at (nat_cmp n)) ws)))
      by true rest = s.1
      by false rest = (removed_all (λ y. nat_cmp w.0 y ≡ Less) ws n s.0, rest)

  all_behind : (P : ℕ → Type 0) (ws vs : List (ℕ × X)) → AllByRecursion P (keys_of ws) → AllByRecursion P (keys_of vs) → AllByRecursion P (keys_of (ws ++ vs))
  all_behind P [] vs h k = k
  all_behind P (w ∷ ws) vs h k = (h.0, all_behind P ws vs h.1 k)

  all_above : (a : ℕ) (vs : List (ℕ × X)) → ((n : ℕ) (x : X) → Among (n, x) vs → a < n) → AllByRecursion (λ y. nat_cmp a y ≡ Less) (keys_of vs)
  all_above a [] h = tt
  all_above a (v ∷ vs) h = (less_is a v.0 (h v.0 v.1 here), all_above a vs (λ n x m. h n x (there m)))

  -- greater ones may come behind
  pub behind_sorted : (ws vs : List (ℕ × X)) (next : ℕ) → IsStrictlySortedBy nat_cmp (keys_of ws) → ((n : ℕ) (x : X) → Among (n, x) ws → n < next) → IsStrictlySortedBy nat_cmp (keys_of vs)
      → ((n : ℕ) (x : X) → Among (n, x) vs → next ≤ n) → IsStrictlySortedBy nat_cmp (keys_of (ws ++ vs))
  unfolding IsStrictlySortedBy
  behind_sorted [] vs next s below t above = t
  behind_sorted (w ∷ ws) vs next s below t above = (
    all_behind (λ y. nat_cmp w.0 y ≡ Less) ws vs s.0 (all_above w.0 vs (λ n x m. let low = below w.0 w.1 here in let high = above n x m in omega (arith, low, high))),
    behind_sorted ws vs next s.1 (λ n x m. below n x (there m)) t above,
  )

module _ {X Y : Type 0} (f : X → Y) where
  -- the same numbers, with other values
  abbrev pub over : ℕ × X → ℕ × Y
  over w = (w.0, f w.1)

  pub numbered_map : (ws : List (ℕ × X)) (n : ℕ) → numbered (map over ws) n ≡ option_map f (numbered ws n)
  numbered_map [] n = refl
  numbered_map (w ∷ ws) n = by (is_at (nat_cmp n) w.0) (numbered_map ws n)
    where
      by : (b : Bool) → numbered (map over ws) n ≡ option_map f (numbered ws n) → cond b (Some (f w.1)) (numbered (map over ws) n) ≡ option_map f (cond b (Some w.1) (numbered ws n))
      by true rest = refl
      by false rest = rest

  pub removed_map : (ws : List (ℕ × X)) (n : ℕ) → remove_entry (is_at (nat_cmp n)) (map over ws) ≡ map over (remove_entry (is_at (nat_cmp n)) ws)
  removed_map [] n = refl
  removed_map (w ∷ ws) n = by (is_at (nat_cmp n) w.0) (removed_map ws n)
    where
      by : (b : Bool) → remove_entry (is_at (nat_cmp n)) (map over ws) ≡ map over (remove_entry (is_at (nat_cmp n)) ws)
          → cond b (map over ws) (over w ∷ remove_entry (is_at (nat_cmp n)) (map over ws)) ≡ map over (cond b ws (w ∷ remove_entry (is_at (nat_cmp n)) ws))
      by true rest = refl
      by false rest = ap (λ r. over w ∷ r) rest

greater_is : (a b : ℕ) → b < a → nat_cmp a b ≡ Greater
greater_is a b h = cond-false _ _ _ (le-ltb a b (omega (arith, h))) ∙ cond-false _ _ _ (ne_eqb a b (λ e. omega (arith, e, h)))

module _ {X : Type 0} where
  -- what is put at a number greater than all comes behind
  pub put_behind : (ws : List (ℕ × X)) (n : ℕ) (x : X) → ((k : ℕ) (y : X) → Among (k, y) ws → k < n) → insert_entry nat_cmp ws n x ≡ ws ++ (n, x) ∷ []
  put_behind [] n x below = refl
  put_behind (w ∷ ws) n x below =
      ap (λ o. match_ordering o ((n, x) ∷ w ∷ ws) ((w.0, x) ∷ ws) (w ∷ insert_entry nat_cmp ws n x)) (greater_is n w.0 (below w.0 w.1 here))
      ∙ ap (λ r. w ∷ r) (put_behind ws n x (λ k y m. below k y (there m)))
