-- What putting flows in a place does to the counts.
use Rattle.std.proofs.Common.{◌≡◌, ◌≤◌, ◌+◌, ℕ, refl, subst, arith, Bool, true, false, cond, List, [], ◌∷◌, Some, IsSome, unwrap_or, length}
use Rattle.std.proofs.lemmas.Bool.{false≢true}
use Rattle.std.proofs.lemmas.Option.{none-some, same_Some}
use Rattle.std.specs.List.{IsDistinct}
use Rattle.std.specs.Map.{lookup, set_value, remove_entry}
use Rattle.std.specs.Set.{is_member}
use Rattle.flow_refs.specs.Counts.{bit, count_of, HaveOnce}
use Rattle.flow_refs.specs.Store.{put_flows}

module _ {F O : Type 0} (eq : F → F → Bool) (test : O → Bool) where
  -- how many of the flow the place has
  abbrev here : List (O × List F) → F → ℕ
  here es q = bit (is_member eq (unwrap_or (lookup test es) []) q)

  count_set : (es : List (O × List F)) (v : List F) (q : F) → IsSome (lookup test es) → count_of eq (set_value test es v) q + here es q ≡ count_of eq es q + bit (is_member eq v q)
  count_set [] v q place = absurd (false≢true place)
  count_set (e ∷ es) v q place = by (test e.0) place (count_set es v q)
    where
      by : (b : Bool) → IsSome (cond b (Some e.1) (lookup test es)) → (IsSome (lookup test es) → count_of eq (set_value test es v) q + here es q ≡ count_of eq es q + bit (is_member eq v q))
          → count_of eq (cond b ((e.0, v) ∷ es) (e ∷ set_value test es v)) q + bit (is_member eq (unwrap_or (cond b (Some e.1) (lookup test es)) []) q) ≡ (bit (is_member eq e.1 q) + count_of eq es q) + bit (is_member eq v q)
      by true place ih = omega arith
      by false place ih = let h = ih place in omega arith

  pub count_removed : (es : List (O × List F)) (q : F) → count_of eq (remove_entry test es) q + here es q ≡ count_of eq es q
  count_removed [] q = refl
  count_removed (e ∷ es) q = by (test e.0) (count_removed es q)
    where
      by : (b : Bool) → count_of eq (remove_entry test es) q + here es q ≡ count_of eq es q
          → count_of eq (cond b es (e ∷ remove_entry test es)) q + bit (is_member eq (unwrap_or (cond b (Some e.1) (lookup test es)) []) q) ≡ bit (is_member eq e.1 q) + count_of eq es q
      by true ih = omega arith
      by false ih = omega arith

  -- the place's flows count no more, and those that are put there do
  pub count_put : (es : List (O × List F)) (v : List F) (q : F) → IsSome (lookup test es) → count_of eq (put_flows test es v) q + here es q ≡ count_of eq es q + bit (is_member eq v q)
  count_put es [] q place = let h = count_removed es q in omega arith
  count_put es (f ∷ fs) q place = count_set es (f ∷ fs) q place

  -- an origin with the flow counts
  pub here_counts : (es : List (O × List F)) (q : F) → here es q ≤ count_of eq es q
  here_counts [] q = omega arith
  here_counts (e ∷ es) q = by (test e.0) (here_counts es q)
    where
      by : (b : Bool) → here es q ≤ count_of eq es q → bit (is_member eq (unwrap_or (cond b (Some e.1) (lookup test es)) []) q) ≤ bit (is_member eq e.1 q) + count_of eq es q
      by true ih = omega arith
      by false ih = omega arith

  -- each origin has its flows once, also where others are put
  once_set : (es : List (O × List F)) (v : List F) → HaveOnce eq es → IsDistinct eq v → HaveOnce eq (set_value test es v)
  once_set [] v h d = tt
  once_set (e ∷ es) v h d = by (test e.0) (once_set es v h.1 d)
    where
      by : (b : Bool) → HaveOnce eq (set_value test es v) → HaveOnce eq (cond b ((e.0, v) ∷ es) (e ∷ set_value test es v))
      by true rest = (d, h.1)
      by false rest = (h.0, rest)

  pub once_removed : (es : List (O × List F)) → HaveOnce eq es → HaveOnce eq (remove_entry test es)
  once_removed [] h = tt
  once_removed (e ∷ es) h = by (test e.0) (once_removed es h.1)
    where
      by : (b : Bool) → HaveOnce eq (remove_entry test es) → HaveOnce eq (cond b es (e ∷ remove_entry test es))
      by true rest = h.1
      by false rest = (h.0, rest)

  pub once_put : (es : List (O × List F)) (v : List F) → HaveOnce eq es → IsDistinct eq v → HaveOnce eq (put_flows test es v)
  once_put es [] h d = once_removed es h
  once_put es (f ∷ fs) h d = once_set es (f ∷ fs) h d

  -- the flows of a place are each there once
  pub once_at : (es : List (O × List F)) (v : List F) → HaveOnce eq es → lookup test es ≡ Some v → IsDistinct eq v
  once_at [] v h found = absurd (none-some v found)
  once_at (e ∷ es) v h found = by (test e.0) found (once_at es v h.1)
    where
      by : (b : Bool) → cond b (Some e.1) (lookup test es) ≡ Some v → (lookup test es ≡ Some v → IsDistinct eq v) → IsDistinct eq v
      by true found ih = subst (IsDistinct eq) (same_Some e.1 v found) h.0
      by false found ih = ih found

  -- no list grows
  pub length_put : (es : List (O × List F)) (v : List F) → length (put_flows test es v) ≤ length es
  length_put es [] = removed es
    where
      removed : (ds : List (O × List F)) → length (remove_entry test ds) ≤ length ds
      removed [] = omega arith
      removed (d ∷ ds) = by (test d.0) (removed ds)
        where
          by : (b : Bool) → length (remove_entry test ds) ≤ length ds → length (cond b ds (d ∷ remove_entry test ds)) ≤ length (d ∷ ds)
          by true ih = omega arith
          by false ih = omega arith
  length_put es (f ∷ fs) = set es
    where
      set : (ds : List (O × List F)) → length (set_value test ds (f ∷ fs)) ≤ length ds
      set [] = omega arith
      set (d ∷ ds) = by (test d.0) (set ds)
        where
          by : (b : Bool) → length (set_value test ds (f ∷ fs)) ≤ length ds → length (cond b ((d.0, f ∷ fs) ∷ ds) (d ∷ set_value test ds (f ∷ fs))) ≤ length (d ∷ ds)
          by true ih = omega arith
          by false ih = omega arith

module _ {F O : Type 0} (eq : F → F → Bool) where
  -- there are no more than origins
  pub count_few : (es : List (O × List F)) (q : F) → count_of eq es q ≤ length es
  count_few [] q = omega arith
  count_few (e ∷ es) q = by (is_member eq e.1 q) (count_few es q)
    where
      by : (b : Bool) → count_of eq es q ≤ length es → bit b + count_of eq es q ≤ length (e ∷ es)
      by true ih = omega arith
      by false ih = omega arith
