-- Lists without repeats.
use Rattle.std.specs.Prelude.{◌≡◌, ◌≤◌, ◌+◌, suc, Bool, true, false, cond, List, [], ◌∷◌, ◌++◌, length, map, filter}
use mathlib.Core.Path.{sym, ap, subst, ◌∙◌}
use mathlib.Core.Logic.{inl, inr}
use native.Mathlib.Omega.{arith}
use Rattle.std.proofs.lemmas.List.{length-append}
use Rattle.ovn_base.specs.declared.name.Name.{Name}
use Rattle.ovn_base.specs.lists.Among.{Among, here, there}
use Rattle.ovn_base.specs.lists.Once.{EachOnce}
use Rattle.ovn_base.specs.names.ByName.{IsByName}
use Rattle.ovn_base.proofs.AmongLaws.{among_cases, among_append, among_left, among_right, among_map, map_among, filter_among, among_split}
use Rattle.ovn_base.proofs.ByNameLaws.{below_apart}
use Rattle.ovn_base.proofs.SameEntries.{first_below, rest_sorted}

module _ {X : Type 0} where
  -- two lists that have nothing in common
  pub once_append : (xs ys : List X) → EachOnce xs → EachOnce ys → ((x : X) → Among x xs → ¬ Among x ys) → EachOnce (xs ++ ys)
  once_append [] ys h k apart = k
  once_append (x ∷ xs) ys h k apart = (
    λ m. elim (among_append x xs ys m) [ inl a ↦ h.0 a | inr b ↦ apart x here b ],
    once_append xs ys h.1 k (λ z m. apart z (there m)),
  )

  -- without one of them
  between : (x z : X) (before after : List X) → Among z (before ++ x ∷ after) → ¬ (z ≡ x) → Among z (before ++ after)
  between x z before after m other = elim (among_append z before (x ∷ after) m) [
    | inl a ↦ among_left z before after a
    | inr b ↦ elim (among_cases z x after b) [ inl same ↦ absurd (other same) | inr c ↦ among_right z before after c ]
  ]

  -- a list without repeats is no longer than one that has all its elements
  pub once_few : (xs ys : List X) → EachOnce xs → ((x : X) → Among x xs → Among x ys) → length xs ≤ length ys
  once_few [] ys once h = omega arith
  once_few (x ∷ xs) ys once h =
      let s = among_split x ys (h x here) in
      let fewer = once_few xs (s.0 ++ s.1) once.1 (λ z m. between x z s.0 s.1 (subst (λ l. Among z l) s.2 (h z (there m))) (λ same. once.0 (subst (λ y. Among y xs) same m))) in
      let long : length ys ≡ length s.0 + suc (length s.1) = ap (λ (l : List X). length l) s.2 ∙ length-append s.0 (x ∷ s.1) in
      let short = length-append s.0 s.1 in
      omega (arith, fewer, long, short)

module _ {X Y : Type 0} (f : X → Y) (test : X → Bool) where
  -- those that pass a test
  pub once_filter : (xs : List X) → EachOnce (map f xs) → EachOnce (map f (filter test xs))
  once_filter [] h = tt
  once_filter (x ∷ xs) h = by (test x) (once_filter xs h.1)
    where
      by : (b : Bool) → EachOnce (map f (filter test xs)) → EachOnce (map f (cond b (x ∷ filter test xs) (filter test xs)))
      by true rest = (
        λ m. let r = map_among f (f x) (filter test xs) m in
            let kept = filter_among test r.0 xs r.1 in
            h.0 (subst (λ y. Among y (map f xs)) (sym r.2) (among_map f r.0 xs kept.0)),
        rest,
      )
      by false rest = rest

module _ {X : Type 0} where
  -- images of entries that tell their names stand once
  pub once_named : {Y : Type 0} (f : Name × X → Y) → ((d e : Name × X) → f d ≡ f e → d.0 ≡ e.0) → (es : List (Name × X)) → IsByName es → EachOnce (map f es)
  once_named f tells [] s = tt
  once_named f tells (e ∷ es) s = (
    λ m. let r = map_among f (f e) es m in below_apart e.0 r.0.0 (first_below e es s r.0 r.1) (sym (tells e r.0 r.2)),
    once_named f tells es (rest_sorted e es s),
  )
