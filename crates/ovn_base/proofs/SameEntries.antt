-- Lists in order of name are told by their entries.
use Rattle.std.specs.Prelude.{◌≡◌, List, [], ◌∷◌, Some, refl}
use mathlib.Core.Path.{sym, ap, ◌∙◌}
use mathlib.Core.Logic.{inl, inr}
use Rattle.std.specs.Cmp.Lexicographic.{slice_cmp}
use Rattle.std.specs.List.Sorted.{IsStrictlySortedBy}
use Rattle.std.specs.Ordering.{nat_cmp}
use Rattle.std.specs.declared.cmp.Ordering.TheVariants.{Less}
use Rattle.std.proofs.lemmas.Cmp.{nat_list_cmp_total}
use Rattle.ovn_base.specs.declared.name.Name.{Name}
use Rattle.ovn_base.specs.lists.Among.{Among, here, there}
use Rattle.ovn_base.specs.names.ByName.{at, IsByName}
use Rattle.ovn_base.proofs.AmongLaws.{among_none, among_cases}
use Rattle.ovn_base.proofs.ByNameLaws.{at_among, among_at, above_among, below_apart}

module _ {X : Type 0} where
  pub first_below : (e : Name × X) (es : List (Name × X)) → IsByName (e ∷ es) → (f : Name × X) → Among f es → slice_cmp nat_cmp e.0 f.0 ≡ Less
  unfolding IsStrictlySortedBy
  first_below e es s f m = above_among e.0 f.0 f.1 es s.0 m

  pub rest_sorted : (e : Name × X) (es : List (Name × X)) → IsByName (e ∷ es) → IsByName es
  unfolding IsStrictlySortedBy
  rest_sorted e es s = s.1

  -- no two are each below the other
  not_both : (e f : Name × X) → slice_cmp nat_cmp e.0 f.0 ≡ Less → ¬ (slice_cmp nat_cmp f.0 e.0 ≡ Less)
  not_both e f h k = below_apart e.0 e.0 (nat_list_cmp_total.trans e.0 f.0 e.0 h k) refl

  same_first : (e f : Name × X) (es fs : List (Name × X)) → IsByName (e ∷ es) → IsByName (f ∷ fs) → Among e (f ∷ fs) → Among f (e ∷ es) → e ≡ f
  same_first e f es fs s t m n = elim (among_cases e f fs m) [
    | inl same ↦ same
    | inr behind ↦ elim (among_cases f e es n) [
      | inl same ↦ sym same
      | inr also ↦ absurd (not_both f e (first_below f fs t e behind) (first_below e es s f also))
    ]
  ]

  behind_too : (e f : Name × X) (es fs : List (Name × X)) → e ≡ f → IsByName (e ∷ es) → (g : Name × X) → Among g es → Among g (f ∷ fs) → Among g fs
  behind_too e f es fs same s g m n = elim (among_cases g f fs n) [
    | inl first ↦ absurd (below_apart e.0 g.0 (first_below e es s g m) (ap (λ (x : Name × X). x.0) (first ∙ sym same)))
    | inr k ↦ k
  ]

  -- those with the same entries are the same
  pub same_entries : (es fs : List (Name × X)) → IsByName es → IsByName fs → ((e : Name × X) → Among e es → Among e fs) → ((e : Name × X) → Among e fs → Among e es) → es ≡ fs
  same_entries [] [] s t there_too here_too = refl
  same_entries [] (f ∷ fs) s t there_too here_too = absurd (among_none f (here_too f here))
  same_entries (e ∷ es) [] s t there_too here_too = absurd (among_none e (there_too e here))
  same_entries (e ∷ es) (f ∷ fs) s t there_too here_too =
      let same = same_first e f es fs s t (there_too e here) (here_too f here) in
      let rest = same_entries es fs (rest_sorted e es s) (rest_sorted f fs t)
      (λ g m. behind_too e f es fs same s g m (there_too g (there m)))
      (λ g m. behind_too f e fs es (sym same) t g m (here_too g (there m))) in
      λ i. same i ∷ rest i

  -- and so are those in which the same is found
  pub same_found : (es fs : List (Name × X)) → IsByName es → IsByName fs → ((n : Name) (v : X) → at es n ≡ Some v → at fs n ≡ Some v) → ((n : Name) (v : X) → at fs n ≡ Some v → at es n ≡ Some v) → es ≡ fs
  same_found es fs s t there_too here_too =
      same_entries es fs s t
      (λ e m. at_among fs e.0 e.1 (there_too e.0 e.1 (among_at e.0 e.1 es s m)))
      (λ e m. at_among es e.0 e.1 (here_too e.0 e.1 (among_at e.0 e.1 fs t m)))
