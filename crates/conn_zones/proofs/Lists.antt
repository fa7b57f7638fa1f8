-- Entries that pass a test.
use Rattle.std.specs.Prelude.{◌≡◌, Bool, true, false, cond, List, [], ◌∷◌, filter, Option, Some, None, refl}
use mathlib.Core.Path.{sym, ap, ◌∙◌}
use Rattle.std.specs.Cmp.Lexicographic.{slice_cmp}
use Rattle.std.specs.List.{AllByRecursion}
use Rattle.std.specs.List.Sorted.{IsStrictlySortedBy}
use Rattle.std.specs.Map.{keys_of}
use Rattle.std.specs.Ordering.{nat_cmp}
use Rattle.std.specs.declared.cmp.Ordering.TheVariants.{Less}
use Rattle.std.proofs.lemmas.Bool.{cond-true}
use Rattle.std.proofs.lemmas.Map.Entries.{option_filter}
use Rattle.std.proofs.lemmas.Option.{none-some, cond_some}
use Rattle.ovn_base.specs.declared.name.Name.{Name}
use Rattle.ovn_base.specs.names.ByName.{at, IsByName}
use Rattle.ovn_base.proofs.AmongLaws.{among_filter, filter_among}
use Rattle.ovn_base.proofs.ByNameLaws.{at_among, among_at}
use Rattle.ovn_base.proofs.SameEntries.{same_found}

module _ {X : Type 0} where
  -- what is found among those that pass a test
  pub found_kept : (test : Name × X → Bool) (es : List (Name × X)) → IsByName es → (n : Name) (v : X) → at (filter test es) n ≡ Some v → (at es n ≡ Some v) × (test (n, v) ≡ true)
  found_kept test es s n v h = let m = filter_among test (n, v) es (at_among (filter test es) n v h) in (among_at n v es s m.0, m.1)

  pub kept_found : (test : Name × X → Bool) (es : List (Name × X)) → IsByName (filter test es) → (n : Name) (v : X) → at es n ≡ Some v → test (n, v) ≡ true → at (filter test es) n ≡ Some v
  kept_found test es s n v h e = among_at n v (filter test es) s (among_filter test (n, v) es (at_among es n v h) e)

  -- they are in order
  all_kept : (P : Name → Type 0) (test : Name × X → Bool) (es : List (Name × X)) → AllByRecursion P (keys_of es) → AllByRecursion P (keys_of (filter test es))
  all_kept P test [] h = tt
  all_kept P test (e ∷ es) h = by (test e) (all_kept P test es h.1)
    where
      by : (b : Bool) → AllByRecursion P (keys_of (filter test es)) → AllByRecursion P (keys_of (cond b (e ∷ filter test es) (filter test es)))
      by true rest = (h.0, rest)
      by false rest = rest

  pub kept_sorted : (test : Name × X → Bool) (es : List (Name × X)) → IsByName es → IsByName (filter test es)
  unfolding IsStrictlySortedBy
  kept_sorted test [] s = tt
  kept_sorted test (e ∷ es) s = by (test e) (kept_sorted test es s.1)
    where
      by : (b : Bool) → IsByName (filter test es) → IsByName (cond b (e ∷ filter test es) (filter test es))
      by true rest = (all_kept (λ y. slice_cmp nat_cmp e.0 y ≡ Less) test es s.0, rest)
      by false rest = rest

  -- a list in which they are found, and nothing else, is that of them
  pub is_kept_list : (test : Name × X → Bool) (es fs : List (Name × X)) → IsByName es → IsByName fs → ((n : Name) → at fs n ≡ option_filter (λ v. test (n, v)) (at es n)) → fs ≡ filter test es
  is_kept_list test es fs s t is = same_found fs (filter test es) t (kept_sorted test es s) (λ n v h. there_too n v (at es n) refl (sym (is n) ∙ h)) here_too
    where
      here_too : (n : Name) (v : X) → at (filter test es) n ≡ Some v → at fs n ≡ Some v
      here_too n v h =
          let k = found_kept test es s n v h in
          is n ∙ ap (λ o. option_filter (λ w. test (n, w)) o) k.0 ∙ cond-true (test (n, v)) (Some v) None k.1

      there_too : (n : Name) (v : X) (o : Option X) → at es n ≡ o → option_filter (λ w. test (n, w)) o ≡ Some v → at (filter test es) n ≡ Some v
      there_too n v None e h = absurd (none-some v h)
      there_too n v (Some w) e h =
          let p = cond_some (test (n, w)) w v h in
          kept_found test es (kept_sorted test es s) n v (e ∙ ap (λ x. Some x) p.1) (ap (λ x. test (n, x)) (sym p.1) ∙ p.0)
