-- The records of a kind, each at its own name and with fields that fit, stay so when one is put or taken out.
use Rattle.std.specs.Prelude.{◌≡◌, Bool, true, false, cond, List, [], ◌∷◌, Option, Some, None, refl}
use Rattle.std.specs.Cmp.Lexicographic.{slice_cmp}
use Rattle.std.specs.List.{AllByRecursion}
use Rattle.std.specs.List.Sorted.{IsStrictlySortedBy}
use Rattle.std.specs.Map.{keys_of, remove_entry}
use Rattle.std.specs.Ordering.{nat_cmp}
use Rattle.std.specs.declared.cmp.Ordering.TheVariants.{Less}
use mathlib.Core.Path.{sym, ap, subst, ◌∙◌}
use mathlib.Core.Logic.{inl, inr}
use Rattle.ovn_base.specs.declared.name.Name.{Name}
use Rattle.ovn_base.specs.lists.Among.{Among, there}
use Rattle.ovn_base.specs.names.ByName.{at, put, IsByName}
use Rattle.ovn_base.proofs.AmongLaws.{among_cases, among_same, among_all, all_among}
use Rattle.ovn_base.proofs.ByNameLaws.{at_among, among_at, put_other, put_sorted, put_among_cases}
use Rattle.nb_records.specs.Network.{without_entry}
use Rattle.nb_rules.specs.Valid.{AreApart}

-- ---- without an entry

module _ {X : Type 0} (test : Name → Bool) where
  pub removed_among : (es : List (Name × X)) (e : Name × X) → Among e (remove_entry test es) → Among e es
  removed_among [] e m = m
  removed_among (d ∷ es) e m = by (test d.0) m (removed_among es e)
    where
      by : (b : Bool) → Among e (cond b es (d ∷ remove_entry test es)) → (Among e (remove_entry test es) → Among e es) → Among e (d ∷ es)
      by true k rest = there k
      by false k rest = elim (among_cases e d (remove_entry test es) k) [ inl same ↦ among_same e d es same | inr later ↦ there (rest later) ]

  keys_removed : (P : Name → Type 0) (es : List (Name × X)) → AllByRecursion P (keys_of es) → AllByRecursion P (keys_of (remove_entry test es))
  keys_removed P [] h = h
  keys_removed P (d ∷ es) h = by (test d.0) (keys_removed P es h.1)
    where
      by : (b : Bool) → AllByRecursion P (keys_of (remove_entry test es)) → AllByRecursion P (keys_of (cond b es (d ∷ remove_entry test es)))
      by true rest = h.1
      by false rest = (h.0, rest)

  pub removed_sorted : (es : List (Name × X)) → IsByName es → IsByName (remove_entry test es)
  unfolding IsStrictlySortedBy
  removed_sorted [] s = s
  removed_sorted (d ∷ es) s = by (test d.0) (removed_sorted es s.1)
    where
      by : (b : Bool) → IsByName (remove_entry test es) → IsByName (cond b es (d ∷ remove_entry test es))
      by true rest = s.1
      by false rest = (keys_removed (λ y. slice_cmp nat_cmp d.0 y ≡ Less) es s.0, rest)

  pub removed_at : (es : List (Name × X)) → IsByName es → (q : Name) (w : X) → at (remove_entry test es) q ≡ Some w → at es q ≡ Some w
  removed_at es s q w found = among_at q w es s (removed_among es (q, w) (at_among (remove_entry test es) q w found))

-- ---- records of a kind

pub record IsKept {X : Type 0} (name : X → Name) (fits : X → Type 0) (es : List (Name × X)) : Type 0 where
  pub sorted : IsByName es
  pub each : AllByRecursion (λ (e : Name × X). (name e.1 ≡ e.0) × fits e.1) es

module _ {X : Type 0} (name : X → Name) (fits : X → Type 0) where
  pub put_kept : (es : List (Name × X)) (v : X) → IsKept name fits es → fits v → IsKept name fits (put es (name v) v)
  put_kept es v h fit = record {
    sorted = put_sorted es (name v) v h.sorted;
    each = all_among (λ (e : Name × X). (name e.1 ≡ e.0) × fits e.1) (put es (name v) v) (λ e m. elim (put_among_cases es (name v) v h.sorted e.0 e.1 m) [
      | inl new ↦ (ap name new.1 ∙ sym new.0, subst fits (sym new.1) fit)
      | inr old ↦ among_all (λ (e : Name × X). (name e.1 ≡ e.0) × fits e.1) e es h.each old.1
    ]);
  }

  pub removed_kept : (es : List (Name × X)) (q : Name) → IsKept name fits es → IsKept name fits (without_entry es q)
  removed_kept es q h = record {
    sorted = removed_sorted _ es h.sorted;
    each = all_among (λ (e : Name × X). (name e.1 ≡ e.0) × fits e.1) (without_entry es q) (λ e m. among_all (λ (e : Name × X). (name e.1 ≡ e.0) × fits e.1) e es h.each (removed_among _ es e m));
  }

  -- what is found is at its own name, and fits
  pub kept_at : (es : List (Name × X)) → IsKept name fits es → (q : Name) (w : X) → at es q ≡ Some w → (name w ≡ q) × fits w
  kept_at es h q w found = among_all (λ (e : Name × X). (name e.1 ≡ e.0) × fits e.1) (q, w) es h.each (at_among es q w found)

-- ---- kinds of one namespace

absent : {X : Type 0} (a : Option X) → ((w : X) → ¬ (a ≡ Some w)) → a ≡ None
absent None h = refl
absent (Some w) h = absurd (h w refl)

module _ {X Y : Type 0} (es : List (Name × X)) (ds : List (Name × Y)) (apart : AreApart es ds) where
  pub put_apart : IsByName es → (q : Name) (v : X) → at ds q ≡ None → AreApart (put es q v) ds
  put_apart s q v none = all_among (λ (e : Name × X). at ds e.0 ≡ None) (put es q v) (λ e m. elim (put_among_cases es q v s e.0 e.1 m) [
    | inl new ↦ ap (at ds) new.0 ∙ none
    | inr old ↦ among_all (λ (e : Name × X). at ds e.0 ≡ None) e es apart old.1
  ])

  pub apart_put : IsByName es → (q : Name) (v : Y) → at es q ≡ None → AreApart es (put ds q v)
  apart_put s q v none = all_among (λ (e : Name × X). at (put ds q v) e.0 ≡ None) es (λ e m.
      let found = among_at e.0 e.1 es s m in
      put_other ds q v e.0 (λ same. let some : at es q ≡ Some e.1 = ap (at es) (sym same) ∙ found in let clash : None ≡ Some e.1 = sym none ∙ some in cc)
      ∙ among_all (λ (e : Name × X). at ds e.0 ≡ None) e es apart m)

  pub removed_apart : (test : Name → Bool) → AreApart (remove_entry test es) ds
  removed_apart test = all_among (λ (e : Name × X). at ds e.0 ≡ None) (remove_entry test es) (λ e m. among_all (λ (e : Name × X). at ds e.0 ≡ None) e es apart (removed_among test es e m))

  pub apart_removed : (test : Name → Bool) → IsByName ds → AreApart es (remove_entry test ds)
  apart_removed test s = all_among (λ (e : Name × X). at (remove_entry test ds) e.0 ≡ None) es (λ e m.
      absent (at (remove_entry test ds) e.0) (λ w found.
      let old = removed_at test ds s e.0 w found in
      let none = among_all (λ (e : Name × X). at ds e.0 ≡ None) e es apart m in
      let clash : None ≡ Some w = sym none ∙ old in
      cc))

  -- at a name of the first there is none of the second
  pub apart_at : (q : Name) (w : X) → at es q ≡ Some w → at ds q ≡ None
  apart_at q w found = among_all (λ (e : Name × X). at ds e.0 ≡ None) (q, w) es apart (at_among es q w found)

  pub apart_back : IsByName es → (q : Name) (w : Y) → at ds q ≡ Some w → at es q ≡ None
  apart_back s q w found = absent (at es q) (λ v there'. let none = apart_at q v there' in let clash : None ≡ Some w = sym none ∙ found in cc)
