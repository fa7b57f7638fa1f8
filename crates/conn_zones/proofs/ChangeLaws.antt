-- Homes that change, one after the other.
use Rattle.std.specs.Prelude.{◌≡◌, true, false, cond, List, ◌∷◌, Option, Some, None, map, refl}
use mathlib.Core.Path.{sym, ap, subst, ◌∙◌}
use mathlib.Core.Logic.{inl, inr}
use Rattle.std.specs.BTreeMap.{is_at}
use Rattle.std.specs.Cmp.Lexicographic.{slice_cmp}
use Rattle.std.specs.Option.{unwrap_or}
use Rattle.std.specs.Ordering.{nat_cmp}
use Rattle.std.proofs.lemmas.Bool.{cond-true, cond-false}
use Rattle.ovn_base.specs.declared.name.Name.{Name}
use Rattle.ovn_base.specs.lists.Among.{Among}
use Rattle.ovn_base.specs.lists.Once.{EachOnce}
use Rattle.ovn_base.specs.names.ByName.{at}
use Rattle.ovn_base.proofs.AmongLaws.{among_map}
use Rattle.ovn_base.proofs.ByNameLaws.{at_head, at_tail, at_among, one_or_two, own_name, other_name}

-- a name that isn't among the names has nothing
pub none_at : {X : Type 0} (es : List (Name × X)) (q : Name) → ¬ Among q (map (λ e. e.0) es) → at es q ≡ None
none_at {X = X} es q absent = by (at es q) refl
  where
    by : (o : Option X) → at es q ≡ o → o ≡ None
    by None is = refl
    by (Some v) is = absurd (absent (among_map (λ (e : Name × X). e.0) (q, v) es (at_among es q v is)))

-- one new home, and then the others
pub step : (before after : List (Name × Name)) (e : Name × Option Name) (rest : List (Name × Option Name)) → EachOnce (map (λ e. e.0) (e ∷ rest))
    → ((q : Name) → at after q ≡ cond (is_at (slice_cmp nat_cmp e.0) q) e.1 (at before q))
    → (q : Name) → unwrap_or (at rest q) (at after q) ≡ unwrap_or (at (e ∷ rest) q) (at before q)
step before after e rest once moved q = elim (one_or_two q e.0) [
  | inl same ↦
      let absent : at rest q ≡ None = none_at rest q (λ m. once.0 (subst (λ n. Among n (map (λ e. e.0) rest)) same m)) in
      let own : is_at (slice_cmp nat_cmp e.0) q ≡ true = subst (λ n. is_at (slice_cmp nat_cmp e.0) n ≡ true) (sym same) (own_name e.0) in
      ap (λ o. unwrap_or o (at after q)) absent ∙ moved q ∙ cond-true (is_at (slice_cmp nat_cmp e.0) q) e.1 (at before q) own
      ∙ sym (ap (λ o. unwrap_or o (at before q)) (ap (λ n. at (e ∷ rest) n) same ∙ at_head e rest))
  | inr apart ↦
      let other : is_at (slice_cmp nat_cmp e.0) q ≡ false = other_name e.0 q (λ h. apart (sym h)) in
      ap (λ o. unwrap_or (at rest q) o) (moved q ∙ cond-false (is_at (slice_cmp nat_cmp e.0) q) e.1 (at before q) other)
      ∙ sym (ap (λ o. unwrap_or o (at before q)) (at_tail e rest q apart))
]
