-- Values under names.
use Rattle.std.specs.BTreeMap.{is_at}
use Rattle.std.specs.Cmp.Lexicographic.{slice_cmp}
use Rattle.std.specs.Ordering.{nat_cmp}
use Rattle.std.proofs.lemmas.Bool.{cond-true, cond-false}
use Rattle.std.specs.Prelude.{◌≡◌, ◌≢◌, Bool, true, false, cond, List, [], ◌∷◌, ◌++◌, Option, Some, None, refl}
use mathlib.Core.Path.{sym, ap, subst, ◌∙◌}
use mathlib.Core.Logic.{inl, inr}
use Rattle.std.specs.Option.{unwrap_or}
use Rattle.ovn_base.specs.declared.name.Name.{Name}
use Rattle.ovn_base.specs.names.ByName.{at, put}
use Rattle.tunnel_keys.specs.Grouped.{grouped_under}
use Rattle.ovn_base.specs.names.SameName.{same_name}
use Rattle.tunnel_keys.specs.Same.{name_exact, name_own}
use Rattle.ovn_base.proofs.ByNameLaws.{one_or_two, own_name, other_name, put_there, put_other}
use Rattle.tunnel_keys.proofs.Lists.{append_none}

apart_false : (a b : Name) → a ≢ b → same_name a b ≡ false
apart_false a b apart = by (same_name a b) refl
  where
    by : (t : Bool) → same_name a b ≡ t → t ≡ false
    by true is = absurd (apart (name_exact a b is))
    by false is = refl

-- under the other names comes nothing
pub other_under : {X : Type 0} (a b : Name) (v : X) (xs : List X) → a ≢ b → xs ≡ xs ++ cond (same_name a b) (v ∷ []) []
other_under {X} a b v xs apart = sym (append_none xs) ∙ ap (λ (t : Bool). xs ++ cond {A = List X} t (v ∷ []) []) (sym (apart_false a b apart))

module _ {X : Type 0} (es : List (Name × List X)) (name : Name) (v : X) (q : Name) where
  under_it : q ≡ name → (old : List X) → grouped_under es q ≡ old → old ++ v ∷ [] ≡ grouped_under es q ++ cond (same_name q name) (v ∷ []) []
  under_it same old was =
      ap (λ (l : List X). l ++ v ∷ []) (sym was)
      ∙ ap (λ b. grouped_under es q ++ cond b (v ∷ []) []) (sym (ap (λ n. same_name q n) (sym same) ∙ name_own q))

  under_other : q ≢ name → grouped_under es q ≡ grouped_under es q ++ cond (same_name q name) (v ∷ []) []
  under_other apart = other_under q name v (grouped_under es q) apart

-- a first value under the name
pub put_under : {X : Type 0} (es : List (Name × List X)) (name : Name) (v : X) → at es name ≡ None → (q : Name)
    → grouped_under (put es name (v ∷ [])) q ≡ grouped_under es q ++ cond (same_name q name) (v ∷ []) []
put_under {X} es name v none q = elim (one_or_two q name) [
  | inl same ↦
      ap (λ (o : Option (List X)). unwrap_or o []) (ap (λ n. at (put es name (v ∷ [])) n) same ∙ put_there es name (v ∷ []))
      ∙ under_it es name v q same [] (ap (λ (o : Option (List X)). unwrap_or o []) (ap (λ n. at es n) same ∙ none))
  | inr apart ↦ ap (λ (o : Option (List X)). unwrap_or o []) (put_other es name (v ∷ []) q apart) ∙ under_other es name v q apart
]

-- one more value under the name
pub set_under : {X : Type 0} (es ds : List (Name × List X)) (name : Name) (old : List X) (v : X) → at es name ≡ Some old
    → ((q : Name) → at ds q ≡ cond (is_at (slice_cmp nat_cmp name) q) (Some (old ++ v ∷ [])) (at es q)) → (q : Name)
    → grouped_under ds q ≡ grouped_under es q ++ cond (same_name q name) (v ∷ []) []
set_under {X} es ds name old v was sets q = elim (one_or_two q name) [
  | inl same ↦
      ap (λ (o : Option (List X)). unwrap_or o []) (sets q ∙ cond-true (is_at (slice_cmp nat_cmp name) q) (Some (old ++ v ∷ [])) (at es q) (subst (λ n. is_at (slice_cmp nat_cmp name) n ≡ true) (sym same) (own_name name)))
      ∙ under_it es name v q same old (ap (λ (o : Option (List X)). unwrap_or o []) (ap (λ n. at es n) same ∙ was))
  | inr apart ↦
      ap (λ (o : Option (List X)). unwrap_or o []) (sets q ∙ cond-false (is_at (slice_cmp nat_cmp name) q) (Some (old ++ v ∷ [])) (at es q) (other_name name q (λ same. apart (sym same))))
      ∙ under_other es name v q apart
]
