-- One step of putting flows and of keeping numbers.
use Rattle.std.proofs.Common.{◌≡◌, ◌∙◌, refl, sym, ap, Bool, true, false, cond, ℕ, List, [], ◌∷◌, Some, None}
use Rattle.std.proofs.lemmas.Option.{none-some}
use Rattle.std.specs.Cmp.{IsEquivalence}
use Rattle.std.specs.List.{IsDistinct}
use Rattle.std.specs.Map.{keys_of, lookup, set_value}
use Rattle.std.specs.Option.{option_map_or}
use Rattle.flow_refs.specs.Counts.{positive, kept_number}
use Rattle.flow_refs.specs.Store.{put_flows}
use Rattle.flow_refs.proofs.Lookups.{none_behind}

module _ {F O : Type 0} (test : O → Bool) where
  -- some flows are put
  pub put_filled : (es : List (O × List F)) (flows : List F) → ¬ (flows ≡ []) → set_value test es flows ≡ put_flows test es flows
  put_filled es [] some = absurd (some refl)
  put_filled es (f ∷ fs) some = refl

  -- none are
  pub put_none : (es : List (O × List F)) → (flows : List F) → flows ≡ [] → put_flows test es [] ≡ put_flows test es flows
  put_none es flows none = ap (put_flows test es) (sym none)

  -- nothing is put where there is no place
  pub set_nowhere : (es : List (O × List F)) (flows : List F) → lookup test es ≡ None → set_value test es flows ≡ es
  set_nowhere [] flows none = refl
  set_nowhere (e ∷ es) flows none = by (test e.0) none (set_nowhere es flows)
    where
      by : (b : Bool) → cond b (Some e.1) (lookup test es) ≡ None → (lookup test es ≡ None → set_value test es flows ≡ es) → cond b ((e.0, flows) ∷ es) (e ∷ set_value test es flows) ≡ e ∷ es
      by true none ih = absurd (none-some e.1 (sym none))
      by false none ih = ap (λ l. e ∷ l) (ih none)

module _ {F : Type 0} {eq : F → F → Bool} (laws : IsEquivalence eq) (old new : List (F × ℕ)) (n : F × ℕ) (ns : List (F × ℕ)) where
  -- one number is kept, and then the others
  pub keep_one : IsDistinct eq (keys_of (n ∷ ns)) → ((q : F) → lookup (eq q) new ≡ cond (eq n.0 q) (positive n.1) (lookup (eq q) old)) → (q : F) → kept_number eq new ns q ≡ kept_number eq old (n ∷ ns) q
  keep_one once set q = ap (option_map_or positive (lookup (eq q) ns)) (set q) ∙ by (eq n.0 q) refl ∙ ap (λ b. option_map_or positive (cond b (Some n.1) (lookup (eq q) ns)) (lookup (eq q) old)) (laws.symm n.0 q)
    where
      by : (b : Bool) → eq n.0 q ≡ b → option_map_or positive (lookup (eq q) ns) (cond b (positive n.1) (lookup (eq q) old)) ≡ option_map_or positive (cond b (Some n.1) (lookup (eq q) ns)) (lookup (eq q) old)
      by true same = ap (λ o. option_map_or positive o (positive n.1)) (none_behind laws n ns q once same)
      by false apart = refl
