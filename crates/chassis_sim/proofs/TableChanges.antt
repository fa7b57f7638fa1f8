-- Deltas that are made one after another.
use Rattle.std.specs.Prelude.{◌≡◌, Bool, true, false, cond, List, [], ◌∷◌, Option, Some, refl}
use Rattle.std.specs.List.{AllByRecursion}
use Rattle.std.specs.Map.{keys_of}
use Rattle.std.proofs.Common.{sym, subst}
use Rattle.ovn_base.specs.declared.delta.Delta.{Delta}
use Rattle.ovn_base.specs.declared.name.Name.{Name}
use Rattle.ovn_base.specs.lists.Among.{Among}
use Rattle.ovn_base.specs.names.SameName.{same_name, bytes_decides}
use Rattle.flow_table.specs.declared.flow.Flow.{Flow}
use Rattle.chassis_sim.specs.Changing.{AreReplaced}
use Rattle.chassis_sim.specs.State.{at_name}
use Rattle.chassis_sim.proofs.Lookups.{none_named, others_apart, same_back}

-- what the other deltas make of the flows after the first one, all make of those before it
pub one_more : (e : Name × Delta Flow) (es : List (Name × Delta Flow)) (old new : List (Name × List Flow)) → ¬ Among e.0 (keys_of es)
    → AreReplaced (Some e.1) (at_name old e.0) (at_name new e.0)
    → ((other : Name) → same_name e.0 other ≡ false → at_name new other ≡ at_name old other)
    → (name : Name) (after : Option (List Flow)) → AreReplaced (at_name es name) (at_name new name) after → AreReplaced (at_name (e ∷ es) name) (at_name old name) after
one_more e es old new absent one others name after h = by (same_name name e.0) refl
  where
    by : (b : Bool) → same_name name e.0 ≡ b → AreReplaced (cond b (Some e.1) (at_name es name)) (at_name old name) after
    by true is =
        let same : name ≡ e.0 = (bytes_decides name e.0).0 is in
        let there : AreReplaced (at_name es e.0) (at_name new e.0) after = subst (λ n. AreReplaced (at_name es n) (at_name new n) after) same h in
        let now : after ≡ at_name new e.0 = subst (λ o. AreReplaced o (at_name new e.0) after) (none_named es e.0 absent) there in
        subst (λ n. AreReplaced (Some e.1) (at_name old n) after) (sym same) (subst (λ o. AreReplaced (Some e.1) (at_name old e.0) o) (sym now) one)
    by false is = subst (λ o. AreReplaced (at_name es name) o after) (others name (same_back name e.0 is)) h

module _ {D X : Type 0} (Q : D → Option X → Type 0) (old new : List (Name × X)) (name : Name) (others : (other : Name) → same_name name other ≡ false → at_name new other ≡ at_name old other) where
  kept : (es : List (Name × D)) → AllByRecursion (λ e. same_name name e.0 ≡ false) es → AllByRecursion (λ e. Q e.1 (at_name old e.0)) es → AllByRecursion (λ e. Q e.1 (at_name new e.0)) es
  kept [] apart h = tt
  kept (e ∷ es) apart h = (subst (Q e.1) (sym (others e.0 apart.0)) h.0, kept es apart.1 h.1)

  -- what holds of the values of other names goes on to hold
  pub all_kept : (es : List (Name × D)) → ¬ Among name (keys_of es) → AllByRecursion (λ e. Q e.1 (at_name old e.0)) es → AllByRecursion (λ e. Q e.1 (at_name new e.0)) es
  all_kept es absent h = kept es (others_apart name es absent) h
