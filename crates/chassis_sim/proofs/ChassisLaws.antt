-- What the chassis hold after a change.
use Rattle.std.specs.Prelude.{◌≡◌, Bool, true, false, cond, List, [], ◌∷◌, map, Option, Some, None, refl}
use Rattle.std.specs.List.{AllByRecursion}
use Rattle.std.proofs.Common.{sym, ap, subst, ◌∙◌, inl, inr}
use Rattle.ovn_base.specs.declared.delta.Delta.{Delta}
use Rattle.ovn_base.specs.declared.name.Name.{Name}
use Rattle.ovn_base.specs.names.SameName.{same_name}
use Rattle.flow_table.specs.declared.flow.Flow.{Flow}
use Rattle.switch_engine.specs.Proper.{IsProper}
use Rattle.switch_engine.proofs.Lists.{all_append}
use Rattle.chassis_sim.specs.declared.change.SimChange.{SimChange}
use Rattle.chassis_sim.specs.Changing.{AreReplaced, gone, come, coming_and_going, IsChanged, IsProperChange}
use Rattle.chassis_sim.specs.Holding.{AreProper}
use Rattle.chassis_sim.specs.Settings.{set_in_turn}
use Rattle.chassis_sim.specs.State.{at_name}
use Rattle.chassis_sim.proofs.Lookups.{set_append}
use Rattle.chassis_sim.proofs.UnderlayLaws.{all_found}

-- the flows are proper, if there are any
abbrev ProperIfAny : Option (List Flow) → Type 0
ProperIfAny None = Unit {0}
ProperIfAny (Some flows) = IsProper flows

any_proper : (found : Option (List Flow)) → ((flows : List Flow) → found ≡ Some flows → IsProper flows) → ProperIfAny found
any_proper None p = tt
any_proper (Some flows) p = p flows refl

-- settings by proper flows leave proper flows
set_proper : (ss : List (Name × Option (List Flow))) (name : Name) (had : Option (List Flow)) → AllByRecursion (λ s. ProperIfAny s.1) ss → ProperIfAny had → ProperIfAny (set_in_turn same_name ss name had)
set_proper [] name had all p = p
set_proper (s ∷ ss) name had all p = set_proper ss name (cond (same_name s.0 name) s.1 had) all.1 (by (same_name s.0 name))
  where
    by : (b : Bool) → ProperIfAny (cond b s.1 had)
    by true = all.0
    by false = p

-- so does a delta
replaced_proper : (delta : Option (Delta Flow)) (before after : Option (List Flow)) → ((d : Delta Flow) → delta ≡ Some d → IsProper d.added) → ProperIfAny before → AreReplaced delta before after → ProperIfAny after
replaced_proper None before after d p is = subst ProperIfAny (sym is) p
replaced_proper (Some delta) None after d p is = subst ProperIfAny (sym is) tt
replaced_proper (Some delta) (Some flows) after d p is =
    subst ProperIfAny (sym is.1) (λ flow m. elim ((is.2 flow).0 m) [ inl new ↦ d delta refl flow new | inr old ↦ p flow old.0 ])

gone_proper : (names : List Name) → AllByRecursion (λ s. ProperIfAny s.1) (map gone names)
gone_proper [] = tt
gone_proper (name ∷ names) = (tt, gone_proper names)

module _ {T : Type 0} (flows_of : T → List Flow) where
  come_proper : (added : List (Name × T)) → AllByRecursion (λ a. IsProper (flows_of a.1)) added → AllByRecursion (λ s. ProperIfAny s.1) (map (come flows_of) added)
  come_proper [] p = tt
  come_proper (a ∷ added) p = (p.0, come_proper added p.1)

  -- deltas, chassis that go, and chassis that come, one after another
  pub changed : (change : SimChange T) (old replaced left new : List (Name × List Flow)) (name : Name)
      → AreReplaced (at_name change.tables name) (at_name old name) (at_name replaced name)
      → at_name left name ≡ set_in_turn same_name (map gone change.removed) name (at_name replaced name)
      → at_name new name ≡ set_in_turn same_name (map (come flows_of) change.added) name (at_name left name)
      → IsChanged flows_of change name (at_name old name) (at_name new name)
  changed change old replaced left new name r l n =
      (at_name replaced name, r, n ∙ ap (λ had. set_in_turn same_name (map (come flows_of) change.added) name had) l ∙ sym (set_append same_name (map gone change.removed) (map (come flows_of) change.added) name (at_name replaced name)))

  -- a change by proper flows leaves proper flows
  pub changed_proper : (change : SimChange T) (old new : List (Name × List Flow)) → IsProperChange flows_of change → AreProper old
      → ((name : Name) → IsChanged flows_of change name (at_name old name) (at_name new name)) → AreProper new
  changed_proper change old new p proper is name flows found =
      let h = is name in
      let between : ProperIfAny h.0 =
      replaced_proper (at_name change.tables name) (at_name old name) h.0 (λ d there. (all_found (λ (table : Name × Delta Flow). IsProper table.1.added) (same_name name) change.tables d p.deltas there).1) (any_proper (at_name old name) (proper name)) h.1 in
      let settings = all_append (λ s. ProperIfAny s.1) (map gone change.removed) (map (come flows_of) change.added) (gone_proper change.removed) (come_proper change.added p.chassis) in
      let after : ProperIfAny (at_name new name) = subst ProperIfAny (sym h.2) (set_proper (coming_and_going flows_of change) name h.0 settings between) in
      subst ProperIfAny found after
