-- Each flow is one of the tables around the pipelines or is not.
use Rattle.std.specs.Prelude.{◌≡◌, ◌↔◌, ◌⊎◌, Bool, true, false, List, flat_map, refl}
use mathlib.Core.Path.{sym, ◌∙◌}
use mathlib.Core.Logic.{inl, inr}
use Rattle.std.proofs.lemmas.Bool.{false≢true}
use Rattle.std.specs.Set.{is_member}
use Rattle.ovn_base.specs.lists.Among.{Among}
use Rattle.ovn_base.proofs.AmongLaws.{among_member, member_among, among_flat_map, flat_map_among}
use Rattle.flow_table.specs.declared.flow.Flow.{Flow}
use Rattle.physical_flows.specs.Around.{around_rows}
use Rattle.physical_flows.specs.AroundLaws.{AroundDecidedLaw}
use Rattle.physical_flows.specs.Stages.{Basis}
use Rattle.physical_flows.specs.UnitFlows.{same_flow}
use Rattle.physical_flows.specs.Units.{all_units, HasRow}
use Rattle.physical_flows.specs.declared.unit.FlowUnit.{FlowUnit}
use Rattle.physical_flows.proofs.AroundSets.{around_set}
use Rattle.physical_flows.proofs.UnitLaws.{around_there}

module _ (exact : (f g : Flow) → (same_flow f g ≡ true) ↔ (f ≡ g)) where
  -- a flow stands in a list or doesn't
  listed_or_not : (f : Flow) (fs : List Flow) → Among f fs ⊎ (¬ Among f fs)
  listed_or_not f fs = by (is_member same_flow fs f) refl
    where
      by : (member : Bool) → is_member same_flow fs f ≡ member → Among f fs ⊎ (¬ Among f fs)
      by true is = inl (member_among same_flow (λ g h e. (exact g h).0 e) f fs is)
      by false is = inr (λ m. false≢true (sym is ∙ among_member same_flow (λ g. (exact g g).1 refl) f fs m))

  -- and is a row of a unit or isn't, where only the units of the records have rows
  row_or_not : (b : Basis) (rows : FlowUnit → List Flow) → ((u : FlowUnit) (f : Flow) → Among f (rows u) → Among u (all_units b.net)) → (f : Flow) → HasRow rows f ⊎ (¬ HasRow rows f)
  row_or_not b rows there f = elim (listed_or_not f (flat_map rows (all_units b.net))) [
    | inl m ↦ let r = flat_map_among rows f (all_units b.net) m in inl (record { unit = r.0; among = r.2 })
    | inr none ↦ inr (λ h. none (among_flat_map rows h.unit f (all_units b.net) (there h.unit f h.among) h.among))
  ]

  pub around_or_not : AroundDecidedLaw
  around_or_not b keyed f = elim (row_or_not b (around_rows b) (around_there b) f) [
    | inl row ↦ inl ((around_set b keyed f).0 row)
    | inr none ↦ inr (λ r. none ((around_set b keyed f).1 r))
  ]
