-- Rows that name no port but known ones, and no set and no group.
use Rattle.std.specs.Prelude.{◌≡◌, Bool, true, List}
use Rattle.std.specs.List.{AllByRecursion, list_all}
use Rattle.ovn_base.specs.declared.name.Name.{Name}
use Rattle.logical_flows.specs.declared.action.Action.{Action}
use Rattle.logical_flows.specs.declared.action.Action.TheVariants as a
use Rattle.logical_flows.specs.declared.flow.LFlow.{LFlow}
use Rattle.northd_core.proofs.untouched.KnownTerms.{IsKnown}

module _ (known : Name → Bool) where
  -- the action sends to no port but a known one
  abbrev pub sends_known : Action → Bool
  sends_known (a.SetOut q) = known q
  sends_known _ = true

  -- the row's match and its actions name known ports alone
  abbrev pub NamesKnown : LFlow → Type 0
  NamesKnown r = IsKnown known r.matching × (list_all sends_known r.actions ≡ true)

  abbrev pub Are : List LFlow → Type 0
  Are rs = AllByRecursion NamesKnown rs
