use Rattle.std.proofs.Common.{◌≡◌, ◌↔◌, ◌⊎◌, ◌++◌, drop}
use Rattle.ovn_base.specs.lists.Among.{Among}
use Rattle.physical_flows.specs.declared.unit.FlowUnit.{FlowUnit}
use Rattle.world_setup.proofs.edited.each_once.Given as goal

-- those that came, with those that are left, are all
abbrev pub invariant-units : goal.invariant-units
invariant-units l = (u : FlowUnit) → Among u l.units ↔ (Among u l.sorted.keys ⊎ Among u (drop l.unit-index l.units))

-- the units so far, and those that are left
abbrev pub invariant-singles : goal.invariant-singles
invariant-singles l = l.singles ++ l.unit-iterator ≡ l.initial.unit-iterator
