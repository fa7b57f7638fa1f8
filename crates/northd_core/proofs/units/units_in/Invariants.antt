use Rattle.std.specs.Prelude.{◌⊎◌, ◌↔◌, drop}
use Rattle.ovn_base.specs.lists.Among.{Among}
use Rattle.logical_flows.specs.declared.unit.UnitId.{UnitId}
use Rattle.northd_core.proofs.units.units_in.Given as goal

-- those in the set, with those that are left, are all
abbrev pub invariant-units : goal.invariant-units
invariant-units l = (u : UnitId) → Among u l.units ↔ (Among u l.set.keys ⊎ Among u (drop l.unit-index l.units))
