use Rattle.std.specs.Prelude.{◌≡◌, ◌++◌, drop, map}
use Rattle.logical_flows.specs.declared.unit.UnitId.TheVariants.{Rule}
use Rattle.northd_core.proofs.touched.push_on_each.Given as goal

-- the units so far, and those on the switches that are left
abbrev pub invariant-switches : goal.invariant-switches
invariant-switches l = l.units ++ map (Rule l.rule) (drop l.switch-index l.switches) ≡ l.fn.units ++ map (Rule l.rule) l.switches
