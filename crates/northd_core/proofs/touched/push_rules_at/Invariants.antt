use Rattle.std.specs.Prelude.{◌≡◌, ◌++◌, drop, flat_map}
use Rattle.northd_core.specs.Touched.{rules_at}
use Rattle.northd_core.proofs.touched.push_rules_at.Given as goal

-- the units so far, and those on the switches that are left
abbrev pub invariant-switches : goal.invariant-switches
invariant-switches l = l.units ++ flat_map (rules_at l.before l.after) (drop l.switch-index l.switches) ≡ l.fn.units ++ flat_map (rules_at l.before l.after) l.switches
