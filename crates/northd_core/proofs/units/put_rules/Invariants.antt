use Rattle.std.specs.Prelude.{flat_map}
use Rattle.stage_rows.specs.Units.{rule_units, units_of_rule}
use Rattle.northd_core.proofs.Joined.{IsJoining}
use Rattle.northd_core.proofs.units.put_rules.Given as goal

abbrev pub invariant-loop-name : goal.invariant-loop-name
invariant-loop-name l = IsJoining l.fn.units.keys (rule_units l.records) l.units.keys (flat_map (units_of_rule l.records) l.name-iterator)
