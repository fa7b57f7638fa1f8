use Rattle.std.specs.Map.{keys_of}
use Rattle.stage_rows.specs.Units.{units_of_rule}
use Rattle.northd_core.proofs.Joined.{IsJoining, rule_on_each}
use Rattle.northd_core.proofs.units.put_rule.Given as goal

abbrev pub invariant-loop-switch : goal.invariant-loop-switch
invariant-loop-switch l = IsJoining l.fn.units.keys (units_of_rule l.records (l.name, l.rule)) l.units.keys (rule_on_each l.records l.name l.rule (keys_of l.switch-iterator))
