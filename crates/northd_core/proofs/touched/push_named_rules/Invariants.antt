use Rattle.std.specs.Prelude.{◌≡◌, ◌++◌, drop, flat_map}
use Rattle.northd_core.specs.Touched.{rule_touched, switches_of_rule}
use Rattle.northd_core.proofs.touched.push_named_rules.Given as goal

-- the units and switches so far, and those of the rules that are left
abbrev pub invariant-rules : goal.invariant-rules
invariant-rules l = record {
  units : l.units ++ flat_map (rule_touched l.before l.after) (drop l.rule-index l.rules) ≡ l.fn.units ++ flat_map (rule_touched l.before l.after) l.rules;
  switches : l.switches ++ flat_map (switches_of_rule l.before l.after) (drop l.rule-index l.rules) ≡ l.fn.switches ++ flat_map (switches_of_rule l.before l.after) l.rules;
}
