use Rattle.std.specs.Prelude.{◌≡◌, ◌++◌, filter, map}
use Rattle.std.specs.Map.{keys_of}
use Rattle.logical_flows.specs.declared.unit.UnitId.TheVariants.{Rule}
use Rattle.northd_core.specs.Touched.{is_on_either, rules_at}
use Rattle.northd_core.proofs.touched.push_rules.Given as goal

-- the units so far, and those of the rules that are left
abbrev pub invariant-rules : goal.invariant-rules
invariant-rules l =
    l.units ++ map (λ rule. Rule rule l.switch) (filter (λ rule. is_on_either l.before l.after rule l.switch) (keys_of l.rule-iterator)) ≡ l.fn.units ++ rules_at l.before l.after l.switch
