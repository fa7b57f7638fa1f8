use Rattle.std.specs.Prelude.{◌≡◌, ◌++◌, filter}
use Rattle.std.specs.Map.{keys_of}
use Rattle.northd_core.specs.Touched.{is_on_either, switches_of_rule}
use Rattle.northd_core.proofs.touched.switches_of_rule.Given as goal

-- the switches so far, and those of the ones that are left
abbrev pub invariant-switches : goal.invariant-switches
invariant-switches l = l.names ++ filter (is_on_either l.before l.after l.rule) (keys_of l.switch-iterator) ≡ switches_of_rule l.before l.after l.rule
