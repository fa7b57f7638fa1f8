use Rattle.std.specs.Prelude.{◌≡◌, ◌++◌}
use Rattle.std.specs.Map.{keys_of}
use Rattle.northd_core.proofs.touched.push_switches.Given as goal

-- the switches so far, and those that are left
abbrev pub invariant-switches : goal.invariant-switches
invariant-switches l = l.switches ++ keys_of l.switch-iterator ≡ l.fn.switches ++ keys_of l.records.switches
