use Rattle.std.specs.Prelude.{◌≡◌}
use Rattle.nb_records.specs.Switches.{has_some}
use Rattle.northd_core.proofs.touched.has_balancers.Given as goal

-- those that are left tell it
abbrev pub invariant-balancers : goal.invariant-balancers
invariant-balancers l = has_some l._name-iterator ≡ has_some l.records.load_balancers
