use Rattle.switch_engine.specs.Proper.{IsProper}
use Rattle.engine_tests.proofs.rows.put_all.Given as goal

abbrev pub invariant-flows : goal.invariant-flows
invariant-flows l = IsProper l.tables.flows
