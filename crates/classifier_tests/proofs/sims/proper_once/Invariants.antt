use Rattle.ovn_base.specs.lists.Once.{EachOnce}
use Rattle.switch_engine.specs.Proper.{IsProper}
use Rattle.classifier_tests.proofs.sims.proper_once.Given as goal

abbrev pub invariant-flows : goal.invariant-flows
invariant-flows l = record { once : EachOnce l.kept; proper : IsProper l.kept }
