use Rattle.classifier_tests.proofs.sims.proper_once.Goals as goal

pub flows-preserved : goal.flows-preserved
flows-preserved c = record { once = c.in_ok-keep.ensures.once c.flows.invariant.once; proper = c.in_ok-keep.ensures.proper c.flows.invariant.proper }
