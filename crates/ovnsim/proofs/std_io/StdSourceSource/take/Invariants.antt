use Rattle.std.proofs.Common.{◌≡◌}
use Rattle.ovnsim.proofs.std_io.StdSourceSource.take.Given as goal

abbrev pub invariant-tries : goal.invariant-tries
invariant-tries g l = record { faults : l.self.faults ≡ l.fn.self.faults }
