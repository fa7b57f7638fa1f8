use Rattle.memory_tests.proofs.NoRecords.{nothing_compiled}
use Rattle.memory_tests.proofs.compiler.Compiler.new.Goals as goal

pub invariant_of-result : goal.invariant_of-result
invariant_of-result c = nothing_compiled _ _ c.in_ok-new.ensures c.in_ok-new-2.ensures
