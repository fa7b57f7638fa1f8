use Rattle.memory_tests.proofs.NoRecords.{no_record}
use Rattle.memory_tests.proofs.sets.records.Goals as goal

pub planned-requires : goal.planned-requires
planned-requires c = no_record _ c.in_ok-records.ensures
