-- Where what is held is left as it was, it is compiled as it was.
use Rattle.nb_records.specs.Network.{Network}
use Rattle.northd_core.specs.Held.{North}
use Rattle.northd_core.specs.Plans.{IsLeft}
use Rattle.memory_tests.specs.Compiled.{IsCompiled}

pub left_compiled : (net : Network) (old new : North) → IsLeft old new → IsCompiled net old → IsCompiled net new
left_compiled net old new left compiled = record {
  valid = compiled.valid;
  stands = left.stands net compiled.stands;
}
