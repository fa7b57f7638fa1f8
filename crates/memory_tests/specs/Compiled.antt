-- What a compiler of edits keeps.
use Rattle.nb_records.specs.Network.{Network}
use Rattle.nb_rules.specs.Valid.{IsValid}
use Rattle.northd_core.specs.Held.{North, StandsFor}

-- the records are valid, and what is held stands for them
pub record IsCompiled (net : Network) (north : North) : Type 0 where
  pub valid : IsValid net
  pub stands : StandsFor net north
