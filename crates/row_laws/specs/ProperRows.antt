-- The flows to which rows are lowered are ones from which each walk ends.
use Rattle.flow_table.specs.declared.flow.Flow.{Flow}
use Rattle.match_cubes.specs.declared.sets.Sets.{Sets}
use Rattle.nb_records.specs.Network.{Network}
use Rattle.nb_rules.specs.Valid.{IsValid}
use Rattle.switch_engine.specs.Proper.{IsProperFlow}
use Rattle.tunnel_keys.specs.Keys.{Keys, IsKeys}
use Rattle.row_laws.specs.BestRow.{IsLoweredRow}

-- Each flow to which a row of valid records is lowered is proper: it sets each register to a number that lies within it, a live port's key
-- among these, and goes on at later tables alone.
abbrev pub ProperRowsLaw : Type 0
ProperRowsLaw = (net : Network) (keys : Keys) (sets : Sets) → IsValid net → IsKeys keys → (flow : Flow) → IsLoweredRow net keys sets flow → IsProperFlow flow
