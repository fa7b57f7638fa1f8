-- The state in which nothing is there, and the simulated chassis that hold nothing.
use Rattle.std.specs.Prelude.{[]}
use Rattle.chassis_sim.specs.State.{nothing_held}
use Rattle.conn_zones.specs.Zoning.{Zoned}
use Rattle.match_cubes.specs.declared.sets.Sets.{Sets}
use Rattle.net_model.specs.State.{empty}
use Rattle.sim_laws.specs.journeys.AtRest.{IsAtRest}
use Rattle.sim_laws.specs.journeys.Holding.{HoldsNetwork}

-- nobody is at home anywhere
abbrev pub nobody_home : Zoned
nobody_home = record { homes = record { ports = []; routers = [] }; numbers = record { ports = []; dnat = []; snat = [] } }

abbrev pub no_sets : Sets
no_sets = record { addresses = []; groups = [] }

-- It is sound, and they hold it.
abbrev pub FirstLaw : Type 0
FirstLaw = IsAtRest empty nobody_home × HoldsNetwork empty nobody_home.numbers no_sets nothing_held
