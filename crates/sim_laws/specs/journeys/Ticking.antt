-- The clock goes on, in the network and on the simulated chassis.
use Rattle.std.specs.Prelude.{◌+◌, ℕ, map}
use Rattle.chassis_sim.specs.State.{SimState}
use Rattle.chassis_sim.specs.Tables.{seen_by}
use Rattle.conn_zones.specs.Zoning.{Zoned}
use Rattle.match_cubes.specs.declared.sets.Sets.{Sets}
use Rattle.net_model.specs.State.{State, clocked}
use Rattle.switch_engine.specs.Zones.{all_expired}
use Rattle.sim_laws.specs.journeys.Holding.{HoldsNetwork}
use Rattle.sim_laws.specs.journeys.UnderWay.{IsUnderWay}

-- the zones of each chassis without the connections that are idle at the time
abbrev pub all_zones_expired : ℕ → SimState → SimState
all_zones_expired now s = record s { zones = map (seen_by (all_expired now)) s.zones }

-- Once idle connections go on each chassis at the new time, the chassis hold the state in which the clock has gone on, which is sound.
abbrev pub TickLaw : Type 0
TickLaw =
    (m : State) (zones : Zoned) (sets : Sets) (more : ℕ) (s : SimState) (seconds : ℕ)
    → IsUnderWay m zones more → HoldsNetwork m zones.numbers sets s
    → IsUnderWay (clocked seconds m) zones more × HoldsNetwork (clocked seconds m) zones.numbers sets (all_zones_expired (m.clock + seconds) s)
