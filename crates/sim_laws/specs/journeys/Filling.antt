-- How the tables of a chassis come about.
use Rattle.std.specs.Prelude.{ℕ, List}
use Rattle.conn_zones.specs.Zoning.{Zoned}
use Rattle.flow_table.specs.declared.flow.Flow.{Flow}
use Rattle.match_cubes.specs.declared.sets.Sets.{Sets}
use Rattle.net_model.specs.State.{State}
use Rattle.ovn_base.specs.declared.name.Name.{Name}
use Rattle.physical_flows.specs.ChassisFlows.{AreExactly}
use Rattle.sim_laws.specs.journeys.Tables.{AreTablesOf, ChassisFlow}
use Rattle.sim_laws.specs.journeys.UnderWay.{IsUnderWay}

-- Flows that are exactly those of a chassis are in its tables: no stage has a table around the pipelines.
abbrev pub FillingLaw : Type 0
FillingLaw =
    (m : State) (zones : Zoned) (more : ℕ) (sets : Sets) (chassis : Name) (flows : List Flow)
    → IsUnderWay m zones more → AreExactly (ChassisFlow m zones.numbers sets chassis) flows → AreTablesOf m zones.numbers sets chassis flows
