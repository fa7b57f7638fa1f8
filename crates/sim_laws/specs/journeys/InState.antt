-- A chassis in a state of the network.
use Rattle.std.specs.Prelude.{List}
use Rattle.conn_zones.specs.Zoning.{GivenNumbers, number_on}
use Rattle.conn_zones.specs.declared.numbers.ZoneUse.{ZoneUse}
use Rattle.conn_zones.specs.declared.numbers.ZoneUse.TheVariants as zone
use Rattle.flow_table.specs.declared.flow.Flow.{Flow}
use Rattle.match_cubes.specs.declared.sets.Sets.{Sets}
use Rattle.net_model.specs.Journey.{scene_at}
use Rattle.net_model.specs.State.{State}
use Rattle.net_model.specs.Trail.{ListOwner, of_port, dnat_of, snat_of}
use Rattle.ovn_base.specs.declared.name.Name.{Name}
use Rattle.switch_engine.specs.Outcome.{Choosing}
use Rattle.switch_engine.specs.declared.effect.Entry.{Entry}
use Rattle.sim_laws.specs.pipelines.HeldLists.{ZoneNumbers}
use Rattle.sim_laws.specs.pipelines.Standing.{Chassis}

-- the zone of each connection list
abbrev pub use_of : ListOwner → ZoneUse
use_of (of_port q) = zone.Port q
use_of (dnat_of r) = zone.Dnat r
use_of (snat_of r) = zone.Snat r

-- the numbers of the zones on the chassis
abbrev pub zones_on : GivenNumbers → Name → ZoneNumbers
zones_on numbers chassis owner = number_on numbers chassis (use_of owner)

-- the chassis in this state, with the sets with which rows are lowered; its walks make such choices, go through these flows, and begin at this
-- entry
abbrev pub chassis_at : State → GivenNumbers → Sets → Choosing → List Flow → Entry → Name → Chassis
chassis_at m numbers sets by flows entry chassis = record { scene = scene_at m chassis; keys = m.keys; sets = sets; number = zones_on numbers chassis; by = by; flows = flows; entry = entry }
