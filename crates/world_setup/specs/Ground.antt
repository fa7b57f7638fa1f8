-- What the tables of the chassis follow from, and how an event changes it.
use Rattle.std.specs.Prelude.{Option, None, Some, unwrap_or}
use Rattle.std.specs.Option.{option_map}
use Rattle.ovn_base.specs.declared.name.Name.{Name}
use Rattle.conn_zones.specs.Rezoning.{IsZonePatchFor}
use Rattle.conn_zones.specs.Zoning.{Zoned}
use Rattle.nb_edits.specs.declared.plan.EditPlan.{EditPlan}
use Rattle.net_model.specs.Config.{Config}
use Rattle.net_model.specs.State.{State}
use Rattle.physical_flows.specs.Stages.{Basis}
use Rattle.tunnel_keys.specs.Edits.{IsPlanFor}
use Rattle.tunnel_keys.specs.Keys.{Keys}
use Rattle.world_setup.specs.declared.ground.GroundChange.{GroundChange}

-- the configuration, the keys, and the numbers of zones
pub record GroundView : Type 0 where
  pub config : Config
  pub keys : Keys
  pub zones : Zoned

-- what the flows of a chassis follow from
abbrev pub basis_in : GroundView → Name → Basis
basis_in g c = record { chassis = c; all = g.config.chassis; net = g.config.net; bindings = g.config.bindings; keys = g.keys; zones = g.zones.numbers }

-- the ground of a state
abbrev pub ground_of : State → Zoned → GroundView
ground_of m zones = record { config = m.config; keys = m.keys; zones = zones }

-- the ground after a change: what isn't changed stays
abbrev pub ground_after : GroundChange → GroundView → GroundView
ground_after c g = record {
  config = record { net = unwrap_or (option_map (λ plan. plan.after) c.records) g.config.net; chassis = unwrap_or c.chassis g.config.chassis; bindings = (unwrap_or c.zones g.zones).homes.ports };
  keys = unwrap_or c.keys g.keys;
  zones = unwrap_or c.zones g.zones;
}

-- what is planned was planned for what is there
abbrev pub IsPlanned : Keys → Option Keys → Type 0
IsPlanned keys None = Unit {0}
IsPlanned keys (Some plan) = IsPlanFor keys plan

abbrev pub IsPatched : Zoned → Option Zoned → Type 0
IsPatched zones None = Unit {0}
IsPatched zones (Some patch) = IsZonePatchFor zones patch

pub record IsChangeOf (g : GroundView) (c : GroundChange) : Type 0 where
  pub keys : IsPlanned g.keys c.keys
  pub zones : IsPatched g.zones c.zones

-- the change that a mark makes: to records that are planned, and nothing else
abbrev pub mark_change : EditPlan → GroundChange
mark_change plan = record { records = Some plan; chassis = None; keys = None; zones = None }
