-- What the flows of a chassis follow from in a state, and lists of exactly the flows of a set.
use Rattle.std.specs.Prelude.{◌↔◌, List}
use Rattle.ovn_base.specs.lists.Among.{Among}
use Rattle.ovn_base.specs.declared.name.Name.{Name}
use Rattle.ovn_base.specs.lists.Once.{EachOnce}
use Rattle.flow_table.specs.declared.flow.Flow.{Flow}
use Rattle.conn_zones.specs.Zoning.{GivenNumbers}
use Rattle.net_model.specs.State.{State}
use Rattle.physical_flows.specs.Stages.{Basis}

-- the flows are exactly those of the set, each once
pub record AreExactly (Wanted : Flow → Type 0) (held : List Flow) : Type 0 where
  pub same : (f : Flow) → Among f held ↔ Wanted f
  pub once : EachOnce held

-- what the flows of a chassis follow from, in this state
abbrev pub basis_at : State → GivenNumbers → Name → Basis
basis_at m zones chassis = record { chassis = chassis; all = m.config.chassis; net = m.config.net; bindings = m.config.bindings; keys = m.keys; zones = zones }
