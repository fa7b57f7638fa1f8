-- What holds of the rows around the pipelines.
use Rattle.std.specs.Prelude.{◌≡◌, ◌↔◌, ◌⊎◌, true}
use Rattle.conn_zones.specs.Zoning.{Zoned, IsZoned}
use Rattle.flow_table.specs.declared.flow.Flow.{Flow}
use Rattle.nb_records.specs.Network.{Network}
use Rattle.net_model.specs.State.{State}
use Rattle.ovn_base.specs.declared.name.Name.{Name}
use Rattle.ovn_base.specs.lists.Once.{EachOnce}
use Rattle.physical_flows.specs.Around.{AroundFlow, is_around, around_everywhere, around_rows}
use Rattle.physical_flows.specs.ChassisFlows.{basis_at}
use Rattle.physical_flows.specs.RecordKeys.{HaveKeys}
use Rattle.physical_flows.specs.Stages.{Basis}
use Rattle.physical_flows.specs.Switched.{IsKeyed}
use Rattle.physical_flows.specs.Units.{HasRow, ChangeOnly, all_units, no_rows}
use Rattle.physical_flows.specs.declared.unit.FlowUnit.{FlowUnit}
use Rattle.switch_engine.specs.Proper.{IsProperFlow}
use Rattle.tunnel_keys.specs.Keys.{Keys}

-- The rows of all units are exactly the flows of the tables around the pipelines.
abbrev pub AroundSetLaw : Type 0
AroundSetLaw = (b : Basis) → IsKeyed b.net b.keys → (f : Flow) → HasRow (around_rows b) f ↔ AroundFlow b f

-- Each flow is one of them or isn't, and those that are have one of the tables.
abbrev pub AroundDecidedLaw : Type 0
AroundDecidedLaw = (b : Basis) → IsKeyed b.net b.keys → (f : Flow) → AroundFlow b f ⊎ (¬ AroundFlow b f)

abbrev pub AroundTablesLaw : Type 0
AroundTablesLaw = (b : Basis) (f : Flow) → AroundFlow b f → is_around f.table ≡ true

-- They are proper: each number lies within its register, and each flow goes on at later tables.
abbrev pub AroundProperLaw : Type 0
AroundProperLaw =
    (m : State) (zones : Zoned) (chassis : Name) → HaveKeys m.config.net m.keys → IsZoned zones
    → (f : Flow) → AroundFlow (basis_at m zones.numbers chassis) f → IsProperFlow f

-- The rows that are the same on every chassis don't follow from the chassis.
abbrev pub AroundAlikeLaw : Type 0
AroundAlikeLaw = (b : Basis) (chassis : Name) (u : FlowUnit) → around_everywhere (record b { chassis = chassis }) u ≡ around_everywhere b u

-- Only the units of the records have rows,
abbrev pub AroundUnitsLaw : Type 0
AroundUnitsLaw = (b : Basis) → ChangeOnly (all_units b.net) no_rows (around_rows b)

-- and each of these stands once.
abbrev pub UnitsOnceLaw : Type 0
UnitsOnceLaw = (net : Network) (keys : Keys) → IsKeyed net keys → EachOnce (all_units net)
