-- The flows of a chassis in a state, and its tables.
use Rattle.std.specs.Prelude.{◌≡◌, ◌↔◌, ◌⊎◌, ℕ, List}
use Rattle.conn_zones.specs.Zoning.{GivenNumbers}
use Rattle.flow_table.specs.declared.flow.Flow.{Flow}
use Rattle.logical_flows.specs.Stages.{stage_table}
use Rattle.match_cubes.specs.declared.sets.Sets.{Sets}
use Rattle.net_model.specs.State.{State}
use Rattle.ovn_base.specs.declared.name.Name.{Name}
use Rattle.ovn_base.specs.declared.stages.TheConstants.{ENTRY_TABLE, REMOTE_TABLE, LOCAL_TABLE, LOOPBACK_TABLE, OUTPUT_TABLE}
use Rattle.ovn_base.specs.lists.Among.{Among}
use Rattle.physical_flows.specs.Around.{AroundFlow}
use Rattle.physical_flows.specs.ChassisFlows.{basis_at}
use Rattle.physical_flows.specs.Stages.{EntryRow, RemoteRow, HomeRow, ReturnRow, OutputRow}
use Rattle.row_laws.specs.BestRow.{HoldsRows, IsLoweredRow}
use Rattle.row_laws.specs.StageLaws.{OfEachStage}

-- ---- flows

-- the flow is one of the chassis: a lowered row of the network, or one of the tables around the pipelines
abbrev pub ChassisFlow : State → GivenNumbers → Sets → Name → Flow → Type 0
ChassisFlow m numbers sets chassis f = IsLoweredRow m.config.net m.keys sets f ⊎ AroundFlow (basis_at m numbers chassis) f

-- ---- tables

-- of the flows, those of the table are exactly these rows
abbrev pub HoldIn : List Flow → ℕ → (Flow → Type 0) → Type 0
HoldIn flows table Row = (f : Flow) → f.table ≡ table → Among f flows ↔ Row f

-- The flows are those of a chassis: the table of each stage has the lowered rows of the network, and the tables around the pipelines have theirs.
pub record AreTablesOf (m : State) (numbers : GivenNumbers) (sets : Sets) (chassis : Name) (flows : List Flow) : Type 0 where
  pub stages : OfEachStage (λ stage. HoldsRows m.config.net m.keys sets flows (stage_table stage))
  pub entry : HoldIn flows ENTRY_TABLE (EntryRow (basis_at m numbers chassis))
  pub remote : HoldIn flows REMOTE_TABLE (RemoteRow (basis_at m numbers chassis))
  pub home : HoldIn flows LOCAL_TABLE (HomeRow (basis_at m numbers chassis))
  pub back : HoldIn flows LOOPBACK_TABLE (ReturnRow (basis_at m numbers chassis))
  pub output : HoldIn flows OUTPUT_TABLE (OutputRow (basis_at m numbers chassis))
