-- The law of a row, once for all rows: which flow of a table is taken is told by rows that hold, in names.
use Rattle.std.specs.Prelude.{◌≡◌, ◌↔◌, ℕ, List}
use Rattle.ovn_base.specs.declared.name.Name.{Name}
use Rattle.ovn_base.specs.lists.Among.{Among}
use Rattle.inet_packet.specs.declared.regs.Regs.{Regs}
use Rattle.flow_table.specs.Matching.{IsBest, NoneMatches}
use Rattle.flow_table.specs.declared.flow.Flow.{Flow}
use Rattle.match_cubes.specs.declared.sets.Sets.{Sets}
use Rattle.nb_records.specs.Network.{Network}
use Rattle.logical_flows.specs.declared.flow.LFlow.{LFlow}
use Rattle.stage_rows.specs.Units.{IsPairedRow}
use Rattle.tunnel_keys.specs.Keys.{Keys}
use Rattle.flow_lowering.specs.LoweredFlows.{lowered_flows, lowered_ops}
use Rattle.net_model.specs.Sights.{Sight, Roster}
use Rattle.row_laws.specs.CanLower.{CanLower}
use Rattle.row_laws.specs.Numbers.{HasNumbers}
use Rattle.row_laws.specs.Rows.{IsRowIn, RowHolds, IsBestRow}

-- ---- the flows of rows

-- the flow is one of those to which a row of the network is lowered, on a datapath that has the row
pub record IsLoweredRow (net : Network) (keys : Keys) (sets : Sets) (flow : Flow) : Type 0 where
  pub row : LFlow
  pub datapath : Name
  pub pair : IsPairedRow net row datapath
  pub among : Among flow (lowered_flows keys sets row datapath)

-- of the flows, those of the table are exactly the lowered rows of the network that are of the table
pub record HoldsRows (net : Network) (keys : Keys) (sets : Sets) (flows : List Flow) (table : ℕ) : Type 0 where
  pub can_lower : CanLower net keys
  pub exactly : (f : Flow) → f.table ≡ table → Among f flows ↔ IsLoweredRow net keys sets f

-- ---- which is taken

-- the flow does what the best row does
pub record IsOfBestRow (net : Network) (keys : Keys) (who : Roster) (table : ℕ) (datapath : Name) (regs : Regs) (sight : Sight) (flow : Flow) : Type 0 where
  pub row : LFlow
  pub best : IsBestRow net who table datapath regs sight row
  pub ops : flow.ops ≡ lowered_ops keys row.actions

-- a fact of each table that holds the rows of a network, and each packet on one of its datapaths
abbrev pub OfEachPacket : ((net : Network) (keys : Keys) (flows : List Flow) (table : ℕ) (who : Roster) (datapath : Name) (regs : Regs) (sight : Sight) → Type 0) → Type 0
OfEachPacket Fact =
    (net : Network) (keys : Keys) (sets : Sets) (flows : List Flow) (table : ℕ) → HoldsRows net keys sets flows table
    → (who : Roster) (datapath : Name) (regs : Regs) (sight : Sight) → HasNumbers keys sets who datapath regs sight → Fact net keys flows table who datapath regs sight

-- The best flow of the table comes from a row of the datapath that holds and that no row which holds outranks; it does what the row does.
abbrev pub BestRowLaw : Type 0
BestRowLaw = OfEachPacket (λ net keys flows table who datapath regs sight.
    (f : Flow) → IsBest flows table regs sight.packet f → IsOfBestRow net keys who table datapath regs sight f)

-- Where some row holds, some flow matches.
abbrev pub SomeMatchesLaw : Type 0
SomeMatchesLaw = OfEachPacket (λ net keys flows table who datapath regs sight.
    (row : LFlow) → IsRowIn net table datapath row → RowHolds who regs sight row → ¬ NoneMatches flows table regs sight.packet)

-- Where none does, none does.
abbrev pub NoneMatchesLaw : Type 0
NoneMatchesLaw = OfEachPacket (λ net keys flows table who datapath regs sight.
    ((row : LFlow) → IsRowIn net table datapath row → ¬ RowHolds who regs sight row) → NoneMatches flows table regs sight.packet)
