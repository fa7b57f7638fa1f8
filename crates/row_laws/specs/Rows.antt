-- Rows of a table on a datapath, and which of those that hold is taken.
use Rattle.std.specs.Prelude.{◌≡◌, ◌<◌, ◌⊎◌, ℕ, true}
use Rattle.ovn_base.specs.declared.name.Name.{Name}
use Rattle.ovn_base.specs.lists.Among.{Among}
use Rattle.inet_packet.specs.declared.regs.Regs.{Regs}
use Rattle.nb_records.specs.Network.{Network}
use Rattle.logical_flows.specs.Stages.{stage_table}
use Rattle.logical_flows.specs.declared.flow.LFlow.{LFlow}
use Rattle.logical_flows.specs.declared.flow.RegIs.{RegIs}
use Rattle.stage_rows.specs.Units.{IsPairedRow}
use Rattle.flow_lowering.specs.Registers.{reg_number}
use Rattle.net_model.specs.Sights.{Sight, Roster, holds_at}

-- the row is one of the network's on the datapath, and its stage has the table
pub record IsRowIn (net : Network) (table : ℕ) (datapath : Name) (row : LFlow) : Type 0 where
  pub pair : IsPairedRow net row datapath
  pub in_table : stage_table row.stage ≡ table

-- the first row comes before the second: its priority is greater, or equal with a greater rank
abbrev pub Outranks : LFlow → LFlow → Type 0
Outranks r s = (s.priority < r.priority) ⊎ ((s.priority ≡ r.priority) × (s.rank < r.rank))

-- The row holds of a packet: each register has the number that the row asks for, and its match holds of the packet with its ports,
-- which are compared as identities.
pub record RowHolds (who : Roster) (regs : Regs) (sight : Sight) (row : LFlow) : Type 0 where
  pub registers : (r : RegIs) → Among r row.regs → reg_number r.reg regs ≡ r.value
  pub matching : holds_at who sight row.matching ≡ true

-- the row holds, and no row of the table on the datapath that holds outranks it
pub record IsBestRow (net : Network) (who : Roster) (table : ℕ) (datapath : Name) (regs : Regs) (sight : Sight) (row : LFlow) : Type 0 where
  pub is_row : IsRowIn net table datapath row
  pub holds_here : RowHolds who regs sight row
  pub unbeaten : (other : LFlow) → IsRowIn net table datapath other → RowHolds who regs sight other → ¬ Outranks other row
