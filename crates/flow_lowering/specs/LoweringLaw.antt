-- A logical flow and the flows to which it is lowered match the same packets.
use Rattle.std.specs.Prelude.{◌≡◌, ◌↔◌, ℕ, true, List}
use Rattle.ovn_base.specs.declared.name.Name.{Name}
use Rattle.ovn_base.specs.lists.Among.{Among}
use Rattle.inet_packet.specs.declared.packet.Packet.{Packet}
use Rattle.inet_packet.specs.declared.regs.Regs.{Regs}
use Rattle.flow_table.specs.Matching.{Matches}
use Rattle.flow_table.specs.declared.flow.Flow.{Flow}
use Rattle.logical_flows.specs.Stages.{stage_table}
use Rattle.logical_flows.specs.declared.flow.LFlow.{LFlow}
use Rattle.logical_flows.specs.declared.flow.RegIs.{RegIs}
use Rattle.match_cubes.specs.Holds.{holds}
use Rattle.match_cubes.specs.Suited.{are_suited, HasFieldsInRange}
use Rattle.match_cubes.specs.declared.sets.Sets.{Sets}
use Rattle.tunnel_keys.specs.Keys.{Keys}
use Rattle.flow_lowering.specs.LoweredFlows.{live_datapath_key, setting_on, lowered_ops, lowered_flows}
use Rattle.flow_lowering.specs.Registers.{reg_number, HasRegistersInRange}

-- the packet with its registers is on the datapath, each register has the number that the logical flow asks for, and its
-- matching holds there
pub record LogicalFlowMatches (keys : Keys) (sets : Sets) (f : LFlow) (d : Name) (regs : Regs) (packet : Packet) : Type 0 where
  pub on : regs.dp ≡ live_datapath_key keys d
  pub registers : (r : RegIs) → Among r f.regs → reg_number r.reg regs ≡ r.value
  pub matching : holds (setting_on keys sets d) f.matching regs packet ≡ true

-- one of the flows matches the packet with its registers in the table
pub record SomeMatches (flows : List Flow) (table : ℕ) (regs : Regs) (packet : Packet) : Type 0 where
  pub flow : Flow
  pub among : Among flow flows
  pub matches : Matches flow table regs packet

-- the flow stands in the table and in the order in which the logical flow does, and does what that does
pub record IsLowered (keys : Keys) (f : LFlow) (flow : Flow) : Type 0 where
  pub in_table : flow.table ≡ stage_table f.stage
  pub priority : flow.priority ≡ f.priority
  pub rank : flow.rank ≡ f.rank
  pub ops : flow.ops ≡ lowered_ops keys f.actions

-- Some lowered flow matches a packet in the stage's table exactly where the logical flow matches it on the datapath.
abbrev pub MatchesAlike : Type 0
MatchesAlike =
    (keys : Keys) (sets : Sets) (f : LFlow) (d : Name) → are_suited f.matching true ≡ true → (regs : Regs) (packet : Packet) → HasRegistersInRange regs → HasFieldsInRange packet
    → SomeMatches (lowered_flows keys sets f d) (stage_table f.stage) regs packet ↔ LogicalFlowMatches keys sets f d regs packet

-- Each lowered flow stands for the logical flow.
abbrev pub EachIsLowered : Type 0
EachIsLowered = (keys : Keys) (sets : Sets) (f : LFlow) (d : Name) (flow : Flow) → Among flow (lowered_flows keys sets f d) → IsLowered keys f flow
