-- When a flow matches a packet with its registers, and which of those that match is taken.
use Rattle.std.specs.Prelude.{◌≡◌, ◌<◌, ◌⊎◌, ℕ, List}
use Rattle.ovn_base.specs.lists.Among.{Among}
use Rattle.inet_packet.specs.declared.packet.Packet.{Packet}
use Rattle.inet_packet.specs.declared.regs.Regs.{Regs}
use Rattle.inet_packet.specs.Fits.{CubeFits}
use Rattle.flow_table.specs.declared.flow.Flow.{Flow}

-- the flow is of the table, and its cube holds the packet with its registers
pub record Matches (flow : Flow) (table : ℕ) (regs : Regs) (packet : Packet) : Type 0 where
  pub in_table : flow.table ≡ table
  pub fits : CubeFits flow.cube regs packet

-- the first flow comes before the second: its priority is greater, or equal with a greater rank
abbrev pub Beats : Flow → Flow → Type 0
Beats f g = (g.priority < f.priority) ⊎ ((g.priority ≡ f.priority) × (g.rank < f.rank))

-- one of the flows, which matches, and no other that matches beats it
pub record IsBest (flows : List Flow) (table : ℕ) (regs : Regs) (packet : Packet) (f : Flow) : Type 0 where
  pub held : Among f flows
  pub matching : Matches f table regs packet
  pub unbeaten : (g : Flow) → Among g flows → Matches g table regs packet → ¬ Beats g f

-- no flow matches
abbrev pub NoneMatches : List Flow → ℕ → Regs → Packet → Type 0
NoneMatches flows table regs packet = (g : Flow) → Among g flows → ¬ Matches g table regs packet
