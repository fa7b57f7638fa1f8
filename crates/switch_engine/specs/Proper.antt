-- Which flows are proper: from them each walk ends.
use Rattle.std.specs.Prelude.{◌≡◌, ◌<◌, ℕ, ◌-◌, ◌*◌, ◌^◌, List, [], ◌∷◌, bit_and}
use Rattle.std.specs.List.{AllByRecursion}
use Rattle.ovn_base.specs.declared.stages.TheConstants.{LOOPBACK_TABLE, OUTPUT_TABLE}
use Rattle.ovn_base.specs.declared.limits.TheConstants.{FLOOD_KEY}
use Rattle.ovn_base.specs.lists.Among.{Among}
use Rattle.inet_packet.specs.declared.cube.Bits.{Bits}
use Rattle.inet_packet.specs.declared.cube.Cube.{Cube}
use Rattle.inet_packet.specs.declared.regs.Reg.{Reg}
use Rattle.inet_packet.specs.declared.regs.Reg.TheVariants.{Dp, InPort, OutPort, Next, ZIn, ZOut, ZDnat, ZSnat, State, Verdict, Tier, Loopback, Tracked, Blocked, Own, Arrived}
use Rattle.flow_table.specs.declared.flow.Flow.{Flow}
use Rattle.flow_table.specs.declared.flow.FlowOp.{FlowOp}
use Rattle.flow_table.specs.declared.flow.FlowOp.TheVariants.{Set, Go, Copies, Patch}
use Rattle.switch_engine.specs.declared.effect.Entry.{Entry}
use Rattle.switch_engine.specs.declared.effect.Entry.TheVariants.{Vif, Tunnel}

-- how many bits a register has
abbrev pub width : Reg → ℕ
width Dp = 24
width InPort = 16
width OutPort = 16
width Next = 32
width ZIn = 16
width ZOut = 16
width ZDnat = 16
width ZSnat = 16
width State = 3
width Verdict = 3
width Tier = 3
width Loopback = 1
width Tracked = 1
width Blocked = 1
width Own = 1
width Arrived = 1

-- the lowest bit of a register in its word: each number has a word of its own, and the flags share one
abbrev pub lowest : Reg → ℕ
lowest Dp = 1
lowest InPort = 1
lowest OutPort = 1
lowest Next = 1
lowest ZIn = 1
lowest ZOut = 1
lowest ZDnat = 1
lowest ZSnat = 1
lowest State = 1
lowest Verdict = 1
lowest Tier = 1
lowest Loopback = 1
lowest Tracked = 2
lowest Blocked = 4
lowest Own = 8
lowest Arrived = 16

-- all bits of a register, in its word
abbrev pub all_bits : Reg → ℕ
all_bits reg = (2 ^ width reg - 1) * lowest reg

-- what a cube asks of the register's word
abbrev pub asked : Reg → Cube → Bits
asked Dp cube = cube.dp
asked InPort cube = cube.in_port
asked OutPort cube = cube.out_port
asked Next cube = cube.next
asked ZIn cube = cube.z_in
asked ZOut cube = cube.z_out
asked ZDnat cube = cube.z_dnat
asked ZSnat cube = cube.z_snat
asked State cube = cube.state
asked Verdict cube = cube.verdict
asked Tier cube = cube.tier
asked Loopback cube = cube.flags
asked Tracked cube = cube.flags
asked Blocked cube = cube.flags
asked Own cube = cube.flags
asked Arrived cube = cube.flags

-- the number lies within the register, and that of the port of entry is one of a port, not of a group
pub record CanBeSet (reg : Reg) (n : ℕ) : Type 0 where
  pub within : n < 2 ^ width reg
  pub of_port : reg ≡ InPort → n < FLOOD_KEY

-- so do those that a patch sets
pub record CanPatch (dp in_port z_dnat z_snat : ℕ) : Type 0 where
  pub dp_within : dp < 2 ^ 24
  pub in_port_within : in_port < FLOOD_KEY
  pub z_dnat_within : z_dnat < 2 ^ 16
  pub z_snat_within : z_snat < 2 ^ 16

-- an action that may stand in a flow of the table: it sets what can be set, and goes on at later tables alone; copies, which
-- go on at table 34, are made before it, and patches stand in table 64
abbrev pub Rises : ℕ → FlowOp → Type 0
Rises table (Set reg n) = CanBeSet reg n
Rises table (Go next) = table < next
Rises table (Copies members) = table < LOOPBACK_TABLE
Rises table (Patch dp in_port z_dnat z_snat) = (table ≡ OUTPUT_TABLE) × CanPatch dp in_port z_dnat z_snat
Rises table _ = Unit {0}

-- an action that sets no register beyond what can be set in it
abbrev pub Sets : FlowOp → Type 0
Sets (Set reg n) = CanBeSet reg n
Sets (Patch dp in_port z_dnat z_snat) = CanPatch dp in_port z_dnat z_snat
Sets _ = Unit {0}

-- a flow that matches the register whole, sets it to a greater number, goes on at its own table and does nothing else
pub record Raises (flow : Flow) (reg : Reg) (n : ℕ) : Type 0 where
  pub can : CanBeSet reg n
  pub whole : bit_and (asked reg flow.cube).mask (all_bits reg) ≡ all_bits reg
  pub greater : bit_and (asked reg flow.cube).value (all_bits reg) < n * lowest reg
  pub only : flow.ops ≡ Set reg n ∷ Go flow.table ∷ []

-- each number lies within its register, and the flow goes on at later tables, or raises a register
pub data IsProperFlow (flow : Flow) : Type 0 where
  rising : AllByRecursion (Rises flow.table) flow.ops → IsProperFlow flow
  raising : (reg : Reg) (n : ℕ) → Raises flow reg n → IsProperFlow flow

-- all flows are
abbrev pub IsProper : List Flow → Type 0
IsProper flows = (flow : Flow) → Among flow flows → IsProperFlow flow

-- a tunnel entry names a datapath by a key of 24 bits, and a port of entry by one of 15
abbrev pub IsEntry : Entry → Type 0
IsEntry (Vif port) = Unit {0}
IsEntry (Tunnel vni in_key out_key) = (vni < 2 ^ 24) × (in_key < 2 ^ 15)
