-- Registers, and what cubes ask of them.
use Rattle.std.specs.Prelude.{◌≤◌, ℕ, ◌*◌, if◌then◌else◌, List, [], ◌∷◌, Option, Some, None, option_and_then}
use Rattle.std.specs.Int.{bit_at}
use Rattle.inet_packet.specs.declared.cube.Bits.{Bits}
use Rattle.inet_packet.specs.declared.cube.Cube.{Cube}
use Rattle.inet_packet.specs.declared.regs.Reg.{Reg}
use Rattle.inet_packet.specs.declared.regs.Reg.TheVariants as reg
use Rattle.inet_packet.specs.declared.regs.Regs.{Regs}
use Rattle.logical_flows.specs.declared.flow.RegIs.{RegIs}
use Rattle.match_cubes.specs.Ternary.{agree, both_bits}

-- ---- numbers in registers

-- the number in the register; that of a flag is 0 or 1
abbrev pub reg_number : Reg → Regs → ℕ
reg_number reg.Dp regs = regs.dp
reg_number reg.InPort regs = regs.in_port
reg_number reg.OutPort regs = regs.out_port
reg_number reg.Next regs = regs.next
reg_number reg.ZIn regs = regs.z_in
reg_number reg.ZOut regs = regs.z_out
reg_number reg.ZDnat regs = regs.z_dnat
reg_number reg.ZSnat regs = regs.z_snat
reg_number reg.State regs = regs.state
reg_number reg.Verdict regs = regs.verdict
reg_number reg.Tier regs = regs.tier
reg_number reg.Loopback regs = bit_at regs.flags.0 0
reg_number reg.Tracked regs = bit_at regs.flags.0 1
reg_number reg.Blocked regs = bit_at regs.flags.0 2
reg_number reg.Own regs = bit_at regs.flags.0 3
reg_number reg.Arrived regs = bit_at regs.flags.0 4

-- the greatest number that it may have
abbrev pub reg_max : Reg → ℕ
reg_max reg.Dp = 0xff_ffff
reg_max reg.InPort = 0xffff
reg_max reg.OutPort = 0xffff
reg_max reg.Next = 0xffff_ffff
reg_max reg.ZIn = 0xffff
reg_max reg.ZOut = 0xffff
reg_max reg.ZDnat = 0xffff
reg_max reg.ZSnat = 0xffff
reg_max reg.State = 7
reg_max reg.Verdict = 7
reg_max reg.Tier = 7
reg_max reg.Loopback = 1
reg_max reg.Tracked = 1
reg_max reg.Blocked = 1
reg_max reg.Own = 1
reg_max reg.Arrived = 1

-- no register has a greater one
pub record HasRegistersInRange (regs : Regs) : Type 0 where
  pub within : (r : Reg) → reg_number r regs ≤ reg_max r

-- ---- what a cube asks of them

-- the number, where the register stands in its word: the flags share one
abbrev pub in_word : Reg → ℕ → ℕ
in_word reg.Tracked n = n * 2
in_word reg.Blocked n = n * 4
in_word reg.Own n = n * 8
in_word reg.Arrived n = n * 16
in_word other n = n

-- the register of the datapath has the number
abbrev pub dp_is : ℕ → RegIs
dp_is key = record { reg = reg.Dp; value = key }

-- all bits of the register count, and have to be those of the number
abbrev pub reg_bits : RegIs → Bits
reg_bits r = record { value = in_word r.reg r.value; mask = in_word r.reg (reg_max r.reg) }

-- what the cube asks of the word in which the register stands
abbrev pub asked_of_reg : Reg → Cube → Bits
asked_of_reg reg.Dp c = c.dp
asked_of_reg reg.InPort c = c.in_port
asked_of_reg reg.OutPort c = c.out_port
asked_of_reg reg.Next c = c.next
asked_of_reg reg.ZIn c = c.z_in
asked_of_reg reg.ZOut c = c.z_out
asked_of_reg reg.ZDnat c = c.z_dnat
asked_of_reg reg.ZSnat c = c.z_snat
asked_of_reg reg.State c = c.state
asked_of_reg reg.Verdict c = c.verdict
asked_of_reg reg.Tier c = c.tier
asked_of_reg reg.Loopback c = c.flags
asked_of_reg reg.Tracked c = c.flags
asked_of_reg reg.Blocked c = c.flags
asked_of_reg reg.Own c = c.flags
asked_of_reg reg.Arrived c = c.flags

-- the same cube, which asks this of it
abbrev pub ask_reg : Reg → Bits → Cube → Cube
ask_reg reg.Dp b c = record c { dp = b }
ask_reg reg.InPort b c = record c { in_port = b }
ask_reg reg.OutPort b c = record c { out_port = b }
ask_reg reg.Next b c = record c { next = b }
ask_reg reg.ZIn b c = record c { z_in = b }
ask_reg reg.ZOut b c = record c { z_out = b }
ask_reg reg.ZDnat b c = record c { z_dnat = b }
ask_reg reg.ZSnat b c = record c { z_snat = b }
ask_reg reg.State b c = record c { state = b }
ask_reg reg.Verdict b c = record c { verdict = b }
ask_reg reg.Tier b c = record c { tier = b }
ask_reg reg.Loopback b c = record c { flags = b }
ask_reg reg.Tracked b c = record c { flags = b }
ask_reg reg.Blocked b c = record c { flags = b }
ask_reg reg.Own b c = record c { flags = b }
ask_reg reg.Arrived b c = record c { flags = b }

-- the cube met with the register; None, where they ask for both values of one bit
unfoldable pub met_with : RegIs → Cube → Option Cube
met_with r c = if agree (asked_of_reg r.reg c) (reg_bits r) then Some (ask_reg r.reg (both_bits (asked_of_reg r.reg c) (reg_bits r)) c) else None

-- met with each of the registers
abbrev pub met_with_all : List RegIs → Cube → Option Cube
met_with_all [] c = Some c
met_with_all (r ∷ rs) c = option_and_then (met_with_all rs) (met_with r c)
