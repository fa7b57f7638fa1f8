-- What actions make of a copy's registers, and where they send it.
use Rattle.std.specs.Prelude.{ℕ, ◌+◌, ◌-◌, cond, not, List, map, filter, bit_and, bit_or}
use Rattle.std.proofs.Math.Dec.{eqb as nat_eq, leb as nat_le}
use Rattle.ovn_base.specs.declared.stages.TheConstants.{ADMIT_TABLE, LOOKUP_TABLE, LOOPBACK_TABLE}
use Rattle.ovn_base.specs.declared.name.Name.{Name}
use Rattle.inet_packet.specs.declared.regs.At.{At}
use Rattle.inet_packet.specs.declared.regs.Reg.{Reg}
use Rattle.inet_packet.specs.declared.regs.Reg.TheVariants.{Dp, InPort, OutPort, Next, ZIn, ZOut, ZDnat, ZSnat, State, Verdict, Tier, Loopback, Tracked, Blocked, Own, Arrived}
use Rattle.inet_packet.specs.declared.regs.RegFlags.{RegFlags}
use Rattle.inet_packet.specs.declared.regs.Regs.{Regs}
use Rattle.flow_table.specs.declared.flow.Cause.{Cause}
use Rattle.flow_table.specs.declared.flow.Member.{Member}
use Rattle.switch_engine.specs.declared.carried.Carried.{Carried}
use Rattle.switch_engine.specs.declared.effect.Effect.{Effect}
use Rattle.switch_engine.specs.declared.effect.Effect.TheVariants as effect
use Rattle.switch_engine.specs.declared.effect.Entry.{Entry}
use Rattle.switch_engine.specs.declared.effect.Entry.TheVariants.{Vif, Tunnel}

-- the flags with one of them, given as its bit, cleared at 0 and set otherwise
abbrev pub set_flag : ℕ → ℕ → RegFlags → RegFlags
set_flag flag n flags = record { 0 = cond (nat_eq n 0) (bit_and flags.0 (255 - flag)) (bit_or flags.0 flag) }

-- the registers with one of them set
abbrev pub set_reg : Reg → ℕ → Regs → Regs
set_reg Dp n regs = record regs { dp = n }
set_reg InPort n regs = record regs { in_port = n }
set_reg OutPort n regs = record regs { out_port = n }
set_reg Next n regs = record regs { next = n }
set_reg ZIn n regs = record regs { z_in = n }
set_reg ZOut n regs = record regs { z_out = n }
set_reg ZDnat n regs = record regs { z_dnat = n }
set_reg ZSnat n regs = record regs { z_snat = n }
set_reg State n regs = record regs { state = n }
set_reg Verdict n regs = record regs { verdict = n }
set_reg Tier n regs = record regs { tier = n }
set_reg Loopback n regs = record regs { flags = set_flag 1 n regs.flags }
set_reg Tracked n regs = record regs { flags = set_flag 2 n regs.flags }
set_reg Blocked n regs = record regs { flags = set_flag 4 n regs.flags }
set_reg Own n regs = record regs { flags = set_flag 8 n regs.flags }
set_reg Arrived n regs = record regs { flags = set_flag 16 n regs.flags }

-- the registers after the tunnel header was read: without a tunnel entry they stay
abbrev pub with_header : Entry → Regs → Regs
with_header (Vif port) regs = regs
with_header (Tunnel vni in_key out_key) regs = record regs { dp = vni; in_port = in_key; out_port = out_key }

-- a drop names the port of entry up to the last look-up, in table 14, and the port of exit later
abbrev pub drop_at : ℕ → Cause → Regs → Effect
drop_at table cause regs = effect.Drop regs.dp (cond (nat_le table LOOKUP_TABLE) regs.in_port regs.out_port) cause

-- a frame carries the keys of the datapath and of the two ports
abbrev pub frame_to : Name → Carried → Effect
frame_to chassis copy = effect.Frame chassis copy.regs.dp copy.regs.in_port copy.regs.out_port copy.packet

-- the copy, going on at a table
abbrev pub gone_on : ℕ → Carried → Carried
gone_on table copy = record copy { from = copy.table; table = table }

-- the copy for a member goes to the member's port, and on at table 34
abbrev pub copy_for : Carried → Member → Carried
copy_for copy member = gone_on LOOPBACK_TABLE (record copy { regs = record copy.regs { out_port = member.key; z_out = member.zone } })

-- one copy for each member but the port of entry, in order
abbrev pub copies_for : Carried → List Member → List Carried
copies_for copy members = map (copy_for copy) (filter (λ member. not (nat_eq member.key copy.regs.in_port)) members)

-- all registers are 0
abbrev pub cleared : At → Regs
cleared at =
    record {
      dp = 0;
      in_port = 0;
      out_port = 0;
      next = 0;
      z_in = 0;
      z_out = 0;
      z_dnat = 0;
      z_snat = 0;
      state = 0;
      verdict = 0;
      tier = 0;
      flags = record { 0 = 0 };
      at = at;
    }

-- the registers in another datapath: all are cleared but these
abbrev pub patched_regs : ℕ → ℕ → ℕ → ℕ → Regs → Regs
patched_regs dp in_port z_dnat z_snat regs = record (cleared regs.at) { dp = dp; in_port = in_port; z_dnat = z_dnat; z_snat = z_snat }

-- there the copy begins at the first table, and has passed once more
abbrev pub patched : Regs → Carried → Carried
patched regs copy = gone_on ADMIT_TABLE (record copy { regs = regs; passes = copy.passes + 1 })
