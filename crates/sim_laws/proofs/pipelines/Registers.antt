-- Registers after a stage has set some of them.
use Rattle.std.specs.Prelude.{◌≡◌, ◌≤◌, ℕ, Bool, false, bit_and, bit_or, refl}
use Rattle.std.specs.Int.{bit_at}
use Rattle.std.proofs.Common.{ap, ◌∙◌, arith}
use Rattle.std.proofs.lemmas.Nat.Bits.{bit_at_and, bit_at_or, bit_at-lt}
use Rattle.flow_lowering.specs.Registers.{reg_number, reg_max, HasRegistersInRange}
use Rattle.inet_packet.specs.declared.regs.Reg.{Reg}
use Rattle.inet_packet.specs.declared.regs.Reg.TheVariants as reg
use Rattle.inet_packet.specs.declared.regs.RegFlags.{RegFlags}
use Rattle.inet_packet.specs.declared.regs.Regs.{Regs}
use Rattle.switch_engine.specs.declared.carried.Carried.{Carried}
use Rattle.sim_laws.specs.pipelines.Standing.{is_noted, is_for_target, IsStill}

-- ---- flags

-- a flag that is set, one that is cleared, and one that stays
pub or_one : (n m i : ℕ) → bit_at m i ≡ 1 → bit_at (bit_or n m) i ≡ 1
or_one n m i h = let e = bit_at_or n m i in let l = bit_at-lt n i in omega (arith, e, l, h)

pub or_stays : (n m i : ℕ) → bit_at m i ≡ 0 → bit_at (bit_or n m) i ≡ bit_at n i
or_stays n m i h = let e = bit_at_or n m i in omega (arith, e, h)

pub and_zero : (n m i : ℕ) → bit_at m i ≡ 0 → bit_at (bit_and n m) i ≡ 0
and_zero n m i h = let e = bit_at_and n m i in omega (arith, e, h)

pub and_stays : (n m i : ℕ) → bit_at m i ≡ 1 → bit_at (bit_and n m) i ≡ bit_at n i
and_stays n m i h = let e = bit_at_and n m i in let l = bit_at-lt n i in omega (arith, e, l, h)

-- ---- numbers of registers

-- what the stages of a pipeline set
pub record Notes : Type 0 where
  pub out_port : ℕ
  pub state : ℕ
  pub verdict : ℕ
  pub flags : RegFlags

abbrev pub noted_in : Notes → Regs → Regs
noted_in n regs = record regs { out_port = n.out_port; state = n.state; verdict = n.verdict; flags = n.flags }

flag_small : (n i : ℕ) → bit_at n i ≤ 1
flag_small n i = let l = bit_at-lt n i in omega (arith, l)

-- they are in their ranges
pub noted_within : (n : Notes) (regs : Regs) → HasRegistersInRange regs → n.out_port ≤ 0xffff → n.state ≤ 7 → n.verdict ≤ 7 → HasRegistersInRange (noted_in n regs)
noted_within n regs h out state verdict = record { within = each }
  where
    each : (r : Reg) → reg_number r (noted_in n regs) ≤ reg_max r
    each reg.Dp = h.within reg.Dp
    each reg.InPort = h.within reg.InPort
    each reg.OutPort = out
    each reg.Next = h.within reg.Next
    each reg.ZIn = h.within reg.ZIn
    each reg.ZOut = h.within reg.ZOut
    each reg.ZDnat = h.within reg.ZDnat
    each reg.ZSnat = h.within reg.ZSnat
    each reg.State = state
    each reg.Verdict = verdict
    each reg.Tier = h.within reg.Tier
    each reg.Loopback = flag_small n.flags.0 0
    each reg.Tracked = flag_small n.flags.0 1
    each reg.Blocked = flag_small n.flags.0 2
    each reg.Own = flag_small n.flags.0 3
    each reg.Arrived = flag_small n.flags.0 4

-- ---- what stays

module _ {others : Reg → Bool} where
  pub still_at_first : (copy : Carried) → IsStill others copy copy
  still_at_first copy = record { passes = refl; entry = refl; registers = λ r h. refl }

  pub still_after : (first second third : Carried) → IsStill others first second → IsStill others second third → IsStill others first third
  still_after first second third a b = record { passes = b.passes ∙ a.passes; entry = b.entry ∙ a.entry; registers = λ r h. b.registers r h ∙ a.registers r h }

-- what no stage has noted is not for the target either
pub still_for_target : (first second : Carried) → IsStill is_noted first second → IsStill is_for_target first second
still_for_target first second a = record { passes = a.passes; entry = a.entry; registers = each }
  where
    each : (r : Reg) → is_for_target r ≡ false → reg_number r second.regs ≡ reg_number r first.regs
    each reg.OutPort h = cc
    each reg.Loopback h = cc
    each reg.Dp h = a.registers reg.Dp h
    each reg.InPort h = a.registers reg.InPort h
    each reg.Next h = a.registers reg.Next h
    each reg.ZIn h = a.registers reg.ZIn h
    each reg.ZOut h = a.registers reg.ZOut h
    each reg.ZDnat h = a.registers reg.ZDnat h
    each reg.ZSnat h = a.registers reg.ZSnat h
    each reg.State h = a.registers reg.State h
    each reg.Verdict h = a.registers reg.Verdict h
    each reg.Tier h = a.registers reg.Tier h
    each reg.Tracked h = a.registers reg.Tracked h
    each reg.Blocked h = a.registers reg.Blocked h
    each reg.Own h = a.registers reg.Own h
    each reg.Arrived h = a.registers reg.Arrived h

-- flags that no stage of a pipeline sets
pub record LeavesFlags (before after : RegFlags) : Type 0 where
  pub loopback : bit_at after.0 0 ≡ bit_at before.0 0
  pub own : bit_at after.0 3 ≡ bit_at before.0 3
  pub arrived : bit_at after.0 4 ≡ bit_at before.0 4

-- a copy whose registers hold other notes, and which goes to the same port
pub still_noted : (n : Notes) (before after : Carried) → after.passes ≡ before.passes → after.regs ≡ noted_in n before.regs → n.out_port ≡ before.regs.out_port → LeavesFlags before.regs.flags n.flags
    → IsStill is_noted before after
still_noted n before after passes is out flags = record {
  passes = passes;
  entry = ap (λ (x : Regs). x.at) is;
  registers = λ r h. ap (λ (x : Regs). reg_number r x) is ∙ each r h;
}
  where
    each : (r : Reg) → is_noted r ≡ false → reg_number r (noted_in n before.regs) ≡ reg_number r before.regs
    each reg.Dp h = refl
    each reg.InPort h = refl
    each reg.OutPort h = out
    each reg.Next h = refl
    each reg.ZIn h = refl
    each reg.ZOut h = refl
    each reg.ZDnat h = refl
    each reg.ZSnat h = refl
    each reg.Tier h = refl
    each reg.Loopback h = flags.loopback
    each reg.Own h = flags.own
    each reg.Arrived h = flags.arrived
    each reg.State h = cc
    each reg.Verdict h = cc
    each reg.Tracked h = cc
    each reg.Blocked h = cc

-- a copy that goes to another port, and with another flag for whether it may go back
pub still_aimed : (out : ℕ) (flags : RegFlags) (before after : Carried) → after.passes ≡ before.passes → after.regs ≡ record before.regs { out_port = out; flags = flags }
    → bit_at flags.0 3 ≡ bit_at before.regs.flags.0 3 → bit_at flags.0 4 ≡ bit_at before.regs.flags.0 4 → IsStill is_for_target before after
still_aimed out flags before after passes is own arrived = record {
  passes = passes;
  entry = ap (λ (x : Regs). x.at) is;
  registers = λ r h. ap (λ (x : Regs). reg_number r x) is ∙ each r h;
}
  where
    each : (r : Reg) → is_for_target r ≡ false → reg_number r (record before.regs { out_port = out; flags = flags }) ≡ reg_number r before.regs
    each reg.Dp h = refl
    each reg.InPort h = refl
    each reg.OutPort h = cc
    each reg.Next h = refl
    each reg.ZIn h = refl
    each reg.ZOut h = refl
    each reg.ZDnat h = refl
    each reg.ZSnat h = refl
    each reg.State h = refl
    each reg.Verdict h = refl
    each reg.Tier h = refl
    each reg.Loopback h = cc
    each reg.Tracked h = cc
    each reg.Blocked h = cc
    each reg.Own h = own
    each reg.Arrived h = arrived
