-- Registers after a stage of a router has set some of them.
use Rattle.std.specs.Prelude.{◌≡◌, ◌≤◌, ℕ, false, refl}
use Rattle.std.specs.Int.{bit_at}
use Rattle.std.proofs.Common.{ap, ◌∙◌, arith}
use Rattle.std.proofs.lemmas.Nat.Bits.{bit_at-lt}
use Rattle.flow_lowering.specs.Registers.{reg_number, reg_max, HasRegistersInRange}
use Rattle.inet_packet.specs.declared.regs.Reg.{Reg}
use Rattle.inet_packet.specs.declared.regs.Reg.TheVariants as reg
use Rattle.inet_packet.specs.declared.regs.RegFlags.{RegFlags}
use Rattle.inet_packet.specs.declared.regs.Regs.{Regs}
use Rattle.switch_engine.specs.declared.carried.Carried.{Carried}
use Rattle.sim_laws.specs.pipelines.Standing.{IsStill}
use Rattle.sim_laws.specs.routers.RouterStanding.{is_for_way}

-- what they set
pub record WayRegs : Type 0 where
  pub out_port : ℕ
  pub next : ℕ
  pub flags : RegFlags

abbrev pub set_in : WayRegs → Regs → Regs
set_in w regs = record regs { out_port = w.out_port; next = w.next; flags = w.flags }

small : (n i : ℕ) → bit_at n i ≤ 1
small n i = let l = bit_at-lt n i in omega (arith, l)

-- they are in their ranges
pub way_within : (w : WayRegs) (regs : Regs) → HasRegistersInRange regs → w.out_port ≤ 0xffff → w.next ≤ 0xffff_ffff → HasRegistersInRange (set_in w regs)
way_within w regs h out next = record { within = each }
  where
    each : (r : Reg) → reg_number r (set_in w regs) ≤ reg_max r
    each reg.Dp = h.within reg.Dp
    each reg.InPort = h.within reg.InPort
    each reg.OutPort = out
    each reg.Next = next
    each reg.ZIn = h.within reg.ZIn
    each reg.ZOut = h.within reg.ZOut
    each reg.ZDnat = h.within reg.ZDnat
    each reg.ZSnat = h.within reg.ZSnat
    each reg.State = h.within reg.State
    each reg.Verdict = h.within reg.Verdict
    each reg.Tier = h.within reg.Tier
    each reg.Loopback = small w.flags.0 0
    each reg.Tracked = small w.flags.0 1
    each reg.Blocked = small w.flags.0 2
    each reg.Own = small w.flags.0 3
    each reg.Arrived = small w.flags.0 4

-- flags that no stage of a router sets
pub record KeepsFlags (before after : RegFlags) : Type 0 where
  pub tracked : bit_at after.0 1 ≡ bit_at before.0 1
  pub blocked : bit_at after.0 2 ≡ bit_at before.0 2
  pub arrived : bit_at after.0 4 ≡ bit_at before.0 4

pub way_still : (w : WayRegs) (before after : Carried) → after.passes ≡ before.passes → after.regs ≡ set_in w before.regs → KeepsFlags before.regs.flags w.flags → IsStill is_for_way before after
way_still w before after passes is flags = record {
  passes = passes;
  entry = ap (λ (x : Regs). x.at) is;
  registers = λ r h. ap (λ (x : Regs). reg_number r x) is ∙ each r h;
}
  where
    each : (r : Reg) → is_for_way r ≡ false → reg_number r (set_in w before.regs) ≡ reg_number r before.regs
    each reg.Dp h = refl
    each reg.InPort h = refl
    each reg.OutPort h = cc
    each reg.Next h = cc
    each reg.ZIn h = refl
    each reg.ZOut h = refl
    each reg.ZDnat h = refl
    each reg.ZSnat h = refl
    each reg.State h = refl
    each reg.Verdict h = refl
    each reg.Tier h = refl
    each reg.Loopback h = cc
    each reg.Tracked h = flags.tracked
    each reg.Blocked h = flags.blocked
    each reg.Own h = cc
    each reg.Arrived h = flags.arrived
