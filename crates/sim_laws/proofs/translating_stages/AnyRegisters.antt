-- Registers after a stage of any router has set some of them.
use Rattle.std.specs.Prelude.{◌≡◌, ◌≤◌, ℕ, false, refl}
use Rattle.std.specs.Int.{bit_at}
use Rattle.std.proofs.Common.{sym, ap, ◌∙◌, subst, arith}
use Rattle.std.proofs.lemmas.Nat.Bits.{bit_at-lt}
use Rattle.flow_lowering.specs.Registers.{reg_number, reg_max, HasRegistersInRange}
use Rattle.inet_packet.specs.declared.regs.Reg.{Reg}
use Rattle.inet_packet.specs.declared.regs.Reg.TheVariants as reg
use Rattle.inet_packet.specs.declared.regs.Regs.{Regs}
use Rattle.switch_engine.specs.declared.carried.Carried.{Carried}
use Rattle.sim_laws.specs.pipelines.Standing.{IsStill}
use Rattle.sim_laws.specs.routers.RouterStanding.{is_for_way}
use Rattle.sim_laws.specs.routers.TranslatingWords.{is_sought, is_none_set}
use Rattle.sim_laws.proofs.router_stages.RouterRegisters.{WayRegs, set_in, KeepsFlags}

small : (n i : ℕ) → bit_at n i ≤ 1
small n i = let l = bit_at-lt n i in omega (arith, l)

-- where the packet goes is set
pub way_set : (w : WayRegs) (before after : Carried) → after.passes ≡ before.passes → after.regs ≡ set_in w before.regs → KeepsFlags before.regs.flags w.flags → IsStill is_for_way before after
way_set w before after passes is flags = record {
  passes = passes;
  entry = ap (λ (x : Regs). x.at) is;
  registers = λ r h. ap (λ (x : Regs). reg_number r x) is ∙ each r h;
}
  where
    each : (r : Reg) → is_for_way r ≡ false → reg_number r (set_in w before.regs) ≡ reg_number r before.regs
    each reg.Dp h = refl
    each reg.InPort h = refl
    each reg.OutPort h = cc
    each reg.Next h = cc
    each reg.ZIn h = refl
    each reg.ZOut h = refl
    each reg.ZDnat h = refl
    each reg.ZSnat h = refl
    each reg.State h = cc
    each reg.Verdict h = refl
    each reg.Tier h = refl
    each reg.Loopback h = cc
    each reg.Tracked h = flags.tracked
    each reg.Blocked h = cc
    each reg.Own h = cc
    each reg.Arrived h = flags.arrived

-- what a list said is for the way too
sought_by : (r : Reg) → is_for_way r ≡ false → is_sought r ≡ false
sought_by reg.Dp h = refl
sought_by reg.InPort h = refl
sought_by reg.OutPort h = refl
sought_by reg.Next h = refl
sought_by reg.ZIn h = refl
sought_by reg.ZOut h = refl
sought_by reg.ZDnat h = refl
sought_by reg.ZSnat h = refl
sought_by reg.State h = cc
sought_by reg.Verdict h = refl
sought_by reg.Tier h = refl
sought_by reg.Loopback h = refl
sought_by reg.Tracked h = refl
sought_by reg.Blocked h = cc
sought_by reg.Own h = refl
sought_by reg.Arrived h = refl

pub sought_for_way : (before after : Carried) → IsStill is_sought before after → IsStill is_for_way before after
sought_for_way before after still = record { passes = still.passes; entry = still.entry; registers = λ r h. still.registers r (sought_by r h) }

-- where nothing was set, nothing was sought
pub none_sought : (before after : Carried) → IsStill is_none_set before after → IsStill is_sought before after
none_sought before after still = record { passes = still.passes; entry = still.entry; registers = λ r h. still.registers r refl }

-- they are in their ranges
pub sought_within : (before after : Carried) → IsStill is_sought before after → HasRegistersInRange before.regs → after.regs.state ≤ 7 → HasRegistersInRange after.regs
sought_within before after still h state = record { within = each }
  where
    same : (r : Reg) → is_sought r ≡ false → reg_number r after.regs ≤ reg_max r
    same r free = subst (λ (n : ℕ). n ≤ reg_max r) (sym (still.registers r free)) (h.within r)

    each : (r : Reg) → reg_number r after.regs ≤ reg_max r
    each reg.Dp = same reg.Dp refl
    each reg.InPort = same reg.InPort refl
    each reg.OutPort = same reg.OutPort refl
    each reg.Next = same reg.Next refl
    each reg.ZIn = same reg.ZIn refl
    each reg.ZOut = same reg.ZOut refl
    each reg.ZDnat = same reg.ZDnat refl
    each reg.ZSnat = same reg.ZSnat refl
    each reg.State = state
    each reg.Verdict = same reg.Verdict refl
    each reg.Tier = same reg.Tier refl
    each reg.Loopback = small after.regs.flags.0 0
    each reg.Tracked = small after.regs.flags.0 1
    each reg.Blocked = small after.regs.flags.0 2
    each reg.Own = small after.regs.flags.0 3
    each reg.Arrived = small after.regs.flags.0 4
