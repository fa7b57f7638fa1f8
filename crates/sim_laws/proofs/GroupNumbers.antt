-- The numbers of groups.
use Rattle.std.specs.Prelude.{◌≡◌, ◌<◌, ◌≤◌, ◌^◌, ℕ, Bool, true, false, cond, refl}
use Rattle.std.proofs.Common.{arith}
use Rattle.physical_flows.specs.GroupKeys.{group_key}
use Rattle.net_model.specs.declared.crossing.Group.{Group}
use Rattle.net_model.specs.declared.crossing.Group.TheVariants.{Flood, Unknown}

pub group_short : (group : Group) → group_key group < 2 ^ 16
group_short Flood = omega arith
group_short Unknown = omega arith

pub group_high : (group : Group) → 2 ^ 15 ≤ group_key group
group_high Flood = omega arith
group_high Unknown = omega arith

pub one_group : (g h : Group) → group_key g ≡ group_key h → g ≡ h
one_group Flood Flood e = refl
one_group Flood Unknown e = absurd (omega (arith, e))
one_group Unknown Flood e = absurd (omega (arith, e))
one_group Unknown Unknown e = refl

-- no port has one
pub no_group : (group : Group) (key n : ℕ) → key < 2 ^ 15 → n ≡ key → n ≡ group_key group → ⊥
no_group group key n low same as_well = let high : 2 ^ 15 ≤ group_key group = group_high group in absurd (omega (arith, low, high, same, as_well))

-- the flag of one row for a group that holds a packet is that of another
abbrev word : Bool → ℕ
word arrived = cond arrived 16 0

pub one_flag : (v w : Bool) → word v ≡ word w → v ≡ w
one_flag true true e = refl
one_flag true false e = absurd (omega (arith, e))
one_flag false true e = absurd (omega (arith, e))
one_flag false false e = refl
