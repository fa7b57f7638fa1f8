-- The numbers in the registers, and how far they are from the greatest.
use Rattle.std.specs.Prelude.{◌≡◌, ◌<◌, ℕ, zero, suc, ◌+◌, ◌-◌, ◌*◌, ◌^◌, ◌%◌, true, false, cond, bit_and, bit_or, refl}
use Rattle.std.proofs.Math.Dec.{eqb as nat_eq}
use Rattle.std.proofs.Common.{arith, sym, ap, ◌∙◌}
use Rattle.std.proofs.lemmas.Nat.{and_le_l, and_assoc, and_mask, or_lt}
use Rattle.std.specs.Int.Bits.{or_add_and}
use Rattle.std.proofs.Math.Nat.{mod-eq_of_lt}
use Rattle.inet_packet.specs.Fits.{BitsFit, CubeFits}
use Rattle.inet_packet.specs.declared.cube.Cube.{Cube}
use Rattle.inet_packet.specs.declared.packet.Packet.{Packet}
use Rattle.inet_packet.specs.declared.regs.Reg.{Reg}
use Rattle.inet_packet.specs.declared.regs.Reg.TheVariants.{Dp, InPort, OutPort, Next, ZIn, ZOut, ZDnat, ZSnat, State, Verdict, Tier, Loopback, Tracked, Blocked, Own, Arrived}
use Rattle.inet_packet.specs.declared.regs.Regs.{Regs}
use Rattle.flow_table.specs.declared.flow.Flow.{Flow}
use Rattle.switch_engine.specs.Actions.{set_flag, set_reg}
use Rattle.switch_engine.specs.Range.{IsInRange}
use Rattle.switch_engine.specs.Walk.{start_regs}
use Rattle.switch_engine.specs.declared.effect.Entry.{Entry}
use Rattle.switch_engine.specs.Proper.{all_bits, asked, CanBeSet, Raises}

-- a flag that is set or cleared leaves eight flags
flags_kept : (flag n flags : ℕ) → flag < 2 ^ 8 → flags < 2 ^ 8 → cond (nat_eq n 0) (bit_and flags (255 - flag)) (bit_or flags flag) < 2 ^ 8
flags_kept flag n flags small fits = elim (nat_eq n 0) as (λ b. cond b (bit_and flags (255 - flag)) (bit_or flags flag) < 2 ^ 8) [
  | true ↦ omega (arith, and_le_l flags (255 - flag))
  | false ↦ or_lt 8 flags flag fits small
]

-- a register that is set as it can be holds what lies within it
pub set_in_range : (reg : Reg) (n : ℕ) (regs : Regs) → CanBeSet reg n → IsInRange regs → IsInRange (set_reg reg n regs)
set_in_range Dp n regs c r = record { dp_within = c.within; in_port_within = r.in_port_within; out_port_within = r.out_port_within; next_within = r.next_within; z_in_within = r.z_in_within; z_out_within = r.z_out_within; z_dnat_within = r.z_dnat_within; z_snat_within = r.z_snat_within; state_within = r.state_within; verdict_within = r.verdict_within; tier_within = r.tier_within; flags_within = r.flags_within }
set_in_range InPort n regs c r = record { dp_within = r.dp_within; in_port_within = c.of_port refl; out_port_within = r.out_port_within; next_within = r.next_within; z_in_within = r.z_in_within; z_out_within = r.z_out_within; z_dnat_within = r.z_dnat_within; z_snat_within = r.z_snat_within; state_within = r.state_within; verdict_within = r.verdict_within; tier_within = r.tier_within; flags_within = r.flags_within }
set_in_range OutPort n regs c r = record { dp_within = r.dp_within; in_port_within = r.in_port_within; out_port_within = c.within; next_within = r.next_within; z_in_within = r.z_in_within; z_out_within = r.z_out_within; z_dnat_within = r.z_dnat_within; z_snat_within = r.z_snat_within; state_within = r.state_within; verdict_within = r.verdict_within; tier_within = r.tier_within; flags_within = r.flags_within }
set_in_range Next n regs c r = record { dp_within = r.dp_within; in_port_within = r.in_port_within; out_port_within = r.out_port_within; next_within = c.within; z_in_within = r.z_in_within; z_out_within = r.z_out_within; z_dnat_within = r.z_dnat_within; z_snat_within = r.z_snat_within; state_within = r.state_within; verdict_within = r.verdict_within; tier_within = r.tier_within; flags_within = r.flags_within }
set_in_range ZIn n regs c r = record { dp_within = r.dp_within; in_port_within = r.in_port_within; out_port_within = r.out_port_within; next_within = r.next_within; z_in_within = c.within; z_out_within = r.z_out_within; z_dnat_within = r.z_dnat_within; z_snat_within = r.z_snat_within; state_within = r.state_within; verdict_within = r.verdict_within; tier_within = r.tier_within; flags_within = r.flags_within }
set_in_range ZOut n regs c r = record { dp_within = r.dp_within; in_port_within = r.in_port_within; out_port_within = r.out_port_within; next_within = r.next_within; z_in_within = r.z_in_within; z_out_within = c.within; z_dnat_within = r.z_dnat_within; z_snat_within = r.z_snat_within; state_within = r.state_within; verdict_within = r.verdict_within; tier_within = r.tier_within; flags_within = r.flags_within }
set_in_range ZDnat n regs c r = record { dp_within = r.dp_within; in_port_within = r.in_port_within; out_port_within = r.out_port_within; next_within = r.next_within; z_in_within = r.z_in_within; z_out_within = r.z_out_within; z_dnat_within = c.within; z_snat_within = r.z_snat_within; state_within = r.state_within; verdict_within = r.verdict_within; tier_within = r.tier_within; flags_within = r.flags_within }
set_in_range ZSnat n regs c r = record { dp_within = r.dp_within; in_port_within = r.in_port_within; out_port_within = r.out_port_within; next_within = r.next_within; z_in_within = r.z_in_within; z_out_within = r.z_out_within; z_dnat_within = r.z_dnat_within; z_snat_within = c.within; state_within = r.state_within; verdict_within = r.verdict_within; tier_within = r.tier_within; flags_within = r.flags_within }
set_in_range State n regs c r = record { dp_within = r.dp_within; in_port_within = r.in_port_within; out_port_within = r.out_port_within; next_within = r.next_within; z_in_within = r.z_in_within; z_out_within = r.z_out_within; z_dnat_within = r.z_dnat_within; z_snat_within = r.z_snat_within; state_within = c.within; verdict_within = r.verdict_within; tier_within = r.tier_within; flags_within = r.flags_within }
set_in_range Verdict n regs c r = record { dp_within = r.dp_within; in_port_within = r.in_port_within; out_port_within = r.out_port_within; next_within = r.next_within; z_in_within = r.z_in_within; z_out_within = r.z_out_within; z_dnat_within = r.z_dnat_within; z_snat_within = r.z_snat_within; state_within = r.state_within; verdict_within = c.within; tier_within = r.tier_within; flags_within = r.flags_within }
set_in_range Tier n regs c r = record { dp_within = r.dp_within; in_port_within = r.in_port_within; out_port_within = r.out_port_within; next_within = r.next_within; z_in_within = r.z_in_within; z_out_within = r.z_out_within; z_dnat_within = r.z_dnat_within; z_snat_within = r.z_snat_within; state_within = r.state_within; verdict_within = r.verdict_within; tier_within = c.within; flags_within = r.flags_within }
set_in_range Loopback n regs c r = record { dp_within = r.dp_within; in_port_within = r.in_port_within; out_port_within = r.out_port_within; next_within = r.next_within; z_in_within = r.z_in_within; z_out_within = r.z_out_within; z_dnat_within = r.z_dnat_within; z_snat_within = r.z_snat_within; state_within = r.state_within; verdict_within = r.verdict_within; tier_within = r.tier_within; flags_within = flags_kept 1 n regs.flags.0 (omega arith) r.flags_within }
set_in_range Tracked n regs c r = record { dp_within = r.dp_within; in_port_within = r.in_port_within; out_port_within = r.out_port_within; next_within = r.next_within; z_in_within = r.z_in_within; z_out_within = r.z_out_within; z_dnat_within = r.z_dnat_within; z_snat_within = r.z_snat_within; state_within = r.state_within; verdict_within = r.verdict_within; tier_within = r.tier_within; flags_within = flags_kept 2 n regs.flags.0 (omega arith) r.flags_within }
set_in_range Blocked n regs c r = record { dp_within = r.dp_within; in_port_within = r.in_port_within; out_port_within = r.out_port_within; next_within = r.next_within; z_in_within = r.z_in_within; z_out_within = r.z_out_within; z_dnat_within = r.z_dnat_within; z_snat_within = r.z_snat_within; state_within = r.state_within; verdict_within = r.verdict_within; tier_within = r.tier_within; flags_within = flags_kept 4 n regs.flags.0 (omega arith) r.flags_within }
set_in_range Own n regs c r = record { dp_within = r.dp_within; in_port_within = r.in_port_within; out_port_within = r.out_port_within; next_within = r.next_within; z_in_within = r.z_in_within; z_out_within = r.z_out_within; z_dnat_within = r.z_dnat_within; z_snat_within = r.z_snat_within; state_within = r.state_within; verdict_within = r.verdict_within; tier_within = r.tier_within; flags_within = flags_kept 8 n regs.flags.0 (omega arith) r.flags_within }
set_in_range Arrived n regs c r = record { dp_within = r.dp_within; in_port_within = r.in_port_within; out_port_within = r.out_port_within; next_within = r.next_within; z_in_within = r.z_in_within; z_out_within = r.z_out_within; z_dnat_within = r.z_dnat_within; z_snat_within = r.z_snat_within; state_within = r.state_within; verdict_within = r.verdict_within; tier_within = r.tier_within; flags_within = flags_kept 16 n regs.flags.0 (omega arith) r.flags_within }

-- the word in which the register stands
abbrev pub word_of : Reg → Regs → ℕ
word_of Dp regs = regs.dp
word_of InPort regs = regs.in_port
word_of OutPort regs = regs.out_port
word_of Next regs = regs.next
word_of ZIn regs = regs.z_in
word_of ZOut regs = regs.z_out
word_of ZDnat regs = regs.z_dnat
word_of ZSnat regs = regs.z_snat
word_of State regs = regs.state
word_of Verdict regs = regs.verdict
word_of Tier regs = regs.tier
word_of Loopback regs = regs.flags.0
word_of Tracked regs = regs.flags.0
word_of Blocked regs = regs.flags.0
word_of Own regs = regs.flags.0
word_of Arrived regs = regs.flags.0

-- the sum of all words
abbrev pub total : Regs → ℕ
total regs = regs.dp + regs.in_port + regs.out_port + regs.next + regs.z_in + regs.z_out + regs.z_dnat + regs.z_snat + regs.state + regs.verdict + regs.tier + regs.flags.0

pub total_small : (regs : Regs) → IsInRange regs → total regs < 2 ^ 33
total_small regs r = omega arith

-- a cube that holds the packet holds the word of each register
asked_fits : (reg : Reg) (cube : Cube) (regs : Regs) (packet : Packet) → CubeFits cube regs packet → BitsFit (asked reg cube) (word_of reg regs)
asked_fits Dp cube regs packet h = h.place.dp_fits
asked_fits InPort cube regs packet h = h.place.in_port_fits
asked_fits OutPort cube regs packet h = h.place.out_port_fits
asked_fits Next cube regs packet h = h.place.next_fits
asked_fits ZIn cube regs packet h = h.zones.z_in_fits
asked_fits ZOut cube regs packet h = h.zones.z_out_fits
asked_fits ZDnat cube regs packet h = h.zones.z_dnat_fits
asked_fits ZSnat cube regs packet h = h.zones.z_snat_fits
asked_fits State cube regs packet h = h.state.state_fits
asked_fits Verdict cube regs packet h = h.state.verdict_fits
asked_fits Tier cube regs packet h = h.state.tier_fits
asked_fits Loopback cube regs packet h = h.state.flags_fits
asked_fits Tracked cube regs packet h = h.state.flags_fits
asked_fits Blocked cube regs packet h = h.state.flags_fits
asked_fits Own cube regs packet h = h.state.flags_fits
asked_fits Arrived cube regs packet h = h.state.flags_fits

-- where a mask has all bits of a register, the value has the word's bits there
value_is : (word mask value bits : ℕ) → bit_and word mask ≡ value → bit_and mask bits ≡ bits → bit_and value bits ≡ bit_and word bits
value_is word mask value bits fits whole = ap (λ v. bit_and v bits) (sym fits) ∙ and_assoc bits word mask ∙ ap (λ b. bit_and word b) whole

-- a number with a word of its own
number_rises : (k word n bits mask value : ℕ) → bits ≡ 2 ^ k - 1 → word < 2 ^ k → bit_and word mask ≡ value → bit_and mask bits ≡ bits → bit_and value bits < n * 1 → word < n
number_rises k word n bits mask value is within fits whole greater =
    let same : bit_and value bits ≡ word % 2 ^ k = value_is word mask value bits fits whole ∙ ap (λ b. bit_and word b) is ∙ and_mask word k in
    let low : word % 2 ^ k ≡ word = mod-eq_of_lt within in
    omega arith

-- a flag
flag_rises : (word n flag mask value : ℕ) → n < 2 → bit_and word mask ≡ value → bit_and mask flag ≡ flag → bit_and value flag < n * flag → word < cond (nat_eq n 0) (bit_and word (255 - flag)) (bit_or word flag)
flag_rises word zero flag mask value small fits whole greater = absurd (omega arith)
flag_rises word (suc zero) flag mask value small fits whole greater =
    let same : bit_and value flag ≡ bit_and word flag = value_is word mask value flag fits whole in
    let sum : bit_or word flag + bit_and word flag ≡ word + flag = or_add_and word flag in
    omega arith
flag_rises word (suc (suc n)) flag mask value small fits whole greater = absurd (omega arith)

-- a flow that raises a register makes the sum greater
pub total_rises : (reg : Reg) (n : ℕ) (flow : Flow) (regs : Regs) (packet : Packet) → Raises flow reg n → IsInRange regs → CubeFits flow.cube regs packet → total regs < total (set_reg reg n regs)
total_rises Dp n flow regs packet h r fits =
    let more : regs.dp < n = number_rises 24 regs.dp n (all_bits Dp) flow.cube.dp.mask flow.cube.dp.value refl r.dp_within fits.place.dp_fits h.whole h.greater in
    omega arith
total_rises InPort n flow regs packet h r fits =
    let small : regs.in_port < 2 ^ 16 = omega (arith, r.in_port_within) in
    let more : regs.in_port < n = number_rises 16 regs.in_port n (all_bits InPort) flow.cube.in_port.mask flow.cube.in_port.value refl small fits.place.in_port_fits h.whole h.greater in
    omega arith
total_rises OutPort n flow regs packet h r fits =
    let more : regs.out_port < n = number_rises 16 regs.out_port n (all_bits OutPort) flow.cube.out_port.mask flow.cube.out_port.value refl r.out_port_within fits.place.out_port_fits h.whole h.greater in
    omega arith
total_rises Next n flow regs packet h r fits =
    let more : regs.next < n = number_rises 32 regs.next n (all_bits Next) flow.cube.next.mask flow.cube.next.value refl r.next_within fits.place.next_fits h.whole h.greater in
    omega arith
total_rises ZIn n flow regs packet h r fits =
    let more : regs.z_in < n = number_rises 16 regs.z_in n (all_bits ZIn) flow.cube.z_in.mask flow.cube.z_in.value refl r.z_in_within fits.zones.z_in_fits h.whole h.greater in
    omega arith
total_rises ZOut n flow regs packet h r fits =
    let more : regs.z_out < n = number_rises 16 regs.z_out n (all_bits ZOut) flow.cube.z_out.mask flow.cube.z_out.value refl r.z_out_within fits.zones.z_out_fits h.whole h.greater in
    omega arith
total_rises ZDnat n flow regs packet h r fits =
    let more : regs.z_dnat < n = number_rises 16 regs.z_dnat n (all_bits ZDnat) flow.cube.z_dnat.mask flow.cube.z_dnat.value refl r.z_dnat_within fits.zones.z_dnat_fits h.whole h.greater in
    omega arith
total_rises ZSnat n flow regs packet h r fits =
    let more : regs.z_snat < n = number_rises 16 regs.z_snat n (all_bits ZSnat) flow.cube.z_snat.mask flow.cube.z_snat.value refl r.z_snat_within fits.zones.z_snat_fits h.whole h.greater in
    omega arith
total_rises State n flow regs packet h r fits =
    let more : regs.state < n = number_rises 3 regs.state n (all_bits State) flow.cube.state.mask flow.cube.state.value refl r.state_within fits.state.state_fits h.whole h.greater in
    omega arith
total_rises Verdict n flow regs packet h r fits =
    let more : regs.verdict < n = number_rises 3 regs.verdict n (all_bits Verdict) flow.cube.verdict.mask flow.cube.verdict.value refl r.verdict_within fits.state.verdict_fits h.whole h.greater in
    omega arith
total_rises Tier n flow regs packet h r fits =
    let more : regs.tier < n = number_rises 3 regs.tier n (all_bits Tier) flow.cube.tier.mask flow.cube.tier.value refl r.tier_within fits.state.tier_fits h.whole h.greater in
    omega arith
total_rises Loopback n flow regs packet h r fits =
    let more : regs.flags.0 < (set_flag 1 n regs.flags).0 = flag_rises regs.flags.0 n 1 flow.cube.flags.mask flow.cube.flags.value h.can.within fits.state.flags_fits h.whole h.greater in
    omega arith
total_rises Tracked n flow regs packet h r fits =
    let more : regs.flags.0 < (set_flag 2 n regs.flags).0 = flag_rises regs.flags.0 n 2 flow.cube.flags.mask flow.cube.flags.value h.can.within fits.state.flags_fits h.whole h.greater in
    omega arith
total_rises Blocked n flow regs packet h r fits =
    let more : regs.flags.0 < (set_flag 4 n regs.flags).0 = flag_rises regs.flags.0 n 4 flow.cube.flags.mask flow.cube.flags.value h.can.within fits.state.flags_fits h.whole h.greater in
    omega arith
total_rises Own n flow regs packet h r fits =
    let more : regs.flags.0 < (set_flag 8 n regs.flags).0 = flag_rises regs.flags.0 n 8 flow.cube.flags.mask flow.cube.flags.value h.can.within fits.state.flags_fits h.whole h.greater in
    omega arith
total_rises Arrived n flow regs packet h r fits =
    let more : regs.flags.0 < (set_flag 16 n regs.flags).0 = flag_rises regs.flags.0 n 16 flow.cube.flags.mask flow.cube.flags.value h.can.within fits.state.flags_fits h.whole h.greater in
    omega arith

-- at the start all are 0
pub start_in_range : (entry : Entry) → IsInRange (start_regs entry)
start_in_range entry =
    record {
      dp_within = omega arith;
      in_port_within = omega arith;
      out_port_within = omega arith;
      next_within = omega arith;
      z_in_within = omega arith;
      z_out_within = omega arith;
      z_dnat_within = omega arith;
      z_snat_within = omega arith;
      state_within = omega arith;
      verdict_within = omega arith;
      tier_within = omega arith;
      flags_within = omega arith;
    }
