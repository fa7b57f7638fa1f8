-- A cube that is met with registers holds what it held before, where the registers have their numbers.
use Rattle.std.specs.Prelude.{◌≡◌, ◌<◌, ◌↔◌, ◌+◌, ◌*◌, ◌-◌, ◌^◌, ℕ, Bool, true, false, cond, List, [], ◌∷◌, Option, Some, None, option_and_then, bit_and}
use Rattle.std.specs.Int.{bit_at}
use Rattle.std.specs.List.{AllByRecursion}
use Rattle.std.proofs.Common.{refl, sym, ap, ◌∙◌, subst, arith}
use Rattle.std.proofs.lemmas.Bool.{eqb-true, eq-eqb, and_from, and_parts, false≢true}
use Rattle.std.proofs.lemmas.Nat.Bits.{and_pow}
use Rattle.ovn_base.proofs.MacLemmas.{and_all}
use Rattle.inet_packet.specs.declared.cube.Bits.{Bits}
use Rattle.inet_packet.specs.declared.cube.Cube.{Cube}
use Rattle.inet_packet.specs.declared.packet.Packet.{Packet}
use Rattle.inet_packet.specs.declared.regs.Reg.{Reg}
use Rattle.inet_packet.specs.declared.regs.Reg.TheVariants as reg
use Rattle.inet_packet.specs.declared.regs.Regs.{Regs}
use Rattle.inet_packet.specs.Fits.{BitsFit, CubeFits}
use Rattle.logical_flows.specs.declared.flow.RegIs.{RegIs}
use Rattle.match_cubes.specs.Ternary.{fits, agree, both_bits}
use Rattle.match_cubes.proofs.TernaryLaws.{fits_joined, fits_apart, times_test}
use Rattle.flow_lowering.specs.Registers.{reg_number, reg_max, HasRegistersInRange, reg_bits, asked_of_reg, ask_reg, met_with, met_with_all}
use Rattle.flow_lowering.proofs.CubeParts.{reg_word, asked_there, word_fits, fits_asked, fits_before}

-- ---- one register

number_fits : (n v w : ℕ) → n < 2 ^ w → BitsFit (record { value = v; mask = 2 ^ w - 1 }) n ↔ (n ≡ v)
number_fits n v w small = (λ h. sym (and_all n w small) ∙ h, λ e. and_all n w small ∙ e)

same_times : (a b k : ℕ) → a * 2 ^ k ≡ b * 2 ^ k → a ≡ b
same_times a b k h = eqb-true a b (sym (times_test a b k) ∙ eq-eqb (a * 2 ^ k) (b * 2 ^ k) h)

flag_fits : (n v k : ℕ) → BitsFit (record { value = v * 2 ^ k; mask = 2 ^ k }) n ↔ (bit_at n k ≡ v)
flag_fits n v k = (λ h. same_times (bit_at n k) v k (sym (and_pow n k) ∙ h), λ e. and_pow n k ∙ ap (λ (m : ℕ). m * 2 ^ k) e)

lowest_is : (n : ℕ) → bit_and n 1 ≡ bit_at n 0
lowest_is n = and_pow n 0 ∙ omega arith

lowest_fits : (n v : ℕ) → BitsFit (record { value = v; mask = 1 }) n ↔ (bit_at n 0 ≡ v)
lowest_fits n v = (λ h. sym (lowest_is n) ∙ h, λ e. lowest_is n ∙ e)

-- the register has the number
abbrev pub HasNumber : Regs → RegIs → Type 0
HasNumber regs r = reg_number r.reg regs ≡ r.value

module _ (regs : Regs) (range : HasRegistersInRange regs) where
  abbrev Asks : Reg → ℕ → Type 0
  Asks r v = BitsFit (reg_bits (record { reg = r; value = v })) (reg_word r regs) ↔ (reg_number r regs ≡ v)

  within : (r : Reg) (n m : ℕ) → reg_number r regs ≡ n → reg_max r ≡ m → n < m + 1
  within r n m e f = let h = range.within r in omega (arith, h, e, f)

  -- the bits that a register's test asks for are there exactly where the register has the number
  reg_fits : (r : Reg) (v : ℕ) → Asks r v
  reg_fits reg.Dp v = number_fits regs.dp v 24 (within reg.Dp regs.dp 0xff_ffff refl refl)
  reg_fits reg.InPort v = number_fits regs.in_port v 16 (within reg.InPort regs.in_port 0xffff refl refl)
  reg_fits reg.OutPort v = number_fits regs.out_port v 16 (within reg.OutPort regs.out_port 0xffff refl refl)
  reg_fits reg.Next v = number_fits regs.next v 32 (within reg.Next regs.next 0xffff_ffff refl refl)
  reg_fits reg.ZIn v = number_fits regs.z_in v 16 (within reg.ZIn regs.z_in 0xffff refl refl)
  reg_fits reg.ZOut v = number_fits regs.z_out v 16 (within reg.ZOut regs.z_out 0xffff refl refl)
  reg_fits reg.ZDnat v = number_fits regs.z_dnat v 16 (within reg.ZDnat regs.z_dnat 0xffff refl refl)
  reg_fits reg.ZSnat v = number_fits regs.z_snat v 16 (within reg.ZSnat regs.z_snat 0xffff refl refl)
  reg_fits reg.State v = number_fits regs.state v 3 (within reg.State regs.state 7 refl refl)
  reg_fits reg.Verdict v = number_fits regs.verdict v 3 (within reg.Verdict regs.verdict 7 refl refl)
  reg_fits reg.Tier v = number_fits regs.tier v 3 (within reg.Tier regs.tier 7 refl refl)
  reg_fits reg.Loopback v = lowest_fits regs.flags.0 v
  reg_fits reg.Tracked v = flag_fits regs.flags.0 v 1
  reg_fits reg.Blocked v = flag_fits regs.flags.0 v 2
  reg_fits reg.Own v = flag_fits regs.flags.0 v 3
  reg_fits reg.Arrived v = flag_fits regs.flags.0 v 4

-- ---- what both of two ask for

is_fit : (b : Bits) (n : ℕ) → fits b n ≡ true → BitsFit b n
is_fit b n h = eqb-true (bit_and n b.mask) b.value h

fit_is : (b : Bits) (n : ℕ) → BitsFit b n → fits b n ≡ true
fit_is b n h = eq-eqb (bit_and n b.mask) b.value h

both_fit : (a b : Bits) (n : ℕ) → agree a b ≡ true → BitsFit a n → BitsFit b n → BitsFit (both_bits a b) n
both_fit a b n h x y = is_fit (both_bits a b) n (fits_joined a b n h ∙ and_from (fits a n) (fits b n) (fit_is a n x) (fit_is b n y))

each_fits : (a b : Bits) (n : ℕ) → agree a b ≡ true → BitsFit (both_bits a b) n → BitsFit a n × BitsFit b n
each_fits a b n h x =
    let parts = and_parts (fits a n) (fits b n) (sym (fits_joined a b n h) ∙ fit_is (both_bits a b) n x) in
    (is_fit a n parts.0, is_fit b n parts.1)

none_fits : (a b : Bits) (n : ℕ) → agree a b ≡ false → BitsFit a n → BitsFit b n → ⊥
none_fits a b n h x y = false≢true (sym (fits_apart a b n h) ∙ and_from (fits a n) (fits b n) (fit_is a n x) (fit_is b n y))

-- ---- equivalences

with_first : (A B C : Type 0) → B ↔ C → (A × B) ↔ (A × C)
with_first A B C e = (λ p. (p.0, e.0 p.1), λ p. (p.0, e.1 p.1))

in_turn : (A B C : Type 0) → A ↔ B → B ↔ C → A ↔ C
in_turn A B C e f = (λ a. f.0 (e.0 a), λ c. e.1 (f.1 c))

-- ---- a cube that is met

-- the cube, where there is one, holds the packet with its registers
abbrev pub Holds : Regs → Packet → Option Cube → Type 0
Holds regs packet None = ⊥
Holds regs packet (Some c) = CubeFits c regs packet

module _ (regs : Regs) (packet : Packet) where
  met_by : (r : Reg) (b : Bits) (c : Cube) (t : Bool) → agree (asked_of_reg r c) b ≡ t
      → Holds regs packet (cond t (Some (ask_reg r (both_bits (asked_of_reg r c) b) c)) None) ↔ (CubeFits c regs packet × BitsFit b (reg_word r regs))
  met_by r b c true h =
      let a : Bits = asked_of_reg r c in
      let n : ℕ = reg_word r regs in (
        λ k.
            let there : BitsFit (both_bits a b) n = subst (λ (x : Bits). BitsFit x n) (asked_there r (both_bits a b) c) (word_fits regs packet (ask_reg r (both_bits a b) c) k r) in
            let each = each_fits a b n h there in
            (fits_before regs packet r (both_bits a b) c k each.0, each.1),
        λ p. fits_asked regs packet r (both_bits a b) c p.0 (both_fit a b n h (word_fits regs packet c p.0 r) p.1),
      )
  met_by r b c false h = (λ k. absurd k, λ p. none_fits (asked_of_reg r c) b (reg_word r regs) h (word_fits regs packet c p.0 r) p.1)

  -- met with one, and then with others
  next_by : (A B C : Type 0) (next : Cube → Option Cube) (o : Option Cube) → Holds regs packet o ↔ (A × B) → ((d : Cube) → Holds regs packet (next d) ↔ (CubeFits d regs packet × C))
      → Holds regs packet (option_and_then next o) ↔ (A × (B × C))
  next_by A B C next None first rest = (λ k. absurd k, λ p. first.1 (p.0, p.1.0))
  next_by A B C next (Some d) first rest = (
    λ k.
        let x = (rest d).0 k in
        let y = first.0 x.0 in
        (y.0, (y.1, x.1)),
    λ p. (rest d).1 (first.1 (p.0, p.1.0), p.1.1),
  )

  module _ (range : HasRegistersInRange regs) where
    met_holds : (r : RegIs) (c : Cube) → Holds regs packet (met_with r c) ↔ (CubeFits c regs packet × HasNumber regs r)
    unfolding met_with
    met_holds r c =
        in_turn _ _ _ (met_by r.reg (reg_bits r) c (agree (asked_of_reg r.reg c) (reg_bits r)) refl)
        (with_first (CubeFits c regs packet) (BitsFit (reg_bits r) (reg_word r.reg regs)) (HasNumber regs r) (reg_fits regs range r.reg r.value))

    pub all_hold : (rs : List RegIs) (c : Cube) → Holds regs packet (met_with_all rs c) ↔ (CubeFits c regs packet × AllByRecursion (HasNumber regs) rs)
    all_hold [] c = (λ k. (k, tt), λ p. p.0)
    all_hold (r ∷ rs) c =
        next_by (CubeFits c regs packet) (HasNumber regs r) (AllByRecursion (HasNumber regs) rs) (met_with_all rs) (met_with r c) (met_holds r c) (all_hold rs)
