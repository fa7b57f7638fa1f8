-- What the cubes of fields, their meets and the cubes of comparisons hold.
use Rattle.std.specs.Prelude.{◌≡◌, ◌≤◌, ℕ, Bool, true, false, ◌&&◌, cond, List, [], ◌∷◌, length}
use Rattle.std.specs.List.{list_all, list_any}
use Rattle.std.proofs.Common.{refl, sym, ap, ◌∙◌, arith}
use Rattle.std.proofs.Math.Bool.{or-false, and-true, and_assoc}
use lib.Bits.{and_zero_r}
use Rattle.std.proofs.lemmas.Bool.{and_parts}
use Rattle.inet_packet.specs.declared.cube.Bits.{Bits}
use Rattle.inet_packet.specs.declared.cube.Cube.{Cube}
use Rattle.inet_packet.specs.declared.packet.Packet.{Packet}
use Rattle.inet_packet.specs.declared.regs.Regs.{Regs}
use Rattle.match_language.specs.declared.field.Field.{Field}
use Rattle.match_language.specs.declared.field.Field.TheVariants as f
use Rattle.match_language.specs.Tables.{all_fields}
use Rattle.match_cubes.specs.Ternary.{fits, agree, both_bits}
use Rattle.match_cubes.specs.Asked.{number_in, asked_of_field, all_packets, is_in_cube, agree_all, joined_all, meet}
use Rattle.match_cubes.specs.Holds.{has_needs}
use Rattle.match_cubes.specs.Cubes.{comparing}
use Rattle.match_cubes.proofs.TernaryLaws.{fits_joined, fits_apart}

and_swap : (a b c d : Bool) → ((a && b) && (c && d)) ≡ ((a && c) && (b && d))
and_swap true b true d = refl
and_swap true true false d = refl
and_swap true false false d = refl
and_swap false b c d = refl

and_none : (a : Bool) → (a && false) ≡ false
and_none true = refl
and_none false = refl

module _ {F : Type 0} (x y : F → Bits) (n : F → ℕ) where
  -- where they agree, what has the joined has both
  joined_in : (fs : List F) → list_all (λ f. agree (x f) (y f)) fs ≡ true → list_all (λ f. fits (both_bits (x f) (y f)) (n f)) fs ≡ (list_all (λ f. fits (x f) (n f)) fs && list_all (λ f. fits (y f) (n f)) fs)
  joined_in [] h = refl
  joined_in (f ∷ fs) h =
      let parts = and_parts (agree (x f) (y f)) (list_all (λ g. agree (x g) (y g)) fs) h in
      ap (λ (b : Bool). b && list_all (λ g. fits (both_bits (x g) (y g)) (n g)) fs) (fits_joined (x f) (y f) (n f) parts.0)
      ∙ ap (λ (b : Bool). (fits (x f) (n f) && fits (y f) (n f)) && b) (joined_in fs parts.1)
      ∙ and_swap (fits (x f) (n f)) (fits (y f) (n f)) (list_all (λ g. fits (x g) (n g)) fs) (list_all (λ g. fits (y g) (n g)) fs)

  apart_by : (f : F) (fs : List F) (r : Bool) → agree (x f) (y f) ≡ r → (agree (x f) (y f) && list_all (λ g. agree (x g) (y g)) fs) ≡ false → (list_all (λ g. agree (x g) (y g)) fs ≡ false → (list_all (λ g. fits (x g) (n g)) fs && list_all (λ g. fits (y g) (n g)) fs) ≡ false)
      → ((fits (x f) (n f) && fits (y f) (n f)) && (list_all (λ g. fits (x g) (n g)) fs && list_all (λ g. fits (y g) (n g)) fs)) ≡ false
  apart_by f fs true e h rest =
      ap (λ (b : Bool). (fits (x f) (n f) && fits (y f) (n f)) && b) (rest (ap (λ (b : Bool). b && list_all (λ g. agree (x g) (y g)) fs) (sym e) ∙ h)) ∙ and_none (fits (x f) (n f) && fits (y f) (n f))
  apart_by f fs false e h rest =
      ap (λ (b : Bool). b && (list_all (λ g. fits (x g) (n g)) fs && list_all (λ g. fits (y g) (n g)) fs)) (fits_apart (x f) (y f) (n f) e)

  -- where they do not, nothing has both
  apart_in : (fs : List F) → list_all (λ f. agree (x f) (y f)) fs ≡ false → (list_all (λ f. fits (x f) (n f)) fs && list_all (λ f. fits (y f) (n f)) fs) ≡ false
  apart_in [] h = h
  apart_in (f ∷ fs) h =
      and_swap (fits (x f) (n f)) (list_all (λ g. fits (x g) (n g)) fs) (fits (y f) (n f)) (list_all (λ g. fits (y g) (n g)) fs)
      ∙ apart_by f fs (agree (x f) (y f)) refl h (apart_in fs)

module _ (regs : Regs) (packet : Packet) where
  meet_by : (a b : Cube) (r : Bool) → agree_all a b ≡ r → list_any (is_in_cube regs packet) (cond r (joined_all a b ∷ []) []) ≡ (is_in_cube regs packet a && is_in_cube regs packet b)
  meet_by a b true h =
      or-false (is_in_cube regs packet (joined_all a b))
      ∙ joined_in (λ (f : Field). asked_of_field f a) (λ (f : Field). asked_of_field f b) (λ (f : Field). number_in f regs packet) all_fields h
  meet_by a b false h = sym (apart_in (λ (f : Field). asked_of_field f a) (λ (f : Field). asked_of_field f b) (λ (f : Field). number_in f regs packet) all_fields h)

  -- what is in the meet is in both
  pub cubes_meet : (a b : Cube) → list_any (is_in_cube regs packet) (meet a b) ≡ (is_in_cube regs packet a && is_in_cube regs packet b)
  unfolding meet
  cubes_meet a b = meet_by a b (agree_all a b) refl

  -- all packets are in the cube that asks for nothing
  pub all_in : is_in_cube regs packet all_packets ≡ true
  all_in = simp and_zero_r

  -- A comparison's cube has the packets that have the prerequisite and the value.
  pub comparing_in : (f : Field) (b : Bits) → is_in_cube regs packet (comparing f b) ≡ (has_needs f regs packet && fits b (number_in f regs packet))
  unfolding comparing
  comparing_in f.TcpSrc b = simp (and_zero_r, and-true, and_assoc)
  comparing_in f.TcpDst b = simp (and_zero_r, and-true, and_assoc)
  comparing_in f.UdpSrc b = simp (and_zero_r, and-true, and_assoc)
  comparing_in f.UdpDst b = simp (and_zero_r, and-true, and_assoc)
  comparing_in f.Icmp4Type b = simp (and_zero_r, and-true, and_assoc)
  comparing_in f.Icmp4Code b = simp (and_zero_r, and-true, and_assoc)
  comparing_in _ b = simp (and_zero_r, and-true)

few_by : (a b : Cube) (r : Bool) → length (cond r (joined_all a b ∷ []) []) ≤ 1
few_by a b true = omega arith
few_by a b false = omega arith

pub cubes_few_meet : (a b : Cube) → length (meet a b) ≤ 1
unfolding meet
cubes_few_meet a b = few_by a b (agree_all a b)
