-- Ethernet addresses, their numbers and their bytes.
use Rattle.std.specs.Prelude.{◌≡◌, ◌<◌, ◌-◌, ◌^◌, ◌%◌, ℕ, ◌∷◌, drop, bit_and}
use Rattle.std.specs.Int.{from_be_bytes, to_be_bytes, byte_at}
use Rattle.std.specs.List.{AllByRecursion}
use mir.Syntax.{w64}
use Rattle.std.proofs.Common.{ap, ◌∙◌, sym, arith}
use Rattle.std.proofs.Math.Nat.{mod-eq_of_lt, div-eq_of_lt}
use Rattle.std.proofs.lemmas.Nat.{from_be_bytes-to_be_bytes_8, and_mask}
use Rattle.ovn_base.specs.addresses.EtherAddress.{EtherAddress, mac_of, mac_of_bytes, mac_bytes, same_ether}

-- a number of w bits has no bit outside the w lowest
pub and_all : (n w : ℕ) → n < 2 ^ w → bit_and n (2 ^ w - 1) ≡ n
and_all n w small = and_mask n w ∙ mod-eq_of_lt small

-- the same at 48 bits
pub and_all_48 : (n : ℕ) → n < 2 ^ 48 → bit_and n (2 ^ 48 - 1) ≡ n
and_all_48 n small = and_all n 48 small

-- an address is that of its number
pub mac_of-number : (m : EtherAddress) → mac_of m.number ≡ m
mac_of-number m = same_ether (mac_of m.number) m (mod-eq_of_lt m.below)

-- a number of 48 bits is that of its address
pub number-mac_of : (n : ℕ) → n < 2 ^ 48 → (mac_of n).number ≡ n
number-mac_of n small = mod-eq_of_lt small

-- the number of the bytes of an address is its own
pub number_of_bytes : (m : EtherAddress) → from_be_bytes w64 (0 ∷ 0 ∷ mac_bytes m) ≡ m.number
number_of_bytes m =
    let n = m.number in
    let small = m.below in
    let first : byte_at 7 n ≡ 0 = ap (λ q. q % 256) (div-eq_of_lt (omega arith)) in
    let second : byte_at 6 n ≡ 0 = ap (λ q. q % 256) (div-eq_of_lt (omega arith)) in
    sym (λ i. from_be_bytes w64 (first i ∷ second i ∷ drop 2 (to_be_bytes w64 n))) ∙ from_be_bytes-to_be_bytes_8 n (omega arith)

-- the six low bytes of a number are those of its address
pub mac_of_low_bytes : (n : ℕ) → mac_of_bytes (drop 2 (to_be_bytes w64 n)) ≡ mac_of n
mac_of_low_bytes n = same_ether (mac_of_bytes (drop 2 (to_be_bytes w64 n))) (mac_of n) (omega arith)

-- the address of the bytes of an address is that
pub mac_of_bytes-own : (m : EtherAddress) → mac_of_bytes (mac_bytes m) ≡ m
mac_of_bytes-own m = ap mac_of (number_of_bytes m) ∙ mac_of-number m

-- addresses with the same bytes are one
pub same_bytes_ether : (a b : EtherAddress) → mac_bytes a ≡ mac_bytes b → a ≡ b
same_bytes_ether a b e = sym (mac_of_bytes-own a) ∙ ap mac_of_bytes e ∙ mac_of_bytes-own b

-- each byte of an address is below 256
pub mac_bytes-below : (m : EtherAddress) → AllByRecursion (λ b. b < 256) (mac_bytes m)
mac_bytes-below m = (omega arith, (omega arith, (omega arith, (omega arith, (omega arith, (omega arith, tt))))))
