-- The six bytes that an Ethernet address is kept in.
use Rattle.std.specs.Prelude.{◌≡◌, ◌<◌, ◌^◌, ℕ, List, [], ◌∷◌, length, drop}
use Rattle.std.specs.Int.{from_be_bytes, to_be_bytes}
use Rattle.std.specs.List.{AllByRecursion}
use mir.Syntax.{w64}
use Rattle.std.proofs.Common.{refl, ap, ◌∙◌, arith, get_or, suc, zero}
use Rattle.std.proofs.Math.Nat.{mod-eq_of_lt}
use Rattle.std.proofs.lemmas.Nat.{be_bytes_8}
use Rattle.ovn_base.specs.addresses.EtherAddress.{EtherAddress, mac_of_bytes, mac_bytes}
use Rattle.ovn_base.specs.declared.address.Mac.TheInside.{Inside}

-- six of them
pub record AreSixBytes (m : Inside) : Type 0 where
  pub six : length m.0 ≡ 6
  pub bytes : AllByRecursion (λ b. b < 256) m.0

-- the bytes of an address
abbrev pub bytes_of : EtherAddress → Inside
bytes_of m = record { 0 = mac_bytes m }

byte_below : (bytes : List ℕ) → AllByRecursion (λ b. b < 256) bytes → (i : ℕ) → get_or bytes i 0 < 256
byte_below [] all i = omega arith
byte_below (b ∷ bytes) all zero = all.0
byte_below (b ∷ bytes) all (suc i) = byte_below bytes all.1 i

padded_below : (bytes : List ℕ) → AllByRecursion (λ b. b < 256) bytes → (i : ℕ) → get_or (0 ∷ 0 ∷ bytes) i 0 < 256
padded_below bytes all i = byte_below (0 ∷ 0 ∷ bytes) (omega arith, (omega arith, all)) i

-- the number of six bytes has 48 bits
pub six_below : (bytes : List ℕ) → length bytes ≡ 6 → AllByRecursion (λ b. b < 256) bytes → from_be_bytes w64 (0 ∷ 0 ∷ bytes) < 2 ^ 48
six_below bytes six all =
    let a = byte_below bytes all 0 in
    let b = byte_below bytes all 1 in
    let c = byte_below bytes all 2 in
    let d = byte_below bytes all 3 in
    let e = byte_below bytes all 4 in
    let f = byte_below bytes all 5 in omega arith

-- and is that of their address
pub number_of_six : (bytes : List ℕ) → length bytes ≡ 6 → AllByRecursion (λ b. b < 256) bytes → (mac_of_bytes bytes).number ≡ from_be_bytes w64 (0 ∷ 0 ∷ bytes)
number_of_six bytes six all = mod-eq_of_lt (six_below bytes six all)

-- the bytes of the address of six bytes are those
pub mac_bytes-six : (bytes : List ℕ) → length bytes ≡ 6 → AllByRecursion (λ b. b < 256) bytes → mac_bytes (mac_of_bytes bytes) ≡ bytes
mac_bytes-six bytes six all =
    ap (λ n. drop 2 (to_be_bytes w64 n)) (number_of_six bytes six all)
    ∙ ap (drop 2) (be_bytes_8 (0 ∷ 0 ∷ bytes) (from_be_bytes w64 (0 ∷ 0 ∷ bytes)) (omega (arith, six)) (padded_below bytes all) refl)

-- an address of six bytes gives them back
pub bytes_of-six : (m : Inside) → AreSixBytes m → bytes_of (mac_of_bytes m.0) ≡ m
bytes_of-six m h = λ i. record { 0 = mac_bytes-six m.0 h.six h.bytes i }
