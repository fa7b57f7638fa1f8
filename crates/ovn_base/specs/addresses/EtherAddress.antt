-- Ethernet addresses: numbers of 48 bits, and the six bytes of each.
use Rattle.std.specs.Prelude.{◌≡◌, ◌<◌, ◌^◌, ◌/◌, ◌%◌, ℕ, List, ◌∷◌, drop, Bool}
use Rattle.std.specs.Int.{from_be_bytes, to_be_bytes}
use Rattle.std.specs.Bool.{Decides}
use Rattle.std.specs.Coded.{Coded, code_by, coded_ℕ}
use Rattle.std.proofs.Common.{ap, subst}
use Rattle.std.proofs.Math.Bridge.{le_prop}
use Rattle.std.proofs.Math.Dec.{eqb as nat_eq, lit<}
use Rattle.std.proofs.Math.Nat.{mod-eq_of_lt}
use Rattle.std.proofs.lemmas.Bool.Decides.{Decides-eqb}
use Rattle.std.proofs.lemmas.Nat.{mod_below}
use mir.Syntax.{w64}

-- an Ethernet address, as its number of 48 bits
pub record EtherAddress : Type 0 where
  pub number : ℕ
  pub below : number < 2 ^ 48

-- addresses with one number are one
pub same_ether : (a b : EtherAddress) → a.number ≡ b.number → a ≡ b
same_ether a b e =
    subst (λ (n : ℕ). (h : n < 2 ^ 48) → a ≡ record { number = n; below = h }) e (λ h i. record { number = a.number; below = le_prop a.below h i }) b.below

-- the address of a number, of which the 48 lowest bits count
abbrev pub mac_of : ℕ → EtherAddress
mac_of n = record { number = n % 2 ^ 48; below = mod_below n (2 ^ 48) (lit< tt) }

-- an address is stored as its number
abbrev pub ether_code : Coded EtherAddress
ether_code = code_by ℕ coded_ℕ (λ m. m.number) mac_of (λ m. same_ether (mac_of m.number) m (mod-eq_of_lt m.below))

-- the address of six bytes, the first the highest
abbrev pub mac_of_bytes : List ℕ → EtherAddress
mac_of_bytes bytes = mac_of (from_be_bytes w64 (0 ∷ 0 ∷ bytes))

-- the six bytes of an address, the highest first
abbrev pub mac_bytes : EtherAddress → List ℕ
mac_bytes m = drop 2 (to_be_bytes w64 m.number)

-- the number of an address
abbrev pub mac_number : EtherAddress → ℕ
mac_number m = m.number

-- the lowest bit of the first byte
abbrev pub is_multicast_mac : EtherAddress → Bool
is_multicast_mac m = nat_eq (m.number / 2 ^ 40 % 2) 1

-- the test of two numbers tells whether the addresses are one
pub same_ether_decides : (a b : EtherAddress) → Decides (nat_eq a.number b.number) (a ≡ b)
same_ether_decides a b = (λ h. same_ether a b ((Decides-eqb a.number b.number).0 h), λ e. (Decides-eqb a.number b.number).1 (ap mac_number e))
