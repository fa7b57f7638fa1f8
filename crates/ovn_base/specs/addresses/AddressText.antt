-- Which texts spell which addresses.
use Rattle.std.specs.Prelude.{◌≡◌, ◌<◌, ◌≤◌, ◌+◌, ◌*◌, ◌++◌, ◌/◌, ◌%◌, map, ℕ, List, [], ◌∷◌, length}
use Rattle.std.specs.Char.{digit_value, digit_char}
use Rattle.std.specs.Fmt.{decimal}
use Rattle.std.specs.Int.{from_be_bytes, to_be_bytes}
use Rattle.std.specs.List.{AllZip, join_with_byte}
use mir.Syntax.{w32}
use Rattle.ovn_base.specs.addresses.EtherAddress.{mac_bytes}
use Rattle.ovn_base.specs.declared.address.Mac.{Mac}
use Rattle.ovn_base.specs.declared.address.Ip4.{Ip4}
use Rattle.ovn_base.specs.declared.address.Cidr.{Cidr}

-- two hexadecimal digits in either case, the higher first
pub record SpellsPair (text : List ℕ) (byte : ℕ) : Type 0 where
  pub high : ℕ
  pub low : ℕ
  pub digits : text ≡ high ∷ low ∷ []
  pub high_digit : digit_value high < 16
  pub low_digit : digit_value low < 16
  pub value : byte ≡ 16 * digit_value high + digit_value low

-- a decimal number of at most 255, with no leading zero
pub record SpellsOctet (text : List ℕ) (n : ℕ) : Type 0 where
  pub small : n ≤ 255
  pub digits : text ≡ decimal n

-- texts of the values in their order, joined by the separator
pub record SpellsJoined (Spells : List ℕ → ℕ → Type 0) (separator : ℕ) (text values : List ℕ) : Type 0 where
  pub pieces : List (List ℕ)
  pub joined : text ≡ join_with_byte separator pieces
  pub each : AllZip Spells pieces values

-- the text begins with one that spells the value, and after it come the separator and the rest
pub record SpellsFirst (Spells : List ℕ → ℕ → Type 0) (separator : ℕ) (text : List ℕ) (value : ℕ) (rest : List ℕ) : Type 0 where
  pub piece : List ℕ
  pub whole : text ≡ piece ++ separator ∷ rest
  pub spells : Spells piece value

-- six pairs joined by ':', as in 0a:00:00:00:00:fe
pub record SpellsMac (text : List ℕ) (m : Mac) : Type 0 where
  pub pairs : SpellsJoined SpellsPair 58 text (mac_bytes m)

-- four octets joined by '.', the first the highest, as in 10.0.0.1
pub record SpellsIp4 (text : List ℕ) (ip : Ip4) : Type 0 where
  pub octets : List ℕ
  pub four : length octets ≡ 4
  pub numbers : SpellsJoined SpellsOctet 46 text octets
  pub value : ip.0 ≡ from_be_bytes w32 octets

-- an address alone, of length 32, or an address, '/' and a length of at most 32, as in 10.0.0.0/8
pub data SpellsCidr (text : List ℕ) (c : Cidr) : Type 0 where
  alone : SpellsIp4 text c.addr → c.len ≡ 32 → SpellsCidr text c
  with_length : (ip : List ℕ) → SpellsIp4 ip c.addr → c.len ≤ 32 → text ≡ ip ++ 47 ∷ decimal c.len → SpellsCidr text c

-- a byte as two hexadecimal digits in lower case
abbrev pub pair_text : ℕ → List ℕ
pair_text b = digit_char (b / 16) ∷ digit_char (b % 16) ∷ []

-- an address as it is printed: pairs in lower case joined by ':'
abbrev pub mac_text : Mac → List ℕ
mac_text m = join_with_byte 58 (map pair_text (mac_bytes m))

-- an address as it is printed: decimal numbers joined by '.'
abbrev pub ip4_text : Ip4 → List ℕ
ip4_text ip = join_with_byte 46 (map decimal (to_be_bytes w32 ip.0))

-- an address and '/' and its length
abbrev pub cidr_text : Cidr → List ℕ
cidr_text c = ip4_text c.addr ++ 47 ∷ decimal c.len
