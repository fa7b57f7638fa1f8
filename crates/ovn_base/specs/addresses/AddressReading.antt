-- The address that a text spells, as a function of the text.
use Rattle.std.specs.Prelude.{ℕ, ◌+◌, ◌*◌, ◌==◌, List, [], ◌∷◌, take, drop, position, Option, Some, None, option_map}
use Rattle.std.specs.Int.{from_be_bytes}
use mir.Syntax.{w32}
use Rattle.ovn_base.specs.addresses.EtherAddress.{mac_of_bytes}
use Rattle.ovn_base.specs.numbers.NumberReading.{spelled_number, spelled_digit}
use Rattle.ovn_base.specs.declared.address.Mac.{Mac}
use Rattle.ovn_base.specs.declared.address.Ip4.{Ip4}
use Rattle.ovn_base.specs.declared.address.Cidr.{Cidr}

infixl 10 ◌>>=◌
abbrev pub ◌>>=◌ : {A B : Type 0} → Option A → (A → Option B) → Option B
(Some x) >>= f = f x
None >>= f = None

-- the parts before and after the first place of the separator
abbrev pub parted : ℕ → List ℕ → Option (List ℕ × List ℕ)
parted separator text = option_map (λ i. (take i text, drop (i + 1) text)) (position (λ b. b == separator) text)

-- the byte of two hexadecimal digits, the higher first
unfoldable pub spelled_pair : List ℕ → Option ℕ
spelled_pair (high ∷ low ∷ []) = spelled_digit high >>= λ h. spelled_digit low >>= λ l. Some (16 * h + l)
spelled_pair _ = None

-- the byte of the pair in front, and what stands behind the ':' after it
unfoldable pub first_spelled_pair : List ℕ → Option (ℕ × List ℕ)
first_spelled_pair text = parted 58 text >>= λ parts. spelled_pair parts.0 >>= λ byte. Some (byte, parts.1)

-- the Ethernet address of six pairs joined by ':'
unfoldable pub spelled_mac : List ℕ → Option Mac
spelled_mac text = do
  a ← first_spelled_pair text
  b ← first_spelled_pair a.1
  c ← first_spelled_pair b.1
  d ← first_spelled_pair c.1
  e ← first_spelled_pair d.1
  f ← spelled_pair e.1
  Some (mac_of_bytes (a.0 ∷ b.0 ∷ c.0 ∷ d.0 ∷ e.0 ∷ f ∷ []))

-- the octet in front, and what stands behind the '.' after it
unfoldable pub first_spelled_octet : List ℕ → Option (ℕ × List ℕ)
first_spelled_octet text = parted 46 text >>= λ parts. spelled_number 255 parts.0 >>= λ octet. Some (octet, parts.1)

-- the IPv4 address of four octets joined by '.'
unfoldable pub spelled_ip4 : List ℕ → Option Ip4
spelled_ip4 text = do
  a ← first_spelled_octet text
  b ← first_spelled_octet a.1
  c ← first_spelled_octet b.1
  d ← spelled_number 255 c.1
  Some (record { 0 = from_be_bytes w32 (a.0 ∷ b.0 ∷ c.0 ∷ d ∷ []) })

-- the prefix of an address and a length of at most 32
abbrev pub spelled_length : Ip4 → List ℕ → Option Cidr
spelled_length ip text = option_map (λ n. record { addr = ip; len = n }) (spelled_number 32 text)

-- of the parts around '/', or of an address alone, which has the length 32
abbrev pub spelled_parts : List ℕ → Option (List ℕ × List ℕ) → Option Cidr
spelled_parts text None = option_map (λ ip. record { addr = ip; len = 32 }) (spelled_ip4 text)
spelled_parts text (Some parts) = spelled_ip4 parts.0 >>= λ ip. spelled_length ip parts.1

-- the address with a length
unfoldable pub spelled_cidr : List ℕ → Option Cidr
spelled_cidr text = spelled_parts text (parted 47 text)
