-- What a word writes that is a constant: a decimal or hexadecimal number, an IPv4 address, an Ethernet address.
use Rattle.std.specs.Prelude.{ℕ, ◌+◌, ◌-◌, ◌*◌, ◌^◌, ◌&&◌, if◌then◌else◌, ◌==◌, nat_lt, nat_le, List, [], ◌∷◌, length, take, drop, Option, Some, None}
use Rattle.std.specs.Str.{bytes_eq}
use Rattle.std.specs.Str.Parse.{digits_value}
use Rattle.std.specs.Char.{digit_value, is_ascii_digit, is_ascii_hexdigit}
use Rattle.std.specs.Fmt.{decimal}
use Rattle.std.specs.List.{prefix_len, list_all}

infixl 10 ◌>>=◌
abbrev pub ◌>>=◌ : {A B : Type 0} → Option A → (A → Option B) → Option B
(Some x) >>= f = f x
None >>= f = None

-- the number below 2^64 that the word writes in decimal digits, with no leading zero
unfoldable pub decimal_value : List ℕ → Option ℕ
decimal_value word = if nat_lt (digits_value 10 word) (2 ^ 64) && bytes_eq word (decimal (digits_value 10 word)) then Some (digits_value 10 word) else None

-- the number, if it is below 2^64
abbrev pub below_2_64 : ℕ → Option ℕ
below_2_64 n = if nat_lt n (2 ^ 64) then Some n else None

-- The number below 2^64 that the digits behind `0x` write, in either case: one of them or more, and leading zeros may stand
-- there.
unfoldable pub hex_value : List ℕ → Option ℕ
hex_value (a ∷ b ∷ c ∷ digits) = if a == 48 && b == 120 && list_all is_ascii_hexdigit (c ∷ digits) then below_2_64 (digits_value 16 (c ∷ digits)) else None
hex_value _ = None

-- ---- Ethernet addresses: six pairs of hexadecimal digits, in either case, with a colon between

abbrev pub hex_digit : ℕ → Option ℕ
hex_digit b = if is_ascii_hexdigit b then Some (digit_value b) else None

abbrev pub pair_value : ℕ → ℕ → Option ℕ
pair_value a b = hex_digit a >>= λ x. hex_digit b >>= λ y. Some (16 * x + y)

-- a colon and two digits
abbrev pub colon_pair : ℕ → ℕ → ℕ → Option ℕ
colon_pair c a b = if c == 58 then pair_value a b else None

-- the number of the address, its first byte the highest
unfoldable pub ether_value : List ℕ → Option ℕ
ether_value (a ∷ b ∷ c1 ∷ a1 ∷ b1 ∷ c2 ∷ a2 ∷ b2 ∷ c3 ∷ a3 ∷ b3 ∷ c4 ∷ a4 ∷ b4 ∷ c5 ∷ a5 ∷ b5 ∷ []) = do
  v ← pair_value a b
  v1 ← colon_pair c1 a1 b1
  v2 ← colon_pair c2 a2 b2
  v3 ← colon_pair c3 a3 b3
  v4 ← colon_pair c4 a4 b4
  v5 ← colon_pair c5 a5 b5
  Some (v * 0x100_0000_0000 + v1 * 0x1_0000_0000 + v2 * 0x100_0000 + v3 * 0x1_0000 + v4 * 0x100 + v5)
ether_value _ = None

-- ---- IPv4 addresses: four decimal numbers of at most 255, with a point between

abbrev pub digit_count : List ℕ → ℕ
digit_count = prefix_len is_ascii_digit

abbrev pub octet_of : Option ℕ → List ℕ → Option (ℕ × List ℕ)
octet_of (Some n) rest = if nat_le n 255 then Some (n, rest) else None
octet_of None rest = None

-- the number at the front, and the text behind it
unfoldable pub octet : List ℕ → Option (ℕ × List ℕ)
octet text = octet_of (decimal_value (take (digit_count text) text)) (drop (digit_count text) text)

unfoldable pub dot_octet : List ℕ → Option (ℕ × List ℕ)
dot_octet [] = None
dot_octet (b ∷ text) = if b == 46 then octet text else None

-- the number of the address, its first byte the highest
unfoldable pub dotted_value : List ℕ → Option ℕ
dotted_value text = do
  a ← octet text
  b ← dot_octet a.1
  c ← dot_octet b.1
  d ← dot_octet c.1
  if length d.1 == 0 then Some (a.0 * 0x100_0000 + b.0 * 0x1_0000 + c.0 * 0x100 + d.0) else None

-- the number with this many high bits of 32 set, the mask of a prefix
abbrev pub prefix_mask : ℕ → ℕ
prefix_mask len = 2 ^ 32 - 2 ^ (32 - len)
