-- The numbers and masks that constants write beside a field.
use Rattle.std.specs.Prelude.{ℕ, Bool, true, false, if◌then◌else◌, ◌==◌, nat_le, Option, Some, None}
use Rattle.match_language.specs.declared.field.Field.{Field}
use Rattle.match_language.specs.declared.token.Token.{Token}
use Rattle.match_language.specs.declared.token.Token.TheVariants as t
use Rattle.match_language.specs.Tables.{field_bits, field_max, is_port_field}
use Rattle.match_language.specs.Constants.{prefix_mask, ◌>>=◌}

-- whether the token is a constant
abbrev pub is_constant_token : Token → Bool
is_constant_token (t.Bit b) = true
is_constant_token (t.Number n) = true
is_constant_token (t.Hex n) = true
is_constant_token (t.Dotted n) = true
is_constant_token (t.Ether n) = true
is_constant_token t.BadConstant = true
is_constant_token _ = false

-- the number of a decimal constant
abbrev pub decimal_of : Token → Option ℕ
decimal_of (t.Bit false) = Some 0
decimal_of (t.Bit true) = Some 1
decimal_of (t.Number n) = Some n
decimal_of _ = None

-- the number of a decimal or hexadecimal constant
abbrev pub number_of : Token → Option ℕ
number_of (t.Bit false) = Some 0
number_of (t.Bit true) = Some 1
number_of (t.Number n) = Some n
number_of (t.Hex n) = Some n
number_of _ = None

-- the number, if it is at most this
abbrev pub at_most : ℕ → ℕ → Option ℕ
at_most most n = if nat_le n most then Some n else None

-- The number that a constant writes beside a field: IPv4 addresses stand with fields of 32 bits, Ethernet addresses with fields
-- of 48, numbers with every field that has a number; none is wider than the field.
abbrev pub constant_of : Field → Token → Option ℕ
constant_of f (t.Dotted n) = if field_bits f == 32 then at_most (field_max f) n else None
constant_of f (t.Ether n) = if field_bits f == 48 then at_most (field_max f) n else None
constant_of f other = if is_port_field f then None else number_of other >>= at_most (field_max f)

-- the mask of a prefix of at most 32 bits
abbrev pub prefix_of : ℕ → Option ℕ
prefix_of len = if nat_le len 32 then Some (prefix_mask len) else None

-- the mask behind an IPv4 address: a length in decimal, or an IPv4 address
abbrev pub dotted_mask : Field → Token → Option ℕ
dotted_mask f (t.Dotted m) = at_most (field_max f) m
dotted_mask f other = decimal_of other >>= prefix_of

-- the mask behind an Ethernet address: an Ethernet address
abbrev pub ether_mask : Field → Token → Option ℕ
ether_mask f (t.Ether m) = at_most (field_max f) m
ether_mask f _ = None

-- the mask that the second constant writes behind the first; behind a number it is a number
abbrev pub mask_of : Field → Token → Token → Option ℕ
mask_of f (t.Dotted n) m = dotted_mask f m
mask_of f (t.Ether n) m = ether_mask f m
mask_of f _ m = number_of m >>= at_most (field_max f)
