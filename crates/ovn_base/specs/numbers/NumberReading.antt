-- Numbers in decimal and hexadecimal digits, as they are read.
use Rattle.std.specs.Prelude.{ℕ, ◌&&◌, if◌then◌else◌, nat_le, List, Option, Some, None}
use Rattle.std.specs.Char.{digit_value, is_ascii_hexdigit}
use Rattle.std.specs.Str.{bytes_eq}
use Rattle.std.specs.Str.Parse.{digits_value}
use Rattle.std.specs.Fmt.{decimal}

-- the number of at most this that the text writes in decimal, with no sign and no leading zero
unfoldable pub spelled_number : ℕ → List ℕ → Option ℕ
spelled_number most text = if nat_le (digits_value 10 text) most && bytes_eq text (decimal (digits_value 10 text)) then Some (digits_value 10 text) else None

-- the value of a hexadecimal digit, in either case
abbrev pub spelled_digit : ℕ → Option ℕ
spelled_digit b = if is_ascii_hexdigit b then Some (digit_value b) else None
