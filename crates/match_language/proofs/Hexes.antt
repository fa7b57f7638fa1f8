-- The number of hexadecimal digits, digit by digit.
use Rattle.std.specs.Prelude.{◌≡◌, ◌<◌, ◌+◌, ◌*◌, ◌^◌, ℕ, Bool, cond, List, length, take, Some, None}
use Rattle.std.specs.Char.{digit_value}
use Rattle.std.specs.Str.Parse.{digits_value}
use Rattle.std.proofs.Common.{ap, arith, get_or}
use Rattle.std.proofs.lemmas.Bool.{le-ltb}
use Rattle.std.proofs.lemmas.Int.Digits.{digits_value_more}
use Rattle.std.proofs.lemmas.Str.Parse.{digits_value-take-le}
use Rattle.match_language.specs.Constants.{below_2_64}

-- one more digit
pub hex_more : (digits : List ℕ) (i n d : ℕ) → i < length digits → n ≡ digits_value 16 (take i digits) → d ≡ digit_value (get_or digits i 0) → 16 * n + d ≡ digits_value 16 (take (i + 1) digits)
hex_more digits i n d less so_far is = let e = digits_value_more 16 digits i less in omega (arith, e, so_far, is)

-- one more digit passes 2^64
pub hex_over : (digits : List ℕ) (i n : ℕ) → i < length digits → n ≡ digits_value 16 (take i digits) → 1152921504606846975 < n → below_2_64 (digits_value 16 digits) ≡ None
hex_over digits i n less so_far large =
    let e = digits_value_more 16 digits i less in
    let above = digits_value-take-le 16 digits (i + 1) (omega (arith, less)) in
    ap (λ (b : Bool). cond b (Some (digits_value 16 digits)) None) (le-ltb (digits_value 16 digits) (2 ^ 64) (omega (arith, e, above, so_far, large)))
