-- The number that a decimal text writes.
use Rattle.std.specs.Prelude.{◌≡◌, ◌≢◌, ◌≤◌, ◌<◌, ◌^◌, ℕ, Bool, true, false, ◌&&◌, cond, nat_lt, List, Option, Some, None, IfSome, IfNone}
use Rattle.std.specs.Str.{bytes_eq}
use Rattle.std.specs.Str.Parse.{digits_value}
use Rattle.std.specs.Fmt.{decimal}
use Rattle.std.proofs.Common.{refl, ap, ◌∙◌, sym, arith}
use Rattle.std.proofs.lemmas.Bool.{lt-ltb, ltb-true}
use Rattle.std.proofs.lemmas.Fmt.{decimal_is_IsNumeral}
use Rattle.std.proofs.lemmas.Slice.Eq.{bytes_eq-Decides}
use Rattle.std.specs.Cmp.{first_so, second_so}
use Rattle.match_language.specs.Constants.{decimal_value}

-- the value of the digits of a number's text
pub value_of_decimal : (n : ℕ) → n < 2 ^ 64 → digits_value 10 (decimal n) ≡ n
value_of_decimal n fits = (decimal_is_IsNumeral n fits).1

-- a number's text writes it
pub decimal_reads : (n : ℕ) → n < 2 ^ 64 → decimal_value (decimal n) ≡ Some n
unfolding decimal_value
decimal_reads n fits =
    let same = value_of_decimal n fits in
    let small : nat_lt (digits_value 10 (decimal n)) (2 ^ 64) ≡ true = ap (λ (k : ℕ). nat_lt k (2 ^ 64)) same ∙ lt-ltb n (2 ^ 64) fits in
    let own : bytes_eq (decimal n) (decimal (digits_value 10 (decimal n))) ≡ true = (bytes_eq-Decides (decimal n) (decimal (digits_value 10 (decimal n)))).1 (ap decimal (sym same)) in
    let both : (nat_lt (digits_value 10 (decimal n)) (2 ^ 64) && bytes_eq (decimal n) (decimal (digits_value 10 (decimal n)))) ≡ true = ap (λ (b : Bool). b && bytes_eq (decimal n) (decimal (digits_value 10 (decimal n)))) small ∙ own in
    ap (λ (b : Bool). cond b (Some (digits_value 10 (decimal n))) None) both ∙ ap Some same

-- what a text writes is a number whose text it is
pub decimal_wrote : (word : List ℕ) (b : Bool) → (nat_lt (digits_value 10 word) (2 ^ 64) && bytes_eq word (decimal (digits_value 10 word))) ≡ b → ((n : ℕ) → n ≤ 18446744073709551615 → word ≢ decimal n) → b ≡ false
decimal_wrote word false e none = refl
decimal_wrote word true e none =
    let small = ltb-true (digits_value 10 word) (2 ^ 64) (first_so (nat_lt (digits_value 10 word) (2 ^ 64)) (bytes_eq word (decimal (digits_value 10 word))) e) in
    let same = (bytes_eq-Decides word (decimal (digits_value 10 word))).0 (second_so (nat_lt (digits_value 10 word) (2 ^ 64)) (bytes_eq word (decimal (digits_value 10 word))) e) in
    absurd (none (digits_value 10 word) (omega (arith, small)) same)

-- what finds the number of a text, or shows that it writes none, has its value
pub decimal_found : (word : List ℕ) (r : Option ℕ) → IfSome r (λ n. (n ≤ 18446744073709551615) × (word ≡ decimal n)) → IfNone r ((n : ℕ) → n ≤ 18446744073709551615 → word ≢ decimal n) → r ≡ decimal_value word
unfolding decimal_value
decimal_found word (Some n) found none = sym (decimal_reads n (omega (arith, found.0))) ∙ ap decimal_value (sym found.1)
decimal_found word None found none =
    let no = decimal_wrote word (nat_lt (digits_value 10 word) (2 ^ 64) && bytes_eq word (decimal (digits_value 10 word))) refl none in
    sym (ap (λ (b : Bool). cond b (Some (digits_value 10 word)) None) no)
