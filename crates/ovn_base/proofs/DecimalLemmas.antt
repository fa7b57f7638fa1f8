-- The last digit of a number's text.
use Rattle.std.specs.Prelude.{◌≡◌, ◌≢◌, ◌<◌, ◌≤◌, ◌+◌, ◌*◌, ◌/◌, ◌%◌, ◌^◌, ◌++◌, ◌⊎◌, ◌&&◌, cond, nat_le, ℕ, Bool, true, false, List, [], ◌∷◌, length, Option, Some, None, IfSome, IfNone}
use Rattle.std.specs.Fmt.{decimal}
use Rattle.std.proofs.Common.{refl, ap, ◌∙◌, sym, inl, inr, arith, append_assoc}
use Rattle.std.proofs.lemmas.Bool.{cases_lt}
use Rattle.std.proofs.lemmas.Fmt.{decimal_digit, decimal_step, decimal_nonempty, length-decimal-le, decimal_injective, decimal_is_IsNumeral}
use Rattle.std.proofs.lemmas.Slice.Eq.{bytes_eq-Decides}
use Rattle.std.proofs.lemmas.Bool.Decides.{nat_tests}
use Rattle.std.specs.Cmp.{second_so}
use Rattle.std.specs.Str.{bytes_eq}
use Rattle.std.specs.Str.Parse.{digits_value}
use Rattle.ovn_base.specs.numbers.NumberReading.{spelled_number}
use Rattle.std.proofs.lemmas.List.{same_from_push}

-- the text writes no number of at most this
abbrev pub NoNumber : List ℕ → ℕ → Type 0
NoNumber text most = (n : ℕ) → n ≤ most → text ≢ decimal n

-- a text with a last byte that is a number's is its one digit, or its tens and its ones
pub last_of_decimal : (n : ℕ) (front : List ℕ) (last : ℕ) → n < 2 ^ 64 → front ++ last ∷ [] ≡ decimal n → ((front ≡ []) × (last ≡ 48 + n) × (n < 10)) ⊎ ((10 ≤ n) × (front ≡ decimal (n / 10)) × (last ≡ 48 + n % 10))
last_of_decimal n front last fits e =
    let small : n < 10 → ((front ≡ []) × (last ≡ 48 + n) × (n < 10)) ⊎ ((10 ≤ n) × (front ≡ decimal (n / 10)) × (last ≡ 48 + n % 10)) =
    λ h. let parts = same_from_push front [] last (48 + n) (e ∙ decimal_digit n h) in inl (parts.0, parts.1, h) in
    let large : 10 ≤ n → ((front ≡ []) × (last ≡ 48 + n) × (n < 10)) ⊎ ((10 ≤ n) × (front ≡ decimal (n / 10)) × (last ≡ 48 + n % 10)) =
    λ h.
    let parts = same_from_push front (decimal (n / 10)) last (48 + n % 10) (e ∙ decimal_step n h fits) in
    inr (h, parts.0, parts.1) in
    elim (cases_lt n 10) [ inl h ↦ small h | inr h ↦ large h ]

-- tens that are not 0, and a digit after them
pub decimal_of_tens : (tens ones : ℕ) → 0 < tens → ones < 10 → 10 * tens + ones < 2 ^ 64 → decimal (10 * tens + ones) ≡ decimal tens ++ (48 + ones) ∷ []
decimal_of_tens tens ones some digit fits =
    let front : (10 * tens + ones) / 10 ≡ tens = omega arith in
    let last : (10 * tens + ones) % 10 ≡ ones = omega arith in
    decimal_step (10 * tens + ones) (omega arith) fits ∙ (λ i. decimal (front i) ++ (48 + last i) ∷ [])

module _ (text : List ℕ) (most : ℕ) (fits : most < 2 ^ 64) where
  pub none_where_long : 20 < length text → NoNumber text most
  none_where_long long n small e = let short : length (decimal n) ≤ 20 = length-decimal-le 20 n (omega arith) (omega arith) (omega arith) in absurd (omega (arith, ap length e))

  pub none_where_empty : length text ≡ 0 → NoNumber text most
  none_where_empty empty n small e = let some : 0 < length (decimal n) = decimal_nonempty n (omega arith) in absurd (omega (arith, ap length e))

module _ (text front : List ℕ) (last most : ℕ) (fits : most < 2 ^ 64) (whole : text ≡ front ++ last ∷ []) where
  pub none_where_no_digit : ((d : ℕ) → d < 10 → last ≢ 48 + d) → NoNumber text most
  none_where_no_digit apart n small e = elim (last_of_decimal n front last (omega arith) (sym whole ∙ e)) [
    | inl one ↦ apart n one.2 one.1
    | inr more ↦ apart (n % 10) (omega arith) more.2
  ]

  pub none_where_no_tens : 0 < length front → NoNumber front (most / 10) → NoNumber text most
  none_where_no_tens some none n small e = elim (last_of_decimal n front last (omega arith) (sym whole ∙ e)) [
    | inl one ↦ absurd (omega (arith, ap length one.0))
    | inr more ↦ none (n / 10) (omega arith) more.1
  ]

  pub none_where_other : (d : ℕ) → last ≡ 48 + d → length front ≡ 0 → most < d → NoNumber text most
  none_where_other d is_digit empty over n small e = elim (last_of_decimal n front last (omega arith) (sym whole ∙ e)) [
    | inl one ↦ let same : 48 + d ≡ 48 + n = sym is_digit ∙ one.1 in absurd (omega arith)
    | inr more ↦
        let some : 0 < length (decimal (n / 10)) = decimal_nonempty (n / 10) (omega arith) in
        absurd (omega (arith, ap length more.1))
  ]

  pub none_where_over : (d tens : ℕ) → last ≡ 48 + d → 0 < length front → front ≡ decimal tens → tens ≤ most → (tens ≡ 0) ⊎ (most < 10 * tens + d) → NoNumber text most
  none_where_over d tens is_digit some is_tens bound over n small e = elim (last_of_decimal n front last (omega arith) (sym whole ∙ e)) [
    | inl one ↦ absurd (omega (arith, ap length one.0))
    | inr more ↦
        let same : tens ≡ n / 10 = decimal_injective tens (n / 10) (omega arith) (omega arith) (sym is_tens ∙ more.1) in
        let ones : 48 + d ≡ 48 + n % 10 = sym is_digit ∙ more.2 in
        elim over [ inl zero_tens ↦ absurd (omega arith) | inr large ↦ absurd (omega arith) ]
  ]

-- no front, and a digit
pub decimal_of_digit : (text front : List ℕ) (last d : ℕ) → text ≡ front ++ last ∷ [] → length front ≡ 0 → d < 10 → last ≡ 48 + d → text ≡ decimal d
decimal_of_digit text [] last d whole empty small digit = whole ∙ (λ i. digit i ∷ []) ∙ sym (decimal_digit d small)
decimal_of_digit text (x ∷ front) last d whole empty small digit = absurd (omega arith)

-- the text of tens, and a digit
pub decimal_with_digit : (text front : List ℕ) (last d tens : ℕ) → text ≡ front ++ last ∷ [] → front ≡ decimal tens → last ≡ 48 + d → 0 < tens → d < 10 → 10 * tens + d < 2 ^ 64 → text ≡ decimal (10 * tens + d)
decimal_with_digit text front last d tens whole is_tens digit some small fits =
    whole ∙ (λ i. is_tens i ++ digit i ∷ []) ∙ sym (decimal_of_tens tens d some small fits)

-- a digit after what ends in the tens
pub pushed_digit : (old front new : List ℕ) (n : ℕ) → 10 ≤ n → n < 2 ^ 64 → front ≡ old ++ decimal (n / 10) → new ≡ front ++ (48 + n % 10) ∷ [] → new ≡ old ++ decimal n
pushed_digit old front new n large fits is_front is_new =
    is_new ∙ ap (λ (xs : List ℕ). xs ++ (48 + n % 10) ∷ []) is_front ∙ append_assoc old (decimal (n / 10)) ((48 + n % 10) ∷ []) ∙ ap (λ (xs : List ℕ). old ++ xs) (sym (decimal_step n large fits))

at_number : (most n : ℕ) → n ≤ most → (text : List ℕ) → text ≡ decimal n → (nat_le n most && bytes_eq text (decimal n)) ≡ true
at_number most n small text e = let same : bytes_eq text (decimal n) ≡ true = (bytes_eq-Decides text (decimal n)).1 e in grind (arith, nat_tests)

-- the number that was found, or that there is none, is what the text spells
pub spelled_is : (text : List ℕ) (most : ℕ) → most < 2 ^ 64 → (found : Option ℕ) → IfSome found (λ n. (n ≤ most) × (text ≡ decimal n)) → IfNone found (NoNumber text most) → found ≡ spelled_number most text
unfolding spelled_number
spelled_is text most fits (Some n) is none =
    let value : digits_value 10 text ≡ n = ap (digits_value 10) is.1 ∙ (decimal_is_IsNumeral n (omega (arith, is.0))).1 in
    rw (value, at_number most n is.0 text is.1) refl
spelled_is text most fits None is none = by (nat_le (digits_value 10 text) most && bytes_eq text (decimal (digits_value 10 text))) refl
  where
    by : (b : Bool) → (nat_le (digits_value 10 text) most && bytes_eq text (decimal (digits_value 10 text))) ≡ b → None ≡ cond b (Some (digits_value 10 text)) None
    by false e = refl
    by true e =
        let small : digits_value 10 text ≤ most = grind (arith, nat_tests) in
        absurd (none (digits_value 10 text) small ((bytes_eq-Decides text (decimal (digits_value 10 text))).0 (second_so (nat_le (digits_value 10 text) most) (bytes_eq text (decimal (digits_value 10 text))) e)))
