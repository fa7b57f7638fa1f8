-- Bytes that end neither a word nor a line.
use Rattle.std.proofs.Common.{◌≡◌, ◌≢◌, ◌+◌, ◌/◌, ◌%◌, ◌<◌, ◌≤◌, ◌++◌, ◌==◌, ◌&&◌, ℕ, zero, suc, Bool, true, false, List, [], ◌∷◌, length, nat_lt, decimal, slice_index, if◌then◌else◌, refl, sym, ap, ◌∙◌, subst, inl, inr, arith}
use Rattle.std.specs.Fmt.{digits, digits_onto, digit_glyph}
use Rattle.std.specs.List.{AllByRecursion}
use Rattle.std.specs.Str.{all_ascii_digits}
use Rattle.std.specs.Char.{is_ascii_digit}
use Rattle.std.proofs.lemmas.Bool.{cases_Bool, false≢true}
use Rattle.std.proofs.lemmas.List.Elements.{recursion_from_All}
use Rattle.hex.specs.Hex.{encode_with, lower_digits}
use Rattle.ovn_base.specs.names.NameText.{IsName, name_byte}
use Rattle.event_lines.specs.Picks.{is_number}

pub record IsInWord (b : ℕ) : Type 0 where
  pub no_feed : b ≢ 10
  pub no_blank : b ≢ 32

abbrev pub AreInWord : List ℕ → Type 0
AreInWord bytes = AllByRecursion IsInWord bytes

abbrev pub IsNoFeed : ℕ → Type 0
IsNoFeed b = b ≢ 10

abbrev pub HaveNoFeed : List ℕ → Type 0
HaveNoFeed bytes = AllByRecursion IsNoFeed bytes

-- of bytes that are written out a test says it
abbrev pub have_none : List ℕ → Bool
have_none [] = true
have_none (b ∷ bs) = if b == 10 then false else have_none bs

pub tested : (bs : List ℕ) → have_none bs ≡ true → HaveNoFeed bs
tested [] h = tt
tested (b ∷ bs) h = elim (cases_Bool (b == 10)) [
  | inl feed ↦ absurd (false≢true (sym (ap (λ (t : Bool). if t then false else have_none bs) feed) ∙ h))
  | inr other ↦
      (λ e. false≢true (sym other ∙ ap (λ n. n == 10) e), tested bs (sym (ap (λ (t : Bool). if t then false else have_none bs) other) ∙ h))
]

pub no_feed_joined : (xs ys : List ℕ) → HaveNoFeed xs → HaveNoFeed ys → HaveNoFeed (xs ++ ys)
no_feed_joined [] ys h k = k
no_feed_joined (x ∷ xs) ys h k = (h.0, no_feed_joined xs ys h.1 k)

pub in_word_joined : (xs ys : List ℕ) → AreInWord xs → AreInWord ys → AreInWord (xs ++ ys)
in_word_joined [] ys h k = k
in_word_joined (x ∷ xs) ys h k = (h.0, in_word_joined xs ys h.1 k)

pub no_feed_in : (xs : List ℕ) → AreInWord xs → HaveNoFeed xs
no_feed_in [] h = tt
no_feed_in (x ∷ xs) h = (h.0.no_feed, no_feed_in xs h.1)

-- ---- the digits of a number

abbrev pub IsDigit : ℕ → Type 0
IsDigit b = (48 ≤ b) × (b ≤ 57)

glyph_digit : (n : ℕ) → n < 10 → IsDigit (digit_glyph false n)
glyph_digit n small = elim (cases_Bool (nat_lt n 10)) [
  | inl is ↦ subst (λ (t : Bool). IsDigit (if t then 48 + n else 87 + n)) (sym is) (omega arith, omega arith)
  | inr other ↦ absurd (false≢true (sym other ∙ below))
]
  where
    below : nat_lt n 10 ≡ true
    below = grind (arith, small)

digits_put : (k n : ℕ) (acc : List ℕ) → AllByRecursion IsDigit acc → AllByRecursion IsDigit (digits_onto k 10 false n acc)
digits_put zero n acc h = h
digits_put (suc k) n acc h =
    let glyph : IsDigit (digit_glyph false (n % 10)) = glyph_digit (n % 10) (omega arith) in
    by (n / 10 == 0) (glyph, h) (digits_put k (n / 10) (digit_glyph false (n % 10) ∷ acc) (glyph, h))
  where
    by : (t : Bool) → AllByRecursion IsDigit (digit_glyph false (n % 10) ∷ acc) → AllByRecursion IsDigit (digits_onto k 10 false (n / 10) (digit_glyph false (n % 10) ∷ acc))
        → AllByRecursion IsDigit (if t then digit_glyph false (n % 10) ∷ acc else digits_onto k 10 false (n / 10) (digit_glyph false (n % 10) ∷ acc))
    by true one rest = one
    by false one rest = rest

digits_grow : (k n : ℕ) (acc : List ℕ) → length acc ≤ length (digits_onto k 10 false n acc)
digits_grow zero n acc = omega arith
digits_grow (suc k) n acc = by (n / 10 == 0) (digits_grow k (n / 10) (digit_glyph false (n % 10) ∷ acc))
  where
    by : (t : Bool) → suc (length acc) ≤ length (digits_onto k 10 false (n / 10) (digit_glyph false (n % 10) ∷ acc))
        → length acc ≤ length (if t then digit_glyph false (n % 10) ∷ acc else digits_onto k 10 false (n / 10) (digit_glyph false (n % 10) ∷ acc))
    by true rest = omega arith
    by false rest = omega (arith, rest)

digits_some : (k n : ℕ) → 0 < length (digits_onto (suc k) 10 false n [])
digits_some k n = by (n / 10 == 0)
  where
    by : (t : Bool) → 0 < length (if t then digit_glyph false (n % 10) ∷ [] else digits_onto k 10 false (n / 10) (digit_glyph false (n % 10) ∷ []))
    by true = omega arith
    by false = let rest : 1 ≤ length (digits_onto k 10 false (n / 10) (digit_glyph false (n % 10) ∷ [])) = digits_grow k (n / 10) (digit_glyph false (n % 10) ∷ []) in omega (arith, rest)

pub decimal_digits : (n : ℕ) → AllByRecursion IsDigit (decimal n)
unfolding digits
decimal_digits n = digits_put 64 n [] tt

decimal_some : (n : ℕ) → 0 < length (decimal n)
unfolding digits
decimal_some n = digits_some 63 n

digits_in_word : (xs : List ℕ) → AllByRecursion IsDigit xs → AreInWord xs
digits_in_word [] h = tt
digits_in_word (x ∷ xs) h = (record { no_feed = λ e. omega (arith, h.0.0); no_blank = λ e. omega (arith, h.0.0) }, digits_in_word xs h.1)

digits_told : (xs : List ℕ) → AllByRecursion IsDigit xs → all_ascii_digits xs ≡ true
digits_told [] h = refl
digits_told (x ∷ xs) h =
    let one : is_ascii_digit x ≡ true = grind (arith, h.0.0, h.0.1) in
    ap (λ (t : Bool). t && all_ascii_digits xs) one ∙ digits_told xs h.1

pub decimal_in_word : (n : ℕ) → AreInWord (decimal n)
decimal_in_word n = digits_in_word (decimal n) (decimal_digits n)

pub decimal_is_number : (n : ℕ) → is_number (decimal n) ≡ true
decimal_is_number n =
    let some : nat_lt 0 (length (decimal n)) ≡ true = grind (arith, decimal_some n) in
    ap (λ (t : Bool). t && all_ascii_digits (decimal n)) some ∙ digits_told (decimal n) (decimal_digits n)

-- ---- names, and the digits of a frame

pub name_in_word : (name : List ℕ) → AllByRecursion (λ b. name_byte b ≡ true) name → AreInWord name
name_in_word [] h = tt
name_in_word (b ∷ bs) h = (
  record { no_feed = λ e. false≢true (ap name_byte (sym e) ∙ h.0); no_blank = λ e. false≢true (ap name_byte (sym e) ∙ h.0) },
  name_in_word bs h.1,
)

pub name_is_word : (name : List ℕ) → IsName name → AreInWord name
name_is_word name is = name_in_word name (recursion_from_All (λ b. name_byte b ≡ true) name is.bytes)

at_no_feed : (xs : List ℕ) → HaveNoFeed xs → (i : ℕ) → IsNoFeed (slice_index xs i)
at_no_feed [] h i = λ e. omega arith
at_no_feed (x ∷ xs) h zero = h.0
at_no_feed (x ∷ xs) h (suc i) = at_no_feed xs h.1 i

pub hex_no_feed : (bytes : List ℕ) → HaveNoFeed (encode_with lower_digits bytes)
unfolding encode_with
hex_no_feed [] = tt
hex_no_feed (b ∷ bytes) = (at_no_feed lower_digits (tested lower_digits refl) (b / 16), (at_no_feed lower_digits (tested lower_digits refl) (b % 16), hex_no_feed bytes))
