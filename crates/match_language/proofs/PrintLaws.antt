-- The words that numbers are printed as, and the constants that they write.
use Rattle.std.specs.Prelude.{◌≡◌, ◌≤◌, ◌<◌, ◌+◌, ◌*◌, ◌/◌, ◌%◌, ◌^◌, ℕ, zero, suc, Bool, true, false, not, cond, ◌==◌, nat_lt, nat_le, ◌&&◌, ◌||◌, List, [], ◌∷◌, ◌++◌, length, take, drop, slice_index, codes, map, Option, Some, None}
use Rattle.std.specs.List.{list_all, join_with_byte}
use Rattle.std.specs.Str.{bytes_eq}
use Rattle.std.specs.Str.Parse.{digits_value}
use Rattle.std.specs.Char.{digit_char, is_ascii_digit, is_ascii_hexdigit}
use Rattle.std.specs.Fmt.{decimal}
use Rattle.std.specs.Int.{byte_at, to_be_bytes}
use mir.Syntax.{w64}
use Rattle.std.specs.Cmp.{first_so, second_so}
use Rattle.std.proofs.Common.{refl, ap, ◌∙◌, sym, subst, arith, length-append}
use Rattle.std.proofs.Math.Seq.{take-append_seam, drop-append_seam}
use Rattle.std.proofs.lemmas.List.{append-nil}
use Rattle.std.proofs.lemmas.List.Folds.{list_all-append}
use Rattle.std.proofs.lemmas.Bool.{cond-true, cond-false, le-leb, ltb-true}
use Rattle.std.proofs.lemmas.Fmt.{decimal_by_steps, decimal_nonempty, decimal_digit}
use Rattle.std.proofs.lemmas.Nat.{from_be_bytes-to_be_bytes_4, from_be_bytes-to_be_bytes_8}
use Rattle.std.proofs.lemmas.Slice.Eq.{bytes_eq-Decides}
use Rattle.std.proofs.lemmas.Str.{digit_value-digit_char}
use mathlib.Core.Bool.{true≢false, false≢true}
use Rattle.ovn_base.specs.addresses.EtherAddress.{mac_of}
use Rattle.ovn_base.specs.addresses.AddressText.{pair_text, mac_text, ip4_text}
use Rattle.ovn_base.proofs.MacLemmas.{number-mac_of}
use Rattle.match_language.specs.declared.token.Token.{Token}
use Rattle.match_language.specs.declared.token.Token.TheVariants as t
use Rattle.match_language.specs.Constants.{◌>>=◌, decimal_value, hex_digit, pair_value, ether_value, digit_count, octet_of, octet, dot_octet, dotted_value}
use Rattle.match_language.specs.Tokens.{is_run, word_token, is_constant, begins_with_digit, has_colon, constant_token, decimal_token, address_token, dotted_token, ether_token}
use Rattle.match_language.specs.Values.{number_of, decimal_of}
use Rattle.match_language.proofs.Decimals.{decimal_reads}
use Rattle.match_language.proofs.Begins.{test_below, StopsRun, prefix_exact}

-- ---- tests of lists

pub all_cons : (p : ℕ → Bool) (x : ℕ) (xs : List ℕ) → p x ≡ true → list_all p xs ≡ true → list_all p (x ∷ xs) ≡ true
all_cons p x xs h g = ap (λ (b : Bool). b && list_all p xs) h ∙ g

pub all_append : (p : ℕ → Bool) (xs ys : List ℕ) → list_all p xs ≡ true → list_all p ys ≡ true → list_all p (xs ++ ys) ≡ true
all_append p xs ys h g = list_all-append p xs ys ∙ ap (λ (b : Bool). b && list_all p ys) h ∙ g

first_passes : (p : ℕ → Bool) (xs ys : List ℕ) → 0 < length xs → list_all p xs ≡ true → p (slice_index (xs ++ ys) 0) ≡ true
first_passes p [] ys some all = absurd (omega (arith, some))
first_passes p (x ∷ xs) ys some all = first_so (p x) (list_all p xs) all

or_right : (a b : Bool) → b ≡ true → (a || b) ≡ true
or_right true b h = refl
or_right false b h = h

and_left : (a b : Bool) → a ≡ false → (a && b) ≡ false
and_left a b h = ap (λ (c : Bool). c && b) h

and_right : (a b : Bool) → b ≡ false → (a && b) ≡ false
and_right true b h = h
and_right false b h = refl

-- two words that a test tells apart are not the same
apart : (p : ℕ → Bool) (w v : List ℕ) → list_all p w ≡ false → list_all p v ≡ true → (r : Bool) → bytes_eq w v ≡ r → r ≡ false
apart p w v not_w all_v false e = refl
apart p w v not_w all_v true e = absurd (true≢false (sym all_v ∙ ap (list_all p) (sym ((bytes_eq-Decides w v).0 e)) ∙ not_w))

-- ---- decimal texts

-- each digit passes
abbrev pub Digits : (ℕ → Bool) → Type 0
Digits p = (k : ℕ) → k < 10 → p (48 + k) ≡ true

pub decimal_passes : (p : ℕ → Bool) → Digits p → (n : ℕ) → n < 2 ^ 64 → list_all p (decimal n) ≡ true
decimal_passes p each n fits =
    decimal_by_steps (λ m ds. list_all p ds ≡ true) (λ m small. ap (λ (b : Bool). b && true) (each m small))
    (λ m ds large front. all_append p ds ((48 + m % 10) ∷ []) front (ap (λ (b : Bool). b && true) (each (m % 10) (omega arith)))) n fits

pub digits_run : Digits is_run
digits_run = test_below (λ k. is_run (48 + k)) 10 refl

digits_digit : Digits is_ascii_digit
digits_digit = test_below (λ k. is_ascii_digit (48 + k)) 10 refl

abbrev pointless : List ℕ → Bool
pointless = list_all (λ b. not (b == 46))

abbrev colonless : List ℕ → Bool
colonless = list_all (λ b. not (b == 58))

digits_pointless : Digits (λ b. not (b == 46))
digits_pointless = test_below (λ k. not (48 + k == 46)) 10 refl

digits_colonless : Digits (λ b. not (b == 58))
digits_colonless = test_below (λ k. not (48 + k == 58)) 10 refl

none_by : (p : ℕ → Bool) (w : List ℕ) → Digits p → list_all p w ≡ false → (r : Bool) → (nat_lt (digits_value 10 w) (2 ^ 64) && bytes_eq w (decimal (digits_value 10 w))) ≡ r → r ≡ false
none_by p w each other false e = refl
none_by p w each other true e =
    let small = ltb-true (digits_value 10 w) (2 ^ 64) (first_so (nat_lt (digits_value 10 w) (2 ^ 64)) (bytes_eq w (decimal (digits_value 10 w))) e) in
    let same = (bytes_eq-Decides w (decimal (digits_value 10 w))).0 (second_so (nat_lt (digits_value 10 w) (2 ^ 64)) (bytes_eq w (decimal (digits_value 10 w))) e) in
    absurd (true≢false (sym (decimal_passes p each (digits_value 10 w) small) ∙ ap (list_all p) (sym same) ∙ other))

-- a word with another byte than digits writes no decimal number
decimal_none : (p : ℕ → Bool) (w : List ℕ) → Digits p → list_all p w ≡ false → decimal_value w ≡ None
unfolding decimal_value
decimal_none p w each other = cond-false _ _ _ (none_by p w each other (nat_lt (digits_value 10 w) (2 ^ 64) && bytes_eq w (decimal (digits_value 10 w))) refl)

zero_text : decimal 0 ≡ codes "0"
zero_text = decimal_digit 0 (omega arith)

one_text : decimal 1 ≡ codes "1"
one_text = decimal_digit 1 (omega arith)

-- the constant of a decimal number's text
pub record Decimal (n : ℕ) (k : Token) : Type 0 where
  pub number : number_of k ≡ Some n
  pub decimal : decimal_of k ≡ Some n

decimal_by : (w : List ℕ) (n : ℕ) (b c : Bool) → bytes_eq w (codes "0") ≡ b → bytes_eq w (codes "1") ≡ c → decimal_value w ≡ Some n → Decimal n (cond b (t.Bit false) (cond c (t.Bit true) (decimal_token (decimal_value w) w)))
decimal_by w n true c e g h =
    let same : Some 0 ≡ Some n = sym (decimal_reads 0 (omega arith)) ∙ ap decimal_value (zero_text ∙ sym ((bytes_eq-Decides w (codes "0")).0 e)) ∙ h in
    record { number = same; decimal = same }
decimal_by w n false true e g h =
    let same : Some 1 ≡ Some n = sym (decimal_reads 1 (omega arith)) ∙ ap decimal_value (one_text ∙ sym ((bytes_eq-Decides w (codes "1")).0 g)) ∙ h in
    record { number = same; decimal = same }
decimal_by w n false false e g h =
    record { number = ap (λ (o : Option ℕ). number_of (decimal_token o w)) h; decimal = ap (λ (o : Option ℕ). decimal_of (decimal_token o w)) h }

digit_constant : (xs ys : List ℕ) → 0 < length xs → list_all is_ascii_digit xs ≡ true → is_constant (xs ++ ys) ≡ true
digit_constant xs ys some all = ap (λ (b : Bool). b || has_colon (xs ++ ys)) (first_passes is_ascii_digit xs ys some all)

pub decimal_word : (n : ℕ) → n < 2 ^ 64 → Decimal n (word_token (decimal n))
unfolding word_token constant_token
decimal_word n fits =
    let w = decimal n in
    let constant : is_constant w ≡ true = ap is_constant (sym (append-nil w)) ∙ digit_constant w [] (decimal_nonempty n fits) (decimal_passes is_ascii_digit digits_digit n fits) in
    subst (Decimal n) (sym (cond-true (is_constant w) _ _ constant)) (decimal_by w n (bytes_eq w (codes "0")) (bytes_eq w (codes "1")) refl refl (decimal_reads n fits))

-- ---- IPv4 addresses

octet_reads : (n : ℕ) (rest : List ℕ) → n < 256 → StopsRun is_ascii_digit rest → octet (decimal n ++ rest) ≡ Some (n, rest)
unfolding octet
octet_reads n rest small stops =
    let len = prefix_exact is_ascii_digit (decimal n) rest (decimal_passes is_ascii_digit digits_digit n (omega (arith, small))) stops in
    let whole = decimal n ++ rest in
    ap (λ (k : ℕ). octet_of (decimal_value (take k whole)) (drop k whole)) len
    ∙ ap (λ (w : List ℕ). octet_of (decimal_value w) (drop (length (decimal n)) whole)) (take-append_seam (decimal n) rest)
    ∙ ap (λ (w : List ℕ). octet_of (decimal_value (decimal n)) w) (drop-append_seam (decimal n) rest)
    ∙ ap (λ (o : Option ℕ). octet_of o rest) (decimal_reads n (omega (arith, small)))
    ∙ cond-true (nat_le n 255) _ _ (le-leb n 255 (omega (arith, small)))

dot_reads : (n : ℕ) (rest : List ℕ) → n < 256 → StopsRun is_ascii_digit rest → dot_octet (46 ∷ (decimal n ++ rest)) ≡ Some (n, rest)
unfolding dot_octet
dot_reads n rest small stops = octet_reads n rest small stops

last_reads : (n : ℕ) → n < 256 → dot_octet (46 ∷ decimal n) ≡ Some (n, [])
last_reads n small = ap (λ (w : List ℕ). dot_octet (46 ∷ w)) (sym (append-nil (decimal n))) ∙ dot_reads n [] small tt

abbrev quad : ℕ → ℕ → ℕ → ℕ → List ℕ
quad a b c d = decimal a ++ (46 ∷ (decimal b ++ (46 ∷ (decimal c ++ (46 ∷ decimal d)))))

module _ (a b c d : ℕ) (ha : a < 256) (hb : b < 256) (hc : c < 256) (hd : d < 256) where
  quad_reads : dotted_value (quad a b c d) ≡ Some (a * 0x100_0000 + b * 0x1_0000 + c * 0x100 + d)
  unfolding dotted_value
  quad_reads =
      rw (octet_reads a (46 ∷ (decimal b ++ (46 ∷ (decimal c ++ (46 ∷ decimal d))))) ha refl, dot_reads b (46 ∷ (decimal c ++ (46 ∷ decimal d))) hb refl, dot_reads c (46 ∷ decimal d) hc refl, last_reads d hd) refl

  quad_runs : list_all is_run (quad a b c d) ≡ true
  quad_runs =
      let each = λ (n : ℕ) (h : n < 256). decimal_passes is_run digits_run n (omega (arith, h)) in
      let third = 46 ∷ decimal d in
      let second = 46 ∷ (decimal c ++ third) in
      let first = 46 ∷ (decimal b ++ second) in
      all_append is_run (decimal a) first (each a ha) (all_cons is_run 46 (decimal b ++ second) refl
      (all_append is_run (decimal b) second (each b hb) (all_cons is_run 46 (decimal c ++ third) refl
      (all_append is_run (decimal c) third (each c hc) (all_cons is_run 46 (decimal d) refl (each d hd))))))

  quad_some : 0 < length (quad a b c d)
  quad_some =
      let some = decimal_nonempty a (omega (arith, ha)) in
      let whole = length-append (decimal a) (46 ∷ (decimal b ++ (46 ∷ (decimal c ++ (46 ∷ decimal d))))) in
      omega (arith, some, whole)

  quad_pointed : pointless (quad a b c d) ≡ false
  quad_pointed = list_all-append (λ b. not (b == 46)) (decimal a) (46 ∷ (decimal b ++ (46 ∷ (decimal c ++ (46 ∷ decimal d))))) ∙ and_right (pointless (decimal a)) false refl

  quad_word : word_token (quad a b c d) ≡ t.Dotted (a * 0x100_0000 + b * 0x1_0000 + c * 0x100 + d)
  unfolding word_token constant_token address_token
  quad_word =
      let w = quad a b c d in
      let constant = digit_constant (decimal a) (46 ∷ (decimal b ++ (46 ∷ (decimal c ++ (46 ∷ decimal d))))) (decimal_nonempty a (omega (arith, ha))) (decimal_passes is_ascii_digit digits_digit a (omega (arith, ha))) in
      cond-true (is_constant w) _ _ constant
      ∙ cond-false (bytes_eq w (codes "0")) _ _ (apart (λ b. not (b == 46)) w (codes "0") quad_pointed refl (bytes_eq w (codes "0")) refl)
      ∙ cond-false (bytes_eq w (codes "1")) _ _ (apart (λ b. not (b == 46)) w (codes "1") quad_pointed refl (bytes_eq w (codes "1")) refl)
      ∙ ap (λ (o : Option ℕ). decimal_token o w) (decimal_none (λ b. not (b == 46)) w digits_pointless quad_pointed)
      ∙ ap (λ (o : Option ℕ). dotted_token o w) quad_reads

-- a word that is a constant's
pub record Word (word : List ℕ) (k : Token) : Type 0 where
  pub some : 0 < length word
  pub runs : list_all is_run word ≡ true
  pub is : word_token word ≡ k

pub ip4_word : (n : ℕ) → n ≤ 0xffff_ffff → Word (ip4_text (record { 0 = n })) (t.Dotted n)
ip4_word n fits =
    let a = byte_at 3 n in
    let b = byte_at 2 n in
    let c = byte_at 1 n in
    let d = byte_at 0 n in
    let ha : a < 256 = omega arith in
    let hb : b < 256 = omega arith in
    let hc : c < 256 = omega arith in
    let hd : d < 256 = omega arith in
    let e = from_be_bytes-to_be_bytes_4 n (omega (arith, fits)) in
    let whole : a * 0x100_0000 + b * 0x1_0000 + c * 0x100 + d ≡ n = omega (arith, e) in
    record { some = quad_some a b c d ha hb hc hd; runs = quad_runs a b c d ha hb hc hd; is = quad_word a b c d ha hb hc hd ∙ ap t.Dotted whole }

-- ---- Ethernet addresses

-- each hexadecimal digit passes
abbrev Hexes : (ℕ → Bool) → Type 0
Hexes p = (k : ℕ) → k < 16 → p (digit_char k) ≡ true

hex_runs : Hexes is_run
hex_runs = test_below (λ k. is_run (digit_char k)) 16 refl

hex_hex : Hexes is_ascii_hexdigit
hex_hex = test_below (λ k. is_ascii_hexdigit (digit_char k)) 16 refl

hex_pointless : Hexes (λ b. not (b == 46))
hex_pointless = test_below (λ k. not (digit_char k == 46)) 16 refl

hex_reads : (d : ℕ) → d < 16 → hex_digit (digit_char d) ≡ Some d
hex_reads d small = cond-true (is_ascii_hexdigit (digit_char d)) _ _ (hex_hex d small) ∙ ap Some (digit_value-digit_char d (omega (arith, small)))

pair_reads : (b : ℕ) → b < 256 → pair_value (digit_char (b / 16)) (digit_char (b % 16)) ≡ Some b
pair_reads b small =
    let high = hex_reads (b / 16) (omega (arith, small)) in
    let low = hex_reads (b % 16) (omega arith) in
    let whole : 16 * (b / 16) + b % 16 ≡ b = omega arith in
    ap (λ (o : Option ℕ). o >>= λ x. hex_digit (digit_char (b % 16)) >>= λ y. Some (16 * x + y)) high
    ∙ ap (λ (o : Option ℕ). o >>= λ y. Some (16 * (b / 16) + y)) low
    ∙ ap Some whole

abbrev pair_then : ℕ → List ℕ → List ℕ
pair_then b rest = digit_char (b / 16) ∷ digit_char (b % 16) ∷ rest

abbrev six : ℕ → ℕ → ℕ → ℕ → ℕ → ℕ → List ℕ
six a b c d e g = pair_then a (58 ∷ pair_then b (58 ∷ pair_then c (58 ∷ pair_then d (58 ∷ pair_then e (58 ∷ pair_then g [])))))

pair_all : (p : ℕ → Bool) → Hexes p → (b : ℕ) (rest : List ℕ) → b < 256 → list_all p rest ≡ true → list_all p (pair_then b rest) ≡ true
pair_all p each b rest small h =
    all_cons p (digit_char (b / 16)) (digit_char (b % 16) ∷ rest) (each (b / 16) (omega (arith, small))) (all_cons p (digit_char (b % 16)) rest (each (b % 16) (omega arith)) h)

rest_points : (text : List ℕ) (n : ℕ) → pointless text ≡ true → pointless (drop n text) ≡ true
rest_points text zero h = h
rest_points [] (suc n) h = refl
rest_points (x ∷ text) (suc n) h = rest_points text n (second_so (not (x == 46)) (pointless text) h)

not_so : (x : Bool) → not x ≡ true → x ≡ false
not_so false h = refl
not_so true h = absurd (false≢true h)

no_dot : (text : List ℕ) → pointless text ≡ true → dot_octet text ≡ None
unfolding dot_octet
no_dot [] h = refl
no_dot (b ∷ text) h = cond-false (b == 46) _ _ (not_so (b == 46) (first_so (not (b == 46)) (pointless text) h))

either_none : (g : ℕ × List ℕ → Option ℕ) (x : Bool) (n : ℕ) (rest : List ℕ) → g (n, rest) ≡ None → (cond x (Some (n, rest)) None >>= g) ≡ None
either_none g true n rest h = h
either_none g false n rest h = refl

octet_then : (g : ℕ × List ℕ → Option ℕ) (o : Option ℕ) (rest : List ℕ) → ((n : ℕ) → g (n, rest) ≡ None) → (octet_of o rest >>= g) ≡ None
octet_then g None rest h = refl
octet_then g (Some n) rest h = either_none g (nat_le n 255) n rest (h n)

-- a word without a point is no IPv4 address
dotted_none : (text : List ℕ) → pointless text ≡ true → dotted_value text ≡ None
unfolding dotted_value octet
dotted_none text h = octet_then _ (decimal_value (take (digit_count text) text)) (drop (digit_count text) text) (λ n. rw (no_dot (drop (digit_count text) text) (rest_points text (digit_count text) h)) refl)

module _ (a b c d e g : ℕ) (ha : a < 256) (hb : b < 256) (hc : c < 256) (hd : d < 256) (he : e < 256) (hg : g < 256) where
  six_all : (p : ℕ → Bool) → Hexes p → p 58 ≡ true → list_all p (six a b c d e g) ≡ true
  six_all p each colon =
      let fifth = pair_then g [] in
      let fourth = pair_then e (58 ∷ fifth) in
      let third = pair_then d (58 ∷ fourth) in
      let second = pair_then c (58 ∷ third) in
      let first = pair_then b (58 ∷ second) in
      pair_all p each a (58 ∷ first) ha (all_cons p 58 first colon
      (pair_all p each b (58 ∷ second) hb (all_cons p 58 second colon
      (pair_all p each c (58 ∷ third) hc (all_cons p 58 third colon
      (pair_all p each d (58 ∷ fourth) hd (all_cons p 58 fourth colon
      (pair_all p each e (58 ∷ fifth) he (all_cons p 58 fifth colon
      (pair_all p each g [] hg refl))))))))))

  six_reads : ether_value (six a b c d e g) ≡ Some (a * 0x100_0000_0000 + b * 0x1_0000_0000 + c * 0x100_0000 + d * 0x1_0000 + e * 0x100 + g)
  unfolding ether_value
  six_reads = rw (pair_reads a ha, pair_reads b hb, pair_reads c hc, pair_reads d hd, pair_reads e he, pair_reads g hg) refl

  six_coloned : colonless (six a b c d e g) ≡ false
  six_coloned = and_right (not (digit_char (a / 16) == 58)) _ (and_right (not (digit_char (a % 16) == 58)) false refl)

  six_constant : is_constant (six a b c d e g) ≡ true
  six_constant = or_right (begins_with_digit (six a b c d e g)) _ (or_right (digit_char (a / 16) == 58) _ (or_right (digit_char (a % 16) == 58) _ refl))

  six_word : word_token (six a b c d e g) ≡ t.Ether (a * 0x100_0000_0000 + b * 0x1_0000_0000 + c * 0x100_0000 + d * 0x1_0000 + e * 0x100 + g)
  unfolding word_token constant_token address_token
  six_word =
      let w = six a b c d e g in
      cond-true (is_constant w) _ _ six_constant
      ∙ cond-false (bytes_eq w (codes "0")) _ _ (apart (λ b. not (b == 58)) w (codes "0") six_coloned refl (bytes_eq w (codes "0")) refl)
      ∙ cond-false (bytes_eq w (codes "1")) _ _ (apart (λ b. not (b == 58)) w (codes "1") six_coloned refl (bytes_eq w (codes "1")) refl)
      ∙ ap (λ (o : Option ℕ). decimal_token o w) (decimal_none (λ b. not (b == 58)) w digits_colonless six_coloned)
      ∙ ap (λ (o : Option ℕ). dotted_token o w) (dotted_none w (six_all (λ b. not (b == 46)) hex_pointless refl))
      ∙ ap (λ (o : Option ℕ). ether_token o w) six_reads

-- the text of the address of a number, by the number's bytes
abbrev bytes_text : ℕ → List ℕ
bytes_text n = join_with_byte 58 (map pair_text (drop 2 (to_be_bytes w64 n)))

bytes_word : (n : ℕ) → n ≤ 0xffff_ffff_ffff → Word (bytes_text n) (t.Ether n)
bytes_word n fits =
    let a = byte_at 5 n in
    let b = byte_at 4 n in
    let c = byte_at 3 n in
    let d = byte_at 2 n in
    let e = byte_at 1 n in
    let g = byte_at 0 n in
    let ha : a < 256 = omega arith in
    let hb : b < 256 = omega arith in
    let hc : c < 256 = omega arith in
    let hd : d < 256 = omega arith in
    let he : e < 256 = omega arith in
    let hg : g < 256 = omega arith in
    let all = from_be_bytes-to_be_bytes_8 n (omega (arith, fits)) in
    let high : byte_at 7 n ≡ 0 = omega (arith, fits) in
    let next : byte_at 6 n ≡ 0 = omega (arith, fits) in
    let whole : a * 0x100_0000_0000 + b * 0x1_0000_0000 + c * 0x100_0000 + d * 0x1_0000 + e * 0x100 + g ≡ n = omega (arith, all, high, next) in
    record { some = omega arith; runs = six_all a b c d e g ha hb hc hd he hg is_run hex_runs refl; is = six_word a b c d e g ha hb hc hd he hg ∙ ap t.Ether whole }

pub mac_word : (n : ℕ) → n ≤ 0xffff_ffff_ffff → Word (mac_text (mac_of n)) (t.Ether n)
mac_word n fits = subst (λ m. Word (bytes_text m) (t.Ether n)) (sym (number-mac_of n (omega (arith, fits)))) (bytes_word n fits)
