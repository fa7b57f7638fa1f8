-- The values of a comparison stand where they are printed.
use Rattle.std.specs.Prelude.{◌≡◌, ◌≤◌, ◌<◌, ◌+◌, ◌-◌, ◌^◌, ℕ, Bool, true, false, cond, ◌==◌, nat_le, ◌&&◌, List, [], ◌∷◌, ◌++◌, map, length, codes, Option, Some, None, bit_and}
use Rattle.std.specs.List.{list_all}
use Rattle.std.specs.Fmt.{decimal}
use Rattle.std.proofs.Common.{refl, ap, ◌∙◌, sym, subst, arith, append_assoc}
use Rattle.std.proofs.lemmas.Bool.{cond-true, cond-false, le-leb}
use Rattle.std.proofs.lemmas.Bool.Decides.{Decides-eqb}
use Rattle.std.proofs.lemmas.List.Sums.{list_all-from_AllPass}
use Rattle.std.proofs.lemmas.Fmt.{decimal_nonempty}
use mathlib.Core.Bool.{true≢false}
use Rattle.ovn_base.specs.names.NameText.{IsName, name_byte}
use Rattle.ovn_base.specs.addresses.EtherAddress.{mac_of}
use Rattle.ovn_base.specs.addresses.AddressText.{mac_text, ip4_text}
use Rattle.match_language.specs.declared.expr.Value.{Value}
use Rattle.match_language.specs.declared.expr.Value.TheVariants as v
use Rattle.match_language.specs.declared.expr.Rel.{Rel}
use Rattle.match_language.specs.declared.field.Field.{Field}
use Rattle.match_language.specs.declared.field.Field.TheVariants as f
use Rattle.match_language.specs.declared.token.Token.{Token}
use Rattle.match_language.specs.declared.token.Token.TheVariants as t
use Rattle.match_language.specs.Tables.{field_bits, field_max, is_port_field}
use Rattle.match_language.specs.Relations.{is_equality}
use Rattle.match_language.specs.Constants.{◌>>=◌, prefix_mask}
use Rattle.match_language.specs.Tokens.{is_run, word_token}
use Rattle.match_language.specs.Values.{constant_of, mask_of, number_of, decimal_of, at_most, prefix_of, dotted_mask, ether_mask}
use Rattle.match_language.specs.Input.{Input, token, next, skip}
use Rattle.match_language.specs.Grammar.{is_slash, IsOne, IsList, IsValues}
use Rattle.match_language.specs.Grammar.IsOne.{unmasked, masked, port, of_group, of_set}
use Rattle.match_language.specs.Grammar.IsList.{last_value, with_comma}
use Rattle.match_language.specs.Grammar.IsValues.{one_value, in_braces}
use Rattle.match_language.specs.Nesting.{TakesValue, TakesEach, TakesAll}
use Rattle.match_language.specs.Nesting.TakesValue.{takes_number, takes_masked, takes_port, takes_group, takes_set}
use Rattle.match_language.specs.Nesting.TakesEach.{takes_last, takes_more}
use Rattle.match_language.specs.Nesting.TakesAll.{takes_one, takes_several}
use Rattle.match_language.specs.Spelling.{joined_text, number_text, prefix_below, dotted_mask_text, mask_text, value_text, values_text}
use Rattle.match_language.proofs.Prefixes.{below_is}
use Rattle.match_language.proofs.Begins.{Follows, begins_run, begins_slash, begins_comma, begins_open_brace, begins_close_brace, blank_skipped, begins_string, begins_set, begins_group, comma_follows, close_brace_follows}
use Rattle.match_language.proofs.PrintLaws.{Decimal, decimal_word, decimal_passes, digits_run, Word, ip4_word, mac_word}

none_is : {A : Type 0} (x : A) → None ≡ Some x → ⊥
none_is x e = absurd cc

-- the widest number of the table
pub field_max_small : (x : Field) → field_max x < 2 ^ 64
field_max_small f.EthSrc = omega arith
field_max_small _ = omega arith

pub at_most_within : (most n : ℕ) → n ≤ most → at_most most n ≡ Some n
at_most_within most n within = cond-true (nat_le n most) _ _ (le-leb n most within)

-- ---- which constant a number's text is

-- an IPv4 address, an Ethernet address, or a decimal number
data Kind (x : Field) (n : ℕ) (word : List ℕ) : Type 0 where
  of_ip4 : field_bits x ≡ 32 → Word word (t.Dotted n) → Kind x n word
  of_mac : field_bits x ≡ 48 → Word word (t.Ether n) → Kind x n word
  of_number : (field_bits x == 32) ≡ false → (field_bits x == 48) ≡ false → Decimal n (word_token word) → 0 < length word → list_all is_run word ≡ true → Kind x n word

decimal_kind : (x : Field) (n : ℕ) → n ≤ field_max x → (field_bits x == 32) ≡ false → (field_bits x == 48) ≡ false → Kind x n (decimal n)
decimal_kind x n within a b =
    let small = field_max_small x in
    let fits : n < 2 ^ 64 = omega (arith, within, small) in
    of_number a b (decimal_word n fits) (decimal_nonempty n fits) (decimal_passes is_run digits_run n fits)

kind_by : (x : Field) (n : ℕ) → n ≤ field_max x → (a b : Bool) → (field_bits x == 32) ≡ a → (field_bits x == 48) ≡ b
    → Kind x n (cond (a && nat_le n 0xffff_ffff) (ip4_text (record { 0 = n })) (cond (b && nat_le n 0xffff_ffff_ffff) (mac_text (mac_of n)) (decimal n)))
kind_by x n within true b e g =
    let bits = (Decides-eqb (field_bits x) 32).0 e in
    let most : n ≤ 0xffff_ffff = subst (λ (k : ℕ). n ≤ 2 ^ k - 1) bits within in
    subst (Kind x n) (sym (cond-true (nat_le n 0xffff_ffff) _ _ (le-leb n 0xffff_ffff most))) (of_ip4 bits (ip4_word n most))
kind_by x n within false true e g =
    let bits = (Decides-eqb (field_bits x) 48).0 g in
    let most : n ≤ 0xffff_ffff_ffff = subst (λ (k : ℕ). n ≤ 2 ^ k - 1) bits within in
    subst (Kind x n) (sym (cond-true (nat_le n 0xffff_ffff_ffff) _ _ (le-leb n 0xffff_ffff_ffff most))) (of_mac bits (mac_word n most))
kind_by x n within false false e g = decimal_kind x n within e g

kind_of : (x : Field) (n : ℕ) → n ≤ field_max x → Kind x n (number_text x n)
unfolding number_text
kind_of x n within = kind_by x n within (field_bits x == 32) (field_bits x == 48) refl refl

kind_some : (x : Field) (n : ℕ) (word : List ℕ) → Kind x n word → 0 < length word
kind_some x n word (of_ip4 bits h) = h.some
kind_some x n word (of_mac bits h) = h.some
kind_some x n word (of_number a b h some runs) = some

kind_runs : (x : Field) (n : ℕ) (word : List ℕ) → Kind x n word → list_all is_run word ≡ true
kind_runs x n word (of_ip4 bits h) = h.runs
kind_runs x n word (of_mac bits h) = h.runs
kind_runs x n word (of_number a b h some runs) = runs

at_most_same : (x : Field) (n m : ℕ) → n ≤ field_max x → Some m ≡ Some n → at_most (field_max x) m ≡ Some n
at_most_same x n m within e = let same : m ≡ n = cc in ap (at_most (field_max x)) same ∙ at_most_within (field_max x) n within

-- a number stands with every field that has one
number_constant : (x : Field) (n : ℕ) (k : Token) → is_port_field x ≡ false → n ≤ field_max x → number_of k ≡ Some n → constant_of x k ≡ Some n
number_constant x n (t.Bit false) numeric within e = cond-false (is_port_field x) _ _ numeric ∙ at_most_same x n 0 within e
number_constant x n (t.Bit true) numeric within e = cond-false (is_port_field x) _ _ numeric ∙ at_most_same x n 1 within e
number_constant x n (t.Number m) numeric within e = cond-false (is_port_field x) _ _ numeric ∙ at_most_same x n m within e
number_constant x n (t.Hex m) numeric within e = cond-false (is_port_field x) _ _ numeric ∙ at_most_same x n m within e
number_constant x n other numeric within e = absurd (none_is n e)

kind_constant : (x : Field) (n : ℕ) (word : List ℕ) → is_port_field x ≡ false → n ≤ field_max x → Kind x n word → constant_of x (word_token word) ≡ Some n
kind_constant x n word numeric within (of_ip4 bits h) =
    ap (constant_of x) h.is ∙ cond-true (field_bits x == 32) _ _ ((Decides-eqb (field_bits x) 32).1 bits) ∙ at_most_within (field_max x) n within
kind_constant x n word numeric within (of_mac bits h) =
    ap (constant_of x) h.is ∙ cond-true (field_bits x == 48) _ _ ((Decides-eqb (field_bits x) 48).1 bits) ∙ at_most_within (field_max x) n within
kind_constant x n word numeric within (of_number a b h some runs) = number_constant x n (word_token word) numeric within h.number

-- ---- masks

-- behind a decimal number a number is the mask
number_mask : (x : Field) (n m : ℕ) (k j : Token) → decimal_of k ≡ Some n → number_of j ≡ Some m → m ≤ field_max x → mask_of x k j ≡ Some m
number_mask x n m (t.Bit b) j e g within = ap (λ (o : Option ℕ). o >>= at_most (field_max x)) g ∙ at_most_within (field_max x) m within
number_mask x n m (t.Number i) j e g within = ap (λ (o : Option ℕ). o >>= at_most (field_max x)) g ∙ at_most_within (field_max x) m within
number_mask x n m other j e g within = absurd (none_is n e)

-- a decimal length is a mask behind an address
length_mask : (x : Field) (len m : ℕ) (k : Token) → decimal_of k ≡ Some len → len < 32 → prefix_mask len ≡ m → dotted_mask x k ≡ Some m
length_mask x len m (t.Bit b) e small same = ap (λ (o : Option ℕ). o >>= prefix_of) e ∙ cond-true (nat_le len 32) _ _ (le-leb len 32 (omega (arith, small))) ∙ ap Some same
length_mask x len m (t.Number i) e small same = ap (λ (o : Option ℕ). o >>= prefix_of) e ∙ cond-true (nat_le len 32) _ _ (le-leb len 32 (omega (arith, small))) ∙ ap Some same
length_mask x len m other e small same = absurd (none_is len e)

-- a word that is the mask behind a constant
record MaskWord (x : Field) (k : Token) (m : ℕ) (word : List ℕ) : Type 0 where
  pub some : 0 < length word
  pub runs : list_all is_run word ≡ true
  pub is : mask_of x k (word_token word) ≡ Some m

apart_bits : (x : Field) (a b : ℕ) → field_bits x ≡ a → (field_bits x == b) ≡ true → a ≡ b
apart_bits x a b e g = sym e ∙ (Decides-eqb (field_bits x) b).0 g

ip4_mask : (x : Field) (n m : ℕ) → field_bits x ≡ 32 → m ≤ field_max x → Kind x m (number_text x m) → (o : Option ℕ) → prefix_below 32 m ≡ o → MaskWord x (t.Dotted n) m (dotted_mask_text x o m)
ip4_mask x n m bits within kind (Some len) e =
    let a = below_is 32 m len e in
    let fits : len < 2 ^ 64 = omega (arith, a.0) in
    record { some = decimal_nonempty len fits; runs = decimal_passes is_run digits_run len fits; is = length_mask x len m (word_token (decimal len)) (decimal_word len fits).decimal a.0 a.1 }
ip4_mask x n m bits within (of_ip4 same h) None e = record { some = h.some; runs = h.runs; is = ap (dotted_mask x) h.is ∙ at_most_within (field_max x) m within }
ip4_mask x n m bits within (of_mac same h) None e = absurd (omega (arith, bits, same))
ip4_mask x n m bits within (of_number a b h some runs) None e = absurd (true≢false (sym ((Decides-eqb (field_bits x) 32).1 bits) ∙ a))

mac_mask : (x : Field) (n m : ℕ) (word : List ℕ) → field_bits x ≡ 48 → m ≤ field_max x → Kind x m word → MaskWord x (t.Ether n) m word
mac_mask x n m word bits within (of_mac same h) = record { some = h.some; runs = h.runs; is = ap (ether_mask x) h.is ∙ at_most_within (field_max x) m within }
mac_mask x n m word bits within (of_ip4 same h) = absurd (omega (arith, bits, same))
mac_mask x n m word bits within (of_number a b h some runs) = absurd (true≢false (sym ((Decides-eqb (field_bits x) 48).1 bits) ∙ b))

other_mask : (x : Field) (n m : ℕ) (k : Token) (word : List ℕ) → (field_bits x == 32) ≡ false → (field_bits x == 48) ≡ false → decimal_of k ≡ Some n → m ≤ field_max x → Kind x m word → MaskWord x k m word
other_mask x n m k word a b is within (of_number c d h some runs) = record { some = some; runs = runs; is = number_mask x n m k (word_token word) is h.number within }
other_mask x n m k word a b is within (of_ip4 same h) = absurd (true≢false (sym ((Decides-eqb (field_bits x) 32).1 same) ∙ a))
other_mask x n m k word a b is within (of_mac same h) = absurd (true≢false (sym ((Decides-eqb (field_bits x) 48).1 same) ∙ b))

-- the mask's text, behind the slash
abbrev mask_word : Field → ℕ → List ℕ
mask_word x m = cond (field_bits x == 32) (dotted_mask_text x (prefix_below 32 m) m) (number_text x m)

mask_is : (x : Field) (n m : ℕ) (word : List ℕ) → m ≤ field_max x → Kind x n word → MaskWord x (word_token word) m (mask_word x m)
mask_is x n m word within (of_ip4 bits h) =
    let made = ip4_mask x n m bits within (kind_of x m within) (prefix_below 32 m) refl in
    let at = subst (λ (k : Token). MaskWord x k m (dotted_mask_text x (prefix_below 32 m) m)) (sym h.is) made in
    subst (MaskWord x (word_token word) m) (sym (cond-true (field_bits x == 32) _ _ ((Decides-eqb (field_bits x) 32).1 bits))) at
mask_is x n m word within (of_mac bits h) =
    let made = mac_mask x n m (number_text x m) bits within (kind_of x m within) in
    let at = subst (λ (k : Token). MaskWord x k m (number_text x m)) (sym h.is) made in
    let other : (field_bits x == 32) ≡ false = ap (λ (k : ℕ). k == 32) bits in
    subst (MaskWord x (word_token word) m) (sym (cond-false (field_bits x == 32) _ _ other)) at
mask_is x n m word within (of_number a b h some runs) =
    subst (MaskWord x (word_token word) m) (sym (cond-false (field_bits x == 32) _ _ a)) (other_mask x n m (word_token word) (number_text x m) a b h.decimal within (kind_of x m within))

-- ---- one value

-- wherever the text stands, it is the value up to the rest
abbrev pub IsOneIn : Field → Rel → Value → List ℕ → List ℕ → Type 0
IsOneIn x r y text rest = (p : ℕ) → (q : ℕ) × IsOne x r y (skip p text) (skip q rest)

unmasked_in : (x : Field) (r : Rel) (n : ℕ) (word rest : List ℕ) → is_port_field x ≡ false → n ≤ field_max x → Kind x n word → Follows rest → IsOneIn x r (v.Number n (field_max x)) (word ++ rest) rest
unmasked_in x r n word rest numeric within kind follows p =
    let b = begins_run p word rest (kind_some x n word kind) (kind_runs x n word kind) follows.runs in
    let i = skip p (word ++ rest) in
    let is : constant_of x (token i) ≡ Some n = ap (constant_of x) b.is ∙ kind_constant x n word numeric within kind in
    let slash : is_slash (token (next i)) ≡ false = ap (λ (j : Input). is_slash (token j)) b.after ∙ follows.slash b.place in
    (b.place, subst (λ (j : Input). IsOne x r (v.Number n (field_max x)) i j) b.after (unmasked x r n i is slash))

masked_in : (x : Field) (r : Rel) (n m : ℕ) (word mask rest : List ℕ) → is_equality r ≡ true → is_port_field x ≡ false → n ≤ field_max x → bit_and n m ≡ n → Kind x n word → MaskWord x (word_token word) m mask → Follows rest
    → IsOneIn x r (v.Number n m) (word ++ (47 ∷ (mask ++ rest))) rest
masked_in x r n m word mask rest eq numeric within inside kind has follows p =
    let b = begins_run p word (47 ∷ (mask ++ rest)) (kind_some x n word kind) (kind_runs x n word kind) refl in
    let i = skip p (word ++ (47 ∷ (mask ++ rest))) in
    let s = begins_slash b.place (mask ++ rest) in
    let c = begins_run s.place mask rest has.some has.runs follows.runs in
    let is : constant_of x (token i) ≡ Some n = ap (constant_of x) b.is ∙ kind_constant x n word numeric within kind in
    let slash : token (next i) ≡ t.Slash = ap token b.after ∙ s.is in
    let second : next (next i) ≡ skip s.place (mask ++ rest) = ap next b.after ∙ s.after in
    let of : mask_of x (token i) (token (next (next i))) ≡ Some m = ap (λ (k : Token). mask_of x k (token (next (next i)))) b.is ∙ ap (λ (k : Token). mask_of x (word_token word) k) (ap token second ∙ c.is) ∙ has.is in
    let end : next (next (next i)) ≡ skip c.place rest = ap next second ∙ c.after in
    (c.place, subst (λ (j : Input). IsOne x r (v.Number n m) i j) end (masked x r n m i eq is slash of inside))

mask_text_full : (x : Field) → mask_text x (field_max x) ≡ []
unfolding mask_text
mask_text_full x = cond-true (field_max x == field_max x) _ _ ((Decides-eqb (field_max x) (field_max x)).1 refl)

mask_text_other : (x : Field) (m : ℕ) → (m == field_max x) ≡ false → mask_text x m ≡ 47 ∷ mask_word x m
unfolding mask_text
mask_text_other x m other = cond-false (m == field_max x) _ _ other

number_spelled : (x : Field) (r : Rel) (n : ℕ) (rest : List ℕ) → is_port_field x ≡ false → n ≤ field_max x → Follows rest → IsOneIn x r (v.Number n (field_max x)) (value_text x (v.Number n (field_max x)) ++ rest) rest
unfolding value_text
number_spelled x r n rest numeric within follows =
    let same : (number_text x n ++ mask_text x (field_max x)) ++ rest ≡ number_text x n ++ rest = append_assoc (number_text x n) (mask_text x (field_max x)) rest ∙ ap (λ (w : List ℕ). number_text x n ++ (w ++ rest)) (mask_text_full x) in
    subst (λ (w : List ℕ). IsOneIn x r (v.Number n (field_max x)) w rest) (sym same) (unmasked_in x r n (number_text x n) rest numeric within (kind_of x n within) follows)

masked_by : (x : Field) (r : Rel) (n m : ℕ) (rest : List ℕ) → is_equality r ≡ true → is_port_field x ≡ false → n ≤ field_max x → m ≤ field_max x → bit_and n m ≡ n → Follows rest → (b : Bool) → (m == field_max x) ≡ b
    → IsOneIn x r (v.Number n m) (value_text x (v.Number n m) ++ rest) rest
unfolding value_text
masked_by x r n m rest eq numeric within most inside follows true e =
    let same = (Decides-eqb m (field_max x)).0 e in
    subst (λ (k : ℕ). IsOneIn x r (v.Number n k) (value_text x (v.Number n k) ++ rest) rest) (sym same) (number_spelled x r n rest numeric within follows)
masked_by x r n m rest eq numeric within most inside follows false e =
    let kind = kind_of x n within in
    let made = masked_in x r n m (number_text x n) (mask_word x m) rest eq numeric within inside kind (mask_is x n m (number_text x n) most kind) follows in
    let same : (number_text x n ++ mask_text x m) ++ rest ≡ number_text x n ++ (47 ∷ (mask_word x m ++ rest)) = append_assoc (number_text x n) (mask_text x m) rest ∙ ap (λ (w : List ℕ). number_text x n ++ (w ++ rest)) (mask_text_other x m e) in
    subst (λ (w : List ℕ). IsOneIn x r (v.Number n m) w rest) (sym same) made

name_passes : (name : List ℕ) → IsName name → list_all name_byte name ≡ true
name_passes name h = list_all-from_AllPass name_byte name h.bytes

pub one_again : (x : Field) (r : Rel) (y : Value) → TakesValue x r y → (rest : List ℕ) → Follows rest → IsOneIn x r y (value_text x y ++ rest) rest
unfolding value_text
one_again _ _ _ (takes_number x r n numeric within) rest follows p = number_spelled x r n rest numeric within follows p
one_again _ _ _ (takes_masked x r n m eq numeric within most inside) rest follows p = masked_by x r n m rest eq numeric within most inside follows (m == field_max x) refl p
one_again _ _ _ (takes_port x r text is eq quoteless) rest follows p =
    let b = begins_string p text rest quoteless in
    let i = skip p (34 ∷ (text ++ (34 ∷ rest))) in
    let made : IsOne x r (v.Port text) i (next i) = subst (λ (s : List ℕ). IsOne x r (v.Port s) i (next i)) b.inner (port x r i is eq b.begins.is) in
    let ended = subst (λ (j : Input). IsOne x r (v.Port text) i j) b.begins.after made in
    (b.begins.place, subst (λ (w : List ℕ). IsOne x r (v.Port text) (skip p (34 ∷ w)) (skip b.begins.place rest)) (sym (append_assoc text (34 ∷ []) rest)) ended)
one_again _ _ _ (takes_group x r name is eq named) rest follows p =
    let b = begins_group p name rest named (name_passes name named) follows.names in
    let i = skip p (64 ∷ (name ++ rest)) in
    (b.place, subst (λ (j : Input). IsOne x r (v.Group name) i j) b.after (of_group x r name i is eq b.is))
one_again _ _ _ (takes_set x r name is eq named) rest follows p =
    let b = begins_set p name rest named (name_passes name named) follows.names in
    let i = skip p (36 ∷ (name ++ rest)) in
    (b.place, subst (λ (j : Input). IsOne x r (v.Set name) i j) b.after (of_set x r name i is eq b.is))

-- ---- lists of values

abbrev comma : List ℕ
comma = codes ", "

abbrev IsListIn : Field → Rel → List Value → List ℕ → List ℕ → Type 0
IsListIn x r ys text rest = (p : ℕ) → (q : ℕ) × IsList x r ys (skip p text) (skip q rest)

-- the texts of one value or more, by the first
joined_more : (x : Field) (y z : Value) (zs : List Value) (rest : List ℕ)
    → joined_text comma (map (value_text x) (y ∷ z ∷ zs)) ++ rest ≡ value_text x y ++ (44 ∷ 32 ∷ (joined_text comma (map (value_text x) (z ∷ zs)) ++ rest))
joined_more x y z zs rest = append_assoc (value_text x y) (44 ∷ 32 ∷ joined_text comma (map (value_text x) (z ∷ zs))) rest

joined_one : (x : Field) (y : Value) (rest : List ℕ) → joined_text comma (map (value_text x) (y ∷ [])) ++ rest ≡ value_text x y ++ rest
joined_one x y rest = append_assoc (value_text x y) [] rest

behind_comma : (x : Field) (r : Rel) (y z : Value) (zs : List Value) (text rest : List ℕ) → TakesValue x r y → IsListIn x r (z ∷ zs) text rest → IsListIn x r (y ∷ z ∷ zs) (value_text x y ++ (44 ∷ 32 ∷ text)) rest
behind_comma x r y z zs text rest h others p =
    let a = one_again x r y h (44 ∷ 32 ∷ text) (comma_follows (32 ∷ text)) p in
    let c = begins_comma a.0 (32 ∷ text) in
    let after : next (skip a.0 (44 ∷ 32 ∷ text)) ≡ skip (c.place + 1) text = c.after ∙ blank_skipped c.place text in
    let b = others (c.place + 1) in
    let moved = subst (λ (j : Input). IsList x r (z ∷ zs) j (skip b.0 rest)) (sym after) b.1 in
    (b.0, with_comma x r y (z ∷ zs) (skip p (value_text x y ++ (44 ∷ 32 ∷ text))) (skip a.0 (44 ∷ 32 ∷ text)) (skip b.0 rest) a.1 c.is moved)

-- values with commas between stand where they are printed, before a brace
list_again : (x : Field) (r : Rel) (ys : List Value) → TakesEach x r ys → (rest : List ℕ) → IsListIn x r ys (joined_text comma (map (value_text x) ys) ++ (125 ∷ rest)) (125 ∷ rest)
list_again _ _ _ (takes_last x r y h) rest p =
    let a = one_again x r y h (125 ∷ rest) (close_brace_follows rest) p in
    (a.0, subst (λ (w : List ℕ). IsList x r (y ∷ []) (skip p w) (skip a.0 (125 ∷ rest))) (sym (joined_one x y (125 ∷ rest))) (last_value x r y (skip p (value_text x y ++ (125 ∷ rest))) (skip a.0 (125 ∷ rest)) a.1))
list_again _ _ _ (takes_more x r y (z ∷ zs) h hs) rest p =
    let a = behind_comma x r y z zs (joined_text comma (map (value_text x) (z ∷ zs)) ++ (125 ∷ rest)) (125 ∷ rest) h (list_again x r (z ∷ zs) hs rest) p in
    (a.0, subst (λ (w : List ℕ). IsList x r (y ∷ z ∷ zs) (skip p w) (skip a.0 (125 ∷ rest))) (sym (joined_more x y z zs (125 ∷ rest))) a.1)
list_again _ _ _ (takes_more x r y [] h hs) rest p =
    let a = one_again x r y h (125 ∷ rest) (close_brace_follows rest) p in
    (a.0, subst (λ (w : List ℕ). IsList x r (y ∷ []) (skip p w) (skip a.0 (125 ∷ rest))) (sym (joined_one x y (125 ∷ rest))) (last_value x r y (skip p (value_text x y ++ (125 ∷ rest))) (skip a.0 (125 ∷ rest)) a.1))

-- wherever the text stands, it is the values up to the rest
abbrev pub IsValuesIn : Field → Rel → List Value → List ℕ → List ℕ → Type 0
IsValuesIn x r ys text rest = (p : ℕ) → (q : ℕ) × IsValues x r ys (skip p text) (skip q rest)

pub values_again : (x : Field) (r : Rel) (ys : List Value) → TakesAll x r ys → (rest : List ℕ) → Follows rest → IsValuesIn x r ys (values_text x ys ++ rest) rest
unfolding values_text
values_again _ _ _ (takes_one x r y h) rest follows p =
    let a = one_again x r y h rest follows p in
    (a.0, one_value x r y (skip p (value_text x y ++ rest)) (skip a.0 rest) a.1)
values_again _ _ _ (takes_several x r y z zs eq h hs) rest follows p =
    let inside = joined_text comma (map (value_text x) (y ∷ z ∷ zs)) in
    let b = begins_open_brace p (inside ++ (125 ∷ rest)) in
    let list = list_again x r (y ∷ z ∷ zs) (takes_more x r y (z ∷ zs) h hs) rest b.place in
    let c = begins_close_brace list.0 rest in
    let i = skip p (123 ∷ (inside ++ (125 ∷ rest))) in
    let moved = subst (λ (j : Input). IsList x r (y ∷ z ∷ zs) j (skip list.0 (125 ∷ rest))) (sym b.after) list.1 in
    let made = in_braces x r (y ∷ z ∷ zs) i (skip list.0 (125 ∷ rest)) eq b.is moved c.is in
    let ended = subst (λ (j : Input). IsValues x r (y ∷ z ∷ zs) i j) c.after made in
    (c.place, subst (λ (w : List ℕ). IsValues x r (y ∷ z ∷ zs) (skip p (123 ∷ w)) (skip c.place rest)) (sym (append_assoc inside (125 ∷ []) rest)) ended)
