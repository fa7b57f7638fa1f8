-- What the text of a frame spells are bytes.
use Rattle.std.specs.Prelude.{◌≡◌, ◌<◌, ◌+◌, ◌*◌, ◌%◌, ◌==◌, ℕ, Bool, true, false, cond, List, [], ◌∷◌, length, Option, Some, None, Result, Ok, Err, refl}
use Rattle.std.proofs.Common.{subst, arith}
use Rattle.std.proofs.lemmas.Bool.Decides.{nat_tests}
use Rattle.hex.specs.Hex.{◌>>=◌, hex_digit_value, digit_or_error, value_at, pair_value, decode_pairs, decode_of}
use Rattle.hex.specs.declared.error.FromHexError.{FromHexError}
use Rattle.hex.specs.declared.error.FromHexError.TheVariants.{OddLength}
use Rattle.edit_reader.specs.Fitting.{AreBytes}
use Rattle.edit_reader.specs.Grammars.{bytes_by, spelled_frame}
use Rattle.edit_reader.proofs.ReadSteps.{some_is, not_none}

abbrev Decoded : Type 0 → Type 0
Decoded A = Result A FromHexError

abbrev decoded : {A : Type 0} → A → Decoded A
decoded x = Ok x

decoded_is : {A : Type 0} (x y : A) → decoded x ≡ decoded y → x ≡ y
decoded_is x y e = cc

abbrev refused : {A : Type 0} → FromHexError → Decoded A
refused f = Err f

not_decoded : {A : Type 0} (f : FromHexError) (x : A) → refused {A = A} f ≡ decoded x → ⊥
not_decoded f x e = absurd cc

decoded_then : {A B : Type 0} (r : Decoded A) (f : A → Decoded B) (y : B) → (r >>= f) ≡ Ok y → (x : A) × (r ≡ Ok x) × (f x ≡ Ok y)
decoded_then (Ok x) f y e = (x, refl, e)
decoded_then (Err d) f y e = absurd (not_decoded d y e)

digit_small : (c v : ℕ) → hex_digit_value c ≡ Some v → v < 16
digit_small c v e = grind (arith, nat_tests)

or_error : (c i : ℕ) (o : Option ℕ) (v : ℕ) → digit_or_error c i o ≡ Ok v → o ≡ Some v
or_error c i (Some w) v e = let same : w ≡ v = decoded_is w v e in λ j. Some (same j)
or_error c i None v e = absurd cc

value_small : (c i v : ℕ) → value_at c i ≡ Ok v → v < 16
value_small c i v e = digit_small c v (or_error c i (hex_digit_value c) v e)

pair_small : (high low i b : ℕ) → pair_value high low i ≡ Ok b → b < 256
pair_small high low i b e =
    let h = decoded_then (value_at high i) _ b e in
    let l = decoded_then (value_at low (i + 1)) _ b h.2 in
    let same = decoded_is (h.0 * 16 + l.0) b l.2 in
    let p = value_small high i h.0 h.1 in
    let q = value_small low (i + 1) l.0 l.1 in
    omega (arith, same, p, q)

pairs_fit : (i : ℕ) (text bytes : List ℕ) → decode_pairs i text ≡ Ok bytes → AreBytes bytes
unfolding decode_pairs
pairs_fit i [] bytes e = subst AreBytes (decoded_is [] bytes e) tt
pairs_fit i (digit ∷ []) bytes e = absurd cc
pairs_fit i (high ∷ low ∷ rest) bytes e =
    let b = decoded_then (pair_value high low i) _ bytes e in
    let bs = decoded_then (decode_pairs (i + 2) rest) _ bytes b.2 in
    subst AreBytes (decoded_is (b.0 ∷ bs.0) bytes bs.2) (pair_small high low i b.0 b.1, pairs_fit (i + 2) rest bs.0 bs.1)

decode_fits : (text bytes : List ℕ) → decode_of text ≡ Ok bytes → AreBytes bytes
decode_fits text bytes e = by (length text % 2 == 1) e
  where
    by : (odd : Bool) → cond odd (refused OddLength) (decode_pairs 0 text) ≡ Ok bytes → AreBytes bytes
    by true g = absurd (not_decoded OddLength bytes g)
    by false g = pairs_fit 0 text bytes g

bytes_fit : (r : Decoded (List ℕ)) (bytes : List ℕ) → bytes_by r ≡ Some bytes → r ≡ Ok bytes
bytes_fit (Ok x) bytes e = let same : x ≡ bytes = some_is x bytes e in λ i. Ok (same i)
bytes_fit (Err d) bytes e = absurd (not_none bytes e)

pub frame_fits : (text bytes : List ℕ) → spelled_frame text ≡ Some bytes → AreBytes bytes
unfolding spelled_frame
frame_fits text bytes e = decode_fits text bytes (bytes_fit (decode_of text) bytes e)
