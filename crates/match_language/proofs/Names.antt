-- Which runs of bytes are names.
use Rattle.std.specs.Prelude.{◌≡◌, ◌+◌, ℕ, suc, Bool, true, false, ◌&&◌, nat_le, cond, List, [], ◌∷◌, take}
use Rattle.std.specs.List.{prefix_len, list_all}
use Rattle.std.specs.Cmp.{first_so, second_so}
use Rattle.std.proofs.Common.{refl, ap, ◌∙◌, arith}
use Rattle.std.proofs.lemmas.Bool.{leb-true, le-leb}
use Rattle.std.proofs.lemmas.List.Sums.{AllPass-from_list_all}
use Rattle.std.proofs.lemmas.List.Folds.{length-prefix_len}
use Rattle.ovn_base.specs.names.NameText.{IsName, name_byte}
use Rattle.match_language.specs.Tokens.{name_len, is_name_len}

prefix_step : (p : ℕ → Bool) (x : ℕ) (xs : List ℕ) (b : Bool) → p x ≡ b → list_all p (take (prefix_len p xs) xs) ≡ true → list_all p (take (cond b (1 + prefix_len p xs) 0) (x ∷ xs)) ≡ true
prefix_step p x xs false e h = refl
prefix_step p x xs true e h =
    let n : 1 + prefix_len p xs ≡ suc (prefix_len p xs) = omega arith in
    ap (λ (k : ℕ). list_all p (take k (x ∷ xs))) n ∙ ap (λ (b : Bool). b && list_all p (take (prefix_len p xs) xs)) e ∙ h

-- the bytes that a prefix counts pass its test
pub prefix_passes : (p : ℕ → Bool) (xs : List ℕ) → list_all p (take (prefix_len p xs) xs) ≡ true
prefix_passes p [] = refl
prefix_passes p (x ∷ xs) = prefix_step p x xs (p x) refl (prefix_passes p xs)

-- a run of 1 to 64 bytes of names is a name
pub name_is : (text : List ℕ) → is_name_len (name_len text) ≡ true → IsName (take (name_len text) text)
name_is text h =
    let len = length-prefix_len name_byte text in
    let above = leb-true 1 (name_len text) (first_so (nat_le 1 (name_len text)) (nat_le (name_len text) 64) h) in
    let below = leb-true (name_len text) 64 (second_so (nat_le 1 (name_len text)) (nat_le (name_len text) 64) h) in
    record {
      some = omega (arith, len, above);
      few = omega (arith, len, below);
      bytes = AllPass-from_list_all name_byte (take (name_len text) text) (prefix_passes name_byte text);
    }

-- and only such a one
pub name_has : (text : List ℕ) → IsName (take (name_len text) text) → is_name_len (name_len text) ≡ true
name_has text h =
    let len = length-prefix_len name_byte text in
    let above : nat_le 1 (name_len text) ≡ true = le-leb 1 (name_len text) (omega (arith, len, h.some)) in
    let below : nat_le (name_len text) 64 ≡ true = le-leb (name_len text) 64 (omega (arith, len, h.few)) in
    ap (λ (b : Bool). b && nat_le (name_len text) 64) above ∙ below
