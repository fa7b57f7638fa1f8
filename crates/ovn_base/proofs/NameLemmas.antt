-- Names are equal exactly where their bytes are.
use Rattle.std.specs.Prelude.{◌≡◌, ◌≢◌, ◌↔◌, ◌⊎◌, ℕ, List, Bool, true, false, IsTrue}
use Rattle.std.specs.List.{list_all}
use Rattle.std.specs.BTreeMap.{is_at}
use Rattle.std.specs.Cmp.Lexicographic.{pointwise, slice_cmp, texts_ties}
use Rattle.std.specs.Ordering.{nat_cmp}
use Rattle.std.proofs.Common.{arith, refl, ◌∙◌, sym, inl, inr}
use Rattle.std.proofs.lemmas.Bool.Decides.{nat_tests, same_from_decides}
use Rattle.std.proofs.Math.Dec.{eqb as nat_eq}
use mathlib.Core.Bool.{false≢true}
use Rattle.std.proofs.lemmas.List.Sums.{AllPass-from_list_all, list_all-from_AllPass}
use Rattle.ovn_base.specs.names.NameText.{IsName, is_name, name_byte}
use Rattle.ovn_base.specs.names.SameName.{bytes_decides}

-- names that test equal are one
pub same_bytes : (a b : List ℕ) → pointwise nat_eq a b ≡ true → a ≡ b
same_bytes a b h = (bytes_decides a b).0 h

-- a name tests equal to itself
pub equal_bytes : (a b : List ℕ) → a ≡ b → pointwise nat_eq a b ≡ true
equal_bytes a b e = (bytes_decides a b).1 e

-- names that test unequal are two
pub other_bytes : (a b : List ℕ) → pointwise nat_eq a b ≡ false → a ≢ b
other_bytes a b h e = false≢true (sym h ∙ equal_bytes a b e)

-- two names are one or two
pub name_cases : (a b : List ℕ) → (a ≡ b) ⊎ (a ≢ b)
name_cases a b = elim (pointwise nat_eq a b) as (λ r. pointwise nat_eq a b ≡ r → (a ≡ b) ⊎ (a ≢ b)) [ true ↦ λ h. inl (same_bytes a b h) | false ↦ λ h. inr (other_bytes a b h) ] refl

-- the order finds a name at no other
pub same_name : (a b : List ℕ) → is_at (slice_cmp nat_cmp a) b ≡ true → a ≡ b
same_name a b h = same_bytes a b (texts_ties a b ∙ h)

-- the order finds a name at itself
pub found_name : (a b : List ℕ) → a ≡ b → is_at (slice_cmp nat_cmp a) b ≡ true
found_name a b e = sym (texts_ties a b) ∙ equal_bytes a b e

-- the order finds no name at another
pub other_name : (a b : List ℕ) → is_at (slice_cmp nat_cmp a) b ≡ false → a ≢ b
other_name a b h e = false≢true (sym h ∙ found_name a b e)

name_passes : (text : List ℕ) → IsName text → is_name text ≡ true
name_passes text h =
    let bytes : list_all name_byte text ≡ true = list_all-from_AllPass name_byte text h.bytes in
    let some = h.some in
    let few = h.few in
    grind (arith, nat_tests)

passing_name : (text : List ℕ) → is_name text ≡ true → IsName text
passing_name text e =
    let bytes : list_all name_byte text ≡ true = grind (arith, nat_tests) in
    record {
      some = grind (arith, nat_tests);
      few = grind (arith, nat_tests);
      bytes = AllPass-from_list_all name_byte text bytes;
    }

-- what answers whether a text is a name answers as the test does
pub name_answer : (text : List ℕ) (b : Bool) → (IsTrue b ↔ IsName text) → b ≡ is_name text
name_answer text b h = same_from_decides b (is_name text) h (passing_name text, name_passes text)
