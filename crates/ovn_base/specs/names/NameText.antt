-- Which texts are names.
use Rattle.std.specs.Prelude.{◌≤◌, ◌||◌, ◌&&◌, if◌then◌else◌, nat_le, ℕ, Bool, List, length, Option, Some, None}
use Rattle.std.specs.Char.{is_ascii_alphanumeric}
use Rattle.std.specs.List.{AllPass, list_all}
use Rattle.std.proofs.Math.Dec.{eqb as nat_eq}

-- a letter, a digit, or one of _ . : -
abbrev pub name_byte : ℕ → Bool
name_byte b = is_ascii_alphanumeric b || nat_eq b 95 || nat_eq b 46 || nat_eq b 58 || nat_eq b 45

-- 1 to 64 such bytes
pub record IsName (text : List ℕ) : Type 0 where
  pub some : 1 ≤ length text
  pub few : length text ≤ 64
  pub bytes : AllPass name_byte text

-- that test as a boolean
abbrev pub is_name : List ℕ → Bool
is_name text = nat_le 1 (length text) && nat_le (length text) 64 && list_all name_byte text

-- the name that the text is, if it is one
unfoldable pub spelled_name : List ℕ → Option (List ℕ)
spelled_name text = if is_name text then Some text else None
