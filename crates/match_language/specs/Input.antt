-- A place in a text, and the tokens from it on.
use Rattle.std.specs.Prelude.{ℕ, ◌+◌, ◌-◌, List, length, take, drop, refl}
use Rattle.std.specs.Coded.{Coded, code_by, coded×, coded_ℕ, coded_list}
use Rattle.std.specs.List.{prefix_len}
use Rattle.match_language.specs.declared.token.Token.{Token}
use Rattle.match_language.specs.Tokens.{is_token_blank, first_token}

-- the text from a token on, and its place in the whole text
pub record Input : Type 0 where
  pub place : ℕ
  pub text : List ℕ

abbrev pub input_code : Coded Input
input_code = code_by (ℕ × List ℕ) (coded× coded_ℕ (coded_list coded_ℕ)) (λ i. (i.place, i.text)) (λ p. record { place = p.0; text = p.1 }) (λ _. refl)

abbrev pub blanks : List ℕ → ℕ
blanks = prefix_len is_token_blank

-- behind the blanks
unfoldable pub skip : ℕ → List ℕ → Input
skip place text = record { place = place + blanks text; text = drop (blanks text) text }

-- the token there
unfoldable pub token : Input → Token
token i = (first_token i.text).0

-- behind the token, and the blanks after it
unfoldable pub next : Input → Input
next i = skip (i.place + (first_token i.text).1) (drop (first_token i.text).1 i.text)

-- the bytes between the quotes of a string that stands there
unfoldable pub quoted : Input → List ℕ
quoted i = take ((first_token i.text).1 - 2) (drop 1 i.text)

-- how many bytes there are from the token on
abbrev pub left : Input → ℕ
left i = length i.text
