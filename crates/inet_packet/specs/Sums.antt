-- The one's complement sum over words of 16 bits (RFC 1071).
use Rattle.std.specs.Prelude.{ℕ, ◌+◌, ◌*◌, ◌/◌, ◌%◌, List, [], ◌∷◌}

-- bytes in pairs, the first the high one; a last byte alone is a high one
unfoldable pub words : List ℕ → List ℕ
words [] = []
words (a ∷ []) = (a * 256) ∷ []
words (a ∷ b ∷ rest) = (a * 256 + b) ∷ words rest

-- two words added, the carry brought round
abbrev pub add_words : ℕ → ℕ → ℕ
add_words m n = (m + n) % 65536 + (m + n) / 65536

-- all words added so
unfoldable pub ones_sum : List ℕ → ℕ
ones_sum [] = 0
ones_sum (w ∷ ws) = add_words w (ones_sum ws)

-- the same words added up as numbers
abbrev pub plain : List ℕ → ℕ
plain [] = 0
plain (a ∷ []) = a * 256
plain (a ∷ b ∷ rest) = a * 256 + b + plain rest
