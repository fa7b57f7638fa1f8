-- Tokens: which one stands at the front of a text, and how many bytes it has.
use Rattle.std.specs.Prelude.{ℕ, ◌+◌, Bool, true, false, not, ◌&&◌, ◌||◌, if◌then◌else◌, ◌==◌, nat_lt, nat_le, List, [], ◌∷◌, length, take, slice_index, Option, Some, None, codes}
use Rattle.std.specs.Str.{bytes_eq}
use Rattle.std.specs.Char.{is_ascii_digit, is_ascii_alphanumeric}
use Rattle.std.specs.List.{prefix_len, list_any}
use Rattle.ovn_base.specs.names.NameText.{name_byte}
use Rattle.match_language.specs.declared.expr.Rel.TheVariants.{Eq, Ne, Lt, Le, Gt, Ge}
use Rattle.match_language.specs.declared.field.Field.{Field}
use Rattle.match_language.specs.declared.field.Predicate.{Predicate}
use Rattle.match_language.specs.declared.token.Token.{Token}
use Rattle.match_language.specs.declared.token.Token.TheVariants as t
use Rattle.match_language.specs.Tables.{field_named, predicate_named}
use Rattle.match_language.specs.Constants.{decimal_value, dotted_value, ether_value, hex_value}

-- space, tab and line feed
abbrev pub is_token_blank : ℕ → Bool
is_token_blank b = b == 32 || b == 9 || b == 10

-- the bytes of words and constants: letters, digits, `_`, `.` and `:`
abbrev pub is_run : ℕ → Bool
is_run b = is_ascii_alphanumeric b || b == 95 || b == 46 || b == 58

-- ---- words and constants

abbrev pub hex_token : Option ℕ → Token
hex_token (Some n) = t.Hex n
hex_token None = t.BadConstant

abbrev pub ether_token : Option ℕ → List ℕ → Token
ether_token (Some n) word = t.Ether n
ether_token None word = hex_token (hex_value word)

abbrev pub dotted_token : Option ℕ → List ℕ → Token
dotted_token (Some n) word = t.Dotted n
dotted_token None word = ether_token (ether_value word) word

unfoldable pub address_token : List ℕ → Token
address_token word = dotted_token (dotted_value word) word

abbrev pub decimal_token : Option ℕ → List ℕ → Token
decimal_token (Some n) word = t.Number n
decimal_token None word = address_token word

-- `0` and `1` may be terms, so they are tokens of their own
unfoldable pub constant_token : List ℕ → Token
constant_token word =
    if bytes_eq word (codes "0") then t.Bit false
    else (if bytes_eq word (codes "1") then t.Bit true
    else decimal_token (decimal_value word) word)

-- a constant begins with a digit or has a colon
abbrev pub has_colon : List ℕ → Bool
has_colon word = list_any (λ c. c == 58) word

abbrev pub begins_with_digit : List ℕ → Bool
begins_with_digit word = is_ascii_digit (slice_index word 0)

abbrev pub is_constant : List ℕ → Bool
is_constant word = begins_with_digit word || has_colon word

abbrev pub predicate_token : Option Predicate → Token
predicate_token (Some p) = t.Predicate p
predicate_token None = t.Unknown

abbrev pub name_token : Option Field → Option Predicate → Token
name_token (Some f) p = t.Field f
name_token None p = predicate_token p

unfoldable pub word_token : List ℕ → Token
word_token word = if is_constant word then constant_token word else name_token (field_named word) (predicate_named word)

-- ---- other tokens

abbrev pub first_is : ℕ → List ℕ → Bool
first_is b [] = false
first_is b (c ∷ text) = c == b

-- one token where this byte follows, another where it doesn't
abbrev pub pair : List ℕ → ℕ → Token → Token → Token × ℕ
pair rest second both alone = if first_is second rest then (both, 2) else (alone, 1)

-- behind the opening quote, up to the next
abbrev pub quoted_len : List ℕ → ℕ
quoted_len = prefix_len (λ b. not (b == 34))

-- a string is closed by a quote, and may hold every other byte
unfoldable pub string_token : List ℕ → Token × ℕ
string_token rest = if nat_lt (quoted_len rest) (length rest) then (t.Text, quoted_len rest + 2) else (t.Bad, 1)

-- how many bytes of names stand at the front
abbrev pub name_len : List ℕ → ℕ
name_len = prefix_len name_byte

-- 1 to 64 bytes of a name
abbrev pub is_name_len : ℕ → Bool
is_name_len n = nat_le 1 n && nat_le n 64

unfoldable pub set_token : List ℕ → Token × ℕ
set_token rest = if is_name_len (name_len rest) then (t.Set (take (name_len rest) rest), name_len rest + 1) else (t.Bad, 1)

unfoldable pub group_token : List ℕ → Token × ℕ
group_token rest = if is_name_len (name_len rest) then (t.Group (take (name_len rest) rest), name_len rest + 1) else (t.Bad, 1)

-- the token that begins with this byte, behind which the rest stands
abbrev pub symbol : ℕ → List ℕ → Token × ℕ
symbol b rest =
    if b == 40 then (t.Open, 1) else (if b == 41 then (t.Close, 1)
    else (if b == 123 then (t.OpenBrace, 1) else (if b == 125 then (t.CloseBrace, 1)
    else (if b == 44 then (t.Comma, 1) else (if b == 47 then (t.Slash, 1)
    else (if b == 33 then pair rest 61 (t.Relation Ne) t.Bang
    else (if b == 38 then pair rest 38 t.And t.Bad
    else (if b == 124 then pair rest 124 t.Or t.Bad
    else (if b == 61 then pair rest 61 (t.Relation Eq) t.Bad
    else (if b == 60 then pair rest 61 (t.Relation Le) (t.Relation Lt)
    else (if b == 62 then pair rest 61 (t.Relation Ge) (t.Relation Gt)
    else (if b == 34 then string_token rest
    else (if b == 36 then set_token rest
    else (if b == 64 then group_token rest
    else (t.Bad, 1)))))))))))))))

-- how many bytes the longest run at the front has
abbrev pub run_len : List ℕ → ℕ
run_len = prefix_len is_run

-- The token at the front and its length. The end of the text is a token of no length, and a byte at which none begins is a
-- token of one byte.
unfoldable pub first_token : List ℕ → Token × ℕ
first_token [] = (t.End, 0)
first_token (b ∷ rest) = if is_run b then (word_token (take (run_len (b ∷ rest)) (b ∷ rest)), run_len (b ∷ rest)) else symbol b rest
