-- The text of an expression.
use Rattle.std.specs.Prelude.{ℕ, zero, suc, Bool, true, false, ◌&&◌, if◌then◌else◌, ◌==◌, nat_le, List, [], ◌∷◌, ◌++◌, map, Option, Some, None, codes}
use Rattle.std.specs.Fmt.{decimal}
use Rattle.ovn_base.specs.addresses.EtherAddress.{mac_of}
use Rattle.ovn_base.specs.addresses.AddressText.{mac_text, ip4_text}
use Rattle.match_language.specs.declared.expr.Expr.{Expr, Expr-F, fold-Expr}
use Rattle.match_language.specs.declared.expr.Value.{Value}
use Rattle.match_language.specs.declared.expr.Value.TheVariants as v
use Rattle.match_language.specs.declared.expr.Rel.{Rel}
use Rattle.match_language.specs.declared.field.Field.{Field}
use Rattle.match_language.specs.Tables.{field_name, field_bits, field_max, predicate_name}
use Rattle.match_language.specs.Relations.{rel_text}
use Rattle.match_language.specs.Constants.{prefix_mask}

-- ---- lists

-- the operator before each text
abbrev pub rest_text : List ℕ → List (List ℕ) → List ℕ
rest_text op [] = []
rest_text op (x ∷ xs) = op ++ (x ++ rest_text op xs)

-- the texts, with the operator between them
abbrev pub joined_text : List ℕ → List (List ℕ) → List ℕ
joined_text op [] = []
joined_text op (x ∷ xs) = x ++ rest_text op xs

-- ---- values

-- a number of the field: as an IPv4 address for 32 bits, as an Ethernet address for 48; in decimal for other fields, and where
-- the number is wider than the address
unfoldable pub number_text : Field → ℕ → List ℕ
number_text f n =
    if field_bits f == 32 && nat_le n 0xffff_ffff then ip4_text (record { 0 = n })
    else (if field_bits f == 48 && nat_le n 0xffff_ffff_ffff then mac_text (mac_of n) else decimal n)

-- the length below n of the prefix with this mask
unfoldable pub prefix_below : ℕ → ℕ → Option ℕ
prefix_below zero m = None
prefix_below (suc n) m = if prefix_mask n == m then Some n else prefix_below n m

abbrev pub dotted_mask_text : Field → Option ℕ → ℕ → List ℕ
dotted_mask_text f (Some len) m = decimal len
dotted_mask_text f None m = number_text f m

-- the mask: nothing where it is all of the field's bits, and a length where it is a shorter prefix of 32 bits
unfoldable pub mask_text : Field → ℕ → List ℕ
mask_text f m =
    if m == field_max f then []
    else (47 ∷ (if field_bits f == 32 then dotted_mask_text f (prefix_below 32 m) m else number_text f m))

-- one value of the field
unfoldable pub value_text : Field → Value → List ℕ
value_text f (v.Number n m) = number_text f n ++ mask_text f m
value_text f (v.Port name) = 34 ∷ (name ++ (34 ∷ []))
value_text f (v.Set name) = 36 ∷ name
value_text f (v.Group name) = 64 ∷ name

-- one value alone, several in braces
unfoldable pub values_text : Field → List Value → List ℕ
values_text f [] = codes "{}"
values_text f (x ∷ []) = value_text f x
values_text f (x ∷ y ∷ xs) = 123 ∷ (joined_text (codes ", ") (map (value_text f) (x ∷ y ∷ xs)) ++ (125 ∷ []))

-- the field, the relation and the values, with a space between
abbrev pub comparison_text : Field → Rel → List Value → List ℕ
comparison_text f r xs = field_name f ++ (32 ∷ (rel_text r ++ (32 ∷ values_text f xs)))

-- ---- expressions

-- a text, and whether an operator joins it
pub record Text : Type 0 where
  pub bare : List ℕ
  pub is_joined : Bool

-- within another expression a joined one stands in parentheses
abbrev pub inner : Text → List ℕ
inner x = if x.is_joined then 40 ∷ (x.bare ++ (41 ∷ [])) else x.bare

abbrev pub whole : List ℕ → Text
whole text = record { bare = text; is_joined = false }

abbrev pub joined : List ℕ → List Text → Text
joined op xs = record { bare = joined_text op (map inner xs); is_joined = true }

abbrev pub bit_text : Bool → List ℕ
bit_text false = codes "0"
bit_text true = codes "1"

-- one step of the text, above those of the parts
abbrev pub step : Expr-F Text → Text
step (Expr-F.Const b) = whole (bit_text b)
step (Expr-F.Is p) = whole (predicate_name p)
step (Expr-F.Not x) = whole (33 ∷ inner x)
step (Expr-F.All xs) = joined (codes " && ") xs
step (Expr-F.Any xs) = joined (codes " || ") xs
step (Expr-F.Compare f r xs) = whole (comparison_text f r xs)

unfoldable pub text_of : Expr → Text
text_of = fold-Expr Text step

-- the expression's text alone
unfoldable pub spelling : Expr → List ℕ
spelling x = (text_of x).bare

abbrev pub is_joined : Expr → Bool
is_joined x = (text_of x).is_joined

-- the expression's text within another
unfoldable pub inner_spelling : Expr → List ℕ
inner_spelling x = inner (text_of x)
