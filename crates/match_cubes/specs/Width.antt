-- The width of a match.
use Rattle.std.specs.Prelude.{ℕ, ◌+◌, ◌-◌, ◌*◌, ◌^◌, min, Bool, true, if◌then◌else◌, ◌==◌, List, [], ◌∷◌, map, flat_map, length, count_ones}
use Rattle.match_language.specs.declared.expr.Expr.{Expr}
use Rattle.match_language.specs.declared.expr.Rel.{Rel}
use Rattle.match_language.specs.declared.expr.Rel.TheVariants as r
use Rattle.match_language.specs.declared.expr.Value.{Value}
use Rattle.match_language.specs.declared.expr.Value.TheVariants as v
use Rattle.match_language.specs.declared.field.Field.{Field}
use Rattle.match_language.specs.Constants.{prefix_mask}
use Rattle.ovn_base.specs.declared.address.SetEntry.{SetEntry}
use Rattle.ovn_base.specs.declared.address.SetEntry.TheVariants as entry
use Rattle.match_cubes.specs.Asked.{bit_width}
use Rattle.match_cubes.specs.Inwards.{Meaning, meaning}
use Rattle.match_cubes.specs.Points.{Members}
use Rattle.match_cubes.specs.Cubes.{ordered}

abbrev pub product : List ℕ → ℕ
product [] = 1
product (n ∷ ns) = n * product ns

abbrev pub total : List ℕ → ℕ
total [] = 0
total (n ∷ ns) = n + total ns

-- how many bits of the mask an entry has; 1 for an address of the other kind
abbrev pub entry_weight : Field → SetEntry → ℕ
entry_weight f (entry.Ip c) = if bit_width f == 32 then count_ones (prefix_mask c.len) else 1
entry_weight f (entry.Ether m) = if bit_width f == 48 then 48 else 1

-- how many bits of its mask each of the values has for which one value of the text stands; a port has 16
abbrev pub weights_of : Members → Field → Value → List ℕ
weights_of s f (v.Number n m) = count_ones m ∷ []
weights_of s f (v.Port text) = 16 ∷ []
weights_of s f (v.Set name) = map (entry_weight f) (s.entries name)
weights_of s f (v.Group name) = map (λ p. 16) (s.ports name)

unfoldable pub weights : Members → Field → List Value → List ℕ
weights s f vs = flat_map (weights_of s f) vs

-- `==` has the number of values, `!=` the product of their bits, an order relation the number of prefixes of its range
unfoldable pub compare_width : Members → Field → Rel → List Value → ℕ
compare_width s f r.Eq vs = length (weights s f vs)
compare_width s f r.Ne vs = product (weights s f vs)
compare_width s f rel vs = length (ordered (bit_width f) rel vs)

abbrev pub widths : Members → Meaning ℕ
widths s = record { constant = λ b. 1; compare = compare_width s; every = product; either = total }

-- the width of the match, or of its negation
unfoldable pub width_in : Members → Expr → Bool → ℕ
width_in s e positive = meaning (widths s) e positive

-- the width of the match
abbrev pub width_of : Members → Expr → ℕ
width_of s e = width_in s e true

-- the number, or the greatest of 128 bits where it is greater
abbrev pub saturated : ℕ → ℕ
saturated n = min n (2 ^ 128 - 1)
