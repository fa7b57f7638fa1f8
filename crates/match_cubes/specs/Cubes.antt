-- The cubes of a match.
use Rattle.std.specs.Prelude.{ℕ, Bool, true, false, List, [], ◌∷◌, map, flat_map, Option, Some, None, option_to_list}
use Rattle.inet_packet.specs.declared.cube.Bits.{Bits}
use Rattle.inet_packet.specs.declared.cube.Cube.{Cube}
use Rattle.match_language.specs.declared.expr.Expr.{Expr}
use Rattle.match_language.specs.declared.expr.Rel.{Rel}
use Rattle.match_language.specs.declared.expr.Rel.TheVariants as r
use Rattle.match_language.specs.declared.expr.Value.{Value}
use Rattle.match_language.specs.declared.expr.Value.TheVariants as v
use Rattle.match_language.specs.declared.field.Field.{Field}
use Rattle.match_language.specs.Tables.{prerequisite}
use Rattle.match_cubes.specs.Ternary.{any_bits, turned_bits, meet_bits, meets}
use Rattle.match_cubes.specs.Prefixes.{prefixes}
use Rattle.match_cubes.specs.Asked.{bit_width, all_packets, ask, meet}
use Rattle.match_cubes.specs.Inwards.{Meaning, meaning}
use Rattle.match_cubes.specs.Points.{Setting, points}
use Rattle.match_cubes.specs.Holds.{needs}

-- what is other than the value: one bit of it is turned; all is other than a port that is not live or an address of the other
-- kind
abbrev pub other : ℕ → Option Bits → List Bits
other w (Some b) = turned_bits w b
other w None = any_bits ∷ []

-- what is in these and is none of the values: the meets of one of each
unfoldable pub unlike : ℕ → List Bits → List (Option Bits) → List Bits
unlike w so_far [] = so_far
unlike w so_far (p ∷ ps) = unlike w (meets meet_bits so_far (other w p)) ps

-- the prefixes of what is less or greater than the one value
abbrev pub ordered : ℕ → Rel → List Value → List Bits
ordered w rel (v.Number bound m ∷ []) = prefixes w rel bound
ordered w rel vs = []

-- the values under masks that stand in the relation
unfoldable pub alternatives : Setting → Field → Rel → List Value → List Bits
alternatives s f r.Eq vs = flat_map option_to_list (points s f vs)
alternatives s f r.Ne vs = unlike (bit_width f) (any_bits ∷ []) (points s f vs)
alternatives s f rel vs = ordered (bit_width f) rel vs

-- the same cube, which asks for each of these too
abbrev pub ask_all : Cube → List (Field × Bits) → Cube
ask_all c [] = c
ask_all c (t ∷ ts) = ask_all (ask t.0 t.1 c) ts

-- the cube that asks for the prerequisite, and this of the field
unfoldable pub comparing : Field → Bits → Cube
comparing f b = ask f b (ask_all all_packets (needs (prerequisite f)))

-- the meets of these with one cube of each list
unfoldable pub meets_with : List Cube → List (List Cube) → List Cube
meets_with so_far [] = so_far
meets_with so_far (cs ∷ css) = meets_with (meets meet so_far cs) css

-- the cubes of each list
unfoldable pub all_cubes : List (List Cube) → List Cube
all_cubes css = flat_map (λ cs. cs) css

-- the cube of all packets, or none
abbrev pub constant_cubes : Bool → List Cube
constant_cubes true = all_packets ∷ []
constant_cubes false = []

abbrev pub as_cubes : Setting → Meaning (List Cube)
as_cubes s = record {
  constant = constant_cubes;
  compare = λ f rel vs. map (comparing f) (alternatives s f rel vs);
  every = meets_with (all_packets ∷ []);
  either = all_cubes;
}

-- the cubes of the match, or of its negation
unfoldable pub cubes_in : Setting → Expr → Bool → List Cube
cubes_in s e positive = meaning (as_cubes s) e positive

-- the cubes of the match
abbrev pub cubes_of : Setting → Expr → List Cube
cubes_of s e = cubes_in s e true
