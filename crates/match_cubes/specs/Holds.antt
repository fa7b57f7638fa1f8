-- When a match holds of a packet with its registers.
use Rattle.std.specs.Prelude.{ℕ, Bool, true, false, not, ◌&&◌, List, [], ◌∷◌, Option, Some, None}
use Rattle.std.specs.List.{list_all, list_any}
use Rattle.inet_packet.specs.declared.cube.Bits.{Bits}
use Rattle.inet_packet.specs.declared.packet.Packet.{Packet}
use Rattle.inet_packet.specs.declared.regs.Regs.{Regs}
use Rattle.match_language.specs.declared.expr.Expr.{Expr}
use Rattle.match_language.specs.declared.expr.Rel.{Rel}
use Rattle.match_language.specs.declared.expr.Rel.TheVariants as r
use Rattle.match_language.specs.declared.expr.Value.{Value}
use Rattle.match_language.specs.declared.expr.Value.TheVariants as v
use Rattle.match_language.specs.declared.field.Field.{Field}
use Rattle.match_language.specs.declared.field.Predicate.{Predicate}
use Rattle.match_language.specs.Tables.{prerequisite}
use Rattle.match_cubes.specs.Ternary.{fits}
use Rattle.match_cubes.specs.Prefixes.{relates}
use Rattle.match_cubes.specs.Asked.{number_in}
use Rattle.match_cubes.specs.Inwards.{Meaning, meaning, tests}
use Rattle.match_cubes.specs.Points.{Setting, points}

-- the number is the value; a port that is not live and an address of the other kind equal no number
abbrev pub equals : ℕ → Option Bits → Bool
equals n (Some b) = fits b n
equals n None = false

-- less or greater than the one value
abbrev pub is_ordered : Rel → List Value → ℕ → Bool
is_ordered rel (v.Number bound m ∷ []) n = relates rel n bound
is_ordered rel vs n = false

-- the number stands in the relation to the values: equal to one of them, to none, or less or greater than the one
unfoldable pub stands_in : Setting → Field → Rel → List Value → ℕ → Bool
stands_in s f r.Eq vs n = list_any (equals n) (points s f vs)
stands_in s f r.Ne vs n = not (list_any (equals n) (points s f vs))
stands_in s f rel vs n = is_ordered rel vs n

-- what the prerequisite asks for
abbrev pub needs : Option Predicate → List (Field × Bits)
needs None = []
needs (Some p) = tests p

-- the prerequisite holds
abbrev pub has_needs : Field → Regs → Packet → Bool
has_needs f regs packet = list_all (λ t. fits t.1 (number_in t.0 regs packet)) (needs (prerequisite f))

abbrev pub all_true : List Bool → Bool
all_true = list_all (λ b. b)

abbrev pub one_true : List Bool → Bool
one_true = list_any (λ b. b)

-- a comparison is true where its prerequisite holds and its relation does
abbrev pub truth : Setting → Regs → Packet → Meaning Bool
truth s regs packet = record {
  constant = λ b. b;
  compare = λ f rel vs. has_needs f regs packet && stands_in s f rel vs (number_in f regs packet);
  every = all_true;
  either = one_true;
}

-- the match holds of the packet with its registers
abbrev pub holds : Setting → Expr → Regs → Packet → Bool
holds s e regs packet = meaning (truth s regs packet) e true
