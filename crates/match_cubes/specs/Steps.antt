-- The steps by which lists of cubes and widths are gathered.
use Rattle.std.specs.Prelude.{ℕ, ◌+◌, ◌*◌, Bool, true, false, List, [], ◌∷◌, ◌++◌, map, length, Option, Some, None, ◌==◌}
use Rattle.inet_packet.specs.declared.cube.Bits.{Bits}
use Rattle.inet_packet.specs.declared.cube.Cube.{Cube}
use Rattle.match_language.specs.declared.expr.Expr.{Expr}
use Rattle.match_language.specs.declared.field.Field.{Field}
use Rattle.match_language.specs.declared.field.Predicate.{Predicate}
use Rattle.match_language.specs.declared.field.Predicate.TheVariants as p
use Rattle.match_cubes.specs.Ternary.{any_bits, under, turned_bits, meet_bits, meets}
use Rattle.match_cubes.specs.Asked.{bit_width, meet}
use Rattle.match_cubes.specs.Inwards.{turn, tests, asks_all}
use Rattle.match_cubes.specs.Points.{Members, Setting}
use Rattle.match_cubes.specs.Cubes.{comparing, constant_cubes, cubes_in}
use Rattle.match_cubes.specs.Width.{product, total, width_in}

-- one list more, that `&&` joins or `||`
abbrev pub join_one : Bool → List Cube → List Cube → List Cube
join_one true so_far cs = meets meet so_far cs
join_one false so_far cs = so_far ++ cs

unfoldable pub join_from : Bool → List Cube → List (List Cube) → List Cube
join_from is_every so_far [] = so_far
join_from is_every so_far (cs ∷ css) = join_from is_every (join_one is_every so_far cs) css

-- the cubes of terms that `&&` joins or `||`
unfoldable pub joined_in : Setting → Bool → Bool → List Expr → List Cube
joined_in s is_every positive es = join_from is_every (constant_cubes is_every) (map (λ e. cubes_in s e positive) es)

-- the cubes of a test of a predicate, or of its negation
unfoldable pub test_in : Bool → Field × Bits → List Cube
test_in true t = comparing t.0 (under t.1.value t.1.mask) ∷ []
test_in false t = map (comparing t.0) (meets meet_bits (any_bits ∷ []) (turned_bits (bit_width t.0) (under t.1.value t.1.mask)))

-- the cubes of a predicate, or of its negation
unfoldable pub predicate_in : Predicate → Bool → List Cube
predicate_in p positive = join_from (turn positive (asks_all p)) (constant_cubes (turn positive (asks_all p))) (map (test_in positive) (tests p))

-- nothing is other than the value: it has no bit that counts
abbrev pub asks_nothing : Option Bits → Bool
asks_nothing (Some b) = b.mask == 0
asks_nothing None = false

-- so many values more, or so much wider by each
abbrev pub grown : Bool → ℕ → List ℕ → ℕ
grown true n ws = n + length ws
grown false n ws = n * product ws

-- how wide no value is: `==` counts values, `!=` multiplies their bits
abbrev pub first_count : Bool → ℕ
first_count true = 0
first_count false = 1

-- the width of a predicate
abbrev pub predicate_weight : Predicate → ℕ
predicate_weight p.Ip = 2
predicate_weight _ = 1

-- and that of its negation
abbrev pub negated_weight : Predicate → ℕ
negated_weight p.Ip4 = 16
negated_weight p.Ip6 = 16
negated_weight p.Arp = 16
negated_weight p.Ip = 256
negated_weight p.Tcp = 24
negated_weight p.Udp = 24
negated_weight p.Icmp4 = 24
negated_weight p.EthBcast = 48
negated_weight p.EthMcast = 1
negated_weight p.Ip4Mcast = 20

-- a width with that of each term more, which `&&` joins or `||`
abbrev pub widened : Bool → ℕ → List ℕ → ℕ
widened true n ws = n * product ws
widened false n ws = n + total ws

-- the width of nothing, which `&&` joins or `||`
abbrev pub first_width : Bool → ℕ
first_width true = 1
first_width false = 0

-- the width of terms that `&&` joins or `||`
unfoldable pub width_joined : Members → Bool → Bool → List Expr → ℕ
width_joined s is_every positive es = widened is_every (first_width is_every) (map (λ e. width_in s e positive) es)
