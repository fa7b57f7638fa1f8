-- What an expression means, with negation pushed inwards to its comparisons: truth, cubes and width are such meanings.
use Rattle.std.specs.Prelude.{ℕ, Bool, true, false, not, if◌then◌else◌, List, [], ◌∷◌, map}
use Rattle.std.specs.List.{list_all}
use Rattle.inet_packet.specs.declared.cube.Bits.{Bits}
use Rattle.match_language.specs.declared.expr.Expr.{Expr, Expr-F, fold-Expr}
use Rattle.match_language.specs.declared.expr.Rel.{Rel}
use Rattle.match_language.specs.declared.expr.Rel.TheVariants as r
use Rattle.match_language.specs.declared.expr.Value.{Value}
use Rattle.match_language.specs.declared.expr.Value.TheVariants as v
use Rattle.match_language.specs.declared.field.Field.{Field}
use Rattle.match_language.specs.declared.field.Field.TheVariants as f
use Rattle.match_language.specs.declared.field.Predicate.{Predicate}
use Rattle.match_language.specs.declared.field.Predicate.TheVariants as p

-- what constants and comparisons mean, and what terms mean that `&&` joins and that `||` joins
pub record Meaning (X : Type 0) : Type 0 where
  pub constant : Bool → X
  pub compare : Field → Rel → List Value → X
  pub every : List X → X
  pub either : List X → X

-- the truth, or its opposite where it is negated
abbrev pub turn : Bool → Bool → Bool
turn true b = b
turn false b = not b

-- the relation that holds where the other does not
abbrev pub opposite : Rel → Rel
opposite r.Eq = r.Ne
opposite r.Ne = r.Eq
opposite r.Lt = r.Ge
opposite r.Le = r.Gt
opposite r.Gt = r.Le
opposite r.Ge = r.Lt

-- the relation, or its opposite where the comparison is negated
abbrev pub turned_rel : Bool → Rel → Rel
turned_rel true r = r
turned_rel false r = opposite r

-- the value in the bits of the mask
abbrev pub is : ℕ → ℕ → Bits
is n m = record { value = n; mask = m }

-- the fields that a predicate asks for, each with its value
abbrev pub tests : Predicate → List (Field × Bits)
tests p.Ip4 = (f.EthType, is 0x800 0xffff) ∷ []
tests p.Ip6 = (f.EthType, is 0x86dd 0xffff) ∷ []
tests p.Arp = (f.EthType, is 0x806 0xffff) ∷ []
tests p.Ip = (f.EthType, is 0x800 0xffff) ∷ (f.EthType, is 0x86dd 0xffff) ∷ []
tests p.Tcp = (f.EthType, is 0x800 0xffff) ∷ (f.IpProto, is 6 0xff) ∷ []
tests p.Udp = (f.EthType, is 0x800 0xffff) ∷ (f.IpProto, is 17 0xff) ∷ []
tests p.Icmp4 = (f.EthType, is 0x800 0xffff) ∷ (f.IpProto, is 1 0xff) ∷ []
tests p.EthBcast = (f.EthDst, is 0xffff_ffff_ffff 0xffff_ffff_ffff) ∷ []
tests p.EthMcast = (f.EthDst, is 0x100_0000_0000 0x100_0000_0000) ∷ []
tests p.Ip4Mcast = (f.EthType, is 0x800 0xffff) ∷ (f.Ip4Dst, is 0xe000_0000 0xf000_0000) ∷ []

-- whether it asks for all of them; else for one of them
abbrev pub asks_all : Predicate → Bool
asks_all p.Ip = false
asks_all _ = true

module _ {X : Type 0} (m : Meaning X) where
  -- terms that `&&` joins, or `||`
  abbrev pub joins : Bool → List X → X
  joins true xs = m.every xs
  joins false xs = m.either xs

  -- a test, or its negation
  abbrev pub tested : Bool → Field × Bits → X
  tested positive t = m.compare t.0 (if positive then r.Eq else r.Ne) (v.Number t.1.value t.1.mask ∷ [])

  -- a predicate by its definition, or its negation
  abbrev pub predicate : Predicate → Bool → X
  predicate p positive = joins (turn positive (asks_all p)) (map (tested positive) (tests p))

  -- one layer of an expression, above what its parts mean as they stand and negated; where terms that `&&` joins are negated,
  -- `||` joins their negations
  abbrev pub layer : Expr-F (Bool → X) → Bool → X
  layer (Expr-F.Const b) positive = m.constant (turn positive b)
  layer (Expr-F.Is p) positive = predicate p positive
  layer (Expr-F.Not x) positive = x (not positive)
  layer (Expr-F.All xs) positive = joins (turn positive true) (map (λ x. x positive) xs)
  layer (Expr-F.Any xs) positive = joins (turn positive false) (map (λ x. x positive) xs)
  layer (Expr-F.Compare f r vs) positive = m.compare f (turned_rel positive r) vs

  -- what the expression means, or its negation
  unfoldable pub meaning : Expr → Bool → X
  meaning = fold-Expr (Bool → X) layer

-- each comparison meets the condition
abbrev pub each_compare : (Field → Rel → List Value → Bool) → Meaning Bool
each_compare ok = record { constant = λ b. true; compare = ok; every = list_all (λ b. b); either = list_all (λ b. b) }

unfoldable pub are_all : (Field → Rel → List Value → Bool) → Expr → Bool → Bool
are_all ok = meaning (each_compare ok)
