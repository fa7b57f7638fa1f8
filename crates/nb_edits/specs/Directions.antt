-- Matches that name the port of exit, which only rules on what leaves by ports can do.
use Rattle.std.specs.Prelude.{◌&&◌, Bool, true, false}
use Rattle.std.specs.List.{list_any}
use Rattle.match_language.specs.declared.expr.Expr.{Expr, Expr-F, fold-Expr}
use Rattle.match_language.specs.declared.field.Direction.{Direction}
use Rattle.match_language.specs.declared.field.Direction.TheVariants as way
use Rattle.match_language.specs.declared.field.Field.{Field}
use Rattle.match_language.specs.declared.field.Field.TheVariants as field

abbrev pub is_outport : Field → Bool
is_outport field.Outport = true
is_outport _ = false

-- one layer of a match, above what its parts name
abbrev pub layer_outport : Expr-F Bool → Bool
layer_outport (Expr-F.Const b) = false
layer_outport (Expr-F.Is p) = false
layer_outport (Expr-F.Not x) = x
layer_outport (Expr-F.All xs) = list_any (λ x. x) xs
layer_outport (Expr-F.Any xs) = list_any (λ x. x) xs
layer_outport (Expr-F.Compare f r vs) = is_outport f

-- the match names the port of exit
unfoldable pub names_outport : Expr → Bool
names_outport = fold-Expr Bool layer_outport

abbrev pub is_from : Direction → Bool
is_from way.FromLport = true
is_from way.ToLport = false

-- a rule of the direction can't have the match
abbrev pub misdirects : Direction → Expr → Bool
misdirects direction matching = is_from direction && names_outport matching
