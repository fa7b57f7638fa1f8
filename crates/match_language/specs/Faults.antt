-- Faults and their places.
use Rattle.std.specs.Prelude.{◌≡◌, ℕ, Result, Ok, Err}
use Rattle.match_language.specs.declared.expr.Expr.{Expr}
use Rattle.match_language.specs.declared.fault.MatchFault.{MatchFault}
use Rattle.match_language.specs.declared.fault.MatchFault.TheVariants as fault
use Rattle.match_language.specs.declared.fault.ParseFault.{ParseFault}
use Rattle.match_language.specs.declared.fault.ParseFault.TheVariants as pf

-- the byte at which the token begins that shows the fault
abbrev pub place_of : MatchFault → ℕ
place_of (fault.Token n) = n
place_of (fault.Syntax n) = n
place_of (fault.UnknownField n) = n
place_of (fault.BadConstant n) = n
place_of (fault.MixedAndOr n) = n
place_of (fault.TooDeep n) = n

-- a fact of the fault, where the text has one
abbrev pub IfBad : Result Expr ParseFault → (MatchFault → Type 0) → Type 0
IfBad (Ok x) P = Unit {0}
IfBad (Err pf.Memory) P = Unit {0}
IfBad (Err (pf.Bad f)) P = P f

-- the expression or the fault is the result, unless memory ran out
abbrev pub GivesExpr : Result Expr ParseFault → Result Expr MatchFault → Type 0
GivesExpr (Ok x) wanted = wanted ≡ Ok x
GivesExpr (Err pf.Memory) wanted = Unit {0}
GivesExpr (Err (pf.Bad f)) wanted = wanted ≡ Err f
