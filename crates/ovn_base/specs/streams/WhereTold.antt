-- A fact on what a source or a sink tells of its bytes.
use Rattle.std.specs.Prelude.{Option, Some, None}

-- what was told before is still told, and the two values have P; where nothing was told before, nothing is said
abbrev pub WhereTold : {X : Type 0} → Option X → Option X → (X → X → Type 0) → Type 0
WhereTold None new P = Unit {0}
WhereTold (Some x) None P = ⊥
WhereTold (Some x) (Some y) P = P x y
