-- Lists in an order.
use Rattle.std.specs.Prelude.{List, [], ◌∷◌}
use Rattle.ovn_base.specs.lists.Among.{Among}

-- the relation holds of each element and each that stands behind it
abbrev pub IsRanked : {X : Type 0} → (X → X → Type 0) → List X → Type 0
IsRanked R [] = Unit {0}
IsRanked {X} R (x ∷ xs) = ((y : X) → Among y xs → R x y) × IsRanked R xs
