-- Lists without repeats.
use Rattle.std.specs.Prelude.{List, [], ◌∷◌}
use Rattle.ovn_base.specs.lists.Among.{Among}

-- the list has each of its elements once
abbrev pub EachOnce : {X : Type 0} → List X → Type 0
EachOnce [] = Unit {0}
EachOnce (x ∷ xs) = ¬ Among x xs × EachOnce xs
