-- Membership in a list, as a witness.
use Rattle.std.specs.Prelude.{List, ◌∷◌}

-- x is one of the list
pub data Among {X : Type 0} (x : X) : List X → Type 0 where
  here : {xs : List X} → Among x (x ∷ xs)
  there : {y : X} {xs : List X} → Among x xs → Among x (y ∷ xs)
