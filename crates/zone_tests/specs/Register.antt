-- What a register knows of its homes, and the changes that it takes.
use Rattle.std.specs.Prelude.{◌≤◌, ◌+◌, ◌*◌, ℕ, Bool, true, false, not, List, [], ◌∷◌, Option, length}
use Rattle.ovn_base.specs.declared.name.Name.{Name}
use Rattle.ovn_base.specs.names.SameName.{same_name}
use Rattle.conn_zones.specs.Zoning.{KnownHomes}

-- the ports, and twice the gateway routers, that are at home somewhere are no more than this
pub record IsRegister (homes : KnownHomes) (most : ℕ) : Type 0 where
  pub few : length homes.ports + 2 * length homes.routers ≤ most

-- at most two are named, and they differ
abbrev pub are_few : List (Name × Option Name) → Bool
are_few [] = true
are_few (e ∷ []) = true
are_few (e ∷ f ∷ []) = not (same_name e.0 f.0)
are_few (e ∷ f ∷ g ∷ rest) = false
