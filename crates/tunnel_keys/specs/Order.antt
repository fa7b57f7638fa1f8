-- Keys in the order of the identities that have or had them.
use Rattle.std.specs.Prelude.{◌↔◌, List, map}
use Rattle.std.specs.declared.cmp.Ordering.{Ordering}
use Rattle.std.specs.Cmp.Lexicographic.{slice_cmp}
use Rattle.std.specs.List.Sorted.{IsStrictlySortedBy}
use Rattle.std.specs.Ordering.{nat_cmp, on, then_cmp}
use Rattle.ovn_base.specs.lists.Among.{Among}
use Rattle.tunnel_keys.specs.declared.owner.Identity.{Identity}

-- names by their bytes, and records of one name by their births
abbrev pub identity_cmp : Identity → Identity → Ordering
identity_cmp = then_cmp (on (λ i. i.name) (slice_cmp nat_cmp)) (on (λ i. i.birth.0) nat_cmp)

-- the identities ascend, so that each stands once
abbrev pub IsByIdentity : {X : Type 0} → (X → Identity) → List X → Type 0
IsByIdentity owner xs = IsStrictlySortedBy identity_cmp (map owner xs)

-- the same keys, in order of identity
pub record IsInOrder {X : Type 0} (owner : X → Identity) (xs ordered : List X) : Type 0 where
  pub order : IsByIdentity owner ordered
  pub same : (x : X) → Among x ordered ↔ Among x xs
