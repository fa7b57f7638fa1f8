-- Keys that are given where nobody goes.
use Rattle.std.specs.Prelude.{List, []}
use Rattle.std.proofs.Common.{subst}
use Rattle.tunnel_keys.specs.Edits.{GivesKeys, GivesKeysAfter}
use Rattle.tunnel_keys.specs.Keys.{Keys}
use Rattle.tunnel_keys.specs.declared.owner.KeyOwner.{KeyOwner}
use Rattle.tunnel_keys.proofs.Room.{retire_none}

-- where nobody is removed, keys are given beside those that are there
pub given_beside : (keys : Keys) (added : List KeyOwner) (after : Keys) → GivesKeys keys added [] after → GivesKeysAfter keys added after
given_beside keys added after gives = subst (λ k. GivesKeysAfter k added after) (retire_none keys) gives
