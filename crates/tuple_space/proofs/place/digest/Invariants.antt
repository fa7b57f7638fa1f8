use Rattle.std.proofs.Common.{◌≡◌, drop}
use Rattle.tuple_space.specs.Digests.{digest_from}
use Rattle.tuple_space.proofs.place.digest.Given as goal

-- the numbers that are left give the digest of all
abbrev pub invariant-loop-number : goal.invariant-loop-number
invariant-loop-number l = digest_from l.digest (drop l.number-index l.numbers) ≡ digest_from 0 l.numbers
