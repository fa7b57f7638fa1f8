use Rattle.std.proofs.Common.{◌≡◌, drop}
use Rattle.nb_rules.specs.Claims as spec
use Rattle.nb_rules.proofs.claims.mixed_all.Given as goal

-- those that are left tell it
abbrev pub invariant-bytes : goal.invariant-bytes
invariant-bytes l = spec.mixed_all l.mark (drop l.byte-index l.bytes) ≡ spec.mixed_all l.fn.number l.bytes
