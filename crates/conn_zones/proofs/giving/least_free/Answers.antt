use Rattle.std.proofs.Common.{arith}
use Rattle.conn_zones.proofs.FreeLaws.{crowded}
use Rattle.conn_zones.proofs.giving.least_free.Goals as goal

pub unreachable-requires : goal.unreachable-requires
unreachable-requires c = crowded c.args.numbers.now (λ m from to. c.free.invariant m from (omega (arith, to, c.free-test.false)))
