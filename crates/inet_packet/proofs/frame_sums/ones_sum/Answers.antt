use Rattle.std.proofs.Common.{arith}
use Rattle.inet_packet.proofs.SumLaws.{folded}
use Rattle.inet_packet.proofs.frame_sums.ones_sum.Goals as goal

pub returns-then-sum-eq0 : goal.returns-then-sum-eq0
returns-then-sum-eq0 c =
    let f = folded c.args.bytes.now (λ i. omega (arith, c.type_inv.bytes i)) in
    omega (arith, f.same)

pub returns : goal.returns
returns c =
    let f = folded c.args.bytes.now (λ i. omega (arith, c.type_inv.bytes i)) in
    omega (arith, f.same, f.max, f.some (omega arith))
