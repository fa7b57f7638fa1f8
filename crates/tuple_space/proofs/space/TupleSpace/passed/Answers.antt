use Rattle.std.proofs.lemmas.Nat.Bits.{bit_at_ones}
use Rattle.tuple_space.proofs.space.TupleSpace.passed.Goals as goal

pub returns-then-masks-le-FEW : goal.returns-then-masks-le-FEW
returns-then-masks-le-FEW c = λ bit l h. bit_at_ones 128 bit l
