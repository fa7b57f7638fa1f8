use Rattle.std.proofs.lemmas.Nat.Bits.{bit_at_ones}
use Rattle.tuple_space.proofs.sieves.Sieves.passed.Goals as goal

pub returns-in-None : goal.returns-in-None
returns-in-None c = λ bit l h. bit_at_ones 128 bit l
