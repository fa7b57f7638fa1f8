use Rattle.std.proofs.lemmas.Nat.Bits.{bit_at_ones}
use Rattle.tuple_space.proofs.marks.word_at.Goals as goal

pub returns-else-place-words : goal.returns-else-place-words
returns-else-place-words c = λ bit l h. bit_at_ones 128 bit l
