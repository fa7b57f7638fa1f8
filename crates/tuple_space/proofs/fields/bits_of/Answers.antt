use Rattle.std.proofs.Common.{refl}
use Rattle.tuple_space.specs.Masks.{cube_bits}
use Rattle.tuple_space.proofs.fields.bits_of.Goals as goal

pub returns : goal.returns
unfolding cube_bits
returns c = refl
