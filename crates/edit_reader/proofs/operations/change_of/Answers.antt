use Rattle.std.specs.Prelude.{refl}
use Rattle.edit_reader.specs.Records.{change_of}
use Rattle.edit_reader.proofs.operations.change_of.Goals as goal

pub returns-in-Switch : goal.returns-in-Switch
unfolding change_of
returns-in-Switch c = rw c.in-Switch.is refl

pub returns-in-Router : goal.returns-in-Router
unfolding change_of
returns-in-Router c = rw c.in-Router.is refl
