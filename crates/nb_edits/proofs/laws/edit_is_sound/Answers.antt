use Rattle.nb_edits.proofs.EditSoundness.{edit_sound}
use Rattle.nb_edits.proofs.laws.edit_is_sound.Goals as goal

pub returns : goal.returns
returns c = edit_sound
