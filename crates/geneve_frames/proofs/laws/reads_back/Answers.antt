use Rattle.geneve_frames.proofs.Canon.{canon_spells}
use Rattle.geneve_frames.proofs.laws.reads_back.Goals as goal

pub returns : goal.returns
returns c = canon_spells
