use Rattle.net_model.proofs.SparedJourneys.{same_travels}
use Rattle.net_model.proofs.laws.choices_determine_ends.Goals as goal

pub returns : goal.returns
returns c = same_travels
