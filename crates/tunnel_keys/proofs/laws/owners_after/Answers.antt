use Rattle.tunnel_keys.proofs.OneOutcome.{live_after}
use Rattle.tunnel_keys.proofs.laws.owners_after.Goals as goal

pub returns : goal.returns
returns c = λ keys added removed after. live_after keys added removed after
