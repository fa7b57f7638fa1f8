use Rattle.tunnel_keys.proofs.KeyStays.{datapaths_stay, ports_stay}
use Rattle.tunnel_keys.proofs.laws.keys_stay.Goals as goal

pub returns-clause-datapaths : goal.returns-clause-datapaths
returns-clause-datapaths c = λ keys added removed after. datapaths_stay keys added removed after

pub returns-clause-ports : goal.returns-clause-ports
returns-clause-ports c = λ keys added removed after. ports_stay keys added removed after
