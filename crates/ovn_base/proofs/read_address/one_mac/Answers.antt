use Rattle.ovn_base.proofs.AddressLemmas.{same_mac}
use Rattle.ovn_base.proofs.read_address.one_mac.Goals as goal

pub returns : goal.returns
returns c = same_mac
