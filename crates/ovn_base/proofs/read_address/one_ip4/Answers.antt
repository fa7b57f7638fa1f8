use Rattle.ovn_base.proofs.AddressLemmas.{same_ip4}
use Rattle.ovn_base.proofs.read_address.one_ip4.Goals as goal

pub returns : goal.returns
returns c = same_ip4
