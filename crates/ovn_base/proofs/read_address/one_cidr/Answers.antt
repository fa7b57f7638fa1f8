use Rattle.ovn_base.proofs.AddressLemmas.{same_cidr}
use Rattle.ovn_base.proofs.read_address.one_cidr.Goals as goal

pub returns : goal.returns
returns c = same_cidr
