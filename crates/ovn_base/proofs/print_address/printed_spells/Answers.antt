use Rattle.ovn_base.proofs.AddressLemmas.{mac_text-spells, ip4_text-spells, cidr_text-spells}
use Rattle.ovn_base.proofs.print_address.printed_spells.Goals as goal

pub returns-clause-mac : goal.returns-clause-mac
returns-clause-mac c = mac_text-spells

pub returns-clause-ip4 : goal.returns-clause-ip4
returns-clause-ip4 c = ip4_text-spells

pub returns-clause-cidr : goal.returns-clause-cidr
returns-clause-cidr c = cidr_text-spells
