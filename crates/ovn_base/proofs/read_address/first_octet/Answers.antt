use Rattle.std.proofs.Common.{arith}
use Rattle.ovn_base.specs.addresses.AddressText.{SpellsOctet}
use Rattle.ovn_base.proofs.AddressLemmas.{octet_lacks, at_none}
use Rattle.ovn_base.proofs.JoinedLemmas.{none_uncut, none_read}
use Rattle.ovn_base.proofs.read_address.first_octet.Goals as goal

pub returns-in_err-octet-clause-none : goal.returns-in_err-octet-clause-none
returns-in_err-octet-clause-none c = at_none _ c.from_residual.ensures (none_uncut SpellsOctet 46 (octet_lacks 46 (omega arith)) c.args.text.now c.in_err-octet.ensures.none)

pub returns-in_err-read_octet-clause-none : goal.returns-in_err-read_octet-clause-none
returns-in_err-read_octet-clause-none c =
    at_none _ c.from_residual-in_err-read_octet.ensures (
    none_read SpellsOctet 46 (octet_lacks 46 (omega arith)) c.args.text.now c.in_ok-octet.octet.now c.in_ok-octet.rest.now c.in_ok-octet.ensures.found.0 c.in_ok-octet.ensures.found.1 c.in_err-read_octet.ensures.none)
