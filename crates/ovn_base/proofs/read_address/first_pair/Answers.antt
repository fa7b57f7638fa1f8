use Rattle.ovn_base.specs.addresses.AddressText.{SpellsPair}
use Rattle.ovn_base.proofs.AddressLemmas.{pair_lacks, at_none}
use Rattle.ovn_base.proofs.JoinedLemmas.{none_uncut, none_read}
use Rattle.ovn_base.proofs.read_address.first_pair.Goals as goal

pub returns-in_err-pair-clause-none : goal.returns-in_err-pair-clause-none
returns-in_err-pair-clause-none c = at_none _ c.from_residual.ensures (none_uncut SpellsPair 58 pair_lacks c.args.text.now c.in_err-pair.ensures.none)

pub returns-in_err-read_pair-clause-none : goal.returns-in_err-read_pair-clause-none
returns-in_err-read_pair-clause-none c =
    at_none _ c.from_residual-in_err-read_pair.ensures (
    none_read SpellsPair 58 pair_lacks c.args.text.now c.in_ok-pair.pair.now c.in_ok-pair.rest.now c.in_ok-pair.ensures.found.0 c.in_ok-pair.ensures.found.1 c.in_err-read_pair.ensures.none)
