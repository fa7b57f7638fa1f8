use Rattle.std.specs.Prelude.{[], ◌∷◌}
use Rattle.std.proofs.Common.{arith, refl}
use Rattle.ovn_base.specs.addresses.AddressText.{SpellsOctet}
use Rattle.ovn_base.proofs.AddressLemmas.{octet_lacks, no_ip4, at_none}
use Rattle.ovn_base.proofs.JoinedLemmas.{none_first, none_one, none_rest, joined_alone, joined_more}
use Rattle.ovn_base.proofs.read_address.read_ip4.Goals as goal

pub returns-in_err-a-clause-none : goal.returns-in_err-a-clause-none
returns-in_err-a-clause-none c = at_none _ c.from_residual.ensures (no_ip4 c.args.text.now (none_first SpellsOctet 46 c.args.text.now 3 (omega arith) c.in_err-a.ensures.none))

pub returns-in_err-b-clause-none : goal.returns-in_err-b-clause-none
returns-in_err-b-clause-none c = at_none _ c.from_residual-in_err-b.ensures (no_ip4 c.args.text.now (none_rest SpellsOctet 46 (octet_lacks 46 (omega arith)) c.args.text.now 3 c.in_ok-a.a c.in_ok-a.rest.now (omega arith) c.in_ok-a.ensures.found (none_first SpellsOctet 46 c.in_ok-a.rest.now 2 (omega arith) c.in_err-b.ensures.none)))

pub returns-in_err-c-clause-none : goal.returns-in_err-c-clause-none
returns-in_err-c-clause-none c = at_none _ c.from_residual-in_err-c.ensures (no_ip4 c.args.text.now (none_rest SpellsOctet 46 (octet_lacks 46 (omega arith)) c.args.text.now 3 c.in_ok-a.a c.in_ok-a.rest.now (omega arith) c.in_ok-a.ensures.found (none_rest SpellsOctet 46 (octet_lacks 46 (omega arith)) c.in_ok-a.rest.now 2 c.in_ok-b.b c.in_ok-b.rest.now (omega arith) c.in_ok-b.ensures.found (none_first SpellsOctet 46 c.in_ok-b.rest.now 1 (omega arith) c.in_err-c.ensures.none))))

pub returns-in_err-d-clause-none : goal.returns-in_err-d-clause-none
returns-in_err-d-clause-none c = at_none _ c.from_residual-in_err-d.ensures (no_ip4 c.args.text.now (none_rest SpellsOctet 46 (octet_lacks 46 (omega arith)) c.args.text.now 3 c.in_ok-a.a c.in_ok-a.rest.now (omega arith) c.in_ok-a.ensures.found (none_rest SpellsOctet 46 (octet_lacks 46 (omega arith)) c.in_ok-a.rest.now 2 c.in_ok-b.b c.in_ok-b.rest.now (omega arith) c.in_ok-b.ensures.found (none_rest SpellsOctet 46 (octet_lacks 46 (omega arith)) c.in_ok-b.rest.now 1 c.in_ok-c.c c.in_ok-c.rest.now (omega arith) c.in_ok-c.ensures.found (none_one SpellsOctet 46 c.in_ok-c.rest.now c.in_err-d.ensures.none)))))

pub returns-clause-found : goal.returns-clause-found
returns-clause-found c = record { octets = c.in_ok-a.a ∷ c.in_ok-b.b ∷ c.in_ok-c.c ∷ c.in_ok-d.d ∷ []; four = refl; numbers = joined_more SpellsOctet 46 c.args.text.now c.in_ok-a.a c.in_ok-b.b (c.in_ok-c.c ∷ c.in_ok-d.d ∷ []) c.in_ok-a.rest.now c.in_ok-a.ensures.found (joined_more SpellsOctet 46 c.in_ok-a.rest.now c.in_ok-b.b c.in_ok-c.c (c.in_ok-d.d ∷ []) c.in_ok-b.rest.now c.in_ok-b.ensures.found (joined_more SpellsOctet 46 c.in_ok-b.rest.now c.in_ok-c.c c.in_ok-d.d [] c.in_ok-c.rest.now c.in_ok-c.ensures.found (joined_alone SpellsOctet 46 c.in_ok-c.rest.now c.in_ok-d.d c.in_ok-d.ensures.found))); value = c.from_be_bytes.ensures }
