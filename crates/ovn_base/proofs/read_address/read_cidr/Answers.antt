use Rattle.std.specs.Prelude.{◌++◌, ◌∷◌, ℕ, List}
use Rattle.std.proofs.Common.{ap, ◌∙◌}
use Rattle.ovn_base.specs.addresses.AddressText.SpellsCidr.{with_length}
use Rattle.ovn_base.proofs.AddressLemmas.{no_cidr_alone, no_cidr_ip, no_cidr_length, at_none}
use Rattle.ovn_base.proofs.read_address.read_cidr.Goals as goal

pub returns-in_err-read_ip4-in-None-clause-none : goal.returns-in_err-read_ip4-in-None-clause-none
returns-in_err-read_ip4-in-None-clause-none c = at_none _ c.from_residual.ensures (no_cidr_alone c.args.text.now c.in-None.ensures.none c.in_err-read_ip4-in-None.ensures.none)

pub returns-in_err-read_ip4-in-Some-clause-none : goal.returns-in_err-read_ip4-in-Some-clause-none
returns-in_err-read_ip4-in-Some-clause-none c =
    let found = c.in-Some.ensures.found in
    at_none _ c.from_residual-in_err-read_ip4-in-Some.ensures (no_cidr_ip c.args.text.now c.in-Some.ip.now c.in-Some.len.now found.0 found.1 c.in_err-read_ip4-in-Some.ensures.none)

pub returns-in_err-read_number-in-Some-clause-none : goal.returns-in_err-read_number-in-Some-clause-none
returns-in_err-read_number-in-Some-clause-none c =
    let found = c.in-Some.ensures.found in
    at_none _ c.from_residual-in_err-read_number-in-Some.ensures (no_cidr_length c.args.text.now c.in-Some.ip.now c.in-Some.len.now found.0 found.1 c.in_err-read_number-in-Some.ensures.none)

pub returns-in_ok-read_number-in-Some-clause-found : goal.returns-in_ok-read_number-in-Some-clause-found
returns-in_ok-read_number-in-Some-clause-found c =
    let len = c.in_ok-read_number-in-Some.ensures.found in
    with_length c.in-Some.ip.now c.in_ok-read_ip4-in-Some.ensures.found len.0 (c.in-Some.ensures.found.0 ∙ ap (λ (t : List ℕ). c.in-Some.ip.now ++ 47 ∷ t) len.1)
