use Rattle.std.proofs.Common.{◌∙◌, sym}
use Rattle.std.specs.Cmp.{unsigned_ties}
use Rattle.ovn_base.specs.addresses.EtherAddress.{same_ether_decides}
use Rattle.ovn_base.proofs.address.exact_mac.Goals as goal

pub returns-clause-equal : goal.returns-clause-equal
returns-clause-equal c = same_ether_decides

pub returns-clause-order : goal.returns-clause-order
returns-clause-order c =
    λ a b.
    (λ h. (same_ether_decides a b).0 (unsigned_ties a.number b.number ∙ h), λ e. sym (unsigned_ties a.number b.number) ∙ (same_ether_decides a b).1 e)
