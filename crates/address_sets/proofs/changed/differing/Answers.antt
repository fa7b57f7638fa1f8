use Rattle.address_sets.proofs.Differences.{both_ok, both_came}
use Rattle.address_sets.proofs.changed.differing.Goals as goal

pub returns : goal.returns
returns g c =
    both_ok c.listed.result c.listed.ensures.order c.listed.ensures.same (λ names sorted same.
    both_came g.V.HasMembers.members c.args.old.now.entries c.args.new.now.entries c.new-names.result.keys c.put_differing.new.names.keys c.put_differing-2.new.names.keys names c.requires.old_sorted c.requires.new_sorted c.new-names.ensures.empty c.in_ok-put_differing.ensures c.in_ok-put_differing-2.ensures same sorted)
