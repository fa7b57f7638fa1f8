use Rattle.address_sets.proofs.Differences.{one_came, none_left}
use Rattle.address_sets.proofs.changed.put_differing.Goals as goal

pub loop-name-preserved : goal.loop-name-preserved
loop-name-preserved g c = one_came g.V.HasMembers.members c.args.others.now.entries c.args.entries.now.entries c.loop-name.name-iterator c.next.new.self c.in-Some.name.now c.in-Some.value.now c.args.names.now.keys c.loop-name.names.keys c.put_if_other.new.names.keys c.loop-name.invariant c.in-Some.ensures.steps c.in_ok-put_if_other.ensures

pub returns : goal.returns
returns g c = none_left g.V.HasMembers.members c.args.others.now.entries c.args.entries.now.entries c.loop-name.name-iterator c.args.names.now.keys c.loop-name.names.keys c.loop-name.invariant c.in-None.ensures.steps.0
