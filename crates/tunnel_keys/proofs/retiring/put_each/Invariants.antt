use Rattle.std.proofs.Common.{◌≡◌}
use Rattle.ovn_base.specs.names.ByName.{put_all}
use Rattle.tunnel_keys.proofs.retiring.put_each.Given as goal

abbrev pub invariant-loop-name : goal.invariant-loop-name
invariant-loop-name g l = put_all l.all.entries l.name-iterator.rest.items ≡ put_all l.fn.entries.entries l.fn.others
