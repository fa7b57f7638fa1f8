use Rattle.std.proofs.Common.{◌≡◌, ◌++◌, ◌≤◌, length, drop}
use Rattle.tunnel_keys.specs.Giving.{with_keys, new_datapath_key}
use Rattle.tunnel_keys.proofs.giving.datapaths_with_keys.Given as goal

-- those that are left get the keys that are left
abbrev pub invariant-loop-name : goal.invariant-loop-name
invariant-loop-name l = (l.given ++ with_keys new_datapath_key l.name-iterator (drop l.next l.keys) ≡ with_keys new_datapath_key l.arrivals.entries l.keys) × (l.next ≤ length l.keys)
