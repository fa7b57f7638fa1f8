use Rattle.std.proofs.Common.{◌≡◌, ◌≤◌, map, length}
use Rattle.std.specs.Map.{lookup}
use Rattle.indexmap.specs.IndexMap.{spare}
use Rattle.chassis_sim.specs.Changing.{given_name}
use Rattle.chassis_sim.specs.Settings.{set_in_turn}
use Rattle.chassis_sim.specs.State.{KeyPair, same_pair}
use Rattle.chassis_sim.proofs.chassis.name_each.Given as goal

-- what the names that are left make of those now, all of them make of those at the beginning
abbrev pub invariant-given : goal.invariant-given
invariant-given l =
    let left = l.vni-iterator.rest.items in
    record {
      same : (pair : KeyPair) → set_in_turn same_pair (map given_name left) pair (lookup (same_pair pair) l.names.entries) ≡ set_in_turn same_pair (map given_name l.fn.given) pair (lookup (same_pair pair) l.fn.names.entries);
      room : length left ≤ spare l.names;
    }
