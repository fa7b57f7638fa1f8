use Rattle.std.proofs.Common.{◌≡◌, ◌≤◌, length}
use Rattle.indexmap.specs.IndexMap.{spare}
use Rattle.ovn_base.specs.names.SameName.{same_name}
use Rattle.ovn_base.specs.declared.name.Name.{Name}
use Rattle.chassis_sim.specs.Settings.{set_in_turn}
use Rattle.chassis_sim.specs.State.{at_name}
use Rattle.chassis_sim.proofs.chassis.bind_each.Given as goal

-- what the settings that are left make of the bindings now, all of them make of those at the beginning
abbrev pub invariant-bound : goal.invariant-bound
invariant-bound l =
    let left = l.port-iterator.rest.items in
    record {
      same : (name : Name) → set_in_turn same_name left name (at_name l.bindings.entries name) ≡ set_in_turn same_name l.fn.bound name (at_name l.fn.bindings.entries name);
      room : length left ≤ spare l.bindings;
    }
