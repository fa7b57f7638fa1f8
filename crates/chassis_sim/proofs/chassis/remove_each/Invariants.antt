use Rattle.std.proofs.Common.{◌≡◌, ◌≤◌, ℕ, map}
use Rattle.indexmap.specs.IndexMap.{spare}
use Rattle.ovn_base.specs.names.SameName.{same_name}
use Rattle.ovn_base.specs.declared.name.Name.{Name}
use Rattle.chassis_sim.specs.Changing.{gone, HasRoomFor}
use Rattle.chassis_sim.specs.Settings.{set_in_turn}
use Rattle.chassis_sim.specs.State.{at_name}
use Rattle.chassis_sim.specs.Tables.{flows_held, zones_held}
use Rattle.chassis_sim.proofs.chassis.remove_each.Given as goal

-- what the names that are left make of the flows and the lists now, all names make of those at the beginning
abbrev pub invariant-names : goal.invariant-names
invariant-names g l =
    let flows = g.T.Lookup.flows in
    let left = l.name-iterator.rest.items in
    record {
      same : (name : Name) → set_in_turn same_name (map gone left) name (at_name (flows_held flows l.held.entries) name)
          ≡ set_in_turn same_name (map gone l.fn.names) name (at_name (flows_held flows l.fn.held.entries) name);
      zones : (name : Name) → set_in_turn same_name (map gone left) name (at_name (zones_held l.zones.entries) name)
          ≡ set_in_turn same_name (map gone l.fn.names) name (at_name (zones_held l.fn.zones.entries) name);
      room : (n z : ℕ) (name : Name) → HasRoomFor n z (at_name l.fn.zones.entries name) → HasRoomFor n z (at_name l.zones.entries name);
      zoned : spare l.fn.zones ≤ spare l.zones;
      spare : spare l.fn.held ≤ spare l.held;
    }
