use Rattle.std.proofs.Common.{◌≡◌, ◌≤◌, ℕ, map, length}
use Rattle.std.specs.List.{AllByRecursion}
use Rattle.indexmap.specs.IndexMap.{spare}
use Rattle.ovn_base.specs.names.SameName.{same_name}
use Rattle.ovn_base.specs.declared.name.Name.{Name}
use Rattle.chassis_sim.specs.Changing.{come, without_zone, HasRoomFor, IsFresh}
use Rattle.chassis_sim.specs.Settings.{set_in_turn}
use Rattle.chassis_sim.specs.State.{at_name}
use Rattle.chassis_sim.specs.Tables.{flows_held, zones_held}
use Rattle.chassis_sim.proofs.chassis.add_each.Given as goal

-- what the chassis that are left make of the flows and the lists now, all of them make of those at the beginning
abbrev pub invariant-added : goal.invariant-added
invariant-added g l =
    let flows = g.T.Lookup.flows in
    let left = l.name-iterator.rest.items in
    record {
      same : (name : Name) → set_in_turn same_name (map (come flows) left) name (at_name (flows_held flows l.held.entries) name)
          ≡ set_in_turn same_name (map (come flows) l.fn.added) name (at_name (flows_held flows l.fn.held.entries) name);
      zones : (name : Name) → set_in_turn same_name (map without_zone left) name (at_name (zones_held l.zones.entries) name)
          ≡ set_in_turn same_name (map without_zone l.fn.added) name (at_name (zones_held l.fn.zones.entries) name);
      more : (n z : ℕ) (name : Name) → AllByRecursion (IsFresh n) l.fn.fresh → HasRoomFor n z (at_name l.fn.zones.entries name) → HasRoomFor n z (at_name l.zones.entries name);
      each_fresh : (n : ℕ) → AllByRecursion (IsFresh n) l.fn.fresh → AllByRecursion (IsFresh n) l.fresh;
      room : length left ≤ spare l.held;
      zoned : length left ≤ spare l.zones;
      fresh : length left ≤ length l.fresh;
    }
