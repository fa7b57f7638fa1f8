use Rattle.std.proofs.Common.{length, Option}
use Rattle.ovn_base.specs.declared.name.Name.{Name}
use Rattle.switch_engine.specs.Zones.{ZoneLists}
use Rattle.chassis_sim.specs.Changing.{AreEmptied, HaveRoom}
use Rattle.chassis_sim.specs.State.{at_name}
use Rattle.chassis_sim.specs.Tables.{zones_held}
use Rattle.chassis_sim.proofs.zones.empty_each.Given as goal

-- what the zones that are left make of the lists now, all zones make of those at the beginning
abbrev pub invariant-emptied : goal.invariant-emptied
invariant-emptied l =
    let left = l.name-iterator.rest.items in
    record {
      emptied : (name : Name) (after : Option ZoneLists) → AreEmptied left name (at_name (zones_held l.zones.entries) name) after → AreEmptied l.fn.emptied name (at_name (zones_held l.fn.zones.entries) name) after;
      room : HaveRoom (length left) l.zones.entries left;
    }
