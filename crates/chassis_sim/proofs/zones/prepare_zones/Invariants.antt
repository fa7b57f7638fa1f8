use Rattle.std.proofs.Common.{◌≡◌, length, take}
use Rattle.indexmap.specs.IndexMap.{spare}
use Rattle.chassis_sim.specs.Changing.{HaveRoom}
use Rattle.chassis_sim.specs.Tables.{zones_held}
use Rattle.chassis_sim.proofs.zones.prepare_zones.Given as goal

-- there is room for the zones so far, and the lists stay
abbrev pub invariant-emptied : goal.invariant-emptied
invariant-emptied l = record {
  lists : zones_held l.zones.entries ≡ zones_held l.fn.zones.entries;
  room : HaveRoom (length l.emptied) l.zones.entries (take l.name-index l.emptied);
  spare : spare l.zones ≡ spare l.fn.zones;
}
