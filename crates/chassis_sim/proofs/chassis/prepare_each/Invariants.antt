use Rattle.std.proofs.Common.{◌≡◌, take}
use Rattle.indexmap.specs.IndexMap.{spare}
use Rattle.chassis_sim.specs.Changing.{AreReady}
use Rattle.chassis_sim.specs.Tables.{flows_held}
use Rattle.chassis_sim.proofs.chassis.prepare_each.Given as goal

-- the tables are ready for the deltas so far, and what is seen of the flows stays
abbrev pub invariant-deltas : goal.invariant-deltas
invariant-deltas g l =
    let flows = g.T.Lookup.flows in
    record {
      flows : flows_held flows l.held.entries ≡ flows_held flows l.fn.held.entries;
      ready : AreReady g.T.Lookup.ready l.held.entries (take l.name-index l.deltas);
      spare : spare l.held ≡ spare l.fn.held;
    }
