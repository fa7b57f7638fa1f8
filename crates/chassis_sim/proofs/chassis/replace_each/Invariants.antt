use Rattle.std.proofs.Common.{◌≡◌, List, Option}
use Rattle.std.specs.Map.{keys_of}
use Rattle.indexmap.specs.IndexMap.{spare}
use Rattle.ovn_base.specs.lists.Once.{EachOnce}
use Rattle.ovn_base.specs.declared.name.Name.{Name}
use Rattle.flow_table.specs.declared.flow.Flow.{Flow}
use Rattle.chassis_sim.specs.Changing.{AreReplaced, AreReady}
use Rattle.chassis_sim.specs.State.{at_name}
use Rattle.chassis_sim.specs.Tables.{flows_held}
use Rattle.chassis_sim.proofs.chassis.replace_each.Given as goal

-- what the deltas that are left make of the flows now, all deltas make of those at the beginning
abbrev pub invariant-deltas : goal.invariant-deltas
invariant-deltas g l =
    let flows = g.T.Lookup.flows in
    let left = l.name-iterator.rest.items in
    record {
      once : EachOnce (keys_of left);
      ready : AreReady g.T.Lookup.ready l.held.entries left;
      replaced : (name : Name) (after : Option (List Flow)) → AreReplaced (at_name left name) (at_name (flows_held flows l.held.entries) name) after → AreReplaced (at_name l.fn.deltas name) (at_name (flows_held flows l.fn.held.entries) name) after;
      spare : spare l.held ≡ spare l.fn.held;
    }
