use Rattle.std.proofs.Common.{◌≡◌, take}
use Rattle.std.specs.Map.{keys_of}
use Rattle.indexmap.specs.IndexMap.{spare}
use Rattle.ovn_base.specs.declared.name.Name.{Name}
use Rattle.chassis_sim.specs.State.{at_name}
use Rattle.world_setup.specs.Ground.{ground_after}
use Rattle.world_setup.specs.Setup.{rows_at}
use Rattle.world_setup.proofs.FlowStores.{AllLead}
use Rattle.world_setup.proofs.stores.prepare_each.Given as goal

-- the chassis so far have their patches, and all units have what they had
abbrev pub invariant-chassis : goal.invariant-chassis
invariant-chassis l = record {
  rows : (c : Name) → rows_at (at_name l.stores.entries c) ≡ rows_at (at_name l.fn.stores.entries c);
  chassis : keys_of l.patches ≡ take l.chassis-index l.ground.config.chassis;
  lead : AllLead l.ground (ground_after l.change l.ground) l.stores.entries l.patches;
  spare : spare l.stores ≡ spare l.fn.stores;
}
