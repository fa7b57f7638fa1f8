use Rattle.std.proofs.Common.{◌≡◌}
use Rattle.std.specs.List.{AllByRecursion}
use Rattle.std.specs.Map.{keys_of}
use Rattle.indexmap.specs.IndexMap.{spare}
use Rattle.ovn_base.specs.declared.name.Name.{Name}
use Rattle.ovn_base.specs.lists.Once.{EachOnce}
use Rattle.chassis_sim.specs.State.{at_name}
use Rattle.world_setup.specs.Ground.{GroundView}
use Rattle.world_setup.specs.Setup.{IsOnTheWay, IsReadyAt}
use Rattle.world_setup.proofs.stores.apply_each.Given as goal

-- who was on the way by all patches is so by those that are left
abbrev pub invariant-patches : goal.invariant-patches
invariant-patches l =
    let left = l.name-iterator.rest.items in
    record {
      once : EachOnce (keys_of left);
      ready : AllByRecursion (λ p. IsReadyAt p.1 (at_name l.stores.entries p.0)) left;
      way : (before after : GroundView) (c : Name) → IsOnTheWay before after l.fn.patches l.fn.stores.entries c → IsOnTheWay before after left l.stores.entries c;
      spare : spare l.stores ≡ spare l.fn.stores;
    }
