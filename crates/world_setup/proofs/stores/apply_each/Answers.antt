use Rattle.std.proofs.Common.{◌∙◌, subst}
use Rattle.std.specs.List.{AllByRecursion}
use Rattle.std.specs.Map.{keys_of}
use Rattle.ovn_base.specs.lists.Once.{EachOnce}
use Rattle.chassis_sim.specs.State.{at_name}
use Rattle.chassis_sim.proofs.TableChanges.{all_kept}
use Rattle.world_setup.specs.Setup.{IsOnTheWay, IsReadyAt}
use Rattle.world_setup.proofs.FlowStores.{one_applied}
use Rattle.world_setup.proofs.stores.apply_each.Goals as goal

pub patches-preserved : goal.patches-preserved
patches-preserved c =
    let rest = c.next.new.self.rest.items in
    let name = c.in-Some.name in
    let old = c.patches.stores.entries in
    let new = c.apply_one.new.stores.entries in
    let steps = c.in-Some.ensures.steps.0 in
    let others = c.apply_one.ensures.others in
    let once = subst (λ l. EachOnce (keys_of l)) steps c.patches.invariant.once in
    let all = subst (λ l. AllByRecursion (λ p. IsReadyAt p.1 (at_name old p.0)) l) steps c.patches.invariant.ready in
    record {
      once = once.1;
      ready = all_kept IsReadyAt old new name others rest once.0 all.1;
      way = λ before after chassis is. one_applied before after name c.in-Some.patch rest old new once.0 c.apply_one.ensures.applied others chassis
          (subst (λ l. IsOnTheWay before after l old chassis) steps (c.patches.invariant.way before after chassis is));
      spare = c.apply_one.ensures.spare ∙ c.patches.invariant.spare;
    }
