use Rattle.std.proofs.Common.{◌≡◌, ◌∙◌, sym, subst, false}
use Rattle.std.specs.Map.{keys_of}
use Rattle.ovn_base.specs.lists.Once.{EachOnce}
use Rattle.ovn_base.specs.names.SameName.{same_name}
use Rattle.ovn_base.specs.declared.name.Name.{Name}
use Rattle.chassis_sim.specs.Changing.{AreReplaced, AreReady, IsReadyFor}
use Rattle.chassis_sim.specs.State.{at_name}
use Rattle.chassis_sim.specs.Tables.{flows_held}
use Rattle.chassis_sim.proofs.Lookups.{seen_same}
use Rattle.chassis_sim.proofs.TableChanges.{one_more, all_kept}
use Rattle.chassis_sim.proofs.chassis.replace_each.Goals as goal

pub deltas-preserved : goal.deltas-preserved
deltas-preserved g c =
    let flows = g.T.Lookup.flows in
    let ready = g.T.Lookup.ready in
    let rest = c.next.new.self.rest.items in
    let name = c.in-Some.name in
    let steps = c.in-Some.ensures.steps.0 in
    let once = subst (λ l. EachOnce (keys_of l)) steps c.deltas.invariant.once in
    let all = subst (AreReady ready c.deltas.held.entries) steps c.deltas.invariant.ready in
    let old = flows_held flows c.deltas.held.entries in
    let new = flows_held flows c.replace_one.new.held.entries in
    let others : (other : Name) → same_name name other ≡ false → at_name new other ≡ at_name old other = λ other apart. seen_same flows c.deltas.held.entries c.replace_one.new.held.entries other (c.replace_one.ensures.others other apart) in
    record {
      once = once.1;
      ready = all_kept (IsReadyFor ready) c.deltas.held.entries c.replace_one.new.held.entries name c.replace_one.ensures.others rest once.0 all.1;
      replaced = λ other after h. c.deltas.invariant.replaced other after
          (subst (λ l. AreReplaced (at_name l other) (at_name old other) after) (sym steps) (one_more (name, c.in-Some.delta) rest old new once.0 c.replace_one.ensures.replaced others other after h));
      spare = c.replace_one.ensures.spare ∙ c.deltas.invariant.spare;
    }
