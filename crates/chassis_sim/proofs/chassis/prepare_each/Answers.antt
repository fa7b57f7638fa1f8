use Rattle.std.proofs.Common.{◌∙◌, suc, ap, add-one, sym, subst, take, drop, [], ◌∷◌, ◌++◌}
use Rattle.std.specs.Map.{keys_of}
use Rattle.ovn_base.specs.lists.Once.{EachOnce}
use Rattle.ovn_base.specs.declared.delta.Delta.{Delta}
use Rattle.ovn_base.specs.declared.name.Name.{Name}
use Rattle.flow_table.specs.declared.flow.Flow.{Flow}
use Rattle.switch_engine.proofs.Lists.{all_append, all_right}
use Rattle.chassis_sim.specs.Changing.{AllAreDeltas, AreReady, IsDeltaOfAny, IsReadyFor}
use Rattle.chassis_sim.specs.State.{at_name}
use Rattle.chassis_sim.specs.Tables.{flows_held}
use Rattle.chassis_sim.proofs.Lookups.{take_more, split_at, once_before}
use Rattle.chassis_sim.proofs.TableChanges.{all_kept}
use Rattle.chassis_sim.proofs.chassis.prepare_each.Goals as goal

pub prepare_one-requires : goal.prepare_one-requires
prepare_one-requires g c =
    let flows = g.T.Lookup.flows in
    let deltas = c.args.deltas.now in
    let i = c.deltas.name-index in
    let table = c.deltas-item.result in
    let first = flows_held flows c.args.held.now.entries in
    let split = subst (AllAreDeltas first) (split_at deltas i table c.deltas-test.true c.deltas-item.is) c.requires.deltas in
    let here = all_right (λ (t : Name × Delta Flow). IsDeltaOfAny t.1 (at_name first t.0)) (take i deltas) (table ∷ drop (suc i) deltas) split in
    subst (λ chassis. IsDeltaOfAny table.1 (at_name chassis table.0)) (sym c.deltas.invariant.flows) here.0

pub deltas-preserved : goal.deltas-preserved
deltas-preserved g c =
    let ready = g.T.Lookup.ready in
    let deltas = c.args.deltas.now in
    let i = c.deltas.name-index in
    let table = c.deltas-item.result in
    let old = c.deltas.held.entries in
    let new = c.prepare_one.new.held.entries in
    let before = take i deltas in
    let after = drop (suc i) deltas in
    let once : EachOnce (keys_of (before ++ table ∷ after)) = subst (λ l. EachOnce (keys_of l)) (split_at deltas i table c.deltas-test.true c.deltas-item.is) c.requires.once in
    let still : AreReady ready new before = all_kept (IsReadyFor ready) old new table.0 c.prepare_one.ensures.others before (once_before before after table once) c.deltas.invariant.ready in
    record {
      flows = c.prepare_one.ensures.flows ∙ c.deltas.invariant.flows;
      ready = subst (AreReady ready new) (sym (ap (λ n. take n deltas) (add-one i) ∙ take_more deltas i table c.deltas-test.true c.deltas-item.is))
          (all_append (λ (t : Name × Delta Flow). IsReadyFor ready t.1 (at_name new t.0)) before (table ∷ []) still (c.in_ok-prepare_one.ensures.ready, tt));
      spare = c.prepare_one.ensures.spare ∙ c.deltas.invariant.spare;
    }
