use Rattle.std.proofs.Common.{◌∙◌, ◌+◌, sym, ap, subst, length, [], ◌∷◌}
use Rattle.std.proofs.lemmas.List.{length-append}
use Rattle.std.specs.List.{AllByRecursion}
use Rattle.switch_engine.proofs.Lists.{all_append}
use Rattle.chassis_sim.specs.Changing.{IsFresh}
use Rattle.chassis_sim.proofs.zones.fresh_zones.Goals as goal

pub added-preserved : goal.added-preserved
added-preserved g c = record {
  enough = ap length c.in_ok-push.ensures.ok ∙ length-append c.added.fresh (c.reserve.new.self ∷ []) ∙ ap (λ n. n + 1) c.added.invariant.enough;
  fresh = subst (AllByRecursion (IsFresh c.args.room)) (sym c.in_ok-push.ensures.ok)
      (all_append (IsFresh c.args.room) c.added.fresh (c.reserve.new.self ∷ []) c.added.invariant.fresh (record { none = c.reserve.ensures.zones ∙ c.new-zones.ensures; enough = c.in_ok-reserve.ensures.room }, tt));
}
