use Rattle.std.proofs.Common.{◌∙◌, ℕ, ap, add-one, sym, subst, take, length, [], ◌∷◌, ◌++◌}
use Rattle.switch_engine.proofs.Lists.{all_append}
use Rattle.ovn_base.specs.declared.name.Name.{Name}
use Rattle.chassis_sim.specs.Changing.{HasRoomFor, HaveRoom}
use Rattle.chassis_sim.specs.State.{at_name}
use Rattle.chassis_sim.proofs.Emptying.{same_rooms}
use Rattle.chassis_sim.proofs.Lookups.{take_more}
use Rattle.chassis_sim.proofs.zones.prepare_zones.Goals as goal

pub emptied-preserved : goal.emptied-preserved
emptied-preserved c =
    let emptied = c.args.emptied.now in
    let i = c.emptied.name-index in
    let e = c.emptied-item.result in
    let room = length emptied in
    let old = c.emptied.zones.entries in
    let new = c.prepare_zone.new.zones.entries in
    let before = take i emptied in
    let all : HaveRoom room new (before ++ e ∷ []) =
    all_append (λ (x : Name × ℕ). HasRoomFor room x.1 (at_name new x.0)) before (e ∷ []) (same_rooms room old new c.in_ok-prepare_zone.ensures.more before c.emptied.invariant.room) (c.in_ok-prepare_zone.ensures.room, tt) in
    record {
      lists = c.prepare_zone.ensures.lists ∙ c.emptied.invariant.lists;
      room = subst (HaveRoom room new) (sym (ap (λ n. take n emptied) (add-one i) ∙ take_more emptied i e c.emptied-test.true c.emptied-item.is)) all;
      spare = c.prepare_zone.ensures.spare ∙ c.emptied.invariant.spare;
    }
