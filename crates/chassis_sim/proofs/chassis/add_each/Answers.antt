use Rattle.std.proofs.Common.{◌≡◌, ◌≤◌, ◌+◌, ℕ, List, [], ◌∷◌, ◌++◌, cond, map, length, Some, ap, sym, subst, ◌∙◌, arith}
use Rattle.std.proofs.lemmas.List.{length-append}
use Rattle.std.specs.List.{AllByRecursion}
use Rattle.ovn_base.specs.names.SameName.{same_name}
use Rattle.ovn_base.specs.declared.name.Name.{Name}
use Rattle.switch_engine.proofs.Lists.{all_left, all_right}
use Rattle.chassis_sim.specs.Changing.{come, without_zone, IsFresh}
use Rattle.chassis_sim.specs.Settings.{set_in_turn}
use Rattle.chassis_sim.specs.State.{at_name}
use Rattle.chassis_sim.specs.Tables.{flows_held, zones_held}
use Rattle.chassis_sim.proofs.Emptying.{lists, room_put}
use Rattle.chassis_sim.proofs.Lookups.{seen_put}
use Rattle.chassis_sim.proofs.chassis.add_each.Goals as goal

pub added-preserved : goal.added-preserved
added-preserved g c =
    let flows = g.T.Lookup.flows in
    let rest = c.next.new.self.rest.items in
    let steps = c.in-Some.ensures.steps.0 in
    let n = c.in-Some.name in
    let none = c.in-Some-pop.none in
    let popped : c.added.fresh ≡ c.pop.new.self ++ none ∷ [] = c.in-Some-pop.ensures in
    let one = λ (m : ℕ) (all : AllByRecursion (IsFresh m) c.added.fresh). (all_right (IsFresh m) c.pop.new.self (none ∷ []) (subst (AllByRecursion (IsFresh m)) popped all)).0 in
    let own = one 0 (c.added.invariant.each_fresh 0 c.requires.each_fresh) in
    let long : length rest + 1 ≤ length c.added.name-iterator.rest.items = rw steps (omega arith) in
    let shorter : length c.added.fresh ≡ length c.pop.new.self + 1 = ap length popped ∙ length-append c.pop.new.self (none ∷ []) in
    record {
      same = λ name.
          ap (λ had. set_in_turn same_name (map (come flows) rest) name had) (seen_put flows c.added.held.entries c.set.new.map.entries (Some c.in-Some.tables) (same_name n name) name (c.set.ensures.set name))
          ∙ ap (λ (l : List (Name × g.row.T.Denot)). set_in_turn same_name (map (come flows) l) name (at_name (flows_held flows c.added.held.entries) name)) (sym steps)
          ∙ c.added.invariant.same name;
      zones = λ name.
          ap (λ had. set_in_turn same_name (map without_zone rest) name had)
          (subst (λ l. at_name (zones_held c.set-in-added.new.map.entries) name ≡ cond (same_name n name) (Some l) (at_name (zones_held c.added.zones.entries) name)) own.none
          (seen_put lists c.added.zones.entries c.set-in-added.new.map.entries (Some none) (same_name n name) name (c.set-in-added.ensures.set name)))
          ∙ ap (λ (l : List (Name × g.row.T.Denot)). set_in_turn same_name (map without_zone l) name (at_name (zones_held c.added.zones.entries) name)) (sym steps)
          ∙ c.added.invariant.zones name;
      more = λ m z name all h. room_put m z (Some none) (λ absent. (one m (c.added.invariant.each_fresh m all)).enough) (same_name n name) _ _ (c.set-in-added.ensures.set name) (c.added.invariant.more m z name all h);
      each_fresh = λ m all. all_left (IsFresh m) c.pop.new.self (none ∷ []) (subst (AllByRecursion (IsFresh m)) popped (c.added.invariant.each_fresh m all));
      room = omega (arith, long, c.added.invariant.room, c.set.ensures.spare);
      zoned = omega (arith, long, c.added.invariant.zoned, c.set-in-added.ensures.spare);
      fresh = omega (arith, long, c.added.invariant.fresh, shorter);
    }
