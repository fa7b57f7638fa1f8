use Rattle.std.proofs.Common.{List, map, None, ap, sym, ◌∙◌, arith}
use Rattle.ovn_base.specs.names.SameName.{same_name}
use Rattle.ovn_base.specs.declared.name.Name.{Name}
use Rattle.chassis_sim.specs.Changing.{gone}
use Rattle.chassis_sim.specs.Settings.{set_in_turn}
use Rattle.chassis_sim.specs.State.{at_name}
use Rattle.chassis_sim.specs.Tables.{flows_held, zones_held}
use Rattle.chassis_sim.proofs.Emptying.{lists, room_put}
use Rattle.chassis_sim.proofs.Lookups.{seen_put}
use Rattle.chassis_sim.proofs.chassis.remove_each.Goals as goal

pub names-preserved : goal.names-preserved
names-preserved g c =
    let flows = g.T.Lookup.flows in
    let rest = c.next.new.self.rest.items in
    let n = c.in-Some.name in
    let steps = c.in-Some.ensures.steps.0 in
    record {
      same = λ name.
          ap (λ had. set_in_turn same_name (map gone rest) name had) (seen_put flows c.names.held.entries c.take_out.new.map.entries None (same_name n name) name (c.take_out.ensures.taken name))
          ∙ ap (λ (l : List Name). set_in_turn same_name (map gone l) name (at_name (flows_held flows c.names.held.entries) name)) (sym steps)
          ∙ c.names.invariant.same name;
      zones = λ name.
          ap (λ had. set_in_turn same_name (map gone rest) name had) (seen_put lists c.names.zones.entries c.take_out-in-names.new.map.entries None (same_name n name) name (c.take_out-in-names.ensures.taken name))
          ∙ ap (λ (l : List Name). set_in_turn same_name (map gone l) name (at_name (zones_held c.names.zones.entries) name)) (sym steps)
          ∙ c.names.invariant.zones name;
      room = λ m z name h. room_put m z None tt (same_name n name) _ _ (c.take_out-in-names.ensures.taken name) (c.names.invariant.room m z name h);
      zoned = omega (arith, c.names.invariant.zoned, c.take_out-in-names.ensures.spare);
      spare = omega (arith, c.names.invariant.spare, c.take_out.ensures.spare);
    }
