use Rattle.std.proofs.Common.{length, sym, subst, refl, arith}
use Rattle.std.specs.List.{AllByRecursion}
use Rattle.chassis_sim.specs.Changing.{IsApplied, AreReady, HaveRoom, IsFresh}
use Rattle.chassis_sim.specs.State.{SimView, SimState, at_name}
use Rattle.chassis_sim.specs.Tables.{flows_held, zones_held}
use Rattle.chassis_sim.proofs.ChassisLaws.{changed, changed_proper}
use Rattle.chassis_sim.proofs.Emptying.{same_rooms, fresh_less}
use Rattle.chassis_sim.proofs.Rezoning.{rezoned, zoned_still}
use Rattle.chassis_sim.proofs.sim.Sim.apply.Goals as goal

pub replace_each-requires-clause-ready : goal.replace_each-requires-clause-ready
replace_each-requires-clause-ready g c = subst (λ (s : SimView g.row.T.Denot). AreReady g.T.Lookup.ready s.room.tables c.args.change.tables) (sym c.self.view_is) c.requires.prepared.readied.tables

pub add_each-requires-clause-each_fresh : goal.add_each-requires-clause-each_fresh
add_each-requires-clause-each_fresh g c =
    let n = length c.args.change.emptied in
    fresh_less 0 n c.self.inside.fresh (omega arith) (subst (λ (s : SimView g.row.T.Denot). AllByRecursion (IsFresh n) s.room.fresh) (sym c.self.view_is) c.requires.prepared.readied.fresh)

pub empty_each-requires : goal.empty_each-requires
empty_each-requires g c =
    let emptied = c.args.change.emptied in
    let n = length emptied in
    let fresh = subst (λ (s : SimView g.row.T.Denot). AllByRecursion (IsFresh n) s.room.fresh) (sym c.self.view_is) c.requires.prepared.readied.fresh in
    let old = subst (λ (s : SimView g.row.T.Denot). HaveRoom n s.room.zones emptied) (sym c.self.view_is) c.requires.prepared.readied.zones in
    same_rooms n c.self.inside.zones.entries c.add_each.new.zones.entries (λ z other h. c.add_each.ensures.room n z other fresh (c.remove_each.ensures.room n z other h)) emptied old

pub invariant_of-self : goal.invariant_of-self
invariant_of-self g c =
    let flows = g.T.Lookup.flows in
    let change = c.args.change in
    let old = flows_held flows c.self.inside.chassis.entries in
    let replaced = flows_held flows c.replace_each.new.held.entries in
    let left = flows_held flows c.remove_each.new.held.entries in
    let new = flows_held flows c.add_each.new.held.entries in
    record {
      proper = changed_proper flows change old new c.requires.proper c.self.invariant.proper (λ name. changed flows change old replaced left new name (c.replace_each.ensures.replaced name) (c.remove_each.ensures.gone name) (c.add_each.ensures.come name));
      zoned = λ name.
          zoned_still flows change name (at_name old name) (at_name replaced name) (at_name left name) (at_name new name)
          (at_name (zones_held c.self.inside.zones.entries) name) (at_name (zones_held c.remove_each.new.zones.entries) name) (at_name (zones_held c.add_each.new.zones.entries) name) (at_name (zones_held c.empty_each.new.zones.entries) name)
          (c.self.invariant.zoned name) (c.replace_each.ensures.replaced name) (c.remove_each.ensures.gone name) (c.add_each.ensures.come name)
          (c.remove_each.ensures.zones name) (c.add_each.ensures.zones name) (c.empty_each.ensures name);
    }

pub returns : goal.returns
returns g c =
    let flows = g.T.Lookup.flows in
    let change = c.args.change in
    let old = flows_held flows c.self.inside.chassis.entries in
    let replaced = flows_held flows c.replace_each.new.held.entries in
    let left = flows_held flows c.remove_each.new.held.entries in
    let new = flows_held flows c.add_each.new.held.entries in
    let after : SimState = record { chassis = new; zones = zones_held c.empty_each.new.zones.entries; bindings = c.bind_each.new.bindings.entries; names = c.name_each.new.names.entries; waiting = c.self.inside.underlay.waiting; next = c.self.inside.underlay.next } in
    subst (λ (s : SimView g.row.T.Denot). IsApplied flows s.state change after) c.self.view_is (record {
      chassis = λ name. changed flows change old replaced left new name (c.replace_each.ensures.replaced name) (c.remove_each.ensures.gone name) (c.add_each.ensures.come name);
      zones = λ name. rezoned flows change name (at_name (zones_held c.self.inside.zones.entries) name) (at_name (zones_held c.remove_each.new.zones.entries) name) (at_name (zones_held c.add_each.new.zones.entries) name) (at_name (zones_held c.empty_each.new.zones.entries) name)
          (c.remove_each.ensures.zones name) (c.add_each.ensures.zones name) (c.empty_each.ensures name);
      bindings = c.bind_each.ensures;
      names = c.name_each.ensures;
      waiting = refl;
      next = refl;
    })
