use Rattle.std.proofs.Common.{◌≡◌, is_some, map, ap, subst, ◌∙◌}
use Rattle.ovn_base.specs.names.SameName.{same_name}
use Rattle.switch_engine.specs.Zones.{all_expired}
use Rattle.indexmap.specs.IndexMap.{spare}
use Rattle.chassis_sim.specs.Changing.{StaysPrepared}
use Rattle.chassis_sim.specs.State.{SimView, SimState, SimRoom, at_name}
use Rattle.chassis_sim.specs.Tables.{flows_held, seen_by, zones_held}
use Rattle.chassis_sim.proofs.Lookups.{seen_lookup, map_some}
use Rattle.chassis_sim.proofs.Readiness.{stays}
use Rattle.chassis_sim.proofs.sim.Sim.expire.Goals as goal

pub invariant_of-self : goal.invariant_of-self
invariant_of-self g c =
    let old = zones_held c.self.inside.zones.entries in
    record {
      proper = c.self.invariant.proper;
      zoned = λ name.
          ap (λ zones. is_some (at_name zones name)) c.expire_each.ensures.lists
          ∙ ap is_some (seen_lookup (all_expired c.args.now) (same_name name) old)
          ∙ map_some (all_expired c.args.now) (at_name old name)
          ∙ c.self.invariant.zoned name;
    }

pub returns-clause-state : goal.returns-clause-state
returns-clause-state g c =
    let inside = c.self.inside in
    let new : SimState = record { chassis = flows_held g.T.Lookup.flows inside.chassis.entries; zones = zones_held c.expire_each.new.zones.entries; bindings = inside.bindings.entries; names = inside.names.entries; waiting = inside.underlay.waiting; next = inside.underlay.next } in
    subst (λ (s : SimView g.row.T.Denot). new ≡ record s.state { zones = map (seen_by (all_expired c.args.now)) s.state.zones }) c.self.view_is (λ i. record new { zones = c.expire_each.ensures.lists i })

pub returns-clause-prepared : goal.returns-clause-prepared
returns-clause-prepared g c =
    let inside = c.self.inside in
    let ready = g.T.Lookup.ready in
    let zones = c.expire_each.new.zones in
    let old : SimRoom g.row.T.Denot = record { chassis = spare inside.chassis; zoned = spare inside.zones; bindings = spare inside.bindings; names = spare inside.names; tables = inside.chassis.entries; zones = inside.zones.entries; fresh = inside.fresh } in
    subst (λ (s : SimView g.row.T.Denot). StaysPrepared ready s.room (record old { zones = zones.entries; zoned = spare zones })) c.self.view_is
    (stays ready old zones.entries (spare zones) c.expire_each.ensures.room c.expire_each.ensures.spare)
