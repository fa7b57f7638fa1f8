use Rattle.std.proofs.Common.{IfOk, is_some, sym, ap, subst, ◌∙◌}
use Rattle.ovn_base.specs.names.SameName.{same_name}
use Rattle.switch_engine.specs.Zones.{HeldZones}
use Rattle.chassis_sim.specs.Holding.{IsPassage}
use Rattle.chassis_sim.specs.State.{at_name}
use Rattle.chassis_sim.specs.Tables.{rooms_held, zones_held}
use Rattle.chassis_sim.proofs.Emptying.{lists}
use Rattle.chassis_sim.proofs.Lookups.{seen_found, seen_none, seen_same, seen_set, seen_written, written_some, is_found, not_both}
use Rattle.chassis_sim.proofs.Passages.{lost_passage, walked_passage}
use Rattle.chassis_sim.proofs.passing.pass.Goals as goal

pub returns-in_default-clause-ok : goal.returns-in_default-clause-ok
returns-in_default-clause-ok g c =
    let name = c.args.chassis.now in
    let entry = c.args.entry.now in
    let old = c.args.zones.now.entries in
    let absent = seen_none g.T.Lookup.flows c.args.held.now.entries name (sym c.in_default.ensures.value) in
    subst (λ found. IfOk c.lost.result (IsPassage name found entry c.args.now c.args.packet old old)) (sym absent)
    (lost_passage name entry c.args.now c.args.packet c.lost.result old c.lost.ensures.walk c.lost.ensures.effects c.lost.ensures.can)

pub unreachable-requires : goal.unreachable-requires
unreachable-requires g c =
    let name = c.args.chassis.now in
    let found = seen_found g.T.Lookup.flows c.args.held.now.entries name c.in-Some.tables.now (sym c.in-Some.ensures.value) in
    not_both _ _ _ (c.requires.chassis.zoned name) (seen_none lists c.args.zones.now.entries name (sym c.in_default-get_mut.ensures.value)) found

pub through-requires-clause-proper : goal.through-requires-clause-proper
through-requires-clause-proper g c =
    c.requires.chassis.proper c.args.chassis.now _ (seen_found g.T.Lookup.flows c.args.held.now.entries c.args.chassis.now c.in-Some.tables.now (sym c.in-Some.ensures.value))

pub returns-clause-ok : goal.returns-clause-ok
returns-clause-ok g c =
    let name = c.args.chassis.now in
    let entry = c.args.entry.now in
    let old = c.args.zones.now.entries in
    let held = c.in-Some-get_mut.lists.now in
    let left = c.through.new.zones in
    let written = c.get_mut.follows.holds left in
    let new = (c.get_mut.follows.lender left).entries in
    let updates = written.3 (is_found _ held (sym c.in-Some-get_mut.ensures.value)) in
    let found = seen_found g.T.Lookup.flows c.args.held.now.entries name c.in-Some.tables.now (sym c.in-Some.ensures.value) in
    subst (λ found. IfOk c.through.result (IsPassage name found entry c.args.now c.args.packet old new)) (sym found)
    (walked_passage name entry c.args.now c.args.packet c.through.result _ old new held left (sym c.in-Some-get_mut.ensures.value) written.0 updates.1 updates.2
    c.through.ensures.any c.through.ensures.own c.through.ensures.can c.through.ensures.more)

pub returns-clause-chassis : goal.returns-clause-chassis
returns-clause-chassis g c =
    let name = c.args.chassis.now in
    let old = c.args.zones.now.entries in
    let left = c.through.new.zones in
    let written = c.get_mut.follows.holds left in
    let is = ap zones_held written.0 ∙ seen_written lists (same_name name) old left in
    record {
      proper = c.requires.chassis.proper;
      zoned = λ n. ap (λ zones. is_some (at_name zones n)) is ∙ written_some (same_name name) (same_name n) (zones_held old) left.zones ∙ c.requires.chassis.zoned n;
    }

pub returns-clause-others : goal.returns-clause-others
returns-clause-others g c =
    let old = c.args.zones.now.entries in
    let left = c.through.new.zones in
    let written = c.get_mut.follows.holds left in
    let updates = written.3 (is_found _ c.in-Some-get_mut.lists.now (sym c.in-Some-get_mut.ensures.value)) in
    record {
      lists = λ other apart. seen_same lists old (c.get_mut.follows.lender left).entries other (updates.2 other apart);
      rooms =
          ap rooms_held written.0
          ∙ seen_set (λ (held : HeldZones). held.room) (same_name c.args.chassis.now) old c.in-Some-get_mut.lists.now left (sym c.in-Some-get_mut.ensures.value) c.through.ensures.room;
    }
