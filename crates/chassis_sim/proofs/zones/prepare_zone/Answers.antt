use Rattle.std.proofs.Common.{sym, ap, ◌∙◌}
use Rattle.ovn_base.specs.names.SameName.{same_name}
use Rattle.chassis_sim.specs.Tables.{zones_held}
use Rattle.chassis_sim.proofs.Emptying.{lists, more_room}
use Rattle.chassis_sim.proofs.Fronts.{ok_map}
use Rattle.chassis_sim.proofs.Lookups.{seen_set, is_found}
use Rattle.chassis_sim.proofs.zones.prepare_zone.Goals as goal

pub returns-in-Some-clause-lists : goal.returns-in-Some-clause-lists
returns-in-Some-clause-lists c =
    let written = c.get_mut.follows.holds c.make_room.new.held in
    ap zones_held written.0 ∙ seen_set lists (same_name c.args.name.now) c.args.zones.now.entries c.in-Some.held.now c.make_room.new.held (sym c.in-Some.ensures.value) c.make_room.ensures.lists

pub returns-in-Some-clause-more : goal.returns-in-Some-clause-more
returns-in-Some-clause-more c =
    let written = c.get_mut.follows.holds c.make_room.new.held in
    let updates = written.3 (is_found _ c.in-Some.held.now (sym c.in-Some.ensures.value)) in
    ok_map c.make_room.result
    (more_room c.args.zones.now.entries (c.get_mut.follows.lender c.make_room.new.held).entries c.args.name.now c.in-Some.held.now c.make_room.new.held (sym c.in-Some.ensures.value) updates.1 updates.2 c.args.room)
    c.make_room.ensures.more
