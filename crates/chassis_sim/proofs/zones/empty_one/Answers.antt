use Rattle.std.proofs.Common.{sym}
use Rattle.chassis_sim.specs.Tables.{zones_held}
use Rattle.chassis_sim.proofs.Emptying.{lists, one_emptied, one_less, absent_emptied}
use Rattle.chassis_sim.proofs.Lookups.{seen_none, is_found}
use Rattle.chassis_sim.proofs.zones.empty_one.Goals as goal

pub returns-in-Some-clause-emptied : goal.returns-in-Some-clause-emptied
returns-in-Some-clause-emptied c =
    let written = c.get_mut.follows.holds c.empty.new.self in
    let updates = written.3 (is_found _ c.in-Some.held.now (sym c.in-Some.ensures.value)) in
    one_emptied c.args.zones.now.entries (c.get_mut.follows.lender c.empty.new.self).entries c.args.name.now c.args.number c.in-Some.held.now c.empty.new.self (sym c.in-Some.ensures.value) updates.1 c.empty.ensures.emptied updates.2

pub returns-in-Some-clause-room : goal.returns-in-Some-clause-room
returns-in-Some-clause-room c =
    let written = c.get_mut.follows.holds c.empty.new.self in
    let updates = written.3 (is_found _ c.in-Some.held.now (sym c.in-Some.ensures.value)) in
    one_less c.args.zones.now.entries (c.get_mut.follows.lender c.empty.new.self).entries c.args.name.now c.args.number c.in-Some.held.now c.empty.new.self (sym c.in-Some.ensures.value) updates.1 c.empty.ensures.emptied updates.2 c.empty.ensures.room

pub returns-in_default-clause-emptied : goal.returns-in_default-clause-emptied
returns-in_default-clause-emptied c =
    let zones = c.args.zones.now.entries in
    rw c.get_mut.follows.holds-at-none (absent_emptied (c.args.name.now, c.args.number) (zones_held zones) (seen_none lists zones c.args.name.now (sym c.in_default.ensures.value)))
