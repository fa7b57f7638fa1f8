use Rattle.std.proofs.Common.{sym}
use Rattle.chassis_sim.proofs.Lookups.{is_found}
use Rattle.world_setup.proofs.FlowStores.{rows_stay}
use Rattle.world_setup.proofs.stores.prepare_one.Goals as goal

pub returns-in_err-prepare_around-in-Some-clause-kept : goal.returns-in_err-prepare_around-in-Some-clause-kept
returns-in_err-prepare_around-in-Some-clause-kept c =
    let had = c.in-Some.ensures.value in
    let updates = (c.get_mut.follows.holds c.prepare_around.new.self).3 (is_found _ c.in-Some.flows.now (sym had)) in
    rows_stay c.args.stores.now.entries (c.get_mut.follows.lender c.prepare_around.new.self).entries c.args.maps.now.chassis updates.2 c.in-Some.flows.now c.prepare_around.new.self (sym had) updates.1 c.prepare_around.ensures.kept

pub returns-in_ok-prepare_around-in-Some-clause-kept : goal.returns-in_ok-prepare_around-in-Some-clause-kept
returns-in_ok-prepare_around-in-Some-clause-kept c =
    let had = c.in-Some.ensures.value in
    let updates = (c.get_mut.follows.holds c.prepare_around.new.self).3 (is_found _ c.in-Some.flows.now (sym had)) in
    rows_stay c.args.stores.now.entries (c.get_mut.follows.lender c.prepare_around.new.self).entries c.args.maps.now.chassis updates.2 c.in-Some.flows.now c.prepare_around.new.self (sym had) updates.1 c.prepare_around.ensures.kept
