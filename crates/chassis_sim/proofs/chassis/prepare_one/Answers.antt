use Rattle.std.proofs.Common.{OnOk, sym, ap, subst, ◌∙◌}
use Rattle.ovn_base.specs.names.SameName.{same_name}
use Rattle.chassis_sim.specs.Changing.{IsDeltaOfAny, IsReadyFor}
use Rattle.chassis_sim.specs.Tables.{flows_held}
use Rattle.chassis_sim.proofs.Lookups.{seen_set, seen_found, is_found}
use Rattle.chassis_sim.proofs.chassis.prepare_one.Goals as goal

pub prepare-requires : goal.prepare-requires
prepare-requires g c =
    subst (IsDeltaOfAny c.args.delta.now) (seen_found g.T.Lookup.flows c.args.held.now.entries c.args.name.now c.in-Some.tables.now (sym c.in-Some.ensures.value)) c.requires

pub returns-in-Some-clause-flows : goal.returns-in-Some-clause-flows
returns-in-Some-clause-flows g c =
    let flows = g.T.Lookup.flows in
    let held = c.args.held.now.entries in
    let written = c.get_mut.follows.holds c.prepare.new.self in
    ap (flows_held flows) written.0 ∙ seen_set flows (same_name c.args.name.now) held c.in-Some.tables.now c.prepare.new.self (sym c.in-Some.ensures.value) c.prepare.ensures.same

pub returns-in-Some-clause-ready : goal.returns-in-Some-clause-ready
returns-in-Some-clause-ready g c =
    let written = c.get_mut.follows.holds c.prepare.new.self in
    let updates = written.3 (is_found _ c.in-Some.tables.now (sym c.in-Some.ensures.value)) in
    subst (λ found. OnOk c.prepare.result (IsReadyFor g.T.Lookup.ready c.args.delta.now found)) (sym updates.1) c.prepare.ensures.ready

pub returns-in-Some-clause-others : goal.returns-in-Some-clause-others
returns-in-Some-clause-others g c other apart =
    let written = c.get_mut.follows.holds c.prepare.new.self in
    let updates = written.3 (is_found _ c.in-Some.tables.now (sym c.in-Some.ensures.value)) in
    updates.2 other apart

pub returns-in-None-clause-ready : goal.returns-in-None-clause-ready
returns-in-None-clause-ready g c = rw c.get_mut.follows.holds-at-none (subst (IsReadyFor g.T.Lookup.ready c.args.delta.now) c.in-None.ensures.value tt)
