use Rattle.std.proofs.Common.{Some, sym, subst, refl}
use Rattle.chassis_sim.specs.Changing.{AreReplaced, IsReadyFor}
use Rattle.chassis_sim.specs.State.{at_name}
use Rattle.chassis_sim.specs.Tables.{flows_held}
use Rattle.chassis_sim.proofs.Lookups.{seen_found, seen_none, is_found}
use Rattle.chassis_sim.proofs.chassis.replace_one.Goals as goal

pub replace-requires : goal.replace-requires
replace-requires g c = subst (IsReadyFor g.T.Lookup.ready c.args.delta) (sym c.in-Some.ensures.value) c.requires

pub returns-in-Some-clause-replaced : goal.returns-in-Some-clause-replaced
returns-in-Some-clause-replaced g c =
    let flows = g.T.Lookup.flows in
    let name = c.args.name.now in
    let before = seen_found flows c.args.held.now.entries name c.in-Some.tables.now (sym c.in-Some.ensures.value) in
    let written = c.get_mut.follows.holds c.replace.new.self in
    let updates = written.3 (is_found _ c.in-Some.tables.now (sym c.in-Some.ensures.value)) in
    let after = seen_found flows (c.get_mut.follows.lender c.replace.new.self).entries name c.replace.new.self updates.1 in
    subst (λ found. AreReplaced (Some c.args.delta) found (at_name (flows_held flows (c.get_mut.follows.lender c.replace.new.self).entries) name)) (sym before) (flows c.replace.new.self, after, c.replace.ensures, c.flow-first.ensures.once)

pub returns-in-Some-clause-others : goal.returns-in-Some-clause-others
returns-in-Some-clause-others g c other apart =
    let written = c.get_mut.follows.holds c.replace.new.self in
    let updates = written.3 (is_found _ c.in-Some.tables.now (sym c.in-Some.ensures.value)) in
    updates.2 other apart

pub returns-in_default-clause-replaced : goal.returns-in_default-clause-replaced
returns-in_default-clause-replaced g c =
    let absent = seen_none g.T.Lookup.flows c.args.held.now.entries c.args.name.now (sym c.in_default.ensures.value) in
    rw c.get_mut.follows.holds-at-none (subst (λ found. AreReplaced (Some c.args.delta) found found) (sym absent) refl)
