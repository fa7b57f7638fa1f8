use Rattle.std.proofs.Common.{List, sym, ap, subst, ◌∙◌}
use Rattle.std.proofs.lemmas.Option.{none-some, same_Some}
use Rattle.std.specs.Option.{option_and_then}
use Rattle.std.specs.Prelude.{slice_get}
use Rattle.ovn_base.specs.lists.Once.{EachOnce}
use Rattle.flow_table.specs.declared.flow.Flow.{Flow}
use Rattle.chassis_sim.specs.State.{SimView, at_name, flow_at}
use Rattle.chassis_sim.proofs.Lookups.{seen_found, seen_none}
use Rattle.chassis_sim.proofs.sim.Sim.flow.Goals as goal

pub returns-in-Some-clause-flow : goal.returns-in-Some-clause-flow
returns-in-Some-clause-flow g c =
    let name = c.args.chassis.now in
    let found = seen_found g.T.Lookup.flows c.self.inside.chassis.entries name c.in-Some.tables.now (sym c.in-Some.ensures.value) in
    c.flow.ensures.flow
    ∙ sym (ap (λ o. option_and_then (λ (flows : List Flow). slice_get flows c.args.index) o) found)
    ∙ ap (λ (s : SimView g.row.T.Denot). flow_at s.state name c.args.index) c.self.view_is

pub returns-in-Some-clause-once : goal.returns-in-Some-clause-once
returns-in-Some-clause-once g c flows is =
    let name = c.args.chassis.now in
    let found = seen_found g.T.Lookup.flows c.self.inside.chassis.entries name c.in-Some.tables.now (sym c.in-Some.ensures.value) in
    let here = ap (λ (s : SimView g.row.T.Denot). at_name s.state.chassis name) c.self.view_is ∙ is in
    subst EachOnce (same_Some _ flows (sym found ∙ here)) c.flow.ensures.once

pub returns-in-None-clause-flow : goal.returns-in-None-clause-flow
returns-in-None-clause-flow g c =
    let name = c.args.chassis.now in
    let absent = seen_none g.T.Lookup.flows c.self.inside.chassis.entries name (sym c.in-None.ensures.value) in
    sym (ap (λ o. option_and_then (λ (flows : List Flow). slice_get flows c.args.index) o) absent)
    ∙ ap (λ (s : SimView g.row.T.Denot). flow_at s.state name c.args.index) c.self.view_is

pub returns-in-None-clause-once : goal.returns-in-None-clause-once
returns-in-None-clause-once g c flows is =
    let name = c.args.chassis.now in
    let absent = seen_none g.T.Lookup.flows c.self.inside.chassis.entries name (sym c.in-None.ensures.value) in
    absurd (none-some flows (sym absent ∙ ap (λ (s : SimView g.row.T.Denot). at_name s.state.chassis name) c.self.view_is ∙ is))
