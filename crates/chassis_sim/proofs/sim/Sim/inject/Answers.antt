use Rattle.std.proofs.Common.{arith, ◌≡◌, Some, sym, subst, refl}
use Rattle.indexmap.specs.IndexMap.{spare}
use Rattle.switch_engine.specs.declared.walk.Start.TheVariants.{Port}
use Rattle.switch_engine.specs.Outcome.{any_legal, of_program}
use Rattle.chassis_sim.specs.Changing.{StaysPrepared}
use Rattle.chassis_sim.specs.Passing.{IsInjected, IsTold, HasOtherFrames}
use Rattle.chassis_sim.specs.State.{SimView, SimState, SimRoom, at_name}
use Rattle.chassis_sim.specs.Tables.{flows_held, zones_held}
use Rattle.chassis_sim.proofs.Fronts.{keeps_out}
use Rattle.chassis_sim.proofs.Outcomes.{injected, no_memory}
use Rattle.chassis_sim.proofs.Readiness.{stays}
use Rattle.chassis_sim.proofs.sim.Sim.inject.Goals as goal

pub returns-in_err-run-clause-answer : goal.returns-in_err-run-clause-answer
returns-in_err-run-clause-answer g c =
    let inside = c.self.inside in
    let chassis = c.in-Some.field-0.now in
    let state : SimState = record { chassis = flows_held g.T.Lookup.flows inside.chassis.entries; zones = zones_held c.pass.new.zones.entries; bindings = inside.bindings.entries; names = inside.names.entries; waiting = inside.underlay.waiting; next = inside.underlay.next } in
    let new : SimView g.row.T.Denot = record { state = state; room = record { chassis = spare inside.chassis; zoned = spare c.pass.new.zones; bindings = spare inside.bindings; names = spare inside.names; tables = inside.chassis.entries; zones = c.pass.new.zones.entries; fresh = inside.fresh } } in
    let bound = subst (λ (s : SimView g.row.T.Denot). at_name s.state.bindings c.args.port.now ≡ Some chassis) c.self.view_is (sym c.in-Some.ensures.value) in
    let others : HasOtherFrames chassis c.args.self.now.state state = subst (λ (s : SimView g.row.T.Denot). HasOtherFrames chassis s.state state) c.self.view_is (record { is = refl; zones = c.pass.ensures.others.lists }) in
    no_memory c.from_residual.result c.args.self.now c.args.port.now c.args.now c.args.packet c.args.out.now c.args.out.now new chassis c.from_residual.ensures.1 bound others (keeps_out c.args.out.now)

pub returns-in_err-tell-clause-answer : goal.returns-in_err-tell-clause-answer
returns-in_err-tell-clause-answer g c =
    let inside = c.self.inside in
    let chassis = c.in-Some.field-0.now in
    let state : SimState = record { chassis = flows_held g.T.Lookup.flows inside.chassis.entries; zones = zones_held c.pass.new.zones.entries; bindings = inside.bindings.entries; names = inside.names.entries; waiting = c.tell.new.underlay.waiting; next = c.tell.new.underlay.next } in
    let new : SimView g.row.T.Denot = record { state = state; room = record { chassis = spare inside.chassis; zoned = spare c.pass.new.zones; bindings = spare inside.bindings; names = spare inside.names; tables = inside.chassis.entries; zones = c.pass.new.zones.entries; fresh = inside.fresh } } in
    let bound = subst (λ (s : SimView g.row.T.Denot). at_name s.state.bindings c.args.port.now ≡ Some chassis) c.self.view_is (sym c.in-Some.ensures.value) in
    let others : HasOtherFrames chassis c.args.self.now.state state = subst (λ (s : SimView g.row.T.Denot). HasOtherFrames chassis s.state state) c.self.view_is (record { is = refl; zones = c.pass.ensures.others.lists }) in
    no_memory c.from_residual-in_err-tell.result c.args.self.now c.args.port.now c.args.now c.args.packet c.args.out.now c.tell.new.out new chassis c.from_residual-in_err-tell.ensures.1 bound others c.tell.ensures.kept

pub returns-clause-answer : goal.returns-clause-answer
returns-clause-answer g c =
    let inside = c.self.inside in
    let chassis = c.in-Some.field-0.now in
    let state : SimState = record { chassis = flows_held g.T.Lookup.flows inside.chassis.entries; zones = zones_held inside.zones.entries; bindings = inside.bindings.entries; names = inside.names.entries; waiting = inside.underlay.waiting; next = inside.underlay.next } in
    let zones = zones_held c.pass.new.zones.entries in
    let new : SimState = record state { zones = zones; waiting = c.tell.new.underlay.waiting; next = c.tell.new.underlay.next } in
    let run = c.in_ok-run.run' in
    let told : IsTold (record state { zones = zones }) chassis (Port c.args.port.now) run.walk run.effects c.args.out.now c.tell.new.out new =
    record { told = c.in_ok-tell.ensures.told; state = λ i. record state { zones = zones; waiting = c.in_ok-tell.ensures.waiting i; next = c.in_ok-tell.ensures.next i } } in
    subst (λ (s : SimView g.row.T.Denot). IsInjected any_legal s.state c.args.port.now c.args.now c.args.packet c.args.out.now c.tell.new.out new × IsInjected of_program s.state c.args.port.now c.args.now c.args.packet c.args.out.now c.tell.new.out new) c.self.view_is (
      injected any_legal state zones c.args.port.now c.args.now c.args.packet chassis run c.args.out.now c.tell.new.out new (sym c.in-Some.ensures.value) c.in_ok-run.ensures.ok.any told,
      injected of_program state zones c.args.port.now c.args.now c.args.packet chassis run c.args.out.now c.tell.new.out new (sym c.in-Some.ensures.value) c.in_ok-run.ensures.ok.own told,
    )

pub returns-clause-prepared : goal.returns-clause-prepared
returns-clause-prepared g c =
    let inside = c.self.inside in
    let ready = g.T.Lookup.ready in
    let zones = c.pass.new.zones in
    let old : SimRoom g.row.T.Denot = record { chassis = spare inside.chassis; zoned = spare inside.zones; bindings = spare inside.bindings; names = spare inside.names; tables = inside.chassis.entries; zones = inside.zones.entries; fresh = inside.fresh } in
    subst (λ (s : SimView g.row.T.Denot). StaysPrepared ready s.room (record old { zones = zones.entries; zoned = spare zones })) c.self.view_is
    (stays ready old zones.entries (spare zones) c.in_ok-run.ensures.ok.room (omega (arith, c.pass.ensures.spare)))
