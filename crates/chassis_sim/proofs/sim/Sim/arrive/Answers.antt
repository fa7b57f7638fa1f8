use Rattle.std.proofs.Common.{arith, ◌≡◌, ◌++◌, ℕ, List, Some, sym, ap, subst, ◌∙◌, refl}
use Rattle.indexmap.specs.IndexMap.{spare}
use Rattle.switch_engine.specs.declared.walk.Start.TheVariants.{Frame}
use Rattle.switch_engine.specs.Outcome.{any_legal, of_program}
use Rattle.chassis_sim.specs.declared.underlay.WaitingFrame.{WaitingFrame}
use Rattle.chassis_sim.specs.Frames.{Brings}
use Rattle.chassis_sim.specs.InNames.{all_in_names, next_after_all, frames_sent}
use Rattle.chassis_sim.specs.Changing.{StaysPrepared}
use Rattle.chassis_sim.specs.Passing.{AddsWalk, IsTold, IsArrived, HasOtherFrames, arrived}
use Rattle.chassis_sim.specs.State.{SimView, SimState, SimRoom, numbered}
use Rattle.chassis_sim.specs.Tables.{flows_held, zones_held}
use Rattle.chassis_sim.proofs.Fronts.{keeps_out}
use Rattle.chassis_sim.proofs.Outcomes.{arrives_from, no_memory_left}
use Rattle.chassis_sim.proofs.Readiness.{stays}
use Rattle.chassis_sim.proofs.sim.Sim.arrive.Goals as goal

pub returns-in_err-entry-clause-answer : goal.returns-in_err-entry-clause-answer
returns-in_err-entry-clause-answer g c =
    let n = c.args.frame in
    let frame : WaitingFrame = c.in-Some.arriving.now in
    let waits = subst (λ (s : SimView g.row.T.Denot). numbered s.state.waiting n ≡ Some frame) c.self.view_is (sym c.in-Some.ensures.frame) in
    no_memory_left c.from_residual.result c.args.self.now n c.args.keep c.args.now c.args.out.now c.args.out.now c.args.self.now frame c.from_residual.ensures.1 waits (record { is = refl; zones = λ other apart. refl }) (keeps_out c.args.out.now)

pub returns-in_err-run-clause-answer : goal.returns-in_err-run-clause-answer
returns-in_err-run-clause-answer g c =
    let inside = c.self.inside in
    let n = c.args.frame in
    let frame : WaitingFrame = c.in-Some.arriving.now in
    let state : SimState = record { chassis = flows_held g.T.Lookup.flows inside.chassis.entries; zones = zones_held c.pass.new.zones.entries; bindings = inside.bindings.entries; names = inside.names.entries; waiting = inside.underlay.waiting; next = inside.underlay.next } in
    let new : SimView g.row.T.Denot = record { state = state; room = record { chassis = spare inside.chassis; zoned = spare c.pass.new.zones; bindings = spare inside.bindings; names = spare inside.names; tables = inside.chassis.entries; zones = c.pass.new.zones.entries; fresh = inside.fresh } } in
    let waits = subst (λ (s : SimView g.row.T.Denot). numbered s.state.waiting n ≡ Some frame) c.self.view_is (sym c.in-Some.ensures.frame) in
    let others : HasOtherFrames frame.to c.args.self.now.state state = subst (λ (s : SimView g.row.T.Denot). HasOtherFrames frame.to s.state state) c.self.view_is (record { is = refl; zones = c.pass.ensures.others.lists }) in
    no_memory_left c.from_residual-in_err-run.result c.args.self.now n c.args.keep c.args.now c.args.out.now c.args.out.now new frame c.from_residual-in_err-run.ensures.1 waits others (keeps_out c.args.out.now)

pub returns-in_err-tell-clause-answer : goal.returns-in_err-tell-clause-answer
returns-in_err-tell-clause-answer g c =
    let inside = c.self.inside in
    let n = c.args.frame in
    let frame : WaitingFrame = c.in-Some.arriving.now in
    let state : SimState = record { chassis = flows_held g.T.Lookup.flows inside.chassis.entries; zones = zones_held c.pass.new.zones.entries; bindings = inside.bindings.entries; names = inside.names.entries; waiting = c.tell.new.underlay.waiting; next = c.tell.new.underlay.next } in
    let new : SimView g.row.T.Denot = record { state = state; room = record { chassis = spare inside.chassis; zoned = spare c.pass.new.zones; bindings = spare inside.bindings; names = spare inside.names; tables = inside.chassis.entries; zones = c.pass.new.zones.entries; fresh = inside.fresh } } in
    let waits = subst (λ (s : SimView g.row.T.Denot). numbered s.state.waiting n ≡ Some frame) c.self.view_is (sym c.in-Some.ensures.frame) in
    let others : HasOtherFrames frame.to c.args.self.now.state state = subst (λ (s : SimView g.row.T.Denot). HasOtherFrames frame.to s.state state) c.self.view_is (record { is = refl; zones = c.pass.ensures.others.lists }) in
    no_memory_left c.from_residual-in_err-tell.result c.args.self.now n c.args.keep c.args.now c.args.out.now c.tell.new.out new frame c.from_residual-in_err-tell.ensures.1 waits others c.tell.ensures.kept

pub returns-clause-answer : goal.returns-clause-answer
returns-clause-answer g c =
    let inside = c.self.inside in
    let n = c.args.frame in
    let keep = c.args.keep in
    let frame : WaitingFrame = c.in-Some.arriving.now in
    let state : SimState = record { chassis = flows_held g.T.Lookup.flows inside.chassis.entries; zones = zones_held inside.zones.entries; bindings = inside.bindings.entries; names = inside.names.entries; waiting = inside.underlay.waiting; next = inside.underlay.next } in
    let zones = zones_held c.pass.new.zones.entries in
    let new : SimState = record state { zones = zones; waiting = c.tell.new.underlay.waiting; next = c.tell.new.underlay.next } in
    let run = c.in_ok-run.run' in
    let entry = c.in_ok-entry.entry in
    let packet = c.in_ok-entry.packet in
    let brings = subst (λ (bytes : List ℕ). Brings bytes entry packet) c.as_slice.ensures c.in_ok-entry.ensures in
    let told = subst (λ (next : ℕ). AddsWalk frame.to (Frame n) run.walk (all_in_names state.names frame.to (Frame n) next run.effects) c.args.out.now c.tell.new.out) c.arrived.ensures.next c.in_ok-tell.ensures.told in
    let sent = λ (next : ℕ). frames_sent (all_in_names state.names frame.to (Frame n) next run.effects) in
    let waiting : c.tell.new.underlay.waiting ≡ (arrived state n keep).waiting ++ sent state.next =
    c.in_ok-tell.ensures.waiting ∙ ap (λ (w : List (ℕ × WaitingFrame)). w ++ sent c.arrived.new.self.next) c.arrived.ensures.waiting ∙ ap (λ (next : ℕ). (arrived state n keep).waiting ++ sent next) c.arrived.ensures.next in
    let next : c.tell.new.underlay.next ≡ next_after_all state.next run.effects = c.in_ok-tell.ensures.next ∙ ap (λ (k : ℕ). next_after_all k run.effects) c.arrived.ensures.next in
    let all_told : IsTold (record (arrived state n keep) { zones = zones }) frame.to (Frame n) run.walk run.effects c.args.out.now c.tell.new.out new =
    record { told = told; state = λ i. record state { zones = zones; waiting = waiting i; next = next i } } in
    subst (λ (s : SimView g.row.T.Denot). IsArrived any_legal s.state n keep c.args.now c.args.out.now c.tell.new.out new × IsArrived of_program s.state n keep c.args.now c.args.out.now c.tell.new.out new) c.self.view_is (
      arrives_from any_legal state zones n keep c.args.now frame entry packet run c.args.out.now c.tell.new.out new (sym c.in-Some.ensures.frame) brings c.in_ok-run.ensures.ok.any all_told,
      arrives_from of_program state zones n keep c.args.now frame entry packet run c.args.out.now c.tell.new.out new (sym c.in-Some.ensures.frame) brings c.in_ok-run.ensures.ok.own all_told,
    )

pub returns-clause-prepared : goal.returns-clause-prepared
returns-clause-prepared g c =
    let inside = c.self.inside in
    let ready = g.T.Lookup.ready in
    let zones = c.pass.new.zones in
    let old : SimRoom g.row.T.Denot = record { chassis = spare inside.chassis; zoned = spare inside.zones; bindings = spare inside.bindings; names = spare inside.names; tables = inside.chassis.entries; zones = inside.zones.entries; fresh = inside.fresh } in
    subst (λ (s : SimView g.row.T.Denot). StaysPrepared ready s.room (record old { zones = zones.entries; zoned = spare zones })) c.self.view_is
    (stays ready old zones.entries (spare zones) c.in_ok-run.ensures.ok.room (omega (arith, c.pass.ensures.spare)))
