-- What came of a packet at a port, and of a frame that arrived.
use Rattle.std.specs.Prelude.{◌≡◌, ℕ, ◌++◌, Bool, List, [], ◌∷◌, Option, Some, None, IsErrAnd, Result, Ok, Err, refl}
use Rattle.std.proofs.Common.{sym, ap, subst, ◌∙◌}
use Rattle.ovn_base.specs.declared.name.Name.{Name}
use Rattle.inet_packet.specs.declared.packet.Packet.{Packet}
use Rattle.flow_table.specs.declared.flow.Flow.{Flow}
use Rattle.switch_engine.specs.declared.effect.Effect.{Effect}
use Rattle.switch_engine.specs.declared.effect.Effect.TheVariants.{Lost}
use Rattle.switch_engine.specs.declared.effect.Entry.{Entry}
use Rattle.switch_engine.specs.declared.effect.Entry.TheVariants.{Vif, Tunnel}
use Rattle.switch_engine.specs.declared.walk.RunOut.{RunOut}
use Rattle.switch_engine.specs.declared.walk.Start.TheVariants.{Port, Frame}
use Rattle.switch_engine.specs.declared.walk.Step.{Step}
use Rattle.switch_engine.specs.Growth.{GainsWalk}
use Rattle.switch_engine.specs.Outcome.{Choosing}
use Rattle.switch_engine.specs.Zones.{ZoneLists}
use Rattle.chassis_sim.specs.declared.out.SimFault.{SimFault}
use Rattle.chassis_sim.specs.declared.out.SimFault.TheVariants.{Memory}
use Rattle.chassis_sim.specs.declared.out.SimOut.{SimOut}
use Rattle.chassis_sim.specs.declared.underlay.WaitingFrame.{WaitingFrame}
use Rattle.chassis_sim.specs.Frames.{Brings}
use Rattle.chassis_sim.specs.Holding.{IsWalkBy, PassesChassis}
use Rattle.chassis_sim.specs.Passing.{IsTold, IsInjected, IsArrived, arrived, KeepsOut, HasOtherFrames, AnswersInject, AnswersArrive}
use Rattle.chassis_sim.specs.Passing.IsInjected.{through as through_port, nowhere}
use Rattle.chassis_sim.specs.Passing.IsArrived.{through as through_tunnel, gone}
use Rattle.chassis_sim.specs.State.{SimState, SimView, at_name, numbered}

-- what came to nothing is a walk
pub walked : (by : Choosing) (flows : List Flow) (entry : Entry) (now : ℕ) (packet : Packet) (before after : ZoneLists) (old new : RunOut) → old.walk ≡ [] → old.effects ≡ []
    → GainsWalk by flows entry now packet before after old new → IsWalkBy by flows entry now packet before new.walk new.effects after
walked by flows entry now packet before after old new none nothing gained =
    let steps : new.walk ≡ gained.steps = gained.all_steps ∙ ap (λ (l : List Step). l ++ gained.steps) none in
    let effects : new.effects ≡ gained.effects = gained.all_effects ∙ ap (λ (l : List Effect). l ++ gained.effects) nothing in
    subst (λ (l : List Step). IsWalkBy by flows entry now packet before l new.effects after) (sym steps)
    (subst (λ (l : List Effect). IsWalkBy by flows entry now packet before gained.steps l after) (sym effects) gained.is_walk)

-- the packet went through the flows that are held, or met none
pub injected : (by : Choosing) (state : SimState) (zones : List (Name × ZoneLists)) (port : Name) (now : ℕ) (packet : Packet) (chassis : Name) (run : RunOut) (before after : SimOut) (new : SimState)
    → at_name state.bindings port ≡ Some chassis
    → PassesChassis by chassis (at_name state.chassis chassis) (Vif port) now packet state.zones zones run
    → IsTold (record state { zones = zones }) chassis (Port port) run.walk run.effects before after new
    → IsInjected by state port now packet before after new
injected by state zones port now packet chassis run before after new bound passed told = from (at_name state.chassis chassis) refl passed
  where
    from : (found : Option (List Flow)) → at_name state.chassis chassis ≡ found → PassesChassis by chassis found (Vif port) now packet state.zones zones run → IsInjected by state port now packet before after new
    from (Some flows) is passed =
        through_port chassis flows passed.0 passed.1 run.walk run.effects bound is passed.2 passed.4
        (subst (λ z. IsTold (record state { zones = z }) chassis (Port port) run.walk run.effects before after new) passed.3 told)
    from None is passed =
        nowhere chassis bound is
        (subst (λ z. IsTold (record state { zones = z }) chassis (Port port) [] [] before after new) passed.2
        (subst (λ steps. IsTold (record state { zones = zones }) chassis (Port port) steps [] before after new) passed.0
        (subst (λ effects. IsTold (record state { zones = zones }) chassis (Port port) run.walk effects before after new) passed.1 told)))

-- the frame brought its packet to the flows that are held, or was lost
pub arrives_from : (by : Choosing) (state : SimState) (zones : List (Name × ZoneLists)) (n : ℕ) (keep : Bool) (now : ℕ) (frame : WaitingFrame) (entry : Entry) (packet : Packet) (run : RunOut) (before after : SimOut) (new : SimState)
    → numbered state.waiting n ≡ Some frame
    → Brings frame.bytes entry packet
    → PassesChassis by frame.to (at_name state.chassis frame.to) entry now packet state.zones zones run
    → IsTold (record (arrived state n keep) { zones = zones }) frame.to (Frame n) run.walk run.effects before after new
    → IsArrived by state n keep now before after new
arrives_from by state zones n keep now frame (Vif port) packet run before after new waits brings passed told = absurd brings
arrives_from by state zones n keep now frame (Tunnel vni in_key out_key) packet run before after new waits brings passed told = from (at_name state.chassis frame.to) refl passed
  where
    from : (found : Option (List Flow)) → at_name state.chassis frame.to ≡ found → PassesChassis by frame.to found (Tunnel vni in_key out_key) now packet state.zones zones run → IsArrived by state n keep now before after new
    from (Some flows) is passed =
        through_tunnel frame flows passed.0 passed.1 vni in_key out_key packet run.walk run.effects waits is passed.2 brings.0 passed.4
        (subst (λ z. IsTold (record (arrived state n keep) { zones = z }) frame.to (Frame n) run.walk run.effects before after new) passed.3 told)
    from None is passed =
        gone frame waits is
        (subst (λ z. IsTold (record (arrived state n keep) { zones = z }) frame.to (Frame n) [] (Lost ∷ []) before after new) passed.2
        (subst (λ steps. IsTold (record (arrived state n keep) { zones = zones }) frame.to (Frame n) steps (Lost ∷ []) before after new) passed.0
        (subst (λ effects. IsTold (record (arrived state n keep) { zones = zones }) frame.to (Frame n) run.walk effects before after new) passed.1 told)))

-- without memory
pub no_memory : {T : Type 0} (result : Result (Unit {0}) SimFault) (old : SimView T) (port : Name) (now : ℕ) (packet : Packet) (before after : SimOut) (new : SimView T) (chassis : Name)
    → IsErrAnd result (λ fault. fault ≡ Memory)
    → at_name old.state.bindings port ≡ Some chassis
    → HasOtherFrames chassis old.state new.state
    → KeepsOut before after
    → AnswersInject result old port now packet before after new
no_memory (Ok done) old port now packet before after new chassis is bound others kept = absurd is
no_memory (Err fault) old port now packet before after new chassis is bound others kept = subst (λ f. AnswersInject (Err f) old port now packet before after new) (sym is) (chassis, bound, others, kept)

pub no_memory_left : {T : Type 0} (result : Result (Unit {0}) SimFault) (old : SimView T) (n : ℕ) (keep : Bool) (now : ℕ) (before after : SimOut) (new : SimView T) (frame : WaitingFrame)
    → IsErrAnd result (λ fault. fault ≡ Memory)
    → numbered old.state.waiting n ≡ Some frame
    → HasOtherFrames frame.to old.state new.state
    → KeepsOut before after
    → AnswersArrive result old n keep now before after new
no_memory_left (Ok done) old n keep now before after new frame is waits others kept = absurd is
no_memory_left (Err fault) old n keep now before after new frame is waits others kept = subst (λ f. AnswersArrive (Err f) old n keep now before after new) (sym is) (frame, waits, others, kept)
