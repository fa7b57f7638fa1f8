-- What comes of a packet at a port, and of a frame that arrives.
use Rattle.std.specs.Prelude.{◌≡◌, ℕ, ◌++◌, Bool, false, cond, List, [], ◌∷◌, Some, None, IsSome, Result, Ok, Err}
use Rattle.ovn_base.specs.declared.name.Name.{Name}
use Rattle.ovn_base.specs.names.SameName.{same_name}
use Rattle.inet_packet.specs.declared.packet.Packet.{Packet}
use Rattle.flow_table.specs.declared.flow.Flow.{Flow}
use Rattle.switch_engine.specs.declared.effect.Effect.{Effect}
use Rattle.switch_engine.specs.declared.effect.Effect.TheVariants.{Lost}
use Rattle.switch_engine.specs.declared.effect.Entry.TheVariants.{Vif, Tunnel}
use Rattle.switch_engine.specs.declared.effect.NetEffect.{NetEffect}
use Rattle.switch_engine.specs.declared.walk.Start.{Start}
use Rattle.switch_engine.specs.declared.walk.Start.TheVariants.{Port, Frame}
use Rattle.switch_engine.specs.declared.walk.Step.{Step}
use Rattle.switch_engine.specs.Outcome.{Choosing, any_legal, of_program}
use Rattle.switch_engine.specs.Zones.{ZoneLists}
use Rattle.chassis_sim.specs.declared.out.SimFault.{SimFault}
use Rattle.chassis_sim.specs.declared.out.SimFault.TheVariants.{NotBound, NoFrame, Memory}
use Rattle.chassis_sim.specs.declared.out.SimOut.{SimOut}
use Rattle.chassis_sim.specs.declared.underlay.WaitingFrame.{WaitingFrame}
use Rattle.chassis_sim.specs.Frames.{Carries}
use Rattle.chassis_sim.specs.Holding.{IsWalkBy, with_lists}
use Rattle.chassis_sim.specs.InNames.{all_in_names, next_after_all, frames_sent}
use Rattle.chassis_sim.specs.State.{SimState, SimView, at_name, numbered, without}

-- these effects came, and this walk of the chassis
pub record AddsWalk (chassis : Name) (start : Start) (steps : List Step) (effects : List NetEffect) (before after : SimOut) : Type 0 where
  pub all_effects : after.effects ≡ before.effects ++ effects
  pub all_walks : after.walks ≡ before.walks ++ record { chassis = chassis; start = start; steps = steps } ∷ []

-- the frames that the effects send wait behind those that waited
abbrev pub with_frames : SimState → List NetEffect → ℕ → SimState
with_frames state effects next = record state { waiting = state.waiting ++ frames_sent effects; next = next }

-- the walk on the chassis and its effects in names came, and the frames among them wait, with the next numbers in order
pub record IsTold (old : SimState) (chassis : Name) (start : Start) (steps : List Step) (effects : List Effect) (before after : SimOut) (new : SimState) : Type 0 where
  pub told : AddsWalk chassis start steps (all_in_names old.names chassis start old.next effects) before after
  pub state : new ≡ with_frames old (all_in_names old.names chassis start old.next effects) (next_after_all old.next effects)

-- with other connection lists of the chassis
abbrev pub rezoned : SimState → Name → ZoneLists → SimState
rezoned state chassis lists = record state { zones = with_lists state.zones chassis lists }

-- the packet at the port goes, at the time, through the flows and the zones of the chassis to which the port is bound, with choices of this kind;
-- where no such chassis is held it meets none
pub data IsInjected (by : Choosing) (old : SimState) (port : Name) (now : ℕ) (packet : Packet) (before after : SimOut) (new : SimState) : Type 0 where
  through : (chassis : Name) (flows : List Flow) (lists left : ZoneLists) (steps : List Step) (effects : List Effect)
      → at_name old.bindings port ≡ Some chassis
      → at_name old.chassis chassis ≡ Some flows
      → at_name old.zones chassis ≡ Some lists
      → IsWalkBy by flows (Vif port) now packet lists steps effects left
      → IsTold (rezoned old chassis left) chassis (Port port) steps effects before after new
      → IsInjected by old port now packet before after new
  nowhere : (chassis : Name)
      → at_name old.bindings port ≡ Some chassis
      → at_name old.chassis chassis ≡ None
      → IsTold old chassis (Port port) [] [] before after new
      → IsInjected by old port now packet before after new

-- the frame of the number waits on only where it is kept
abbrev pub arrived : SimState → ℕ → Bool → SimState
arrived state n keep = record state { waiting = cond keep state.waiting (without state n).waiting }

-- the packet that the waiting frame carries comes, at the time, from the tunnel to the flows and the zones of the chassis to which the frame goes,
-- with choices of this kind; where that chassis is gone the frame is lost
pub data IsArrived (by : Choosing) (old : SimState) (n : ℕ) (keep : Bool) (now : ℕ) (before after : SimOut) (new : SimState) : Type 0 where
  through : (frame : WaitingFrame) (flows : List Flow) (lists left : ZoneLists) (vni in_key out_key : ℕ) (packet : Packet) (steps : List Step) (effects : List Effect)
      → numbered old.waiting n ≡ Some frame
      → at_name old.chassis frame.to ≡ Some flows
      → at_name old.zones frame.to ≡ Some lists
      → Carries frame.bytes vni in_key out_key packet
      → IsWalkBy by flows (Tunnel vni in_key out_key) now packet lists steps effects left
      → IsTold (rezoned (arrived old n keep) frame.to left) frame.to (Frame n) steps effects before after new
      → IsArrived by old n keep now before after new
  gone : (frame : WaitingFrame)
      → numbered old.waiting n ≡ Some frame
      → at_name old.chassis frame.to ≡ None
      → IsTold (arrived old n keep) frame.to (Frame n) [] (Lost ∷ []) before after new
      → IsArrived by old n keep now before after new

-- the first list stands at the front of the second
pub record IsFront {X : Type 0} (front whole : List X) : Type 0 where
  pub rest : List X
  pub is : whole ≡ front ++ rest

-- what was told stands at the front of what is told now
pub record KeepsOut (before after : SimOut) : Type 0 where
  pub effects : IsFront before.effects after.effects
  pub walks : IsFront before.walks after.walks

-- only the waiting frames, the next number and the zones of this chassis are others
pub record HasOtherFrames (chassis : Name) (old new : SimState) : Type 0 where
  pub is : new ≡ record old { zones = new.zones; waiting = new.waiting; next = new.next }
  pub zones : (other : Name) → same_name chassis other ≡ false → at_name new.zones other ≡ at_name old.zones other

module _ {T : Type 0} where
  -- what stands after an answer to `inject`: NotBound comes exactly where the port has no binding
  abbrev pub AnswersInject : Result (Unit {0}) SimFault → SimView T → Name → ℕ → Packet → SimOut → SimOut → SimView T → Type 0
  AnswersInject (Ok done) old port now packet before after new = IsInjected any_legal old.state port now packet before after new.state × IsInjected of_program old.state port now packet before after new.state
  AnswersInject (Err (NotBound name)) old port now packet before after new = (name ≡ port) × (at_name old.state.bindings port ≡ None) × (new ≡ old) × (after ≡ before)
  AnswersInject (Err (NoFrame n)) old port now packet before after new = ⊥
  AnswersInject (Err Memory) old port now packet before after new = (chassis : Name) × (at_name old.state.bindings port ≡ Some chassis) × HasOtherFrames chassis old.state new.state × KeepsOut before after

  -- what stands after an answer to `arrive`: NoFrame comes exactly where no frame of the number waits
  abbrev pub AnswersArrive : Result (Unit {0}) SimFault → SimView T → ℕ → Bool → ℕ → SimOut → SimOut → SimView T → Type 0
  AnswersArrive (Ok done) old n keep now before after new = IsArrived any_legal old.state n keep now before after new.state × IsArrived of_program old.state n keep now before after new.state
  AnswersArrive (Err (NotBound name)) old n keep now before after new = ⊥
  AnswersArrive (Err (NoFrame m)) old n keep now before after new = (m ≡ n) × (numbered old.state.waiting n ≡ None) × (new ≡ old) × (after ≡ before)
  AnswersArrive (Err Memory) old n keep now before after new = (frame : WaitingFrame) × (numbered old.state.waiting n ≡ Some frame) × HasOtherFrames frame.to old.state new.state × KeepsOut before after

  -- what stands after an answer to `lose`: NoFrame comes exactly where no frame of the number waits
  abbrev pub AnswersLose : Result (Unit {0}) SimFault → SimView T → ℕ → SimView T → Type 0
  AnswersLose (Ok done) old n new = IsSome (numbered old.state.waiting n) × (new ≡ record old { state = without old.state n })
  AnswersLose (Err (NotBound name)) old n new = ⊥
  AnswersLose (Err (NoFrame m)) old n new = (m ≡ n) × (numbered old.state.waiting n ≡ None) × (new ≡ old)
  AnswersLose (Err Memory) old n new = ⊥
