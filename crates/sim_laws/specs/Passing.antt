-- What the simulated chassis do with packets.
use Rattle.std.specs.Prelude.{◌≡◌, ◌⊎◌, ℕ, zero, suc, false, List, [], ◌∷◌}
use Rattle.ovn_base.specs.declared.name.Name.{Name}
use Rattle.inet_packet.specs.Frame.{frame_of}
use Rattle.inet_packet.specs.Whole.{IsWhole}
use Rattle.inet_packet.specs.declared.packet.Packet as inet
use Rattle.switch_engine.specs.Outcome.{Choosing}
use Rattle.chassis_sim.specs.Passing.{IsArrived, IsInjected}
use Rattle.chassis_sim.specs.State as sim
use Rattle.chassis_sim.specs.declared.out.SimOut.{SimOut}
use Rattle.chassis_sim.specs.declared.underlay.WaitingFrame.{WaitingFrame}
use Rattle.ovn_base.specs.declared.limits.TheConstants.{MAX_ARRIVALS}

-- so many arrive at most in one event
abbrev pub most_arrivals : ℕ
most_arrivals = MAX_ARRIVALS

-- nothing came of it yet
abbrev pub no_out : SimOut
no_out = record { effects = []; walks = [] }

-- at the time, the packet of the frame goes in at the port, with choices of this kind
pub record GoesIn (choosing : Choosing) (now : ℕ) (s : sim.SimState) (p : Name) (frame : List ℕ) (before after : SimOut) (new : sim.SimState) : Type 0 where
  pub packet : inet.Packet
  pub whole : IsWhole packet
  pub frame_is : frame_of packet ≡ frame
  pub injected : IsInjected choosing s p now packet before after new

-- the frame of the lowest number arrives, with choices of this kind, and then the others do
pub record ArrivesFirst (choosing : Choosing) (now : ℕ) (s : sim.SimState) (before : SimOut) (Others : sim.SimState → SimOut → Type 0) : Type 0 where
  pub n : ℕ
  pub frame : WaitingFrame
  pub behind : List (ℕ × WaitingFrame)
  pub first : s.waiting ≡ (n, frame) ∷ behind
  pub between : SimOut
  pub mid : sim.SimState
  pub arrives : IsArrived choosing s n false now before between mid
  pub others : Others mid between

-- the lowest frame arrives again and again, with choices of this kind, until none waits or so many arrived
abbrev pub AreDrained : Choosing → ℕ → ℕ → sim.SimState → SimOut → SimOut → sim.SimState → Type 0
AreDrained choosing now zero s before after new = (after ≡ before) × (new ≡ s)
AreDrained choosing now (suc k) s before after new = ((s.waiting ≡ []) × (after ≡ before) × (new ≡ s)) ⊎ ArrivesFirst choosing now s before (λ mid between. AreDrained choosing now k mid between after new)

-- the packet goes in, and then all that wait arrive, with choices of this kind
pub record GoesThrough (choosing : Choosing) (now : ℕ) (s : sim.SimState) (p : Name) (frame : List ℕ) (after : SimOut) (new : sim.SimState) : Type 0 where
  pub between : SimOut
  pub mid : sim.SimState
  pub goes_in : GoesIn choosing now s p frame no_out between mid
  pub drained : AreDrained choosing now most_arrivals mid between after new
