-- What the simulated chassis do with the packets of an event.
use Rattle.std.specs.Prelude.{◌≡◌, ℕ, true, false, []}
use Rattle.switch_engine.specs.Outcome.{Choosing}
use Rattle.chassis_sim.specs.Passing.{IsArrived}
use Rattle.chassis_sim.specs.State as sim
use Rattle.chassis_sim.specs.declared.out.SimOut.{SimOut}
use Rattle.edit_reader.specs.declared.event.Event.{Event}
use Rattle.edit_reader.specs.declared.event.Event.TheVariants.{Edit, Bind, Unbind, AddChassis, RemoveChassis, Keys, Health, Clock, Inject, Deliver, Lose, Repeat, Drain, Packet, Unread}
use Rattle.sim_laws.specs.Passing.{most_arrivals, no_out, GoesIn, AreDrained, GoesThrough}

-- what came of the packets of the event on the chassis at the time, with choices of this kind: other events have none
abbrev pub Passes : Choosing → ℕ → sim.SimState → Event → SimOut → sim.SimState → Type 0
Passes choosing now s (Edit ops) out new = out.walks ≡ []
Passes choosing now s (Bind port chassis) out new = out.walks ≡ []
Passes choosing now s (Unbind port) out new = out.walks ≡ []
Passes choosing now s (AddChassis chassis) out new = out.walks ≡ []
Passes choosing now s (RemoveChassis chassis) out new = out.walks ≡ []
Passes choosing now s (Keys datapaths ports) out new = out.walks ≡ []
Passes choosing now s (Health balancer backend online) out new = out.walks ≡ []
Passes choosing now s (Clock seconds) out new = out.walks ≡ []
Passes choosing now s (Inject port frame) out new = GoesIn choosing now s port frame no_out out new
Passes choosing now s (Deliver n) out new = IsArrived choosing s n false now no_out out new
Passes choosing now s (Lose n) out new = out.walks ≡ []
Passes choosing now s (Repeat n) out new = IsArrived choosing s n true now no_out out new
Passes choosing now s Drain out new = AreDrained choosing now most_arrivals s no_out out new
Passes choosing now s (Packet port frame) out new = GoesThrough choosing now s port frame out new
Passes choosing now s (Unread fault) out new = ⊥
