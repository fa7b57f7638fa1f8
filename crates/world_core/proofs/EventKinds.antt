-- Which events move packets: no turn of the configuration, and all of the other kind.
use Rattle.std.specs.Prelude.{◌≡◌, ℕ, true, false, [], refl}
use Rattle.chassis_sim.specs.State as sim
use Rattle.chassis_sim.specs.declared.out.SimOut.{SimOut}
use Rattle.switch_engine.specs.Outcome.{of_program}
use Rattle.world_core.specs.EventPasses.{Passes}
use Rattle.world_setup.specs.TurnEvents.{event_of_turn}
use Rattle.world_core.specs.PacketEvents.{event_of_packets}
use Rattle.world_core.specs.Outcome.{moves_packets}
use Rattle.world_core.specs.declared.packet_event.PacketEvent.{PacketEvent}
use Rattle.world_core.specs.declared.packet_event.PacketEvent.TheVariants as packets
use Rattle.world_setup.specs.declared.turn_event.TurnEvent.{TurnEvent}
use Rattle.world_setup.specs.declared.turn_event.TurnEvent.TheVariants as turn

pub turn_moves_none : (event : TurnEvent) → moves_packets (event_of_turn event) ≡ false
turn_moves_none (turn.Edit ops) = refl
turn_moves_none (turn.Bind port chassis) = refl
turn_moves_none (turn.AddChassis chassis) = refl
turn_moves_none (turn.Health balancer backend online) = refl

pub packets_move : (event : PacketEvent) → moves_packets (event_of_packets event) ≡ true
packets_move (packets.Inject port frame) = refl
packets_move (packets.Deliver n) = refl
packets_move (packets.Repeat n) = refl
packets_move packets.Drain = refl
packets_move (packets.Packet port frame) = refl

-- a turn has no packet
pub no_walks : (now : ℕ) (s : sim.SimState) (event : TurnEvent) (out : SimOut) (new : sim.SimState) → out.walks ≡ [] → Passes of_program now s (event_of_turn event) out new
no_walks now s (turn.Edit ops) out new none = none
no_walks now s (turn.Bind p c) out new none = none
no_walks now s (turn.AddChassis c) out new none = none
no_walks now s (turn.Health balancer backend online) out new none = none
