-- Which event a turn of the configuration is.
use Rattle.edit_reader.specs.declared.event.Event.{Event}
use Rattle.edit_reader.specs.declared.event.Event.TheVariants as event
use Rattle.world_setup.specs.declared.turn_event.TurnEvent.{TurnEvent}
use Rattle.world_setup.specs.declared.turn_event.TurnEvent.TheVariants as turn

abbrev pub event_of_turn : TurnEvent → Event
event_of_turn (turn.Edit ops) = event.Edit ops.now
event_of_turn (turn.Bind port chassis) = event.Bind port chassis
event_of_turn (turn.AddChassis chassis) = event.AddChassis chassis
event_of_turn (turn.Health balancer backend online) = event.Health balancer backend online
