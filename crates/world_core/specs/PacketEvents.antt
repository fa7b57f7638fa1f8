-- Which event one that moves packets is.
use Rattle.edit_reader.specs.declared.event.Event.{Event}
use Rattle.edit_reader.specs.declared.event.Event.TheVariants as event
use Rattle.world_core.specs.declared.packet_event.PacketEvent.{PacketEvent}
use Rattle.world_core.specs.declared.packet_event.PacketEvent.TheVariants as packets

abbrev pub event_of_packets : PacketEvent → Event
event_of_packets (packets.Inject port frame) = event.Inject port frame.now
event_of_packets (packets.Deliver n) = event.Deliver n
event_of_packets (packets.Repeat n) = event.Repeat n
event_of_packets packets.Drain = event.Drain
event_of_packets (packets.Packet port frame) = event.Packet port frame.now
