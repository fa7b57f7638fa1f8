-- What frames carry.
use Rattle.std.specs.Prelude.{◌<◌, ◌^◌}
use Rattle.inet_packet.specs.Whole.{IsWhole}
use Rattle.switch_engine.specs.declared.effect.Effect.{Effect}
use Rattle.switch_engine.specs.declared.effect.Effect.TheVariants.{Out, Frame, Drop, PickBackend, PickPort, Lost}

-- a packet that is sent is whole, and its keys fit into a tunnel header: 24 bits for the datapath, 15 for the port of entry
abbrev pub CanBeSent : Effect → Type 0
CanBeSent (Out port packet) = Unit {0}
CanBeSent (Frame chassis vni in_key out_key packet) = (vni < 2 ^ 24) × (in_key < 2 ^ 15) × IsWhole packet
CanBeSent (Drop vni port cause) = Unit {0}
CanBeSent (PickBackend vni vip backend) = Unit {0}
CanBeSent (PickPort vni port) = Unit {0}
CanBeSent Lost = Unit {0}
