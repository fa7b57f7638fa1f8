-- What the frames between chassis carry.
use Rattle.std.specs.Prelude.{◌≡◌, ◌<◌, ◌^◌, ℕ, List}
use Rattle.inet_packet.specs.declared.packet.Packet.{Packet}
use Rattle.inet_packet.specs.Frame.{frame_of}
use Rattle.inet_packet.specs.Whole.{IsWhole}
use Rattle.geneve_frames.specs.Meaning.{Spells, canon}
use Rattle.switch_engine.specs.declared.effect.Entry.{Entry}
use Rattle.switch_engine.specs.declared.effect.Entry.TheVariants.{Vif, Tunnel}
use Rattle.switch_engine.specs.Proper.{IsEntry}
use Rattle.chassis_sim.specs.declared.underlay.WaitingFrame.{WaitingFrame}

-- the bytes are a Geneve frame with these keys, in which the frame of the packet lies
pub record Carries (bytes : List ℕ) (vni in_key out_key : ℕ) (packet : Packet) : Type 0 where
  pub spelled : Spells bytes vni in_key out_key (frame_of packet)
  pub whole : IsWhole packet

-- the bytes are the frame of a whole packet
pub record IsFrame (bytes : List ℕ) : Type 0 where
  pub packet : Packet
  pub whole : IsWhole packet
  pub is : frame_of packet ≡ bytes

-- the bytes are the one spelling in which a whole packet is sent
pub record IsSent (bytes : List ℕ) : Type 0 where
  pub vni : ℕ
  pub in_key : ℕ
  pub out_key : ℕ
  pub packet : Packet
  pub vni_within : vni < 2 ^ 24
  pub in_key_within : in_key < 2 ^ 15
  pub out_key_within : out_key < 2 ^ 16
  pub whole : IsWhole packet
  pub spelled : bytes ≡ canon vni in_key out_key (frame_of packet)

-- a frame that waits was sent before the next one
pub record IsWaiting (next : ℕ) (entry : ℕ × WaitingFrame) : Type 0 where
  pub below : entry.0 < next
  pub sent : IsSent entry.1.bytes

-- from the tunnel came the packet that the bytes carry
abbrev pub Brings : List ℕ → Entry → Packet → Type 0
Brings bytes (Vif port) packet = ⊥
Brings bytes (Tunnel vni in_key out_key) packet = Carries bytes vni in_key out_key packet × IsEntry (Tunnel vni in_key out_key)
