-- What is read of the frame of a packet that would enter.
use Rattle.std.specs.Prelude.{◌≡◌, ℕ, List, true, false}
use Rattle.inet_packet.specs.Frame.{frame_of}
use Rattle.inet_packet.specs.Whole.{IsWhole}
use Rattle.inet_packet.specs.declared.packet.Packet.{Packet}
use Rattle.world_core.specs.declared.frames.Entering.{Entering}
use Rattle.world_core.specs.declared.frames.Entering.TheVariants.{Whole, Short, Big, BadIp4}
use Rattle.world_setup.specs.Frames.{is_bad_ip4, is_too_big, is_too_short}

-- neither too short nor too big
pub record IsOfLength (frame : List ℕ) : Type 0 where
  pub long : is_too_short frame ≡ false
  pub short : is_too_big frame ≡ false

-- that, and no IPv4 frame that is bad
pub record IsGood (frame : List ℕ) : Type 0 where
  pub of_length : IsOfLength frame
  pub not_bad : is_bad_ip4 frame ≡ false

-- that, and the frame of this packet
pub record IsOfPacket (frame : List ℕ) (p : Packet) : Type 0 where
  pub frame_is : frame_of p ≡ frame
  pub whole : IsWhole p
  pub good : IsGood frame

-- the frame is what was read; what comes first is told
abbrev pub IsRead : List ℕ → Entering → Type 0
IsRead frame (Whole p) = IsOfPacket frame p
IsRead frame Short = is_too_short frame ≡ true
IsRead frame Big = (is_too_short frame ≡ false) × (is_too_big frame ≡ true)
IsRead frame BadIp4 = IsOfLength frame × (is_bad_ip4 frame ≡ true)
