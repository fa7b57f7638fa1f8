-- The crossings that wait: whom each is of and to whom it goes is kept, and what it brings where is what its frame says.
use Rattle.std.specs.Prelude.{◌≡◌, ℕ, List, [], Some, map, drop, unwrap_or}
use Rattle.ovn_base.specs.lists.Among.{Among}
use Rattle.chassis_sim.specs.State.{SimState, numbered}
use Rattle.chassis_sim.specs.declared.underlay.WaitingFrame.{WaitingFrame}
use Rattle.net_model.specs.declared.crossing.Crossing.{Crossing}
use Rattle.world_core.specs.FramePackets.{packet_in}
use Rattle.world_core.specs.declared.crossing_names.CrossingNames.{CrossingNames}

-- the names of a crossing
abbrev pub names_of : Crossing → CrossingNames
names_of x = record { datapath = x.datapath; in_port = x.in_port; aim = x.aim }

-- the inner frame stands behind a header of 8 bytes and an option of 8
abbrev pub inner_of : List ℕ → List ℕ
inner_of bytes = drop 16 bytes

-- the crossing with these names that the frame spells: it goes where the frame goes, and its packet is that of the inner frame
abbrev pub crossing_of : CrossingNames → WaitingFrame → Crossing
crossing_of names frame = record { datapath = names.datapath; in_port = names.in_port; aim = names.aim; home = frame.to; packet = packet_in (inner_of frame.bytes) }

-- the frame that waits under a number, or an empty one
abbrev pub frame_under : List (ℕ × WaitingFrame) → ℕ → WaitingFrame
frame_under frames n = unwrap_or (numbered frames n) (record { to = []; bytes = [] })

-- the crossings of these names, under the numbers of their frames
abbrev pub crossings_of : List (ℕ × CrossingNames) → List (ℕ × WaitingFrame) → List (ℕ × Crossing)
crossings_of names frames = map (λ e. (e.0, crossing_of e.1 (frame_under frames e.0))) names

-- each of these frames waits under its number
abbrev pub AreWaiting : SimState → List (ℕ × WaitingFrame) → Type 0
AreWaiting s frames = (n : ℕ) (frame : WaitingFrame) → Among (n, frame) frames → numbered s.waiting n ≡ Some frame
