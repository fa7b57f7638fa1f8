-- The effects of the tables, said in names.
use Rattle.std.specs.Prelude.{ℕ, ◌+◌, List, [], ◌∷◌, flat_map, codes}
use Rattle.std.specs.Option.{unwrap_or}
use Rattle.std.specs.Map.{lookup}
use Rattle.ovn_base.specs.declared.name.Name.{Name}
use Rattle.inet_packet.specs.Frame.{frame_of}
use Rattle.geneve_frames.specs.Meaning.{canon}
use Rattle.switch_engine.specs.declared.effect.Effect.{Effect}
use Rattle.switch_engine.specs.declared.effect.Effect.TheVariants.{Out, Frame, Drop, PickBackend, PickPort, Lost}
use Rattle.switch_engine.specs.declared.effect.NetEffect.{NetEffect}
use Rattle.switch_engine.specs.declared.effect.NetEffect.TheVariants as net
use Rattle.switch_engine.specs.declared.walk.Start.{Start}
use Rattle.switch_engine.specs.declared.walk.Start.TheVariants as start
use Rattle.chassis_sim.specs.declared.underlay.WaitingFrame.{WaitingFrame}
use Rattle.chassis_sim.specs.State.{KeyPair, same_pair}

-- the name that was given to the pair of keys, and `-` where none was
abbrev pub name_of : List (KeyPair × Name) → ℕ → ℕ → Name
name_of names vni port = unwrap_or (lookup (same_pair (vni, port)) names) (codes "-")

-- the frame that arrived; no packet from a port is one
abbrev pub arrived_as : Start → ℕ
arrived_as (start.Port port) = 0
arrived_as (start.Frame n) = n

-- the effect on the chassis in names, where the next frame has the number
abbrev pub in_names : List (KeyPair × Name) → Name → Start → ℕ → Effect → NetEffect
in_names names chassis from next (Out port packet) = net.Out port packet
in_names names chassis from next (Frame to vni in_key out_key packet) = net.Tunnel next chassis to (canon vni in_key out_key (frame_of packet))
in_names names chassis from next (Drop vni port cause) = net.Drop (name_of names vni 0) (name_of names vni port) cause
in_names names chassis from next (PickBackend vni vip backend) = net.PickBackend (name_of names vni 0) vip backend
in_names names chassis from next (PickPort vni port) = net.PickPort (name_of names vni 0) port
in_names names chassis from next Lost = net.Lost (arrived_as from)

-- the number of the next frame after the effect
abbrev pub next_after : ℕ → Effect → ℕ
next_after next (Out port packet) = next
next_after next (Frame to vni in_key out_key packet) = next + 1
next_after next (Drop vni port cause) = next
next_after next (PickBackend vni vip backend) = next
next_after next (PickPort vni port) = next
next_after next Lost = next

-- all effects in names: their frames take the next numbers in order
abbrev pub all_in_names : List (KeyPair × Name) → Name → Start → ℕ → List Effect → List NetEffect
all_in_names names chassis from next [] = []
all_in_names names chassis from next (effect ∷ effects) = in_names names chassis from next effect ∷ all_in_names names chassis from (next_after next effect) effects

-- the number of the next frame after all effects
abbrev pub next_after_all : ℕ → List Effect → ℕ
next_after_all next [] = next
next_after_all next (effect ∷ effects) = next_after_all (next_after next effect) effects

-- the frame that an effect sends, with its number
abbrev pub sent_by : NetEffect → List (ℕ × WaitingFrame)
sent_by (net.DatapathKey name key) = []
sent_by (net.PortKey name key) = []
sent_by (net.PickBackend datapath vip backend) = []
sent_by (net.PickPort router port) = []
sent_by (net.Tunnel n from to bytes) = (n, record { to = to; bytes = bytes }) ∷ []
sent_by (net.Out port packet) = []
sent_by (net.Drop datapath port cause) = []
sent_by (net.Lost n) = []

-- the frames that the effects send
abbrev pub frames_sent : List NetEffect → List (ℕ × WaitingFrame)
frames_sent effects = flat_map sent_by effects
