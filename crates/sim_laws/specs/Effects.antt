-- The effects of what became of packets: a crossing is a frame, numbered in turn, that spells it under the keys.
use Rattle.inet_packet.specs.Frame.{frame_of}
use Rattle.std.specs.Prelude.{ℕ, ◌+◌, List, [], ◌∷◌, option_map, unwrap_or}
use Rattle.std.specs.List.{find}
use Rattle.geneve_frames.specs.Meaning.{canon}
use Rattle.switch_engine.specs.declared.effect.NetEffect.{NetEffect}
use Rattle.switch_engine.specs.declared.effect.NetEffect.TheVariants as net
use Rattle.tunnel_keys.specs.Keys.{Keys, held_datapaths, held_ports}
use Rattle.tunnel_keys.specs.Same.{same_identity}
use Rattle.tunnel_keys.specs.declared.owner.HeldDatapath.{HeldDatapath}
use Rattle.tunnel_keys.specs.declared.owner.HeldPort.{HeldPort}
use Rattle.tunnel_keys.specs.declared.owner.Identity.{Identity}
use Rattle.physical_flows.specs.GroupKeys.{group_key}
use Rattle.net_model.specs.declared.crossing.Crossing.{Crossing}
use Rattle.net_model.specs.declared.crossing.Aim.{Aim}
use Rattle.net_model.specs.declared.crossing.Aim.TheVariants.{ToPort, ToGroup}
use Rattle.net_model.specs.Trail.{End, leaves, is_dropped, crosses, is_lost, picks_backend, picks_port}

-- the key of a datapath by its identity, live or retired, and that of a port
abbrev pub datapath_key : Keys → Identity → ℕ
datapath_key keys id = unwrap_or (option_map (λ (h : HeldDatapath). h.key) (find (λ h. same_identity h.owner id) (held_datapaths keys))) 0

abbrev pub port_key : Keys → Identity → ℕ
port_key keys id = unwrap_or (option_map (λ (h : HeldPort). h.key) (find (λ h. same_identity h.owner id) (held_ports keys))) 0

abbrev pub aim_key : Keys → Aim → ℕ
aim_key keys (ToPort id) = port_key keys id
aim_key keys (ToGroup g) = group_key g

-- the Geneve frame of a crossing
abbrev pub spelled : Keys → Crossing → List ℕ
spelled keys x = canon (datapath_key keys x.datapath) (port_key keys x.in_port) (aim_key keys x.aim) (frame_of x.packet)

-- the effects, in order; the first frame is that of number n
abbrev pub effects_of : Keys → ℕ → List End → List NetEffect
effects_of keys n [] = []
effects_of keys n (leaves q packet ∷ ends) = net.Out q packet ∷ effects_of keys n ends
effects_of keys n (is_dropped d q cause ∷ ends) = net.Drop d q cause ∷ effects_of keys n ends
effects_of keys n (crosses chassis x ∷ ends) = net.Tunnel n chassis x.home (spelled keys x) ∷ effects_of keys (n + 1) ends
effects_of keys n (picks_backend d vip backend ∷ ends) = net.PickBackend d vip backend ∷ effects_of keys n ends
effects_of keys n (picks_port router port ∷ ends) = net.PickPort router port ∷ effects_of keys n ends
effects_of keys n (is_lost k ∷ ends) = net.Lost k ∷ effects_of keys n ends
