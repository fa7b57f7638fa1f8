-- The frame of a crossing that may wait is read as that crossing.
use Rattle.std.specs.Prelude.{◌≡◌, ◌<◌, ℕ, Option, Some, None, option_map, refl}
use Rattle.std.proofs.Common.{sym, ap, ◌∙◌, arith}
use Rattle.std.proofs.lemmas.Option.{none-some, same_Some}
use Rattle.chassis_sim.specs.Frames.{Carries}
use Rattle.chassis_sim.specs.State as sim
use Rattle.chassis_sim.specs.State.{numbered}
use Rattle.chassis_sim.specs.declared.underlay.WaitingFrame.{WaitingFrame}
use Rattle.conn_zones.specs.Zoning.{GivenNumbers}
use Rattle.geneve_frames.proofs.Canon.{canon_spells}
use Rattle.geneve_frames.proofs.Faults.{one_spelled}
use Rattle.inet_packet.proofs.OnePacket.{one_packet_at_most}
use Rattle.inet_packet.specs.Frame.{frame_of}
use Rattle.inet_packet.specs.declared.packet.Packet.{Packet}
use Rattle.match_cubes.specs.declared.sets.Sets.{Sets}
use Rattle.net_model.specs.State.{State}
use Rattle.net_model.specs.declared.crossing.Aim.{Aim}
use Rattle.net_model.specs.declared.crossing.Aim.TheVariants.{ToPort, ToGroup}
use Rattle.net_model.specs.declared.crossing.Crossing.{Crossing}
use Rattle.net_model.specs.declared.crossing.Group.TheVariants.{Flood, Unknown}
use Rattle.physical_flows.specs.RecordKeys.{HaveKeys}
use Rattle.switch_engine.specs.declared.effect.Entry.TheVariants.{Tunnel}
use Rattle.sim_laws.proofs.KeyLookups.{datapath_key_is, port_key_is}
use Rattle.sim_laws.proofs.WaitingLists.{numbered_map}
use Rattle.sim_laws.specs.Effects.{spelled, datapath_key, port_key, aim_key}
use Rattle.sim_laws.specs.Held.{frame_of_crossing}
use Rattle.sim_laws.specs.Sound.{MayWait, HasAimKey}
use Rattle.sim_laws.specs.passes.Arriving.{tunnel_entry_of}
use Rattle.sim_laws.specs.journeys.Holding.{HoldsNetwork}

module _ (m : State) (have : HaveKeys m.config.net m.keys) (x : Crossing) (w : MayWait m x) where
  datapath_small : datapath_key m.keys x.datapath < 16777216
  datapath_small =
      let is = datapath_key_is m.keys have.hold w.datapath_key.0 x.datapath w.datapath_key.1 w.datapath_key.2 in
      let high = (have.hold.datapath_keys w.datapath_key.0 w.datapath_key.1).1 in
      let range = have.datapath_range in
      omega (arith, is, high, range)

  in_small : port_key m.keys x.in_port < 32768
  in_small =
      let is = port_key_is m.keys have.hold w.in_key.0 x.in_port w.in_key.1 w.in_key.2 in
      let high = (have.hold.port_keys w.in_key.0 w.in_key.1).1 in
      let range = have.port_range in
      omega (arith, is, high, range)

  aim_small : (aim : Aim) → HasAimKey m.keys aim → aim_key m.keys aim < 65536
  aim_small (ToPort id) k =
      let is = port_key_is m.keys have.hold k.0 id k.1 k.2 in
      let high = (have.hold.port_keys k.0 k.1).1 in
      let range = have.port_range in
      omega (arith, is, high, range)
  aim_small (ToGroup Flood) k = omega arith
  aim_small (ToGroup Unknown) k = omega arith

  -- it comes in by the crossing's entry, with its packet
  pub read_so : (vni in_key out_key : ℕ) (packet : Packet) → Carries (spelled m.keys x) vni in_key out_key packet → (Tunnel vni in_key out_key ≡ tunnel_entry_of m.keys x) × (packet ≡ x.packet)
  read_so vni in_key out_key packet c =
      let read =
      one_spelled (spelled m.keys x) vni in_key out_key (frame_of packet) (datapath_key m.keys x.datapath) (port_key m.keys x.in_port) (aim_key m.keys x.aim) (frame_of x.packet) c.spelled
      (canon_spells (datapath_key m.keys x.datapath) (port_key m.keys x.in_port) (aim_key m.keys x.aim) (frame_of x.packet) datapath_small in_small (aim_small x.aim w.aim_key)) in
      (λ j. Tunnel (read.0 j) (read.1 j) (read.2 j), one_packet_at_most packet x.packet c.whole w.whole read.3)

-- the crossing of a frame that waits
pub record IsCrossing (m : State) (n : ℕ) (frame : WaitingFrame) : Type 0 where
  pub crossing : Crossing
  pub waits : numbered m.waiting n ≡ Some crossing
  pub is : frame ≡ (frame_of_crossing m.keys (n, crossing)).1

pub crossing_of : (m : State) (numbers : GivenNumbers) (sets : Sets) (s : sim.SimState) → HoldsNetwork m numbers sets s → (n : ℕ) (frame : WaitingFrame) → numbered s.waiting n ≡ Some frame → IsCrossing m n frame
crossing_of m numbers sets s h n frame e =
    by (numbered m.waiting n) refl (sym (numbered_map (λ x. (frame_of_crossing m.keys (0, x)).1) m.waiting n) ∙ ap (λ ws. numbered ws n) (sym h.waiting) ∙ e)
  where
    by : (o : Option Crossing) → numbered m.waiting n ≡ o → option_map (λ x. (frame_of_crossing m.keys (0, x)).1) o ≡ Some frame → IsCrossing m n frame
    by None is f = absurd (none-some frame f)
    by (Some x) is f = record { crossing = x; waits = is; is = sym (same_Some (frame_of_crossing m.keys (0, x)).1 frame f) }
