-- The law of a switch's egress pipeline.
use Rattle.std.specs.Prelude.{◌≡◌, [], ◌∷◌}
use Rattle.flow_lowering.specs.Registers.{HasRegistersInRange}
use Rattle.inet_packet.specs.Whole.{IsWhole}
use Rattle.inet_packet.specs.declared.packet.Packet.{Packet}
use Rattle.logical_flows.specs.Stages.{stage_table}
use Rattle.logical_flows.specs.declared.stage.Pipeline.TheVariants.{Egress}
use Rattle.logical_flows.specs.declared.stage.Stage.TheVariants.{SwitchTrackOut}
use Rattle.nb_records.specs.declared.switch.SwitchPort.{SwitchPort}
use Rattle.net_model.specs.Exit.{exit, sight_out}
use Rattle.net_model.specs.Trail.{Lists, finally}
use Rattle.ovn_base.specs.declared.stages.TheConstants.{OUTPUT_TABLE}
use Rattle.switch_engine.specs.Zones.{ZoneLists}
use Rattle.switch_engine.specs.declared.carried.Carried.{Carried}
use Rattle.tunnel_keys.specs.declared.owner.Identity.{Identity}
use Rattle.sim_laws.specs.pipelines.HeldLists.{HoldLists}
use Rattle.sim_laws.specs.pipelines.Pieces.{Piece, ComesTo}
use Rattle.sim_laws.specs.pipelines.Standing.{Chassis, course_of, IsLaidOut, no_words, StandsAtTable, is_noted, IsStill}
use Rattle.sim_laws.specs.pipelines.WalkOn.{Comes}

-- the packet leaves the switch by the port, which lets it out
abbrev pub way_out : Chassis → Identity → SwitchPort → Packet → Piece Packet
way_out s came o p rest t = finally (exit s.scene came o t p) rest

-- the copy comes to the output; all but what the stages noted is as it was at first
pub record ComesOut (s : Chassis) (first : Carried) (lists : Lists) (p : Packet) (zones : ZoneLists) (copy : Carried) : Type 0 where
  pub in_table : copy.table ≡ OUTPUT_TABLE
  pub packet : copy.packet ≡ p
  pub whole : IsWhole copy.packet
  pub within : HasRegistersInRange copy.regs
  pub still : IsStill is_noted first copy
  pub hold : HoldLists s.number zones lists

-- Whatever walk takes on a copy that leaves a switch by a port does with it what the network says.
abbrev pub EgressLaw : Type 0
EgressLaw =
    (s : Chassis) → IsLaidOut s → (came : Identity) (o : SwitchPort) (p : Packet) (lists : Lists) (zones : ZoneLists) (copy : Carried)
    → StandsAtTable s Egress (stage_table SwitchTrackOut) (record { port = o; sight = sight_out came o p; words = no_words }) lists zones copy
    → Comes (course_of s) zones (copy ∷ []) (ComesTo s (way_out s came o p) lists (ComesOut s copy))
