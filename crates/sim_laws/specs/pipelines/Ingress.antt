-- The law of a switch's ingress pipeline.
use Rattle.std.specs.Prelude.{◌≡◌, ℕ, [], ◌∷◌}
use Rattle.flow_lowering.specs.Registers.{reg_number, HasRegistersInRange}
use Rattle.flow_table.specs.declared.flow.Cause.TheVariants as cause
use Rattle.inet_packet.specs.Rewrites.{with_arp_reply}
use Rattle.inet_packet.specs.Whole.{IsWhole}
use Rattle.inet_packet.specs.declared.packet.Packet.{Packet}
use Rattle.inet_packet.specs.declared.regs.Reg.TheVariants as reg
use Rattle.logical_flows.specs.declared.stage.Pipeline.TheVariants.{Ingress}
use Rattle.nb_records.specs.declared.switch.SwitchPort.{SwitchPort}
use Rattle.net_model.specs.declared.crossing.Group.TheVariants.{Flood, Unknown}
use Rattle.net_model.specs.Entry.{enter, sight_in}
use Rattle.net_model.specs.Targets.{Target, answer_from, to_one, to_group, to_nobody, target_of}
use Rattle.net_model.specs.Trail.{Lists, spot_of, drop_for, finally}
use Rattle.ovn_base.specs.declared.limits.TheConstants.{FLOOD_KEY, UNKNOWN_KEY}
use Rattle.ovn_base.specs.declared.stages.TheConstants.{ADMIT_TABLE, REMOTE_TABLE}
use Rattle.row_laws.specs.Numbers.{IsPortKey}
use Rattle.switch_engine.specs.Zones.{ZoneLists}
use Rattle.switch_engine.specs.declared.carried.Carried.{Carried}
use Rattle.tunnel_keys.specs.Keys.{Keys}
use Rattle.sim_laws.specs.pipelines.HeldLists.{HoldLists}
use Rattle.sim_laws.specs.pipelines.Pieces.{Piece, ComesTo}
use Rattle.sim_laws.specs.pipelines.Standing.{Chassis, course_of, net_of, IsLaidOut, no_words, StandsAtTable, is_for_target, IsStill}
use Rattle.sim_laws.specs.pipelines.WalkOn.{Comes}

-- ---- what the network says

-- a packet with its target
abbrev pub Aimed : Type 0
Aimed = Target × Packet

-- the packet goes on to its target, or is dropped where it has none
abbrev pub to_target : Target → SwitchPort → Packet → Piece Aimed
to_target to_nobody i p rest t = drop_for cause.UnknownAddress (spot_of i) t
to_target target i p rest t = rest t (target, p)

-- it enters the switch at the port, and gets its target
abbrev pub way_in : Chassis → SwitchPort → Packet → Piece Aimed
way_in s i p rest t = finally (enter s.scene i t p) (λ u q. to_target (target_of (net_of s) i q) i q rest u)

-- ---- what the tables do

-- an answer takes the packet's place
abbrev pub sent_as : Target → Packet → Packet
sent_as (answer_from mac ip) p = with_arp_reply mac ip p
sent_as target p = p

-- the number of the target
abbrev pub IsNumberOf : Keys → SwitchPort → Target → ℕ → Type 0
IsNumberOf keys i (answer_from mac ip) n = IsPortKey keys i.switch i.name n
IsNumberOf keys i (to_one q) n = IsPortKey keys i.switch q.name n
IsNumberOf keys i (to_group Flood) n = n ≡ FLOOD_KEY
IsNumberOf keys i (to_group Unknown) n = n ≡ UNKNOWN_KEY
IsNumberOf keys i to_nobody n = ⊥

-- an answer may go back to the port of entry
abbrev pub loopback_for : Target → ℕ → ℕ
loopback_for (answer_from mac ip) before = 1
loopback_for target before = before

-- the copy goes to the packet's target from table 32 on; its other registers are as they were at first
pub record GoesTo (s : Chassis) (i : SwitchPort) (first : Carried) (lists : Lists) (x : Aimed) (zones : ZoneLists) (copy : Carried) : Type 0 where
  pub in_table : copy.table ≡ REMOTE_TABLE
  pub target : x.0 ≡ target_of (net_of s) i x.1
  pub packet : copy.packet ≡ sent_as x.0 x.1
  pub whole : IsWhole copy.packet
  pub to : IsNumberOf s.keys i x.0 copy.regs.out_port
  pub loopback : reg_number reg.Loopback copy.regs ≡ loopback_for x.0 (reg_number reg.Loopback first.regs)
  pub within : HasRegistersInRange copy.regs
  pub still : IsStill is_for_target first copy
  pub hold : HoldLists s.number zones lists

-- Whatever walk takes on a copy that enters a switch at a port does with it what the network says: it is let in and gets its target.
abbrev pub IngressLaw : Type 0
IngressLaw =
    (s : Chassis) → IsLaidOut s → (i : SwitchPort) (p : Packet) (lists : Lists) (zones : ZoneLists) (copy : Carried)
    → StandsAtTable s Ingress ADMIT_TABLE (record { port = i; sight = sight_in i p; words = no_words }) lists zones copy
    → Comes (course_of s) zones (copy ∷ []) (ComesTo s (way_in s i p) lists (GoesTo s i copy))
