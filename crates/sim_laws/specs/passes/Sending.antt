-- The law of a pass through a switch, from table 32 on: a copy goes to its target.
use Rattle.std.specs.Prelude.{◌≡◌, ℕ, true, [], ◌∷◌, Some}
use Rattle.conn_zones.specs.Zoning.{GivenNumbers}
use Rattle.flow_lowering.specs.Registers.{reg_number, HasRegistersInRange}
use Rattle.inet_packet.specs.Whole.{IsWhole}
use Rattle.inet_packet.specs.declared.packet.Packet.{Packet}
use Rattle.inet_packet.specs.declared.regs.Reg.TheVariants as reg
use Rattle.nb_records.specs.declared.switch.SwitchPort.{SwitchPort}
use Rattle.net_model.specs.Config.{home_of, is_here}
use Rattle.net_model.specs.Entry.{Onward}
use Rattle.net_model.specs.Spread.{SentFrom, send_to}
use Rattle.net_model.specs.Targets.{Target, target_of}
use Rattle.net_model.specs.Trail.{Lists}
use Rattle.net_model.specs.Visit.{switch_named}
use Rattle.ovn_base.specs.declared.stages.TheConstants.{REMOTE_TABLE}
use Rattle.ovn_base.specs.names.ByName.{at}
use Rattle.row_laws.specs.Numbers.{IsDatapathKey, IsPortKey}
use Rattle.switch_engine.specs.Zones.{ZoneLists}
use Rattle.switch_engine.specs.declared.carried.Carried.{Carried}
use Rattle.sim_laws.specs.passes.Onward.{LeadsOn}
use Rattle.sim_laws.specs.passes.Physical.{IsWired, AreVirtual}
use Rattle.sim_laws.specs.passes.ToEnd.{EndsAs}
use Rattle.sim_laws.specs.pipelines.HeldLists.{HoldLists}
use Rattle.sim_laws.specs.pipelines.Ingress.{sent_as, IsNumberOf, loopback_for}
use Rattle.sim_laws.specs.pipelines.Standing.{Chassis, net_of, course_of, IsLaidOut}
use Rattle.sim_laws.specs.pipelines.WalkOn.{Comes}

-- from where the packet is sent that came in by the port
abbrev pub sent_from : Chassis → SwitchPort → SentFrom
sent_from s i = record { switch = switch_named (net_of s) i.switch; port = i }

-- The copy stands before table 32 with the numbers of where it came in and of its target. It didn't come out of a tunnel, and may go back to the
-- port of entry where it is an answer.
pub record IsSent (s : Chassis) (i : SwitchPort) (target : Target) (p : Packet) (lists : Lists) (zones : ZoneLists) (copy : Carried) : Type 0 where
  pub in_table : copy.table ≡ REMOTE_TABLE
  pub packet : copy.packet ≡ sent_as target p
  pub whole : IsWhole copy.packet
  pub on : IsDatapathKey s.keys i.switch copy.regs.dp
  pub came : IsPortKey s.keys i.switch i.name copy.regs.in_port
  pub to : IsNumberOf s.keys i target copy.regs.out_port
  pub loopback : reg_number reg.Loopback copy.regs ≡ loopback_for target 0
  pub arrived : reg_number reg.Arrived copy.regs ≡ 0
  pub within : HasRegistersInRange copy.regs
  pub hold : HoldLists s.number zones lists

-- Whatever walk takes on a copy that is sent from a port at home here does with it what the network says, up to the last end: it leaves by its
-- port, or goes on in the port's partner, crosses to other chassis, or is dropped.
abbrev pub SendingOnLaw : Type 0
SendingOnLaw =
    (s : Chassis) → IsLaidOut s → (numbers : GivenNumbers) → IsWired s numbers → (onward : Onward) (passes : ℕ)
    → (i : SwitchPort) → at (net_of s).switch_ports i.name ≡ Some i → is_here s.scene.here (home_of s.scene.config i) ≡ true → LeadsOn s onward i.switch passes
    → (target : Target) (p : Packet) → target ≡ target_of (net_of s) i p → (lists : Lists) (zones : ZoneLists) (copy : Carried)
    → IsSent s i target p lists zones copy → copy.passes ≡ passes
    → Comes (course_of s) zones (copy ∷ []) (EndsAs s (λ t. send_to target onward s.scene (sent_from s i) t p) lists)

-- So it is where no port of its switch leads to a router.
abbrev pub SendingLaw : Type 0
SendingLaw =
    (s : Chassis) → IsLaidOut s → (numbers : GivenNumbers) → IsWired s numbers → (onward : Onward)
    → (i : SwitchPort) → at (net_of s).switch_ports i.name ≡ Some i → at s.scene.config.bindings i.name ≡ Some s.scene.here → AreVirtual s i.switch
    → (target : Target) (p : Packet) → target ≡ target_of (net_of s) i p → (lists : Lists) (zones : ZoneLists) (copy : Carried)
    → IsSent s i target p lists zones copy → Comes (course_of s) zones (copy ∷ []) (EndsAs s (λ t. send_to target onward s.scene (sent_from s i) t p) lists)
