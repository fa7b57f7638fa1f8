-- The law of a visit: a packet that comes in at a port goes on to its last end.
use Rattle.std.specs.Prelude.{◌≡◌, ℕ, true, [], ◌∷◌, Some}
use Rattle.conn_zones.specs.Zoning.{GivenNumbers}
use Rattle.flow_lowering.specs.Registers.{reg_number}
use Rattle.inet_packet.specs.Whole.{IsWhole}
use Rattle.inet_packet.specs.declared.packet.Packet.{Packet}
use Rattle.inet_packet.specs.declared.regs.Reg.TheVariants as reg
use Rattle.nb_records.specs.Switches.{is_virtual}
use Rattle.nb_records.specs.declared.switch.SwitchPort.{SwitchPort}
use Rattle.net_model.specs.Config.{home_of, is_here}
use Rattle.net_model.specs.Entry.{Onward}
use Rattle.net_model.specs.Trail.{Lists}
use Rattle.net_model.specs.Visit.{into_switch, passing_on, visit}
use Rattle.ovn_base.specs.declared.stages.TheConstants.{ADMIT_TABLE}
use Rattle.ovn_base.specs.names.ByName.{at}
use Rattle.switch_engine.specs.Walk.{start}
use Rattle.switch_engine.specs.Zones.{ZoneLists}
use Rattle.switch_engine.specs.declared.carried.Carried.{Carried}
use Rattle.switch_engine.specs.declared.effect.Entry.TheVariants.{Vif}
use Rattle.sim_laws.specs.passes.Onward.{LeadsOn}
use Rattle.sim_laws.specs.passes.Physical.{IsWired, AreVirtual}
use Rattle.sim_laws.specs.passes.ToEnd.{EndsAs}
use Rattle.sim_laws.specs.pipelines.FirstTable.{AreFirst}
use Rattle.sim_laws.specs.pipelines.HeldLists.{HoldLists}
use Rattle.sim_laws.specs.pipelines.Standing.{Chassis, net_of, course_of, IsLaidOut}
use Rattle.sim_laws.specs.pipelines.WalkOn.{Comes}

-- Whatever walk takes on a copy that stands at the first table of a switch with the numbers of a port at home here, it does what the network says of a
-- packet that enters by the port, up to the last end.
abbrev pub ThroughSwitchLaw : Type 0
ThroughSwitchLaw =
    (s : Chassis) → IsLaidOut s → (numbers : GivenNumbers) → IsWired s numbers → (onward : Onward) (passes : ℕ)
    → (i : SwitchPort) → at (net_of s).switch_ports i.name ≡ Some i → is_here s.scene.here (home_of s.scene.config i) ≡ true → LeadsOn s onward i.switch passes
    → (p : Packet) → IsWhole p → (lists : Lists) (zones : ZoneLists) → HoldLists s.number zones lists
    → (copy : Carried) → copy.table ≡ ADMIT_TABLE → copy.packet ≡ p → AreFirst s i copy.regs → reg_number reg.Loopback copy.regs ≡ 0 → reg_number reg.Arrived copy.regs ≡ 0 → copy.passes ≡ passes
    → Comes (course_of s) zones (copy ∷ []) (EndsAs s (λ t. into_switch onward s.scene i t p) lists)

-- Whatever walk a packet takes from table 0 on that comes in at a virtual port that is bound to the chassis, it does what the network says of its
-- visit: to the last end, with the connection lists and the choices on the way.
abbrev pub VisitOnLaw : Type 0
VisitOnLaw =
    (s : Chassis) → IsLaidOut s → (numbers : GivenNumbers) → IsWired s numbers
    → (i : SwitchPort) → at (net_of s).switch_ports i.name ≡ Some i → is_virtual i ≡ true → at s.scene.config.bindings i.name ≡ Some s.scene.here
    → LeadsOn s (passing_on s.scene) i.switch 0 → s.entry ≡ Vif i.name
    → (p : Packet) → IsWhole p → (lists : Lists) (zones : ZoneLists) → HoldLists s.number zones lists
    → Comes (course_of s) zones (start (Vif i.name) p ∷ []) (EndsAs s (λ t. visit s.scene i t p) lists)

-- So it is where no port of the switch leads to a router.
abbrev pub VisitLaw : Type 0
VisitLaw =
    (s : Chassis) → IsLaidOut s → (numbers : GivenNumbers) → IsWired s numbers
    → (i : SwitchPort) → at (net_of s).switch_ports i.name ≡ Some i → at s.scene.config.bindings i.name ≡ Some s.scene.here → AreVirtual s i.switch → s.entry ≡ Vif i.name
    → (p : Packet) → IsWhole p → (lists : Lists) (zones : ZoneLists) → HoldLists s.number zones lists
    → Comes (course_of s) zones (start (Vif i.name) p ∷ []) (EndsAs s (λ t. visit s.scene i t p) lists)
