-- The ports of a switch that lead to routers, and what becomes of copies there.
use Rattle.std.specs.Prelude.{◌≡◌, ℕ, true, false, [], ◌∷◌, Some, None}
use Rattle.flow_lowering.specs.Registers.{HasRegistersInRange}
use Rattle.inet_packet.specs.Whole.{IsWhole}
use Rattle.inet_packet.specs.declared.packet.Packet.{Packet}
use Rattle.nb_records.specs.Routers.{partner_of_switch_port}
use Rattle.nb_records.specs.Switches.{is_virtual}
use Rattle.nb_records.specs.declared.switch.SwitchPort.{SwitchPort}
use Rattle.net_model.specs.Config.{home_of, is_here}
use Rattle.net_model.specs.Entry.{Onward}
use Rattle.net_model.specs.Trail.{Lists, spot_of}
use Rattle.ovn_base.specs.declared.name.Name.{Name}
use Rattle.ovn_base.specs.declared.stages.TheConstants.{OUTPUT_TABLE}
use Rattle.ovn_base.specs.names.ByName.{at}
use Rattle.row_laws.specs.Numbers.{IsDatapathKey, IsPortKey}
use Rattle.switch_engine.specs.Zones.{ZoneLists}
use Rattle.switch_engine.specs.declared.carried.Carried.{Carried}
use Rattle.sim_laws.specs.passes.ToEnd.{EndsAs}
use Rattle.sim_laws.specs.pipelines.HeldLists.{HoldLists}
use Rattle.sim_laws.specs.pipelines.Standing.{Chassis, net_of, course_of}
use Rattle.sim_laws.specs.pipelines.WalkOn.{Comes}

-- The copy stands before the output with the numbers of its switch and of the port by which it leaves.
pub record IsAtOutput (s : Chassis) (o : SwitchPort) (p : Packet) (lists : Lists) (zones : ZoneLists) (copy : Carried) : Type 0 where
  pub in_table : copy.table ≡ OUTPUT_TABLE
  pub packet : copy.packet ≡ p
  pub whole : IsWhole p
  pub on : IsDatapathKey s.keys o.switch copy.regs.dp
  pub to : IsPortKey s.keys o.switch o.name copy.regs.out_port
  pub within : HasRegistersInRange copy.regs
  pub hold : HoldLists s.number zones lists

-- Whatever walk takes on a copy there that has passed so often does what `onward` says: it goes on in the port's partner, or ends.
abbrev pub GoesOn : Chassis → Onward → ℕ → SwitchPort → Type 0
GoesOn s onward passes o =
    (p : Packet) (lists : Lists) (zones : ZoneLists) (copy : Carried) → copy.passes ≡ passes → IsAtOutput s o p lists zones copy
    → Comes (course_of s) zones (copy ∷ []) (EndsAs s (λ t. onward (spot_of o) (partner_of_switch_port (net_of s) o) t p) lists)

-- So it is at each port of the switch that leads to a router and is at home here, with the router. Such ports are bound to no chassis.
pub record LeadsOn (s : Chassis) (onward : Onward) (switch : Name) (passes : ℕ) : Type 0 where
  pub unbound : (o : SwitchPort) → at (net_of s).switch_ports o.name ≡ Some o → o.switch ≡ switch → is_virtual o ≡ false → at s.scene.config.bindings o.name ≡ None
  pub goes : (o : SwitchPort) → at (net_of s).switch_ports o.name ≡ Some o → o.switch ≡ switch → is_virtual o ≡ false → is_here s.scene.here (home_of s.scene.config o) ≡ true → GoesOn s onward passes o
