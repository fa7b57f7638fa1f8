-- A copy that comes to the first table of a switch.
use Rattle.std.specs.Prelude.{◌≡◌, true, Some}
use Rattle.flow_lowering.specs.Registers.{reg_number, HasRegistersInRange}
use Rattle.inet_packet.specs.Whole.{IsWhole}
use Rattle.inet_packet.specs.declared.packet.Packet.{Packet}
use Rattle.inet_packet.specs.declared.regs.Reg.TheVariants as reg
use Rattle.inet_packet.specs.declared.regs.Regs.{Regs}
use Rattle.logical_flows.specs.declared.stage.Pipeline.TheVariants.{Ingress}
use Rattle.nb_records.specs.Switches.{is_virtual}
use Rattle.nb_records.specs.declared.switch.SwitchPort.{SwitchPort}
use Rattle.net_model.specs.Entry.{sight_in}
use Rattle.net_model.specs.Trail.{Lists, of_port}
use Rattle.ovn_base.specs.declared.stages.TheConstants.{ADMIT_TABLE}
use Rattle.ovn_base.specs.names.ByName.{at}
use Rattle.row_laws.specs.Numbers.{IsDatapathKey, IsPortKey}
use Rattle.switch_engine.specs.Zones.{ZoneLists}
use Rattle.switch_engine.specs.declared.carried.Carried.{Carried}
use Rattle.sim_laws.specs.pipelines.HeldLists.{HoldLists}
use Rattle.sim_laws.specs.pipelines.Standing.{Chassis, net_of, IsLaidOut, no_words, StandsAtTable}

-- the registers name the port of entry, and nothing else yet
pub record AreFirst (s : Chassis) (i : SwitchPort) (regs : Regs) : Type 0 where
  pub on : IsDatapathKey s.keys i.switch regs.dp
  pub came : IsPortKey s.keys i.switch i.name regs.in_port
  pub nowhere : regs.out_port ≡ 0
  pub tracked : reg_number reg.Tracked regs ≡ 0
  pub verdict : regs.verdict ≡ 0
  pub state : regs.state ≡ 0
  pub blocked : reg_number reg.Blocked regs ≡ 0
  pub within : HasRegistersInRange regs
  pub zone : is_virtual i ≡ true → s.number (of_port i.name) ≡ Some regs.z_in

-- There it stands with nothing found out, as the law of ingress asks.
abbrev pub FirstTableLaw : Type 0
FirstTableLaw =
    (s : Chassis) → IsLaidOut s → (i : SwitchPort) → at (net_of s).switch_ports i.name ≡ Some i
    → (p : Packet) → IsWhole p → (lists : Lists) (zones : ZoneLists) → HoldLists s.number zones lists → (copy : Carried) → copy.table ≡ ADMIT_TABLE → copy.packet ≡ p → AreFirst s i copy.regs
    → StandsAtTable s Ingress ADMIT_TABLE (record { port = i; sight = sight_in i p; words = no_words }) lists zones copy
