-- A copy on its way through a router, in names and words.
use Rattle.std.specs.Prelude.{◌≡◌, ℕ, Bool, true, false, Some}
use Rattle.flow_lowering.specs.Registers.{reg_number, HasRegistersInRange}
use Rattle.inet_packet.specs.Whole.{IsWhole}
use Rattle.inet_packet.specs.declared.packet.Packet.{Packet}
use Rattle.inet_packet.specs.declared.regs.Reg.{Reg}
use Rattle.inet_packet.specs.declared.regs.Reg.TheVariants as reg
use Rattle.inet_packet.specs.declared.regs.Regs.{Regs}
use Rattle.logical_flows.specs.declared.stage.Stage.{Stage}
use Rattle.logical_flows.specs.declared.stage.Stage.TheVariants as stage
use Rattle.nb_records.specs.declared.router.RouterPort.{RouterPort}
use Rattle.net_model.specs.Forwarding.{is_translating}
use Rattle.net_model.specs.Trail.{Lists}
use Rattle.ovn_base.specs.declared.stages.TheConstants.{ADMIT_TABLE}
use Rattle.ovn_base.specs.names.ByName.{at}
use Rattle.row_laws.specs.Numbers.{IsDatapathKey, IsPortKey, HasNumbers}
use Rattle.row_laws.specs.routers.RouterCopies.{RouterCopy, router_roster}
use Rattle.row_laws.specs.routers.RouterThrough.{entering}
use Rattle.row_laws.specs.routers.TranslatingActions.{IsAtAnyRouterPort}
use Rattle.switch_engine.specs.Zones.{ZoneLists}
use Rattle.switch_engine.specs.declared.carried.Carried.{Carried}
use Rattle.sim_laws.specs.pipelines.HeldLists.{HoldLists}
use Rattle.sim_laws.specs.pipelines.Standing.{Chassis, net_of, IsLaidOut}
use Rattle.sim_laws.specs.routers.TranslatingWords.{HaveRouterZones}

-- The copy stands before the table, with the numbers of its names and words, as the stage of a router asks, which may be one of a later table; the
-- registers have the numbers of the zones of the router's lists, where it translates, and the zones hold the lists.
pub record StandsInRouter (s : Chassis) (asking : Stage) (table : ℕ) (c : RouterCopy) (lists : Lists) (zones : ZoneLists) (copy : Carried) : Type 0 where
  pub in_table : copy.table ≡ table
  pub packet : copy.packet ≡ c.sight.packet
  pub at_port : IsAtAnyRouterPort (net_of s) asking c copy.regs
  pub numbers : HasNumbers s.keys s.sets (router_roster (net_of s)) c.port.router copy.regs c.sight
  pub own_zones : is_translating (net_of s) c.port ≡ true → HaveRouterZones s.number c.port.router copy.regs
  pub hold : HoldLists s.number zones lists

-- The registers name the port of entry, and the zones of the router's lists, where it translates; nothing is found out, and the copy did not come out of a
-- tunnel, of which table 33 asks.
pub record AreFirstInRouter (s : Chassis) (i : RouterPort) (regs : Regs) : Type 0 where
  pub on : IsDatapathKey s.keys i.router regs.dp
  pub came : IsPortKey s.keys i.router i.name regs.in_port
  pub nowhere : regs.out_port ≡ 0
  pub next : regs.next ≡ 0
  pub state : regs.state ≡ 0
  pub own : reg_number reg.Own regs ≡ 0
  pub arrived : reg_number reg.Arrived regs ≡ 0
  pub within : HasRegistersInRange regs
  pub zones : is_translating (net_of s) i ≡ true → HaveRouterZones s.number i.router regs

-- A copy that comes so to the first table of a router stands there with nothing found out, as the law of ingress asks.
abbrev pub FirstRouterTableLaw : Type 0
FirstRouterTableLaw =
    (s : Chassis) → IsLaidOut s → (i : RouterPort) → at (net_of s).router_ports i.name ≡ Some i
    → (p : Packet) → IsWhole p → (lists : Lists) (zones : ZoneLists) → HoldLists s.number zones lists → (copy : Carried) → copy.table ≡ ADMIT_TABLE → copy.packet ≡ p → AreFirstInRouter s i copy.regs
    → StandsInRouter s stage.RouterAdmit ADMIT_TABLE (entering i p) lists zones copy

-- the registers in which the stages of a router note where the packet goes, what its connection lists said, and whether it is the router's own answer
abbrev pub is_for_way : Reg → Bool
is_for_way reg.OutPort = true
is_for_way reg.Next = true
is_for_way reg.State = true
is_for_way reg.Loopback = true
is_for_way reg.Blocked = true
is_for_way reg.Own = true
is_for_way _ = false
