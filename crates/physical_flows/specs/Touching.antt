-- Which units' rows an event changes, of rows that follow from what the flows of a chassis follow from.
use Rattle.std.specs.Prelude.{◌≡◌, ◌≢◌, ◌⊎◌, false, List, [], ◌∷◌, Some}
use Rattle.std.specs.BTreeSet.{insert_key}
use Rattle.std.specs.Cmp.Lexicographic.{slice_cmp}
use Rattle.std.specs.Ordering.{nat_cmp}
use Rattle.conn_zones.specs.Zoning.{GivenNumbers}
use Rattle.conn_zones.specs.declared.numbers.ZoneUse.{ZoneUse}
use Rattle.conn_zones.specs.declared.numbers.ZoneUse.TheVariants.{Port}
use Rattle.flow_table.specs.declared.flow.Flow.{Flow}
use Rattle.nb_records.specs.Network.{Network}
use Rattle.nb_records.specs.Switches.{is_virtual}
use Rattle.nb_records.specs.declared.router.RouterPort.{RouterPort}
use Rattle.nb_records.specs.declared.switch.Switch.{Switch}
use Rattle.nb_records.specs.declared.switch.SwitchPort.{SwitchPort}
use Rattle.nb_rules.specs.Valid.{IsValid}
use Rattle.ovn_base.specs.declared.name.Name.{Name}
use Rattle.ovn_base.specs.lists.Among.{Among}
use Rattle.ovn_base.specs.names.ByName.{at, put, IsByName}
use Rattle.physical_flows.specs.Homes.{ArePortsNamed}
use Rattle.physical_flows.specs.Numbers.{datapath_number, port_number}
use Rattle.physical_flows.specs.Stages.{Basis, number_here, zone_of}
use Rattle.physical_flows.specs.Units.{ChangeOnly}
use Rattle.physical_flows.specs.declared.unit.FlowUnit.{FlowUnit}
use Rattle.physical_flows.specs.declared.unit.FlowUnit.TheVariants as unit
use Rattle.tunnel_keys.specs.Keys.{Keys}

-- The records of the switches and ports that aren't among the units stay, and so do the numbers of their keys. Among the units are all ports that lead into
-- another datapath, whose rows follow from the records of several. Numbers are asked only of what is there: under a name without a
-- record a switch or a port of a switch has no rows, whatever number the name has.
pub record IsSameBeside (units : List FlowUnit) (net next : Network) (keys keys_after : Keys) : Type 0 where
  pub switches : (a : Name) → ¬ Among (unit.Switch a) units → at next.switches a ≡ at net.switches a
  pub datapaths : (a : Name) (switch : Switch) → ¬ Among (unit.Switch a) units → at net.switches a ≡ Some switch → datapath_number keys_after a ≡ datapath_number keys a
  pub ports : (q : Name) → ¬ Among (unit.Port q) units → at next.switch_ports q ≡ at net.switch_ports q
  pub numbers : (q : Name) (port : SwitchPort) → ¬ Among (unit.Port q) units → at net.switch_ports q ≡ Some port → port_number keys_after q ≡ port_number keys q
  -- the switch of a port that stays keeps its key
  pub beneath : (q : Name) (port : SwitchPort) → ¬ Among (unit.Port q) units → at net.switch_ports q ≡ Some port → datapath_number keys_after port.switch ≡ datapath_number keys port.switch
  -- with a port go the switches that it was on and is on
  pub on : (q : Name) (port : SwitchPort) → Among (unit.Port q) units → (at net.switch_ports q ≡ Some port) ⊎ (at next.switch_ports q ≡ Some port) → Among (unit.Switch port.switch) units
  pub router_ports : (p : Name) (port : RouterPort) → (at net.router_ports p ≡ Some port) ⊎ (at next.router_ports p ≡ Some port) → Among (unit.RouterPort p) units
  pub to_routers : (q : Name) (port : SwitchPort) → (at net.switch_ports q ≡ Some port) ⊎ (at next.switch_ports q ≡ Some port) → is_virtual port ≡ false → Among (unit.Port q) units

-- An edit of records that leaves bindings and the zones of ports as they are, whatever zones gateway routers get, changes the rows of those units alone
-- beside which all stays.
abbrev pub EditTouches : (Basis → FlowUnit → List Flow) → Type 0
EditTouches rows =
    (before after : Basis) (units : List FlowUnit) (next : Network) (keys : Keys) (zones : GivenNumbers) → after ≡ record before { net = next; keys = keys; zones = zones }
    → ((q : Name) → zone_of after q ≡ zone_of before q)
    → IsByName before.net.switch_ports → IsByName next.switch_ports → ArePortsNamed before.net → IsSameBeside units before.net next before.keys keys → ChangeOnly units (rows before) (rows after)

-- A port that is bound changes its own rows and those of its switch, on each chassis.
abbrev pub BindTouches : (Basis → FlowUnit → List Flow) → Type 0
BindTouches rows =
    (before after : Basis) (q home : Name) (port : SwitchPort) (zones : GivenNumbers) → after ≡ record before { bindings = put before.bindings q home; zones = zones }
    → at before.net.switch_ports q ≡ Some port → IsByName before.net.switch_ports → ArePortsNamed before.net → ((z : ZoneUse) → z ≢ Port q → number_here after z ≡ number_here before z)
    → ChangeOnly (unit.Switch port.switch ∷ unit.Port q ∷ []) (rows before) (rows after)

-- among the units are all ports that lead into another datapath, with the switches of those that lead to routers
pub record HasLeading (units : List FlowUnit) (net : Network) : Type 0 where
  pub router_ports : (p : Name) (port : RouterPort) → at net.router_ports p ≡ Some port → Among (unit.RouterPort p) units
  pub to_routers : (q : Name) (port : SwitchPort) → at net.switch_ports q ≡ Some port → is_virtual port ≡ false → Among (unit.Port q) units
  pub on : (q : Name) (port : SwitchPort) → at net.switch_ports q ≡ Some port → is_virtual port ≡ false → Among (unit.Switch port.switch) units

-- A chassis that comes changes, on the others, the rows of such units alone: gateway routers that wait for it come home, whatever zones they get, and
-- nobody else is at home there yet.
abbrev pub ChassisTouches : (Basis → FlowUnit → List Flow) → Type 0
ChassisTouches rows =
    (before after : Basis) (units : List FlowUnit) (c : Name) (zones : GivenNumbers) → after ≡ record before { all = insert_key (slice_cmp nat_cmp) before.all c; zones = zones } → (¬ Among c before.all)
    → ((q home : Name) → at before.bindings q ≡ Some home → Among home before.all)
    → ((q : Name) → zone_of after q ≡ zone_of before q)
    → IsValid before.net → HasLeading units before.net → ChangeOnly units (rows before) (rows after)
