-- The units of flows and the rules that an edit touches.
use Rattle.std.specs.Prelude.{◌++◌, Bool, true, false, cond, not, List, [], ◌∷◌, Option, Some, None, filter, flat_map, map}
use Rattle.std.specs.List.{list_any}
use Rattle.std.specs.Map.{keys_of}
use Rattle.ovn_base.specs.declared.name.Name.{Name}
use Rattle.ovn_base.specs.names.ByName.{at}
use Rattle.logical_flows.specs.declared.unit.UnitId.{UnitId}
use Rattle.logical_flows.specs.declared.unit.UnitId.TheVariants as rows
use Rattle.nb_records.specs.Network.{Network, kind_of, name_of}
use Rattle.nb_records.specs.declared.change.Op.{Op}
use Rattle.nb_records.specs.declared.change.Op.TheVariants.{Add, Set, Remove, Health}
use Rattle.nb_records.specs.declared.kinds.Kind.{Kind}
use Rattle.nb_records.specs.declared.kinds.Kind.TheVariants as kind
use Rattle.nb_records.specs.declared.switch.SwitchPort.{SwitchPort}
use Rattle.nb_records.specs.Switches.{has_some, is_virtual}
use Rattle.physical_flows.specs.declared.unit.FlowUnit.{FlowUnit}
use Rattle.physical_flows.specs.declared.unit.FlowUnit.TheVariants as unit

-- the switch of a port, if the port is there
abbrev pub switch_of : Option SwitchPort → List FlowUnit
switch_of None = []
switch_of (Some port) = unit.Switch port.switch ∷ []

-- those of the record of this kind and name: its own, and with a port those of the switches that it was and is on; a router and its ports, whose keys may come,
-- touch what a switch and a port of their names would
abbrev pub units_named : Network → Network → Kind → Name → List FlowUnit
units_named before after kind.Switch a = unit.Switch a ∷ []
units_named before after kind.Router a = unit.Switch a ∷ []
units_named before after kind.RouterPort q = unit.Port q ∷ switch_of (at before.switch_ports q) ++ switch_of (at after.switch_ports q)
units_named before after kind.SwitchPort q = unit.Port q ∷ switch_of (at before.switch_ports q) ++ switch_of (at after.switch_ports q)
units_named before after kind.AddressSet s = []
units_named before after kind.PortGroup g = []
units_named before after kind.Acl r = []
units_named before after kind.Route r = []
units_named before after kind.Nat r = []
units_named before after kind.LoadBalancer b = []
units_named before after kind.StaticMac s = []

-- those of the record that the operation names
abbrev pub units_by : Network → Network → Op → List FlowUnit
units_by before after (Add r) = units_named before after (kind_of r) (name_of r)
units_by before after (Set k name change) = units_named before after k name
units_by before after (Remove k name) = units_named before after k name
units_by before after (Health balancer backend online) = []

abbrev pub named_by : Network → Network → List Op → List FlowUnit
named_by before after ops = flat_map (λ o. units_by before after o) ops

-- the ports of switches that lead to routers; where no router has a port, there are none
abbrev pub to_routers : Network → List Name
to_routers net = map (λ e. e.0) (filter (λ e. not (is_virtual e.1)) net.switch_ports)

abbrev pub ports_leading : Network → List Name
ports_leading net = cond (has_some net.router_ports) (to_routers net) []

abbrev pub units_leading : Network → Network → Network → List FlowUnit
units_leading before after net = flat_map (λ q. units_named before after kind.SwitchPort q) (ports_leading net)

abbrev pub router_port_units : Network → List FlowUnit
router_port_units net = map (λ e. unit.RouterPort e.0) net.router_ports

-- all ports that lead into another datapath, before and after: the rows of each follow from the records of several
abbrev pub leading_units : Network → Network → List FlowUnit
leading_units before after = units_leading before after before ++ units_leading before after after ++ router_port_units before ++ router_port_units after

abbrev pub touched_by : Network → Network → List Op → List FlowUnit
touched_by before after ops = named_by before after ops ++ leading_units before after

-- the unit of rows that a unit of flows is: a switch's or a port's
abbrev pub row_unit : FlowUnit → Option UnitId
row_unit unit.Common = None
row_unit (unit.Switch a) = Some (rows.Switch a)
row_unit (unit.Port q) = Some (rows.Port q)
row_unit (unit.RouterPort q) = None

-- ---- rules

-- the rule that the record of this kind and name is
abbrev pub rule_named : Kind → Name → List Name
rule_named kind.Acl r = r ∷ []
rule_named other name = []

abbrev pub rules_by : Op → List Name
rules_by (Add r) = rule_named (kind_of r) (name_of r)
rules_by (Set k name change) = rule_named k name
rules_by (Remove k name) = rule_named k name
rules_by (Health balancer backend online) = []

-- a record of this kind has members, which a rule may name by it
abbrev pub has_members : Kind → Bool
has_members kind.AddressSet = true
has_members kind.PortGroup = true
has_members other = false

abbrev pub names_members : Op → Bool
names_members (Add r) = has_members (kind_of r)
names_members (Set k name change) = has_members k
names_members (Remove k name) = has_members k
names_members (Health balancer backend online) = false

-- those that the operations name; and with a set or a group all that were there, since any may name it
abbrev pub rules_touched : Network → List Op → List Name
rules_touched before ops = flat_map rules_by ops ++ cond (list_any names_members ops) (keys_of before.acls) []
