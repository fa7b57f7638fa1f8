-- The records that operations add, and the values that they set: the fields of the tables, put together.
use Rattle.std.specs.Prelude.{codes, Ok}
use Rattle.serde_json.specs.Data.{Data}
use Rattle.ovn_base.specs.declared.name.Name.{Name}
use Rattle.ovn_base.specs.names.NameText.{spelled_name}
use Rattle.nb_records.specs.declared.change.Change.{Change}
use Rattle.nb_records.specs.declared.change.Change.TheVariants as change
use Rattle.nb_records.specs.declared.kinds.Kind.{Kind}
use Rattle.nb_records.specs.declared.kinds.Kind.TheVariants as kind
use Rattle.nb_records.specs.declared.record.Record.{Record}
use Rattle.nb_records.specs.declared.record.Record.TheVariants as row
use Rattle.nb_records.specs.declared.balancer.LoadBalancer.{LoadBalancer}
use Rattle.nb_records.specs.declared.router.Nat.{Nat}
use Rattle.nb_records.specs.declared.router.Route.{Route}
use Rattle.nb_records.specs.declared.router.Router.{Router}
use Rattle.nb_records.specs.declared.router.RouterPort.{RouterPort}
use Rattle.nb_records.specs.declared.router.StaticMac.{StaticMac}
use Rattle.nb_records.specs.declared.rule.Acl.{Acl}
use Rattle.nb_records.specs.declared.rule.AddressSet.{AddressSet}
use Rattle.nb_records.specs.declared.rule.PortGroup.{PortGroup}
use Rattle.nb_records.specs.declared.switch.Switch.{Switch}
use Rattle.nb_records.specs.declared.switch.SwitchPort.{SwitchPort}
use Rattle.edit_reader.specs.Outcomes.{Read, ◌>>=◌}
use Rattle.edit_reader.specs.Fields.{needed, text_by}
use Rattle.edit_reader.specs.Tables.{rows_of, ValuesOf, values_of, ChangesOf, changes_of}

abbrev pub name_in : Data → Read Name
name_in d = needed (text_by spelled_name) (codes "name") d

-- ---- what is added; its birth is set when the edit is taken

abbrev pub switch_from : Name → ValuesOf (rows_of kind.Switch) → Switch
switch_from name end = record { name = name; birth = record { 0 = 0 } }

abbrev pub router_from : Name → ValuesOf (rows_of kind.Router) → Router
router_from name (chassis, end) = record { name = name; birth = record { 0 = 0 }; chassis = chassis }

abbrev pub router_port_from : Name → ValuesOf (rows_of kind.RouterPort) → RouterPort
router_port_from name (router, (mac, (networks, (peer, end)))) =
    record { name = name; birth = record { 0 = 0 }; router = router; mac = mac; networks = networks; peer = peer }

abbrev pub switch_port_from : Name → ValuesOf (rows_of kind.SwitchPort) → SwitchPort
switch_port_from name (switch, (port_kind, (router_port, (addresses, (port_security, (enabled, end)))))) =
    record { name = name; birth = record { 0 = 0 }; switch = switch; kind = port_kind; router_port = router_port; addresses = addresses; port_security = port_security; enabled = enabled }

abbrev pub address_set_from : Name → ValuesOf (rows_of kind.AddressSet) → AddressSet
address_set_from name (addresses, end) = record { name = name; birth = record { 0 = 0 }; addresses = addresses }

abbrev pub port_group_from : Name → ValuesOf (rows_of kind.PortGroup) → PortGroup
port_group_from name (ports, end) = record { name = name; birth = record { 0 = 0 }; ports = ports }

abbrev pub acl_from : Name → ValuesOf (rows_of kind.Acl) → Acl
acl_from name (switch, (port_group, (direction, (priority, (matching, (action, end)))))) =
    record { name = name; birth = record { 0 = 0 }; switch = switch; port_group = port_group; direction = direction; priority = priority; matching = matching; action = action }

abbrev pub route_from : Name → ValuesOf (rows_of kind.Route) → Route
route_from name (router, (prefix, (nexthop, end))) =
    record { name = name; birth = record { 0 = 0 }; router = router; prefix = prefix; nexthop = nexthop }

abbrev pub nat_from : Name → ValuesOf (rows_of kind.Nat) → Nat
nat_from name (router, (nat_kind, (external_ip, (logical_ip, end)))) =
    record { name = name; birth = record { 0 = 0 }; router = router; kind = nat_kind; external_ip = external_ip; logical_ip = logical_ip }

abbrev pub load_balancer_from : Name → ValuesOf (rows_of kind.LoadBalancer) → LoadBalancer
load_balancer_from name (protocol, (vips, (switches, (routers, end)))) =
    record { name = name; birth = record { 0 = 0 }; protocol = protocol; vips = vips; switches = switches; routers = routers }

abbrev pub static_mac_from : Name → ValuesOf (rows_of kind.StaticMac) → StaticMac
static_mac_from name (port, (ip, (mac, end))) =
    record { name = name; birth = record { 0 = 0 }; port = port; ip = ip; mac = mac }

abbrev pub record_from : (k : Kind) → Name → ValuesOf (rows_of k) → Record
record_from kind.Switch name v = row.Switch (switch_from name v)
record_from kind.Router name v = row.Router (router_from name v)
record_from kind.RouterPort name v = row.RouterPort (router_port_from name v)
record_from kind.SwitchPort name v = row.SwitchPort (switch_port_from name v)
record_from kind.AddressSet name v = row.AddressSet (address_set_from name v)
record_from kind.PortGroup name v = row.PortGroup (port_group_from name v)
record_from kind.Acl name v = row.Acl (acl_from name v)
record_from kind.Route name v = row.Route (route_from name v)
record_from kind.Nat name v = row.Nat (nat_from name v)
record_from kind.LoadBalancer name v = row.LoadBalancer (load_balancer_from name v)
record_from kind.StaticMac name v = row.StaticMac (static_mac_from name v)

-- the record that an object of the kind adds
unfoldable pub record_of : Kind → Data → Read Record
record_of k d = name_in d >>= λ name. values_of (rows_of k) d >>= λ v. Ok (record_from k name v)

-- ---- what is set

abbrev pub change_from : (k : Kind) → ChangesOf (rows_of k) → Change
change_from kind.Switch end = change.Switch
change_from kind.Router end = change.Router
change_from kind.RouterPort (mac, (networks, (peer, end))) = change.RouterPort mac networks peer
change_from kind.SwitchPort (addresses, (port_security, (enabled, end))) = change.SwitchPort addresses port_security enabled
change_from kind.AddressSet (addresses, end) = change.AddressSet addresses
change_from kind.PortGroup (ports, end) = change.PortGroup ports
change_from kind.Acl (priority, (matching, (action, end))) = change.Acl priority matching action
change_from kind.Route (prefix, (nexthop, end)) = change.Route prefix nexthop
change_from kind.Nat (external_ip, (logical_ip, end)) = change.Nat external_ip logical_ip
change_from kind.LoadBalancer (vips, (switches, (routers, end))) = change.LoadBalancer vips switches routers
change_from kind.StaticMac (ip, (mac, end)) = change.StaticMac ip mac

-- the new values that an object of the kind gives
unfoldable pub change_of : Kind → Data → Read Change
change_of k d = changes_of (rows_of k) d >>= λ v. Ok (change_from k v)
