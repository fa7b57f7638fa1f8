-- Addresses that are none, or that stand where they can't.
use Rattle.std.specs.Prelude.{◌==◌, ◌&&◌, ◌||◌, ◌-◌, ◌%◌, ◌^◌, nat_lt, Bool, true, false, not, Option}
use Rattle.std.specs.List.{list_any}
use Rattle.ovn_base.specs.addresses.EtherAddress.{is_multicast_mac}
use Rattle.ovn_base.specs.declared.address.Cidr.{Cidr}
use Rattle.ovn_base.specs.declared.address.Ip4.{Ip4}
use Rattle.ovn_base.specs.declared.address.Mac.{Mac}
use Rattle.ovn_base.specs.declared.address.SetEntry.{SetEntry}
use Rattle.ovn_base.specs.declared.address.SetEntry.TheVariants as entry
use Rattle.nb_records.specs.Network.{Network, name_of}
use Rattle.nb_records.specs.Routers.{contains}
use Rattle.nb_records.specs.Switches.{is_virtual_kind, has_some}
use Rattle.nb_records.specs.declared.record.Record.{Record}
use Rattle.nb_records.specs.declared.record.Record.TheVariants as row
use Rattle.nb_records.specs.declared.router.Nat.{Nat}
use Rattle.nb_records.specs.declared.router.NatKind.{NatKind}
use Rattle.nb_records.specs.declared.router.NatKind.TheVariants as nat_kind
use Rattle.nb_records.specs.declared.router.RouterPort.{RouterPort}
use Rattle.nb_records.specs.declared.rule.AddressSet.{AddressSet}
use Rattle.nb_records.specs.declared.switch.PortAddress.{PortAddress}
use Rattle.nb_records.specs.declared.switch.PortAddress.TheVariants as address
use Rattle.nb_records.specs.declared.switch.PortKind.{PortKind}
use Rattle.nb_records.specs.declared.switch.SecurityEntry.{SecurityEntry}
use Rattle.nb_records.specs.declared.switch.SwitchPort.{SwitchPort}
use Rattle.nb_rules.specs.First.{first_record, fault_if}
use Rattle.nb_rules.specs.declared.fault.SchemaFault.{SchemaFault}
use Rattle.nb_rules.specs.declared.fault.SchemaFault.TheVariants as fault
use Rattle.nb_rules.specs.declared.addresses.TheConstants.{THIS_NETWORK, LOOPBACK, NO_UNICAST}

-- an Ethernet address that no port can have: one of a group, or zero
abbrev pub is_bad_mac : Mac → Bool
is_bad_mac mac = is_multicast_mac mac || (mac.number == 0)

-- bits are set behind the length of the prefix
abbrev pub has_host_bits : Cidr → Bool
has_host_bits prefix = not (prefix.addr.0 % 2 ^ (32 - prefix.len) == 0)

-- an address that no router can have: one in 0.0.0.0/8, 127.0.0.0/8 or 224.0.0.0/3
abbrev pub is_bad_own_ip : Ip4 → Bool
is_bad_own_ip ip = contains THIS_NETWORK ip || (contains LOOPBACK ip || contains NO_UNICAST ip)

abbrev pub is_bad_router_port : RouterPort → Bool
is_bad_router_port r = is_bad_mac r.mac || list_any (λ n. is_bad_own_ip n.addr) r.networks

-- an entry of a port's addresses: IPv4 addresses and `unknown` stand with virtual ports alone, `router` with ports to a router
abbrev pub is_bad_port_address : PortKind → PortAddress → Bool
is_bad_port_address k (address.Ether mac ips) = is_bad_mac mac || (not (is_virtual_kind k) && has_some ips)
is_bad_port_address k address.Unknown = not (is_virtual_kind k)
is_bad_port_address k address.Router = is_virtual_kind k

abbrev pub is_bad_security : SecurityEntry → Bool
is_bad_security e = is_bad_mac e.mac || list_any has_host_bits e.ips

-- only a virtual port has port security
abbrev pub is_bad_switch_port : SwitchPort → Bool
is_bad_switch_port r =
    list_any (is_bad_port_address r.kind) r.addresses
    || (list_any is_bad_security r.port_security || (not (is_virtual_kind r.kind) && has_some r.port_security))

abbrev pub is_bad_set_entry : SetEntry → Bool
is_bad_set_entry (entry.Ip prefix) = has_host_bits prefix
is_bad_set_entry (entry.Ether mac) = is_bad_mac mac

abbrev pub is_ether : SetEntry → Bool
is_ether (entry.Ip prefix) = false
is_ether (entry.Ether mac) = true

-- a set has addresses of one kind
abbrev pub is_bad_set : AddressSet → Bool
is_bad_set r = list_any is_bad_set_entry r.addresses || (list_any is_ether r.addresses && list_any (λ e. not (is_ether e)) r.addresses)

abbrev pub is_snat_alone : NatKind → Bool
is_snat_alone nat_kind.Snat = true
is_snat_alone _ = false

-- only `snat` translates whole prefixes
abbrev pub is_bad_nat : Nat → Bool
is_bad_nat r = has_host_bits r.logical_ip || (not (is_snat_alone r.kind) && nat_lt r.logical_ip.len 32)

abbrev pub has_bad_address : Record → Bool
has_bad_address (row.RouterPort r) = is_bad_router_port r
has_bad_address (row.SwitchPort r) = is_bad_switch_port r
has_bad_address (row.AddressSet r) = is_bad_set r
has_bad_address (row.Route r) = has_host_bits r.prefix
has_bad_address (row.Nat r) = is_bad_nat r
has_bad_address (row.StaticMac r) = is_bad_mac r.mac
has_bad_address _ = false

abbrev pub address_fault : Record → Option SchemaFault
address_fault r = fault_if (has_bad_address r) (fault.BadAddress (name_of r))

-- a record has a bad address
unfoldable pub bad_address : Network → Option SchemaFault
bad_address net = first_record address_fault net
