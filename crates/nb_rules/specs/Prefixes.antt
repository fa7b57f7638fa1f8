-- Networks, routes and translations of one prefix, and next hops that no network holds.
use Rattle.std.specs.Prelude.{◌==◌, ◌&&◌, ◌||◌, Bool, false, not, Option}
use Rattle.std.specs.List.{list_any}
use Rattle.ovn_base.specs.declared.address.Cidr.{Cidr}
use Rattle.ovn_base.specs.declared.name.Name.{Name}
use Rattle.ovn_base.specs.names.SameName.{same_name}
use Rattle.nb_records.specs.Network.{Network, name_of}
use Rattle.nb_records.specs.Routers.{contains, translates_sources, translates_destinations}
use Rattle.nb_records.specs.Switches.{same_ip}
use Rattle.nb_records.specs.declared.record.Record.{Record}
use Rattle.nb_records.specs.declared.record.Record.TheVariants as row
use Rattle.nb_records.specs.declared.router.Nat.{Nat}
use Rattle.nb_records.specs.declared.router.Route.{Route}
use Rattle.nb_records.specs.declared.router.RouterPort.{RouterPort}
use Rattle.nb_rules.specs.First.{first_of, first_record, fault_if, has_second}
use Rattle.nb_rules.specs.Holders.{is_before, is_router_mate}
use Rattle.nb_rules.specs.declared.fault.SchemaFault.{SchemaFault}
use Rattle.nb_rules.specs.declared.fault.SchemaFault.TheVariants as fault

-- the prefixes hold the same addresses
abbrev pub same_prefix : Cidr → Cidr → Bool
same_prefix a b = (a.len == b.len) && contains a b.addr

-- the network's prefix stands twice among the port's networks, or in a port of the router before it
abbrev pub is_repeated_network : Network → RouterPort → Cidr → Bool
is_repeated_network net p n =
    has_second (same_prefix n) false p.networks
    || list_any (λ (e : Name × RouterPort). is_router_mate p e.1 && list_any (same_prefix n) e.1.networks) net.router_ports

abbrev pub repeats_network : Network → RouterPort → Bool
repeats_network net p = list_any (is_repeated_network net p) p.networks

-- the other is a route of the same router, before it in order of name
abbrev pub is_route_before : Route → Route → Bool
is_route_before r other = same_name other.router r.router && is_before other.name r.name

-- a route of the router before it has its prefix
abbrev pub repeats_route : Network → Route → Bool
repeats_route net r = list_any (λ (e : Name × Route). is_route_before r e.1 && same_prefix r.prefix e.1.prefix) net.routes

-- both translate sources of one prefix
abbrev pub same_sources : Nat → Nat → Bool
same_sources a b = translates_sources a.kind && (translates_sources b.kind && same_prefix a.logical_ip b.logical_ip)

-- both translate one destination
abbrev pub same_destination : Nat → Nat → Bool
same_destination a b = translates_destinations a.kind && (translates_destinations b.kind && same_ip a.external_ip b.external_ip)

-- the other is a row of the same router, before it in order of name
abbrev pub is_nat_before : Nat → Nat → Bool
is_nat_before r other = same_name other.router r.router && is_before other.name r.name

-- a row of the router before it translates the same sources, or the same destination
abbrev pub repeats_nat : Network → Nat → Bool
repeats_nat net r = list_any (λ (e : Name × Nat). is_nat_before r e.1 && (same_sources r e.1 || same_destination r e.1)) net.nats

abbrev pub repeats_prefix : Network → Record → Bool
repeats_prefix net (row.RouterPort r) = repeats_network net r
repeats_prefix net (row.Route r) = repeats_route net r
repeats_prefix net (row.Nat r) = repeats_nat net r
repeats_prefix net _ = false

abbrev pub prefix_fault : Network → Record → Option SchemaFault
prefix_fault net r = fault_if (repeats_prefix net r) (fault.DuplicatePrefix (name_of r))

-- a record has the prefix of one before it
unfoldable pub duplicate_prefix : Network → Option SchemaFault
duplicate_prefix net = first_record (prefix_fault net) net

-- a network of the route's router holds its next hop
abbrev pub has_network : Network → Route → Bool
has_network net r = list_any (λ (e : Name × RouterPort). same_name e.1.router r.router && list_any (λ n. contains n r.nexthop) e.1.networks) net.router_ports

abbrev pub next_hop_fault : Network → Route → Option SchemaFault
next_hop_fault net r = fault_if (not (has_network net r)) (fault.NoNetworkForNexthop r.name)

-- no network holds a route's next hop
unfoldable pub no_network : Network → Option SchemaFault
no_network net = first_of (next_hop_fault net) net.routes
