-- Which values the fields of a record can have: their ranges and their grammars.
use Rattle.std.specs.Prelude.{◌≡◌, ◌≤◌, ◌<◌, ◌^◌, List, length, map, Option, Some, None}
use Rattle.std.specs.List.{AllByRecursion}
use Rattle.std.specs.List.Sorted.{IsStrictlySortedBy}
use Rattle.match_language.specs.Nesting.{FitsLevels}
use Rattle.match_language.specs.declared.field.Direction.TheVariants as way
use Rattle.ovn_base.specs.declared.address.Backend.{Backend}
use Rattle.ovn_base.specs.declared.address.Cidr.{Cidr}
use Rattle.ovn_base.specs.declared.address.Ip4.{Ip4}
use Rattle.ovn_base.specs.declared.address.SetEntry.{SetEntry}
use Rattle.ovn_base.specs.declared.address.SetEntry.TheVariants as entry
use Rattle.ovn_base.specs.declared.limits.TheConstants.{MAX_DEPTH, MAX_ACL_PRIORITY}
use Rattle.ovn_base.specs.declared.name.Name.{Name}
use Rattle.ovn_base.specs.names.NameText.{IsName}
use Rattle.nb_records.specs.Network.{backend_cmp}
use Rattle.nb_records.specs.declared.balancer.Vip.{Vip}
use Rattle.nb_records.specs.declared.change.Change.{Change}
use Rattle.nb_records.specs.declared.change.Change.TheVariants as change
use Rattle.nb_records.specs.declared.change.Op.{Op}
use Rattle.nb_records.specs.declared.change.Op.TheVariants as op
use Rattle.nb_records.specs.declared.kinds.Kind.{Kind}
use Rattle.nb_records.specs.declared.kinds.Kind.TheVariants as kind
use Rattle.nb_records.specs.declared.record.Record.{Record}
use Rattle.nb_records.specs.declared.record.Record.TheVariants as row
use Rattle.nb_records.specs.declared.balancer.LoadBalancer.{LoadBalancer}
use Rattle.nb_records.specs.declared.router.Nat.{Nat}
use Rattle.nb_records.specs.declared.router.Route.{Route}
use Rattle.nb_records.specs.declared.router.Router.{Router}
use Rattle.nb_records.specs.declared.router.RouterPort.{RouterPort}
use Rattle.nb_records.specs.declared.router.StaticMac.{StaticMac}
use Rattle.nb_records.specs.declared.rule.Acl.{Acl}
use Rattle.nb_records.specs.declared.rule.AddressSet.{AddressSet}
use Rattle.nb_records.specs.declared.rule.PortGroup.{PortGroup}
use Rattle.nb_records.specs.declared.switch.PortAddress.{PortAddress}
use Rattle.nb_records.specs.declared.switch.PortAddress.TheVariants as address
use Rattle.nb_records.specs.declared.switch.PortKind.{PortKind}
use Rattle.nb_records.specs.declared.switch.PortKind.TheVariants as port_kind
use Rattle.nb_records.specs.declared.switch.SecurityEntry.{SecurityEntry}
use Rattle.nb_records.specs.declared.switch.SwitchPort.{SwitchPort}

-- ---- values

-- it is not given, or is one of these
abbrev pub IfGiven : {X : Type 0} → (X → Type 0) → Option X → Type 0
IfGiven P None = Unit {0}
IfGiven P (Some x) = P x

abbrev pub IsIp4 : Ip4 → Type 0
IsIp4 ip = ip.0 < 2 ^ 32

abbrev pub IsCidr : Cidr → Type 0
IsCidr prefix = IsIp4 prefix.addr × (prefix.len ≤ 32)

-- an address with a port of 1 to 65,535
pub record IsBackend (b : Backend) : Type 0 where
  pub ip : IsIp4 b.ip
  pub some : 1 ≤ b.port
  pub few : b.port < 2 ^ 16

abbrev pub AreNames : List Name → Type 0
AreNames names = AllByRecursion IsName names

abbrev pub IsPortAddress : PortAddress → Type 0
IsPortAddress (address.Ether mac ips) = AllByRecursion IsIp4 ips
IsPortAddress address.Unknown = Unit {0}
IsPortAddress address.Router = Unit {0}

abbrev pub IsSecurityEntry : SecurityEntry → Type 0
IsSecurityEntry e = AllByRecursion IsCidr e.ips

abbrev pub IsSetEntry : SetEntry → Type 0
IsSetEntry (entry.Ip prefix) = IsCidr prefix
IsSetEntry (entry.Ether mac) = Unit {0}

abbrev pub IsVip : Vip → Type 0
IsVip vip = IsBackend vip.at × AllByRecursion IsBackend vip.backends

-- a balancer's vips, in order of address and port, each once
pub record AreVips (vips : List Vip) : Type 0 where
  pub each : AllByRecursion IsVip vips
  pub in_order : IsStrictlySortedBy backend_cmp (map (λ v. v.at) vips)

-- 1 to 16 networks
pub record AreNetworks (networks : List Cidr) : Type 0 where
  pub each : AllByRecursion IsCidr networks
  pub some : 1 ≤ length networks
  pub few : length networks ≤ 16

-- ---- records

-- only a port to a router has a router port, and it has one
abbrev pub HasItsRouterPort : PortKind → Option Name → Type 0
HasItsRouterPort port_kind.Virtual None = Unit {0}
HasItsRouterPort port_kind.Virtual (Some name) = ⊥
HasItsRouterPort port_kind.Router None = ⊥
HasItsRouterPort port_kind.Router (Some name) = IsName name

-- a rule is one of a switch or of a port group
abbrev pub IsOfOne : Option Name → Option Name → Type 0
IsOfOne (Some switch) None = IsName switch
IsOfOne None (Some group) = IsName group
IsOfOne None None = ⊥
IsOfOne (Some switch) (Some group) = ⊥

pub record IsRouter (r : Router) : Type 0 where
  pub name : IsName r.name
  pub chassis : IfGiven IsName r.chassis

pub record IsRouterPort (r : RouterPort) : Type 0 where
  pub name : IsName r.name
  pub router : IsName r.router
  pub networks : AreNetworks r.networks
  pub peer : IfGiven IsName r.peer

pub record IsSwitchPort (r : SwitchPort) : Type 0 where
  pub name : IsName r.name
  pub switch : IsName r.switch
  pub router_port : HasItsRouterPort r.kind r.router_port
  pub addresses : AllByRecursion IsPortAddress r.addresses
  pub port_security : AllByRecursion IsSecurityEntry r.port_security

pub record IsAddressSet (r : AddressSet) : Type 0 where
  pub name : IsName r.name
  pub addresses : AllByRecursion IsSetEntry r.addresses

pub record IsPortGroup (r : PortGroup) : Type 0 where
  pub name : IsName r.name
  pub ports : AreNames r.ports

-- its match is one that is read for a to-lport rule; that it is one for its own direction is asked of an edit (`IsDirected`)
pub record IsAcl (r : Acl) : Type 0 where
  pub name : IsName r.name
  pub scope : IsOfOne r.switch r.port_group
  pub priority : r.priority ≤ MAX_ACL_PRIORITY
  pub matching : FitsLevels way.ToLport MAX_DEPTH r.matching

-- the match of a from-lport rule names no port of exit
abbrev pub IsDirected : Acl → Type 0
IsDirected r = FitsLevels r.direction MAX_DEPTH r.matching

pub record IsRoute (r : Route) : Type 0 where
  pub name : IsName r.name
  pub router : IsName r.router
  pub prefix : IsCidr r.prefix
  pub nexthop : IsIp4 r.nexthop

pub record IsNat (r : Nat) : Type 0 where
  pub name : IsName r.name
  pub router : IsName r.router
  pub external_ip : IsIp4 r.external_ip
  pub logical_ip : IsCidr r.logical_ip

pub record IsLoadBalancer (r : LoadBalancer) : Type 0 where
  pub name : IsName r.name
  pub vips : AreVips r.vips
  pub switches : AreNames r.switches
  pub routers : AreNames r.routers

pub record IsStaticMac (r : StaticMac) : Type 0 where
  pub name : IsName r.name
  pub port : IsName r.port
  pub ip : IsIp4 r.ip

-- the fields of the record are in their ranges and grammars
abbrev pub IsInGrammar : Record → Type 0
IsInGrammar (row.Switch r) = IsName r.name
IsInGrammar (row.Router r) = IsRouter r
IsInGrammar (row.RouterPort r) = IsRouterPort r
IsInGrammar (row.SwitchPort r) = IsSwitchPort r
IsInGrammar (row.AddressSet r) = IsAddressSet r
IsInGrammar (row.PortGroup r) = IsPortGroup r
IsInGrammar (row.Acl r) = IsAcl r
IsInGrammar (row.Route r) = IsRoute r
IsInGrammar (row.Nat r) = IsNat r
IsInGrammar (row.LoadBalancer r) = IsLoadBalancer r
IsInGrammar (row.StaticMac r) = IsStaticMac r

-- ---- operations

-- for fields of which kind the change has values
abbrev pub kind_of_change : Change → Kind
kind_of_change change.Switch = kind.Switch
kind_of_change change.Router = kind.Router
kind_of_change (change.RouterPort mac networks peer) = kind.RouterPort
kind_of_change (change.SwitchPort addresses port_security enabled) = kind.SwitchPort
kind_of_change (change.AddressSet addresses) = kind.AddressSet
kind_of_change (change.PortGroup ports) = kind.PortGroup
kind_of_change (change.Acl priority matching action) = kind.Acl
kind_of_change (change.Route prefix nexthop) = kind.Route
kind_of_change (change.Nat external_ip logical_ip) = kind.Nat
kind_of_change (change.LoadBalancer vips switches routers) = kind.LoadBalancer
kind_of_change (change.StaticMac ip mac) = kind.StaticMac

-- the values are in the ranges and grammars of their fields; a match is one that is read for a to-lport rule
abbrev pub IsChangeInGrammar : Change → Type 0
IsChangeInGrammar change.Switch = Unit {0}
IsChangeInGrammar change.Router = Unit {0}
IsChangeInGrammar (change.RouterPort mac networks peer) = IfGiven AreNetworks networks × IfGiven IsName peer
IsChangeInGrammar (change.SwitchPort addresses port_security enabled) = IfGiven (AllByRecursion IsPortAddress) addresses × IfGiven (AllByRecursion IsSecurityEntry) port_security
IsChangeInGrammar (change.AddressSet addresses) = IfGiven (AllByRecursion IsSetEntry) addresses
IsChangeInGrammar (change.PortGroup ports) = IfGiven AreNames ports
IsChangeInGrammar (change.Acl priority matching action) = IfGiven (λ p. p ≤ MAX_ACL_PRIORITY) priority × IfGiven (FitsLevels way.ToLport MAX_DEPTH) matching
IsChangeInGrammar (change.Route prefix nexthop) = IfGiven IsCidr prefix × IfGiven IsIp4 nexthop
IsChangeInGrammar (change.Nat external_ip logical_ip) = IfGiven IsIp4 external_ip × IfGiven IsCidr logical_ip
IsChangeInGrammar (change.LoadBalancer vips switches routers) = IfGiven AreVips vips × IfGiven AreNames switches × IfGiven AreNames routers
IsChangeInGrammar (change.StaticMac ip mac) = IfGiven IsIp4 ip

-- an operation that a line can ask for
abbrev pub IsOpInGrammar : Op → Type 0
IsOpInGrammar (op.Add r) = IsInGrammar r
IsOpInGrammar (op.Set k name c) = IsName name × (kind_of_change c ≡ k) × IsChangeInGrammar c
IsOpInGrammar (op.Remove k name) = IsName name
IsOpInGrammar (op.Health balancer backend online) = IsName balancer × IsBackend backend
