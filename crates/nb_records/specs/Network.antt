-- The records as lists in order of name.
use Rattle.std.specs.Prelude.{◌==◌, ◌&&◌, ◌++◌, Bool, true, false, not, List, [], map, Option, is_some, option_map}
use Rattle.std.specs.BTreeMap.{is_at}
use Rattle.std.specs.BTreeSet.{insert_key}
use Rattle.std.specs.Cmp.Lexicographic.{slice_cmp}
use Rattle.std.specs.List.{list_any}
use Rattle.std.specs.List.Sorted.{IsStrictlySortedBy}
use Rattle.std.specs.Map.{remove_entry}
use Rattle.std.specs.Set.{remove_key}
use Rattle.std.specs.Ordering.{nat_cmp, on, then_cmp}
use Rattle.std.specs.declared.cmp.Ordering.{Ordering}
use Rattle.ovn_base.specs.declared.address.Backend.{Backend}
use Rattle.ovn_base.specs.declared.address.Birth.{Birth}
use Rattle.ovn_base.specs.declared.name.Name.{Name}
use Rattle.ovn_base.specs.names.ByName.{at, put, IsByName}
use Rattle.nb_records.specs.declared.balancer.LoadBalancer.{LoadBalancer}
use Rattle.nb_records.specs.declared.balancer.OfflineMark.{OfflineMark}
use Rattle.nb_records.specs.declared.kinds.Kind.{Kind}
use Rattle.nb_records.specs.declared.kinds.Kind.TheVariants as kind
use Rattle.nb_records.specs.declared.record.Record.{Record}
use Rattle.nb_records.specs.declared.record.Record.TheVariants as row
use Rattle.nb_records.specs.declared.router.Nat.{Nat}
use Rattle.nb_records.specs.declared.router.Route.{Route}
use Rattle.nb_records.specs.declared.router.Router.{Router}
use Rattle.nb_records.specs.declared.router.RouterPort.{RouterPort}
use Rattle.nb_records.specs.declared.router.StaticMac.{StaticMac}
use Rattle.nb_records.specs.declared.rule.Acl.{Acl}
use Rattle.nb_records.specs.declared.rule.AddressSet.{AddressSet}
use Rattle.nb_records.specs.declared.rule.PortGroup.{PortGroup}
use Rattle.nb_records.specs.declared.switch.Switch.{Switch}
use Rattle.nb_records.specs.declared.switch.SwitchPort.{SwitchPort}

-- the records of each kind, in order of name
pub record Network : Type 0 where
  pub switches : List (Name × Switch)
  pub routers : List (Name × Router)
  pub router_ports : List (Name × RouterPort)
  pub switch_ports : List (Name × SwitchPort)
  pub address_sets : List (Name × AddressSet)
  pub port_groups : List (Name × PortGroup)
  pub acls : List (Name × Acl)
  pub routes : List (Name × Route)
  pub nats : List (Name × Nat)
  pub load_balancers : List (Name × LoadBalancer)
  pub static_macs : List (Name × StaticMac)
  -- the backends that are marked offline, in order
  pub offline : List OfflineMark

-- no record
abbrev pub empty_network : Network
empty_network = record { switches = []; routers = []; router_ports = []; switch_ports = []; address_sets = []; port_groups = []; acls = []; routes = []; nats = []; load_balancers = []; static_macs = []; offline = [] }

-- ---- one record

-- the records with one more, in place of the one of its kind and name that is there
abbrev pub with_record : Network → Record → Network
with_record net (row.Switch r) = record net { switches = put net.switches r.name r }
with_record net (row.Router r) = record net { routers = put net.routers r.name r }
with_record net (row.RouterPort r) = record net { router_ports = put net.router_ports r.name r }
with_record net (row.SwitchPort r) = record net { switch_ports = put net.switch_ports r.name r }
with_record net (row.AddressSet r) = record net { address_sets = put net.address_sets r.name r }
with_record net (row.PortGroup r) = record net { port_groups = put net.port_groups r.name r }
with_record net (row.Acl r) = record net { acls = put net.acls r.name r }
with_record net (row.Route r) = record net { routes = put net.routes r.name r }
with_record net (row.Nat r) = record net { nats = put net.nats r.name r }
with_record net (row.LoadBalancer r) = record net { load_balancers = put net.load_balancers r.name r }
with_record net (row.StaticMac r) = record net { static_macs = put net.static_macs r.name r }

-- the entries without the one at the name
abbrev pub without_entry : {X : Type 0} → List (Name × X) → Name → List (Name × X)
without_entry entries name = remove_entry (is_at (slice_cmp nat_cmp name)) entries

-- the records without the one of the kind and name
abbrev pub without_record : Network → Kind → Name → Network
without_record net kind.Switch name = record net { switches = without_entry net.switches name }
without_record net kind.Router name = record net { routers = without_entry net.routers name }
without_record net kind.RouterPort name = record net { router_ports = without_entry net.router_ports name }
without_record net kind.SwitchPort name = record net { switch_ports = without_entry net.switch_ports name }
without_record net kind.AddressSet name = record net { address_sets = without_entry net.address_sets name }
without_record net kind.PortGroup name = record net { port_groups = without_entry net.port_groups name }
without_record net kind.Acl name = record net { acls = without_entry net.acls name }
without_record net kind.Route name = record net { routes = without_entry net.routes name }
without_record net kind.Nat name = record net { nats = without_entry net.nats name }
without_record net kind.LoadBalancer name = record net { load_balancers = without_entry net.load_balancers name }
without_record net kind.StaticMac name = record net { static_macs = without_entry net.static_macs name }

-- the record of the kind and name
abbrev pub record_at : Network → Kind → Name → Option Record
record_at net kind.Switch name = option_map row.Switch (at net.switches name)
record_at net kind.Router name = option_map row.Router (at net.routers name)
record_at net kind.RouterPort name = option_map row.RouterPort (at net.router_ports name)
record_at net kind.SwitchPort name = option_map row.SwitchPort (at net.switch_ports name)
record_at net kind.AddressSet name = option_map row.AddressSet (at net.address_sets name)
record_at net kind.PortGroup name = option_map row.PortGroup (at net.port_groups name)
record_at net kind.Acl name = option_map row.Acl (at net.acls name)
record_at net kind.Route name = option_map row.Route (at net.routes name)
record_at net kind.Nat name = option_map row.Nat (at net.nats name)
record_at net kind.LoadBalancer name = option_map row.LoadBalancer (at net.load_balancers name)
record_at net kind.StaticMac name = option_map row.StaticMac (at net.static_macs name)

-- a record of the kind has the name
abbrev pub is_there : Network → Kind → Name → Bool
is_there net k name = is_some (record_at net k name)

-- ---- what any record has

abbrev pub kind_of : Record → Kind
kind_of (row.Switch r) = kind.Switch
kind_of (row.Router r) = kind.Router
kind_of (row.RouterPort r) = kind.RouterPort
kind_of (row.SwitchPort r) = kind.SwitchPort
kind_of (row.AddressSet r) = kind.AddressSet
kind_of (row.PortGroup r) = kind.PortGroup
kind_of (row.Acl r) = kind.Acl
kind_of (row.Route r) = kind.Route
kind_of (row.Nat r) = kind.Nat
kind_of (row.LoadBalancer r) = kind.LoadBalancer
kind_of (row.StaticMac r) = kind.StaticMac

abbrev pub name_of : Record → Name
name_of (row.Switch r) = r.name
name_of (row.Router r) = r.name
name_of (row.RouterPort r) = r.name
name_of (row.SwitchPort r) = r.name
name_of (row.AddressSet r) = r.name
name_of (row.PortGroup r) = r.name
name_of (row.Acl r) = r.name
name_of (row.Route r) = r.name
name_of (row.Nat r) = r.name
name_of (row.LoadBalancer r) = r.name
name_of (row.StaticMac r) = r.name

-- the number of the event that added it
abbrev pub birth_of : Record → Birth
birth_of (row.Switch r) = r.birth
birth_of (row.Router r) = r.birth
birth_of (row.RouterPort r) = r.birth
birth_of (row.SwitchPort r) = r.birth
birth_of (row.AddressSet r) = r.birth
birth_of (row.PortGroup r) = r.birth
birth_of (row.Acl r) = r.birth
birth_of (row.Route r) = r.birth
birth_of (row.Nat r) = r.birth
birth_of (row.LoadBalancer r) = r.birth
birth_of (row.StaticMac r) = r.birth

-- all records, in order of kind and then of name
abbrev rows_of : {X : Type 0} → (X → Record) → List (Name × X) → List Record
rows_of f entries = map (λ e. f e.1) entries

abbrev pub records_of : Network → List Record
records_of net =
    rows_of row.Switch net.switches ++ rows_of row.Router net.routers ++ rows_of row.RouterPort net.router_ports ++ rows_of row.SwitchPort net.switch_ports
    ++ rows_of row.AddressSet net.address_sets ++ rows_of row.PortGroup net.port_groups ++ rows_of row.Acl net.acls ++ rows_of row.Route net.routes
    ++ rows_of row.Nat net.nats ++ rows_of row.LoadBalancer net.load_balancers ++ rows_of row.StaticMac net.static_macs

-- ---- backends that are marked offline

abbrev pub same_backend : Backend → Backend → Bool
same_backend a b = (a.ip.0 == b.ip.0) && (a.port == b.port)

-- backends by address, and then by port
abbrev pub backend_cmp : Backend → Backend → Ordering
backend_cmp = then_cmp (on (λ b. b.ip.0) nat_cmp) (on (λ b. b.port) nat_cmp)

-- marks by the balancer's name, and then by the backend
abbrev pub mark_cmp : OfflineMark → OfflineMark → Ordering
mark_cmp = then_cmp (on (λ m. m.balancer) (slice_cmp nat_cmp)) (on (λ m. m.backend) backend_cmp)

-- the marks are one
abbrev pub is_mark : OfflineMark → OfflineMark → Bool
is_mark mark = is_at (mark_cmp mark)

abbrev pub mark_of : Name → Backend → OfflineMark
mark_of balancer backend = record { balancer = balancer; backend = backend }

-- the balancer's backend is not marked offline
abbrev pub is_online : Network → Name → Backend → Bool
is_online net balancer backend = not (list_any (is_mark (mark_of balancer backend)) net.offline)

-- the backend is marked so
abbrev pub marked : Network → Name → Backend → Bool → Network
marked net balancer backend true = record net { offline = remove_key (is_mark (mark_of balancer backend)) net.offline }
marked net balancer backend false = record net { offline = insert_key mark_cmp net.offline (mark_of balancer backend) }

-- ---- order

-- the records of each kind are in order of name, and the marks in theirs
pub record AreInOrder (net : Network) : Type 0 where
  pub switches : IsByName net.switches
  pub routers : IsByName net.routers
  pub router_ports : IsByName net.router_ports
  pub switch_ports : IsByName net.switch_ports
  pub address_sets : IsByName net.address_sets
  pub port_groups : IsByName net.port_groups
  pub acls : IsByName net.acls
  pub routes : IsByName net.routes
  pub nats : IsByName net.nats
  pub load_balancers : IsByName net.load_balancers
  pub static_macs : IsByName net.static_macs
  pub offline : IsStrictlySortedBy mark_cmp net.offline
