-- What operations do to the records.
use Rattle.std.specs.Prelude.{ℕ, Bool, false, List, [], ◌∷◌, Option, Some, None, unwrap_or}
use Rattle.std.specs.List.{filter, list_any}
use Rattle.ovn_base.specs.declared.address.Backend.{Backend}
use Rattle.ovn_base.specs.declared.name.Name.{Name}
use Rattle.ovn_base.specs.names.ByName.{at}
use Rattle.nb_records.specs.Network.{Network, record_at, with_record, without_record, marked, same_backend}
use Rattle.nb_records.specs.Switches.{or_else}
use Rattle.nb_records.specs.declared.balancer.LoadBalancer.{LoadBalancer}
use Rattle.nb_records.specs.declared.change.Change.{Change}
use Rattle.nb_records.specs.declared.change.Change.TheVariants as change
use Rattle.nb_records.specs.declared.change.Op.{Op}
use Rattle.nb_records.specs.declared.change.Op.TheVariants as op
use Rattle.nb_records.specs.declared.record.Record.{Record}
use Rattle.nb_records.specs.declared.record.Record.TheVariants as row

-- the record, added by the event of this number
abbrev pub born : ℕ → Record → Record
born n (row.Switch r) = row.Switch (record r { birth = record { 0 = n } })
born n (row.Router r) = row.Router (record r { birth = record { 0 = n } })
born n (row.RouterPort r) = row.RouterPort (record r { birth = record { 0 = n } })
born n (row.SwitchPort r) = row.SwitchPort (record r { birth = record { 0 = n } })
born n (row.AddressSet r) = row.AddressSet (record r { birth = record { 0 = n } })
born n (row.PortGroup r) = row.PortGroup (record r { birth = record { 0 = n } })
born n (row.Acl r) = row.Acl (record r { birth = record { 0 = n } })
born n (row.Route r) = row.Route (record r { birth = record { 0 = n } })
born n (row.Nat r) = row.Nat (record r { birth = record { 0 = n } })
born n (row.LoadBalancer r) = row.LoadBalancer (record r { birth = record { 0 = n } })
born n (row.StaticMac r) = row.StaticMac (record r { birth = record { 0 = n } })

-- ---- set

-- the value that is given, else the one that was there
abbrev pub new_or : {X : Type 0} → Option X → X → X
new_or new old = unwrap_or new old

-- the record with the values that the change gives; a change for another kind changes nothing
abbrev pub changed_record : Change → Record → Record
changed_record (change.RouterPort mac networks peer) (row.RouterPort r) = row.RouterPort (record r { mac = new_or mac r.mac; networks = new_or networks r.networks; peer = or_else peer r.peer })
changed_record (change.SwitchPort addresses port_security enabled) (row.SwitchPort r) = row.SwitchPort (record r { addresses = new_or addresses r.addresses; port_security = new_or port_security r.port_security; enabled = new_or enabled r.enabled })
changed_record (change.AddressSet addresses) (row.AddressSet r) = row.AddressSet (record r { addresses = new_or addresses r.addresses })
changed_record (change.PortGroup ports) (row.PortGroup r) = row.PortGroup (record r { ports = new_or ports r.ports })
changed_record (change.Acl priority matching action) (row.Acl r) = row.Acl (record r { priority = new_or priority r.priority; matching = new_or matching r.matching; action = new_or action r.action })
changed_record (change.Route prefix nexthop) (row.Route r) = row.Route (record r { prefix = new_or prefix r.prefix; nexthop = new_or nexthop r.nexthop })
changed_record (change.Nat external_ip logical_ip) (row.Nat r) = row.Nat (record r { external_ip = new_or external_ip r.external_ip; logical_ip = new_or logical_ip r.logical_ip })
changed_record (change.LoadBalancer vips switches routers) (row.LoadBalancer r) = row.LoadBalancer (record r { vips = new_or vips r.vips; switches = new_or switches r.switches; routers = new_or routers r.routers })
changed_record (change.StaticMac ip mac) (row.StaticMac r) = row.StaticMac (record r { ip = new_or ip r.ip; mac = new_or mac r.mac })
changed_record _ r = r

abbrev pub with_change : Network → Change → Option Record → Network
with_change net c None = net
with_change net c (Some r) = with_record net (changed_record c r)

-- ---- marks

-- a vip of the balancer lists the backend
abbrev pub lists_backend : Backend → Option LoadBalancer → Bool
lists_backend backend None = false
lists_backend backend (Some b) = list_any (λ v. list_any (same_backend backend) v.backends) b.vips

-- a mark goes with its balancer, and when no vip of it lists the backend any more
abbrev pub with_listed_marks : Network → Network
with_listed_marks net = record net { offline = filter (λ m. lists_backend m.backend (at net.load_balancers m.balancer)) net.offline }

-- ---- operations

-- the records after an operation of the event of this number
abbrev pub operated : Network → Op → ℕ → Network
operated net (op.Add r) n = with_record net (born n r)
operated net (op.Set k name c) n = with_listed_marks (with_change net c (record_at net k name))
operated net (op.Remove k name) n = with_listed_marks (without_record net k name)
operated net (op.Health balancer backend online) n = marked net balancer backend online

-- the records after the operations, one after another
abbrev pub accepted : Network → List Op → ℕ → Network
accepted net [] n = net
accepted net (o ∷ ops) n = accepted (operated net o n) ops n
