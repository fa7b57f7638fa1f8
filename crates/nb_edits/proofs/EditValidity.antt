-- What an edit without a fault leaves is valid, and its owners were there or come with it.
use Rattle.std.specs.Prelude.{◌≡◌, ◌≤◌, ◌⊎◌, ◌++◌, ◌||◌, ℕ, Bool, true, false, not, List, [], ◌∷◌, map, Option, Some, None, option_map, is_some, unwrap_or, refl}
use Rattle.std.specs.List.{AllByRecursion}
use Rattle.std.proofs.lemmas.Bool.{true≢false}
use mathlib.Core.Path.{sym, ap, subst, ◌∙◌}
use mathlib.Core.Logic.{inl, inr}
use Rattle.match_language.specs.Nesting.{FitsLevels}
use Rattle.match_language.specs.declared.expr.Expr.{Expr}
use Rattle.match_language.specs.declared.field.Direction.{Direction}
use Rattle.match_language.specs.declared.field.Direction.TheVariants as way
use Rattle.ovn_base.specs.declared.limits.TheConstants.{MAX_DEPTH, MAX_ACL_PRIORITY}
use Rattle.ovn_base.specs.declared.name.Name.{Name}
use Rattle.ovn_base.specs.names.ByName.{at, IsByName}
use Rattle.ovn_base.specs.names.NameText.{IsName}
use Rattle.ovn_base.proofs.AmongLaws.{among_all, all_among, among_append, map_among, among_map, among_left, among_right}
use Rattle.ovn_base.proofs.ByNameLaws.{put_cases}
use Rattle.nb_records.specs.Editing.{born, changed_record, with_change, with_listed_marks, operated, accepted, new_or}
use Rattle.nb_records.specs.Grammar.{IfGiven, IsInGrammar, IsChangeInGrammar, IsOpInGrammar, IsDirected, IsAcl}
use Rattle.nb_records.specs.Network.{Network, AreInOrder, with_record, without_record, record_at, records_of, is_there, kind_of, name_of, marked}
use Rattle.nb_records.specs.Switches.{or_else}
use Rattle.nb_records.specs.declared.balancer.LoadBalancer.{LoadBalancer}
use Rattle.nb_records.specs.declared.balancer.OfflineMark.{OfflineMark}
use Rattle.nb_records.specs.declared.change.Change.{Change}
use Rattle.nb_records.specs.declared.change.Change.TheVariants as change
use Rattle.nb_records.specs.declared.change.Op.{Op}
use Rattle.nb_records.specs.declared.change.Op.TheVariants as op
use Rattle.nb_records.specs.declared.kinds.Kind.{Kind}
use Rattle.nb_records.specs.declared.kinds.Kind.TheVariants as kind
use Rattle.nb_records.specs.declared.record.Record.{Record}
use Rattle.nb_records.specs.declared.record.Record.TheVariants as row
use Rattle.nb_records.specs.declared.router.Nat.{Nat}
use Rattle.nb_records.specs.declared.router.Route.{Route}
use Rattle.nb_records.specs.declared.router.Router.{Router}
use Rattle.nb_records.specs.declared.router.RouterPort.{RouterPort}
use Rattle.nb_records.specs.declared.router.StaticMac.{StaticMac}
use Rattle.nb_records.specs.declared.rule.Acl.{Acl}
use Rattle.nb_records.specs.declared.rule.AddressSet.{AddressSet}
use Rattle.nb_records.specs.declared.rule.PortGroup.{PortGroup}
use Rattle.nb_records.specs.declared.switch.Switch.{Switch}
use Rattle.nb_records.specs.declared.switch.SwitchPort.{SwitchPort}
use Rattle.nb_rules.specs.First.{fault_if}
use Rattle.nb_rules.specs.FirstBroken.{first_broken}
use Rattle.nb_rules.specs.Valid.{IsValid, AllAtTheirNames, AreApart, AreAtTheirNames}
use Rattle.nb_rules.specs.declared.fault.SchemaFault.{SchemaFault}
use Rattle.tunnel_keys.specs.Owners.{birth_in}
use Rattle.tunnel_keys.specs.declared.owner.KeyOwner.{KeyOwner}
use Rattle.tunnel_keys.specs.declared.owner.KeyOwner.TheVariants.{Datapath, Port}
use Rattle.nb_edits.proofs.DirectionLaws.{fits_too}
use Rattle.nb_edits.proofs.KindLists.{IsKept, put_kept, removed_kept, kept_at, removed_at, put_apart, apart_put, removed_apart, apart_removed, apart_at, apart_back}
use Rattle.nb_edits.proofs.OwnerLaws.{Owns}
use Rattle.nb_edits.specs.Directions.{misdirects}
use Rattle.nb_edits.specs.OpFaults.{is_taken_for, is_misdirected, is_misdirecting, op_fault, ops_fault}

-- ---- what is kept by each operation

-- the fields of the record are in their ranges and grammars, and a rule fits its direction
abbrev pub Fits : Record → Type 0
Fits (row.Acl r) = IsAcl r × IsDirected r
Fits r = IsInGrammar r

abbrev pub AreKept : Network → Kind → Type 0
AreKept net kind.Switch = IsKept (λ (r : Switch). r.name) (λ r. Fits (row.Switch r)) net.switches
AreKept net kind.Router = IsKept (λ (r : Router). r.name) (λ r. Fits (row.Router r)) net.routers
AreKept net kind.RouterPort = IsKept (λ (r : RouterPort). r.name) (λ r. Fits (row.RouterPort r)) net.router_ports
AreKept net kind.SwitchPort = IsKept (λ (r : SwitchPort). r.name) (λ r. Fits (row.SwitchPort r)) net.switch_ports
AreKept net kind.AddressSet = IsKept (λ (r : AddressSet). r.name) (λ r. Fits (row.AddressSet r)) net.address_sets
AreKept net kind.PortGroup = IsKept (λ (r : PortGroup). r.name) (λ r. Fits (row.PortGroup r)) net.port_groups
AreKept net kind.Acl = IsKept (λ (r : Acl). r.name) (λ r. Fits (row.Acl r)) net.acls
AreKept net kind.Route = IsKept (λ (r : Route). r.name) (λ r. Fits (row.Route r)) net.routes
AreKept net kind.Nat = IsKept (λ (r : Nat). r.name) (λ r. Fits (row.Nat r)) net.nats
AreKept net kind.LoadBalancer = IsKept (λ (r : LoadBalancer). r.name) (λ r. Fits (row.LoadBalancer r)) net.load_balancers
AreKept net kind.StaticMac = IsKept (λ (r : StaticMac). r.name) (λ r. Fits (row.StaticMac r)) net.static_macs

pub record IsFit (net : Network) : Type 0 where
  pub each : (k : Kind) → AreKept net k
  pub datapaths : AreApart net.switches net.routers
  pub ports : AreApart net.switch_ports net.router_ports

-- none record of another kind in the record's namespace has its name
abbrev pub IsFree : Network → Record → Type 0
IsFree net (row.Switch r) = at net.routers r.name ≡ None
IsFree net (row.Router r) = at net.switches r.name ≡ None
IsFree net (row.RouterPort r) = at net.switch_ports r.name ≡ None
IsFree net (row.SwitchPort r) = at net.router_ports r.name ≡ None
IsFree net r = Unit {0}

-- ---- a record more, or another in its place

module _ (net : Network) (h : IsFit net) where
  put_each : (r : Record) → Fits r → (k : Kind) → AreKept (with_record net r) k
  put_each (row.Switch r) f kind.Switch = put_kept (λ (r : Switch). r.name) (λ r. Fits (row.Switch r)) net.switches r (h.each kind.Switch) f
  put_each (row.Router r) f kind.Router = put_kept (λ (r : Router). r.name) (λ r. Fits (row.Router r)) net.routers r (h.each kind.Router) f
  put_each (row.RouterPort r) f kind.RouterPort = put_kept (λ (r : RouterPort). r.name) (λ r. Fits (row.RouterPort r)) net.router_ports r (h.each kind.RouterPort) f
  put_each (row.SwitchPort r) f kind.SwitchPort = put_kept (λ (r : SwitchPort). r.name) (λ r. Fits (row.SwitchPort r)) net.switch_ports r (h.each kind.SwitchPort) f
  put_each (row.AddressSet r) f kind.AddressSet = put_kept (λ (r : AddressSet). r.name) (λ r. Fits (row.AddressSet r)) net.address_sets r (h.each kind.AddressSet) f
  put_each (row.PortGroup r) f kind.PortGroup = put_kept (λ (r : PortGroup). r.name) (λ r. Fits (row.PortGroup r)) net.port_groups r (h.each kind.PortGroup) f
  put_each (row.Acl r) f kind.Acl = put_kept (λ (r : Acl). r.name) (λ r. Fits (row.Acl r)) net.acls r (h.each kind.Acl) f
  put_each (row.Route r) f kind.Route = put_kept (λ (r : Route). r.name) (λ r. Fits (row.Route r)) net.routes r (h.each kind.Route) f
  put_each (row.Nat r) f kind.Nat = put_kept (λ (r : Nat). r.name) (λ r. Fits (row.Nat r)) net.nats r (h.each kind.Nat) f
  put_each (row.LoadBalancer r) f kind.LoadBalancer = put_kept (λ (r : LoadBalancer). r.name) (λ r. Fits (row.LoadBalancer r)) net.load_balancers r (h.each kind.LoadBalancer) f
  put_each (row.StaticMac r) f kind.StaticMac = put_kept (λ (r : StaticMac). r.name) (λ r. Fits (row.StaticMac r)) net.static_macs r (h.each kind.StaticMac) f
  put_each r f k = h.each k

  put_datapaths : (r : Record) → IsFree net r → AreApart (with_record net r).switches (with_record net r).routers
  put_datapaths (row.Switch r) free = put_apart net.switches net.routers h.datapaths (h.each kind.Switch).sorted r.name r free
  put_datapaths (row.Router r) free = apart_put net.switches net.routers h.datapaths (h.each kind.Switch).sorted r.name r free
  put_datapaths r free = h.datapaths

  put_ports : (r : Record) → IsFree net r → AreApart (with_record net r).switch_ports (with_record net r).router_ports
  put_ports (row.SwitchPort r) free = put_apart net.switch_ports net.router_ports h.ports (h.each kind.SwitchPort).sorted r.name r free
  put_ports (row.RouterPort r) free = apart_put net.switch_ports net.router_ports h.ports (h.each kind.SwitchPort).sorted r.name r free
  put_ports r free = h.ports

  put_fit : (r : Record) → Fits r → IsFree net r → IsFit (with_record net r)
  put_fit r f free = record { each = put_each r f; datapaths = put_datapaths r free; ports = put_ports r free }

  -- ---- a record less

  removed_each : (k : Kind) (q : Name) (j : Kind) → AreKept (without_record net k q) j
  removed_each kind.Switch q kind.Switch = removed_kept (λ (r : Switch). r.name) (λ r. Fits (row.Switch r)) net.switches q (h.each kind.Switch)
  removed_each kind.Router q kind.Router = removed_kept (λ (r : Router). r.name) (λ r. Fits (row.Router r)) net.routers q (h.each kind.Router)
  removed_each kind.RouterPort q kind.RouterPort = removed_kept (λ (r : RouterPort). r.name) (λ r. Fits (row.RouterPort r)) net.router_ports q (h.each kind.RouterPort)
  removed_each kind.SwitchPort q kind.SwitchPort = removed_kept (λ (r : SwitchPort). r.name) (λ r. Fits (row.SwitchPort r)) net.switch_ports q (h.each kind.SwitchPort)
  removed_each kind.AddressSet q kind.AddressSet = removed_kept (λ (r : AddressSet). r.name) (λ r. Fits (row.AddressSet r)) net.address_sets q (h.each kind.AddressSet)
  removed_each kind.PortGroup q kind.PortGroup = removed_kept (λ (r : PortGroup). r.name) (λ r. Fits (row.PortGroup r)) net.port_groups q (h.each kind.PortGroup)
  removed_each kind.Acl q kind.Acl = removed_kept (λ (r : Acl). r.name) (λ r. Fits (row.Acl r)) net.acls q (h.each kind.Acl)
  removed_each kind.Route q kind.Route = removed_kept (λ (r : Route). r.name) (λ r. Fits (row.Route r)) net.routes q (h.each kind.Route)
  removed_each kind.Nat q kind.Nat = removed_kept (λ (r : Nat). r.name) (λ r. Fits (row.Nat r)) net.nats q (h.each kind.Nat)
  removed_each kind.LoadBalancer q kind.LoadBalancer = removed_kept (λ (r : LoadBalancer). r.name) (λ r. Fits (row.LoadBalancer r)) net.load_balancers q (h.each kind.LoadBalancer)
  removed_each kind.StaticMac q kind.StaticMac = removed_kept (λ (r : StaticMac). r.name) (λ r. Fits (row.StaticMac r)) net.static_macs q (h.each kind.StaticMac)
  removed_each k q j = h.each j

  removed_datapaths : (k : Kind) (q : Name) → AreApart (without_record net k q).switches (without_record net k q).routers
  removed_datapaths kind.Switch q = removed_apart net.switches net.routers h.datapaths _
  removed_datapaths kind.Router q = apart_removed net.switches net.routers h.datapaths _ (h.each kind.Router).sorted
  removed_datapaths k q = h.datapaths

  removed_ports : (k : Kind) (q : Name) → AreApart (without_record net k q).switch_ports (without_record net k q).router_ports
  removed_ports kind.SwitchPort q = removed_apart net.switch_ports net.router_ports h.ports _
  removed_ports kind.RouterPort q = apart_removed net.switch_ports net.router_ports h.ports _ (h.each kind.RouterPort).sorted
  removed_ports k q = h.ports

  removed_fit : (k : Kind) (q : Name) → IsFit (without_record net k q)
  removed_fit k q = record { each = removed_each k q; datapaths = removed_datapaths k q; ports = removed_ports k q }

  -- marks are none records
  marks_each : (marks : List OfflineMark) (k : Kind) → AreKept (record net { offline = marks }) k
  marks_each marks kind.Switch = h.each kind.Switch
  marks_each marks kind.Router = h.each kind.Router
  marks_each marks kind.RouterPort = h.each kind.RouterPort
  marks_each marks kind.SwitchPort = h.each kind.SwitchPort
  marks_each marks kind.AddressSet = h.each kind.AddressSet
  marks_each marks kind.PortGroup = h.each kind.PortGroup
  marks_each marks kind.Acl = h.each kind.Acl
  marks_each marks kind.Route = h.each kind.Route
  marks_each marks kind.Nat = h.each kind.Nat
  marks_each marks kind.LoadBalancer = h.each kind.LoadBalancer
  marks_each marks kind.StaticMac = h.each kind.StaticMac

  marks_fit : (marks : List OfflineMark) → IsFit (record net { offline = marks })
  marks_fit marks = record { each = marks_each marks; datapaths = h.datapaths; ports = h.ports }

-- ---- set

-- what is given fits, or what was there does
given_or : {X : Type 0} (P : X → Type 0) (given : Option X) (old : X) → IfGiven P given → P old → P (new_or given old)
given_or P None old h k = k
given_or P (Some x) old h k = h

given_else : {X : Type 0} (P : X → Type 0) (given old : Option X) → IfGiven P given → IfGiven P old → IfGiven P (or_else given old)
given_else P None old h k = k
given_else P (Some x) old h k = h

directed_by : (d : Direction) (m : Expr) → FitsLevels way.ToLport MAX_DEPTH m → misdirects d m ≡ false → FitsLevels d MAX_DEPTH m
directed_by way.FromLport m h none = fits_too way.ToLport MAX_DEPTH m h none
directed_by way.ToLport m h none = h

changed_fits : (c : Change) (r : Record) → Fits r → IsChangeInGrammar c → is_misdirecting c (Some r) ≡ false → Fits (changed_record c r)
changed_fits (change.RouterPort mac networks peer) (row.RouterPort r) f g none = record { name = f.name; router = f.router; networks = given_or _ networks r.networks g.0 f.networks; peer = given_else IsName peer r.peer g.1 f.peer }
changed_fits (change.SwitchPort addresses port_security enabled) (row.SwitchPort r) f g none = record {
  name = f.name;
  switch = f.switch;
  router_port = f.router_port;
  addresses = given_or _ addresses r.addresses g.0 f.addresses;
  port_security = given_or _ port_security r.port_security g.1 f.port_security;
}
changed_fits (change.AddressSet addresses) (row.AddressSet r) f g none = record { name = f.name; addresses = given_or _ addresses r.addresses g f.addresses }
changed_fits (change.PortGroup ports) (row.PortGroup r) f g none = record { name = f.name; ports = given_or _ ports r.ports g f.ports }
changed_fits (change.Acl priority None action) (row.Acl r) f g none = (
  record { name = f.0.name; scope = f.0.scope; priority = given_or (λ p. p ≤ MAX_ACL_PRIORITY) priority r.priority g.0 f.0.priority; matching = f.0.matching },
  f.1,
)
changed_fits (change.Acl priority (Some matching) action) (row.Acl r) f g none = (
  record { name = f.0.name; scope = f.0.scope; priority = given_or (λ p. p ≤ MAX_ACL_PRIORITY) priority r.priority g.0 f.0.priority; matching = g.1 },
  directed_by r.direction matching g.1 none,
)
changed_fits (change.Route prefix nexthop) (row.Route r) f g none = record { name = f.name; router = f.router; prefix = given_or _ prefix r.prefix g.0 f.prefix; nexthop = given_or _ nexthop r.nexthop g.1 f.nexthop }
changed_fits (change.Nat external_ip logical_ip) (row.Nat r) f g none = record { name = f.name; router = f.router; external_ip = given_or _ external_ip r.external_ip g.0 f.external_ip; logical_ip = given_or _ logical_ip r.logical_ip g.1 f.logical_ip }
changed_fits (change.LoadBalancer vips switches routers) (row.LoadBalancer r) f g none = record {
  name = f.name;
  vips = given_or _ vips r.vips g.0 f.vips;
  switches = given_or _ switches r.switches g.1 f.switches;
  routers = given_or _ routers r.routers g.2 f.routers;
}
changed_fits (change.StaticMac ip mac) (row.StaticMac r) f g none = record { name = f.name; port = f.port; ip = given_or _ ip r.ip g f.ip }
changed_fits c r f g none = f

-- a changed record is free where the record is
changed_free : (net : Network) (c : Change) (r : Record) → IsFree net r → IsFree net (changed_record c r)
changed_free net (change.RouterPort mac networks peer) (row.RouterPort r) h = h
changed_free net (change.SwitchPort addresses port_security enabled) (row.SwitchPort r) h = h
changed_free net (change.AddressSet addresses) (row.AddressSet r) h = h
changed_free net (change.PortGroup ports) (row.PortGroup r) h = h
changed_free net (change.Acl priority matching action) (row.Acl r) h = h
changed_free net (change.Route prefix nexthop) (row.Route r) h = h
changed_free net (change.Nat external_ip logical_ip) (row.Nat r) h = h
changed_free net (change.LoadBalancer vips switches routers) (row.LoadBalancer r) h = h
changed_free net (change.StaticMac ip mac) (row.StaticMac r) h = h
changed_free net c r h = h

pub some_of : {X : Type 0} (f : X → Record) (a : Option X) (r : Record) → option_map f a ≡ Some r → (x : X) × (a ≡ Some x) × (f x ≡ r)
some_of f None r e = absurd cc
some_of f (Some x) r e = (x, refl, ap (λ o. unwrap_or o (f x)) e)

-- what is there at a name fits, and is free
module _ (net : Network) (h : IsFit net) where
  pub there_fits : (k : Kind) (q : Name) (r : Record) → record_at net k q ≡ Some r → Fits r × IsFree net r
  there_fits kind.Switch q r e =
      let x = some_of row.Switch (at net.switches q) r e in
      let kept = kept_at (λ (s : Switch). s.name) (λ s. Fits (row.Switch s)) net.switches (h.each kind.Switch) q x.0 x.1 in
      subst (λ (s : Record). Fits s × IsFree net s) x.2 (kept.1, ap (at net.routers) kept.0 ∙ apart_at net.switches net.routers h.datapaths q x.0 x.1)
  there_fits kind.Router q r e =
      let x = some_of row.Router (at net.routers q) r e in
      let kept = kept_at (λ (s : Router). s.name) (λ s. Fits (row.Router s)) net.routers (h.each kind.Router) q x.0 x.1 in
      subst (λ (s : Record). Fits s × IsFree net s) x.2 (kept.1, ap (at net.switches) kept.0 ∙ apart_back net.switches net.routers h.datapaths (h.each kind.Switch).sorted q x.0 x.1)
  there_fits kind.RouterPort q r e =
      let x = some_of row.RouterPort (at net.router_ports q) r e in
      let kept = kept_at (λ (s : RouterPort). s.name) (λ s. Fits (row.RouterPort s)) net.router_ports (h.each kind.RouterPort) q x.0 x.1 in
      subst (λ (s : Record). Fits s × IsFree net s) x.2 (kept.1, ap (at net.switch_ports) kept.0 ∙ apart_back net.switch_ports net.router_ports h.ports (h.each kind.SwitchPort).sorted q x.0 x.1)
  there_fits kind.SwitchPort q r e =
      let x = some_of row.SwitchPort (at net.switch_ports q) r e in
      let kept = kept_at (λ (s : SwitchPort). s.name) (λ s. Fits (row.SwitchPort s)) net.switch_ports (h.each kind.SwitchPort) q x.0 x.1 in
      subst (λ (s : Record). Fits s × IsFree net s) x.2 (kept.1, ap (at net.router_ports) kept.0 ∙ apart_at net.switch_ports net.router_ports h.ports q x.0 x.1)
  there_fits kind.AddressSet q r e =
      let x = some_of row.AddressSet (at net.address_sets q) r e in
      subst (λ (s : Record). Fits s × IsFree net s) x.2 ((kept_at (λ (s : AddressSet). s.name) (λ s. Fits (row.AddressSet s)) net.address_sets (h.each kind.AddressSet) q x.0 x.1).1, tt)
  there_fits kind.PortGroup q r e =
      let x = some_of row.PortGroup (at net.port_groups q) r e in
      subst (λ (s : Record). Fits s × IsFree net s) x.2 ((kept_at (λ (s : PortGroup). s.name) (λ s. Fits (row.PortGroup s)) net.port_groups (h.each kind.PortGroup) q x.0 x.1).1, tt)
  there_fits kind.Acl q r e =
      let x = some_of row.Acl (at net.acls q) r e in
      subst (λ (s : Record). Fits s × IsFree net s) x.2 ((kept_at (λ (s : Acl). s.name) (λ s. Fits (row.Acl s)) net.acls (h.each kind.Acl) q x.0 x.1).1, tt)
  there_fits kind.Route q r e =
      let x = some_of row.Route (at net.routes q) r e in
      subst (λ (s : Record). Fits s × IsFree net s) x.2 ((kept_at (λ (s : Route). s.name) (λ s. Fits (row.Route s)) net.routes (h.each kind.Route) q x.0 x.1).1, tt)
  there_fits kind.Nat q r e =
      let x = some_of row.Nat (at net.nats q) r e in
      subst (λ (s : Record). Fits s × IsFree net s) x.2 ((kept_at (λ (s : Nat). s.name) (λ s. Fits (row.Nat s)) net.nats (h.each kind.Nat) q x.0 x.1).1, tt)
  there_fits kind.LoadBalancer q r e =
      let x = some_of row.LoadBalancer (at net.load_balancers q) r e in
      subst (λ (s : Record). Fits s × IsFree net s) x.2 ((kept_at (λ (s : LoadBalancer). s.name) (λ s. Fits (row.LoadBalancer s)) net.load_balancers (h.each kind.LoadBalancer) q x.0 x.1).1, tt)
  there_fits kind.StaticMac q r e =
      let x = some_of row.StaticMac (at net.static_macs q) r e in
      subst (λ (s : Record). Fits s × IsFree net s) x.2 ((kept_at (λ (s : StaticMac). s.name) (λ s. Fits (row.StaticMac s)) net.static_macs (h.each kind.StaticMac) q x.0 x.1).1, tt)

-- ---- add

-- the record that is added fits, whatever event adds it
born_fits : (n : ℕ) (r : Record) → IsInGrammar r → is_misdirected r ≡ false → Fits (born n r)
born_fits n (row.Switch r) f none = f
born_fits n (row.Router r) f none = record { name = f.name; chassis = f.chassis }
born_fits n (row.RouterPort r) f none = record { name = f.name; router = f.router; networks = f.networks; peer = f.peer }
born_fits n (row.SwitchPort r) f none = record { name = f.name; switch = f.switch; router_port = f.router_port; addresses = f.addresses; port_security = f.port_security }
born_fits n (row.AddressSet r) f none = record { name = f.name; addresses = f.addresses }
born_fits n (row.PortGroup r) f none = record { name = f.name; ports = f.ports }
born_fits n (row.Acl r) f none = (record { name = f.name; scope = f.scope; priority = f.priority; matching = f.matching }, directed_by r.direction r.matching f.matching none)
born_fits n (row.Route r) f none = record { name = f.name; router = f.router; prefix = f.prefix; nexthop = f.nexthop }
born_fits n (row.Nat r) f none = record { name = f.name; router = f.router; external_ip = f.external_ip; logical_ip = f.logical_ip }
born_fits n (row.LoadBalancer r) f none = record { name = f.name; vips = f.vips; switches = f.switches; routers = f.routers }
born_fits n (row.StaticMac r) f none = record { name = f.name; port = f.port; ip = f.ip }

pub neither : (a b : Bool) → (a || b) ≡ false → (a ≡ false) × (b ≡ false)
neither true b h = absurd (true≢false h)
neither false b h = (refl, h)

pub not_there : {X : Type 0} (f : X → Record) (a : Option X) → is_some (option_map f a) ≡ false → a ≡ None
not_there f None h = refl
not_there f (Some x) h = absurd (true≢false h)

born_free : (net : Network) (n : ℕ) (r : Record) → is_taken_for net (kind_of r) (name_of r) ≡ false → IsFree net (born n r)
born_free net n (row.Switch r) h = not_there row.Router (at net.routers r.name) (neither (is_there net kind.Switch r.name) (is_there net kind.Router r.name) h).1
born_free net n (row.Router r) h = not_there row.Switch (at net.switches r.name) (neither (is_there net kind.Switch r.name) (is_there net kind.Router r.name) h).0
born_free net n (row.RouterPort r) h = not_there row.SwitchPort (at net.switch_ports r.name) (neither (is_there net kind.RouterPort r.name) (is_there net kind.SwitchPort r.name) h).1
born_free net n (row.SwitchPort r) h = not_there row.RouterPort (at net.router_ports r.name) (neither (is_there net kind.RouterPort r.name) (is_there net kind.SwitchPort r.name) h).0
born_free net n r h = tt

-- ---- one operation

pub no_first : (a b : Option SchemaFault) → or_else a b ≡ None → (a ≡ None) × (b ≡ None)
no_first (Some x) b h = absurd cc
no_first None b h = (refl, h)

pub no_fault : (b : Bool) (f : SchemaFault) → fault_if b f ≡ None → b ≡ false
no_fault true f h = absurd cc
no_fault false f h = refl

changed_fit : (net : Network) (h : IsFit net) (k : Kind) (q : Name) (c : Change) (a : Option Record) → record_at net k q ≡ a → IsChangeInGrammar c → is_misdirecting c a ≡ false → IsFit (with_change net c a)
changed_fit net h k q c None is g none = h
changed_fit net h k q c (Some r) is g none = let f = there_fits net h k q r is in put_fit net h (changed_record c r) (changed_fits c r f.0 g none) (changed_free net c r f.1)

pub operated_fit : (net : Network) (o : Op) (n : ℕ) → IsFit net → IsOpInGrammar o → op_fault net o ≡ None → IsFit (operated net o n)
operated_fit net (op.Add r) n h g none =
    let parts = no_first (fault_if (is_taken_for net (kind_of r) (name_of r)) _) _ none in
    put_fit net h (born n r) (born_fits n r g (no_fault (is_misdirected r) _ parts.1)) (born_free net n r (no_fault (is_taken_for net (kind_of r) (name_of r)) _ parts.0))
operated_fit net (op.Set k q c) n h g none =
    let parts = no_first (fault_if (not (is_there net k q)) _) _ none in
    marks_fit (with_change net c (record_at net k q)) (changed_fit net h k q c (record_at net k q) refl g.2 (no_fault (is_misdirecting c (record_at net k q)) _ parts.1)) _
operated_fit net (op.Remove k q) n h g none = marks_fit (without_record net k q) (removed_fit net h k q) _
operated_fit net (op.Health balancer backend true) n h g none = marks_fit net h _
operated_fit net (op.Health balancer backend false) n h g none = marks_fit net h _

pub accepted_fit : (net : Network) (ops : List Op) (n : ℕ) → IsFit net → AllByRecursion IsOpInGrammar ops → ops_fault net ops n ≡ None → IsFit (accepted net ops n)
accepted_fit net [] n h g none = h
accepted_fit net (o ∷ ops) n h g none = let parts = no_first (op_fault net o) _ none in accepted_fit (operated net o n) ops n (operated_fit net o n h g.0 parts.0) g.1 parts.1

-- ---- valid records

module _ (P : Record → Type 0) (xs ys : List Record) where
  all_before : AllByRecursion P (xs ++ ys) → AllByRecursion P xs
  all_before h = all_among P xs (λ r m. among_all P r (xs ++ ys) h (among_left r xs ys m))

  all_behind : AllByRecursion P (xs ++ ys) → AllByRecursion P ys
  all_behind h = all_among P ys (λ r m. among_all P r (xs ++ ys) h (among_right r xs ys m))

  all_joined : AllByRecursion P xs → AllByRecursion P ys → AllByRecursion P (xs ++ ys)
  all_joined h k = all_among P (xs ++ ys) (λ r m. elim (among_append r xs ys m) [ inl a ↦ among_all P r xs h a | inr b ↦ among_all P r ys k b ])

module _ {X : Type 0} (f : X → Record) (name : X → Name) (fits : X → Type 0) (es : List (Name × X)) where
  abbrev rows : List Record
  rows = map (λ e. f e.1) es

  to_kept : ((x : X) → IsInGrammar (f x) → fits x) → IsByName es → AreAtTheirNames name es → AllByRecursion IsInGrammar rows → IsKept name fits es
  to_kept weaker sorted named fit = record {
    sorted = sorted;
    each = all_among (λ (e : Name × X). (name e.1 ≡ e.0) × fits e.1) es (λ e m. (among_all (λ (d : Name × X). name d.1 ≡ d.0) e es named m, weaker e.1 (among_all IsInGrammar (f e.1) rows fit (among_map (λ (d : Name × X). f d.1) e es m))));
  }

  from_kept : ((x : X) → fits x → IsInGrammar (f x)) → IsKept name fits es → AllByRecursion IsInGrammar rows
  from_kept weaker h = all_among IsInGrammar rows (λ r m.
      let e = map_among (λ (d : Name × X). f d.1) r es m in
      subst IsInGrammar (sym e.2) (weaker e.0.1 (among_all (λ (d : Name × X). (name d.1 ≡ d.0) × fits d.1) e.0 es h.each e.1).1))

  names_kept : IsKept name fits es → AreAtTheirNames name es
  names_kept h = all_among (λ (d : Name × X). name d.1 ≡ d.0) es (λ e m. (among_all (λ (d : Name × X). (name d.1 ≡ d.0) × fits d.1) e es h.each m).0)

module _ (net : Network) (v : IsValid net) where
  before_static_macs : AllByRecursion IsInGrammar (map (λ (e : Name × Switch). row.Switch e.1) net.switches ++ map (λ (e : Name × Router). row.Router e.1) net.routers ++ map (λ (e : Name × RouterPort). row.RouterPort e.1) net.router_ports ++ map (λ (e : Name × SwitchPort). row.SwitchPort e.1) net.switch_ports ++ map (λ (e : Name × AddressSet). row.AddressSet e.1) net.address_sets ++ map (λ (e : Name × PortGroup). row.PortGroup e.1) net.port_groups ++ map (λ (e : Name × Acl). row.Acl e.1) net.acls ++ map (λ (e : Name × Route). row.Route e.1) net.routes ++ map (λ (e : Name × Nat). row.Nat e.1) net.nats ++ map (λ (e : Name × LoadBalancer). row.LoadBalancer e.1) net.load_balancers)
  before_static_macs = all_before IsInGrammar _ (map (λ (e : Name × StaticMac). row.StaticMac e.1) net.static_macs) v.in_grammar

  before_load_balancers : AllByRecursion IsInGrammar (map (λ (e : Name × Switch). row.Switch e.1) net.switches ++ map (λ (e : Name × Router). row.Router e.1) net.routers ++ map (λ (e : Name × RouterPort). row.RouterPort e.1) net.router_ports ++ map (λ (e : Name × SwitchPort). row.SwitchPort e.1) net.switch_ports ++ map (λ (e : Name × AddressSet). row.AddressSet e.1) net.address_sets ++ map (λ (e : Name × PortGroup). row.PortGroup e.1) net.port_groups ++ map (λ (e : Name × Acl). row.Acl e.1) net.acls ++ map (λ (e : Name × Route). row.Route e.1) net.routes ++ map (λ (e : Name × Nat). row.Nat e.1) net.nats)
  before_load_balancers = all_before IsInGrammar _ (map (λ (e : Name × LoadBalancer). row.LoadBalancer e.1) net.load_balancers) before_static_macs

  before_nats : AllByRecursion IsInGrammar (map (λ (e : Name × Switch). row.Switch e.1) net.switches ++ map (λ (e : Name × Router). row.Router e.1) net.routers ++ map (λ (e : Name × RouterPort). row.RouterPort e.1) net.router_ports ++ map (λ (e : Name × SwitchPort). row.SwitchPort e.1) net.switch_ports ++ map (λ (e : Name × AddressSet). row.AddressSet e.1) net.address_sets ++ map (λ (e : Name × PortGroup). row.PortGroup e.1) net.port_groups ++ map (λ (e : Name × Acl). row.Acl e.1) net.acls ++ map (λ (e : Name × Route). row.Route e.1) net.routes)
  before_nats = all_before IsInGrammar _ (map (λ (e : Name × Nat). row.Nat e.1) net.nats) before_load_balancers

  before_routes : AllByRecursion IsInGrammar (map (λ (e : Name × Switch). row.Switch e.1) net.switches ++ map (λ (e : Name × Router). row.Router e.1) net.routers ++ map (λ (e : Name × RouterPort). row.RouterPort e.1) net.router_ports ++ map (λ (e : Name × SwitchPort). row.SwitchPort e.1) net.switch_ports ++ map (λ (e : Name × AddressSet). row.AddressSet e.1) net.address_sets ++ map (λ (e : Name × PortGroup). row.PortGroup e.1) net.port_groups ++ map (λ (e : Name × Acl). row.Acl e.1) net.acls)
  before_routes = all_before IsInGrammar _ (map (λ (e : Name × Route). row.Route e.1) net.routes) before_nats

  before_acls : AllByRecursion IsInGrammar (map (λ (e : Name × Switch). row.Switch e.1) net.switches ++ map (λ (e : Name × Router). row.Router e.1) net.routers ++ map (λ (e : Name × RouterPort). row.RouterPort e.1) net.router_ports ++ map (λ (e : Name × SwitchPort). row.SwitchPort e.1) net.switch_ports ++ map (λ (e : Name × AddressSet). row.AddressSet e.1) net.address_sets ++ map (λ (e : Name × PortGroup). row.PortGroup e.1) net.port_groups)
  before_acls = all_before IsInGrammar _ (map (λ (e : Name × Acl). row.Acl e.1) net.acls) before_routes

  before_port_groups : AllByRecursion IsInGrammar (map (λ (e : Name × Switch). row.Switch e.1) net.switches ++ map (λ (e : Name × Router). row.Router e.1) net.routers ++ map (λ (e : Name × RouterPort). row.RouterPort e.1) net.router_ports ++ map (λ (e : Name × SwitchPort). row.SwitchPort e.1) net.switch_ports ++ map (λ (e : Name × AddressSet). row.AddressSet e.1) net.address_sets)
  before_port_groups = all_before IsInGrammar _ (map (λ (e : Name × PortGroup). row.PortGroup e.1) net.port_groups) before_acls

  before_address_sets : AllByRecursion IsInGrammar (map (λ (e : Name × Switch). row.Switch e.1) net.switches ++ map (λ (e : Name × Router). row.Router e.1) net.routers ++ map (λ (e : Name × RouterPort). row.RouterPort e.1) net.router_ports ++ map (λ (e : Name × SwitchPort). row.SwitchPort e.1) net.switch_ports)
  before_address_sets = all_before IsInGrammar _ (map (λ (e : Name × AddressSet). row.AddressSet e.1) net.address_sets) before_port_groups

  before_switch_ports : AllByRecursion IsInGrammar (map (λ (e : Name × Switch). row.Switch e.1) net.switches ++ map (λ (e : Name × Router). row.Router e.1) net.routers ++ map (λ (e : Name × RouterPort). row.RouterPort e.1) net.router_ports)
  before_switch_ports = all_before IsInGrammar _ (map (λ (e : Name × SwitchPort). row.SwitchPort e.1) net.switch_ports) before_address_sets

  before_router_ports : AllByRecursion IsInGrammar (map (λ (e : Name × Switch). row.Switch e.1) net.switches ++ map (λ (e : Name × Router). row.Router e.1) net.routers)
  before_router_ports = all_before IsInGrammar _ (map (λ (e : Name × RouterPort). row.RouterPort e.1) net.router_ports) before_switch_ports

  before_routers : AllByRecursion IsInGrammar (map (λ (e : Name × Switch). row.Switch e.1) net.switches)
  before_routers = all_before IsInGrammar _ (map (λ (e : Name × Router). row.Router e.1) net.routers) before_router_ports

  acls_fit : AreKept net kind.Acl
  acls_fit = record {
    sorted = v.in_order.acls;
    each = all_among (λ (e : Name × Acl). (e.1.name ≡ e.0) × Fits (row.Acl e.1)) net.acls (λ e m. (
      among_all (λ (d : Name × Acl). d.1.name ≡ d.0) e net.acls v.named.acls m,
      (among_all IsInGrammar (row.Acl e.1) _ (all_behind IsInGrammar _ _ before_routes) (among_map (λ (d : Name × Acl). row.Acl d.1) e net.acls m), among_all (λ (d : Name × Acl). IsDirected d.1) e net.acls v.directed m),
    ));
  }

  fit_by_kind : (k : Kind) → AreKept net k
  fit_by_kind kind.Switch = to_kept row.Switch (λ r. r.name) (λ r. Fits (row.Switch r)) net.switches (λ r h. h) v.in_order.switches v.named.switches before_routers
  fit_by_kind kind.Router = to_kept row.Router (λ r. r.name) (λ r. Fits (row.Router r)) net.routers (λ r h. h) v.in_order.routers v.named.routers (all_behind IsInGrammar _ _ before_router_ports)
  fit_by_kind kind.RouterPort = to_kept row.RouterPort (λ r. r.name) (λ r. Fits (row.RouterPort r)) net.router_ports (λ r h. h) v.in_order.router_ports v.named.router_ports (all_behind IsInGrammar _ _ before_switch_ports)
  fit_by_kind kind.SwitchPort = to_kept row.SwitchPort (λ r. r.name) (λ r. Fits (row.SwitchPort r)) net.switch_ports (λ r h. h) v.in_order.switch_ports v.named.switch_ports (all_behind IsInGrammar _ _ before_address_sets)
  fit_by_kind kind.AddressSet = to_kept row.AddressSet (λ r. r.name) (λ r. Fits (row.AddressSet r)) net.address_sets (λ r h. h) v.in_order.address_sets v.named.address_sets (all_behind IsInGrammar _ _ before_port_groups)
  fit_by_kind kind.PortGroup = to_kept row.PortGroup (λ r. r.name) (λ r. Fits (row.PortGroup r)) net.port_groups (λ r h. h) v.in_order.port_groups v.named.port_groups (all_behind IsInGrammar _ _ before_acls)
  fit_by_kind kind.Acl = acls_fit
  fit_by_kind kind.Route = to_kept row.Route (λ r. r.name) (λ r. Fits (row.Route r)) net.routes (λ r h. h) v.in_order.routes v.named.routes (all_behind IsInGrammar _ _ before_nats)
  fit_by_kind kind.Nat = to_kept row.Nat (λ r. r.name) (λ r. Fits (row.Nat r)) net.nats (λ r h. h) v.in_order.nats v.named.nats (all_behind IsInGrammar _ _ before_load_balancers)
  fit_by_kind kind.LoadBalancer = to_kept row.LoadBalancer (λ r. r.name) (λ r. Fits (row.LoadBalancer r)) net.load_balancers (λ r h. h) v.in_order.load_balancers v.named.load_balancers (all_behind IsInGrammar _ _ before_static_macs)
  fit_by_kind kind.StaticMac = to_kept row.StaticMac (λ r. r.name) (λ r. Fits (row.StaticMac r)) net.static_macs (λ r h. h) v.in_order.static_macs v.named.static_macs (all_behind IsInGrammar _ _ v.in_grammar)

  pub valid_fit : IsFit net
  valid_fit = record { each = fit_by_kind; datapaths = v.datapaths; ports = v.ports }

module _ (net : Network) (h : IsFit net) where
  all_in_grammar : AllByRecursion IsInGrammar (records_of net)
  all_in_grammar =
      all_joined IsInGrammar _ _ (all_joined IsInGrammar _ _ (all_joined IsInGrammar _ _ (all_joined IsInGrammar _ _ (all_joined IsInGrammar _ _ (all_joined IsInGrammar _ _ (all_joined IsInGrammar _ _ (all_joined IsInGrammar _ _ (all_joined IsInGrammar _ _ (all_joined IsInGrammar _ _ (from_kept row.Switch (λ r. r.name) (λ r. Fits (row.Switch r)) net.switches (λ r f. f) (h.each kind.Switch))
      (from_kept row.Router (λ r. r.name) (λ r. Fits (row.Router r)) net.routers (λ r f. f) (h.each kind.Router)))
      (from_kept row.RouterPort (λ r. r.name) (λ r. Fits (row.RouterPort r)) net.router_ports (λ r f. f) (h.each kind.RouterPort)))
      (from_kept row.SwitchPort (λ r. r.name) (λ r. Fits (row.SwitchPort r)) net.switch_ports (λ r f. f) (h.each kind.SwitchPort)))
      (from_kept row.AddressSet (λ r. r.name) (λ r. Fits (row.AddressSet r)) net.address_sets (λ r f. f) (h.each kind.AddressSet)))
      (from_kept row.PortGroup (λ r. r.name) (λ r. Fits (row.PortGroup r)) net.port_groups (λ r f. f) (h.each kind.PortGroup)))
      (from_kept row.Acl (λ r. r.name) (λ r. Fits (row.Acl r)) net.acls (λ r f. f.0) (h.each kind.Acl)))
      (from_kept row.Route (λ r. r.name) (λ r. Fits (row.Route r)) net.routes (λ r f. f) (h.each kind.Route)))
      (from_kept row.Nat (λ r. r.name) (λ r. Fits (row.Nat r)) net.nats (λ r f. f) (h.each kind.Nat)))
      (from_kept row.LoadBalancer (λ r. r.name) (λ r. Fits (row.LoadBalancer r)) net.load_balancers (λ r f. f) (h.each kind.LoadBalancer)))
      (from_kept row.StaticMac (λ r. r.name) (λ r. Fits (row.StaticMac r)) net.static_macs (λ r f. f) (h.each kind.StaticMac))

  all_named : AllAtTheirNames net
  all_named = record {
    switches = names_kept row.Switch (λ r. r.name) (λ r. Fits (row.Switch r)) net.switches (h.each kind.Switch);
    routers = names_kept row.Router (λ r. r.name) (λ r. Fits (row.Router r)) net.routers (h.each kind.Router);
    router_ports = names_kept row.RouterPort (λ r. r.name) (λ r. Fits (row.RouterPort r)) net.router_ports (h.each kind.RouterPort);
    switch_ports = names_kept row.SwitchPort (λ r. r.name) (λ r. Fits (row.SwitchPort r)) net.switch_ports (h.each kind.SwitchPort);
    address_sets = names_kept row.AddressSet (λ r. r.name) (λ r. Fits (row.AddressSet r)) net.address_sets (h.each kind.AddressSet);
    port_groups = names_kept row.PortGroup (λ r. r.name) (λ r. Fits (row.PortGroup r)) net.port_groups (h.each kind.PortGroup);
    acls = names_kept row.Acl (λ r. r.name) (λ r. Fits (row.Acl r)) net.acls (h.each kind.Acl);
    routes = names_kept row.Route (λ r. r.name) (λ r. Fits (row.Route r)) net.routes (h.each kind.Route);
    nats = names_kept row.Nat (λ r. r.name) (λ r. Fits (row.Nat r)) net.nats (h.each kind.Nat);
    load_balancers = names_kept row.LoadBalancer (λ r. r.name) (λ r. Fits (row.LoadBalancer r)) net.load_balancers (h.each kind.LoadBalancer);
    static_macs = names_kept row.StaticMac (λ r. r.name) (λ r. Fits (row.StaticMac r)) net.static_macs (h.each kind.StaticMac);
  }

  pub fit_valid : AreInOrder net → first_broken net [] ≡ None → IsValid net
  fit_valid order none = record {
    in_order = order;
    named = all_named;
    datapaths = h.datapaths;
    ports = h.ports;
    in_grammar = all_in_grammar;
    directed = all_among (λ (e : Name × Acl). IsDirected e.1) net.acls (λ e m. (among_all (λ (d : Name × Acl). (d.1.name ≡ d.0) × Fits (row.Acl d.1)) e net.acls (h.each kind.Acl).each m).1.1);
    unbroken = none;
  }

-- ---- owners

-- the owner is the record's
abbrev IsOwnerBy : Record → KeyOwner → Type 0
IsOwnerBy (row.Switch r) (Datapath name birth) = (name ≡ r.name) × (birth ≡ r.birth)
IsOwnerBy (row.Router r) (Datapath name birth) = (name ≡ r.name) × (birth ≡ r.birth)
IsOwnerBy (row.RouterPort r) (Port datapath name birth) = (datapath ≡ r.router) × (name ≡ r.name) × (birth ≡ r.birth)
IsOwnerBy (row.SwitchPort r) (Port datapath name birth) = (datapath ≡ r.switch) × (name ≡ r.name) × (birth ≡ r.birth)
IsOwnerBy r o = ⊥

owns_with : (net : Network) (r : Record) (o : KeyOwner) → Owns (with_record net r) o → Owns net o ⊎ IsOwnerBy r o
owns_with net (row.Switch r) (Datapath name birth) (inl h) = elim (put_cases net.switches r.name r name h.0 h.1) [
  | inl new ↦ inr (new.0, sym h.2 ∙ ap (λ s. s.birth) new.1)
  | inr old ↦ inl (inl (h.0, old.1, h.2))
]
owns_with net (row.Router r) (Datapath name birth) (inr h) = elim (put_cases net.routers r.name r name h.0 h.1) [
  | inl new ↦ inr (new.0, sym h.2 ∙ ap (λ s. s.birth) new.1)
  | inr old ↦ inl (inr (h.0, old.1, h.2))
]
owns_with net (row.RouterPort r) (Port datapath name birth) (inl h) = elim (put_cases net.router_ports r.name r name h.0 h.1) [
  | inl new ↦ inr (sym h.2 ∙ ap (λ s. s.router) new.1, new.0, sym h.3 ∙ ap (λ s. s.birth) new.1)
  | inr old ↦ inl (inl (h.0, old.1, h.2, h.3))
]
owns_with net (row.SwitchPort r) (Port datapath name birth) (inr h) = elim (put_cases net.switch_ports r.name r name h.0 h.1) [
  | inl new ↦ inr (sym h.2 ∙ ap (λ s. s.switch) new.1, new.0, sym h.3 ∙ ap (λ s. s.birth) new.1)
  | inr old ↦ inl (inr (h.0, old.1, h.2, h.3))
]
owns_with net r (Datapath name birth) (inl h) = inl (inl h)
owns_with net r (Datapath name birth) (inr h) = inl (inr h)
owns_with net r (Port datapath name birth) (inl h) = inl (inl h)
owns_with net r (Port datapath name birth) (inr h) = inl (inr h)

owns_without : (net : Network) → IsFit net → (k : Kind) (q : Name) (o : KeyOwner) → Owns (without_record net k q) o → Owns net o
owns_without net f kind.Switch q (Datapath name birth) (inl h) = inl (h.0, removed_at _ net.switches (f.each kind.Switch).sorted name h.0 h.1, h.2)
owns_without net f kind.Router q (Datapath name birth) (inr h) = inr (h.0, removed_at _ net.routers (f.each kind.Router).sorted name h.0 h.1, h.2)
owns_without net f kind.RouterPort q (Port datapath name birth) (inl h) = inl (h.0, removed_at _ net.router_ports (f.each kind.RouterPort).sorted name h.0 h.1, h.2, h.3)
owns_without net f kind.SwitchPort q (Port datapath name birth) (inr h) = inr (h.0, removed_at _ net.switch_ports (f.each kind.SwitchPort).sorted name h.0 h.1, h.2, h.3)
owns_without net f k q (Datapath name birth) (inl h) = inl h
owns_without net f k q (Datapath name birth) (inr h) = inr h
owns_without net f k q (Port datapath name birth) (inl h) = inl h
owns_without net f k q (Port datapath name birth) (inr h) = inr h

-- a changed record owns as before
owner_kept : (c : Change) (r : Record) (o : KeyOwner) → IsOwnerBy (changed_record c r) o → IsOwnerBy r o
owner_kept (change.RouterPort mac networks peer) (row.RouterPort r) (Datapath name birth) h = h
owner_kept (change.RouterPort mac networks peer) (row.RouterPort r) (Port datapath name birth) h = h
owner_kept (change.SwitchPort addresses port_security enabled) (row.SwitchPort r) (Datapath name birth) h = h
owner_kept (change.SwitchPort addresses port_security enabled) (row.SwitchPort r) (Port datapath name birth) h = h
owner_kept (change.AddressSet addresses) (row.AddressSet r) o h = h
owner_kept (change.PortGroup ports) (row.PortGroup r) o h = h
owner_kept (change.Acl priority matching action) (row.Acl r) o h = h
owner_kept (change.Route prefix nexthop) (row.Route r) o h = h
owner_kept (change.Nat external_ip logical_ip) (row.Nat r) o h = h
owner_kept (change.LoadBalancer vips switches routers) (row.LoadBalancer r) o h = h
owner_kept (change.StaticMac ip mac) (row.StaticMac r) o h = h
owner_kept c r o h = h

-- a record that is there owns
module _ (net : Network) (f : IsFit net) (q : Name) where
  switch_owns : (r : Switch) → at net.switches q ≡ Some r → r.name ≡ q → (o : KeyOwner) → IsOwnerBy (row.Switch r) o → Owns net o
  switch_owns r there named (Datapath name birth) h = inl (r, ap (at net.switches) (h.0 ∙ named) ∙ there, sym h.1)
  switch_owns r there named (Port datapath name birth) h = absurd h

  router_owns : (r : Router) → at net.routers q ≡ Some r → r.name ≡ q → (o : KeyOwner) → IsOwnerBy (row.Router r) o → Owns net o
  router_owns r there named (Datapath name birth) h = inr (r, ap (at net.routers) (h.0 ∙ named) ∙ there, sym h.1)
  router_owns r there named (Port datapath name birth) h = absurd h

  router_port_owns : (r : RouterPort) → at net.router_ports q ≡ Some r → r.name ≡ q → (o : KeyOwner) → IsOwnerBy (row.RouterPort r) o → Owns net o
  router_port_owns r there named (Datapath name birth) h = absurd h
  router_port_owns r there named (Port datapath name birth) h = inl (r, ap (at net.router_ports) (h.1 ∙ named) ∙ there, sym h.0, sym h.2)

  switch_port_owns : (r : SwitchPort) → at net.switch_ports q ≡ Some r → r.name ≡ q → (o : KeyOwner) → IsOwnerBy (row.SwitchPort r) o → Owns net o
  switch_port_owns r there named (Datapath name birth) h = absurd h
  switch_port_owns r there named (Port datapath name birth) h = inr (r, ap (at net.switch_ports) (h.1 ∙ named) ∙ there, sym h.0, sym h.2)

  record_owns : (k : Kind) (r : Record) → record_at net k q ≡ Some r → (o : KeyOwner) → IsOwnerBy r o → Owns net o
  record_owns kind.Switch r is o h =
      let x = some_of row.Switch (at net.switches q) r is in
      switch_owns x.0 x.1 (kept_at (λ (s : Switch). s.name) (λ s. Fits (row.Switch s)) net.switches (f.each kind.Switch) q x.0 x.1).0 o (subst (λ (s : Record). IsOwnerBy s o) (sym x.2) h)
  record_owns kind.Router r is o h =
      let x = some_of row.Router (at net.routers q) r is in
      router_owns x.0 x.1 (kept_at (λ (s : Router). s.name) (λ s. Fits (row.Router s)) net.routers (f.each kind.Router) q x.0 x.1).0 o (subst (λ (s : Record). IsOwnerBy s o) (sym x.2) h)
  record_owns kind.RouterPort r is o h =
      let x = some_of row.RouterPort (at net.router_ports q) r is in
      router_port_owns x.0 x.1 (kept_at (λ (s : RouterPort). s.name) (λ s. Fits (row.RouterPort s)) net.router_ports (f.each kind.RouterPort) q x.0 x.1).0 o (subst (λ (s : Record). IsOwnerBy s o) (sym x.2) h)
  record_owns kind.SwitchPort r is o h =
      let x = some_of row.SwitchPort (at net.switch_ports q) r is in
      switch_port_owns x.0 x.1 (kept_at (λ (s : SwitchPort). s.name) (λ s. Fits (row.SwitchPort s)) net.switch_ports (f.each kind.SwitchPort) q x.0 x.1).0 o (subst (λ (s : Record). IsOwnerBy s o) (sym x.2) h)
  record_owns kind.AddressSet r is o h = let x = some_of row.AddressSet (at net.address_sets q) r is in absurd (subst (λ (s : Record). IsOwnerBy s o) (sym x.2) h)
  record_owns kind.PortGroup r is o h = let x = some_of row.PortGroup (at net.port_groups q) r is in absurd (subst (λ (s : Record). IsOwnerBy s o) (sym x.2) h)
  record_owns kind.Acl r is o h = let x = some_of row.Acl (at net.acls q) r is in absurd (subst (λ (s : Record). IsOwnerBy s o) (sym x.2) h)
  record_owns kind.Route r is o h = let x = some_of row.Route (at net.routes q) r is in absurd (subst (λ (s : Record). IsOwnerBy s o) (sym x.2) h)
  record_owns kind.Nat r is o h = let x = some_of row.Nat (at net.nats q) r is in absurd (subst (λ (s : Record). IsOwnerBy s o) (sym x.2) h)
  record_owns kind.LoadBalancer r is o h = let x = some_of row.LoadBalancer (at net.load_balancers q) r is in absurd (subst (λ (s : Record). IsOwnerBy s o) (sym x.2) h)
  record_owns kind.StaticMac r is o h = let x = some_of row.StaticMac (at net.static_macs q) r is in absurd (subst (λ (s : Record). IsOwnerBy s o) (sym x.2) h)

owns_unmarked : (net : Network) (marks : List OfflineMark) (o : KeyOwner) → Owns (record net { offline = marks }) o → Owns net o
owns_unmarked net marks (Datapath name birth) h = h
owns_unmarked net marks (Port datapath name birth) h = h

born_now : (n : ℕ) (r : Record) (o : KeyOwner) → IsOwnerBy (born n r) o → (birth_in o).0 ≡ n
born_now n (row.Switch r) (Datapath name birth) h = ap (λ b. b.0) h.1
born_now n (row.Router r) (Datapath name birth) h = ap (λ b. b.0) h.1
born_now n (row.RouterPort r) (Port datapath name birth) h = ap (λ b. b.0) h.2
born_now n (row.SwitchPort r) (Port datapath name birth) h = ap (λ b. b.0) h.2
born_now n r o h = absurd h

changed_owns : (net : Network) (f : IsFit net) (k : Kind) (q : Name) (c : Change) (a : Option Record) → record_at net k q ≡ a → (o : KeyOwner) → Owns (with_change net c a) o → Owns net o
changed_owns net f k q c None is o h = h
changed_owns net f k q c (Some r) is o h = elim (owns_with net (changed_record c r) o h) [ inl old ↦ old | inr new ↦ record_owns net f q k r is o (owner_kept c r o new) ]

operated_born : (net : Network) (f : IsFit net) (p : Op) (n : ℕ) (o : KeyOwner) → Owns (operated net p n) o → Owns net o ⊎ ((birth_in o).0 ≡ n)
operated_born net f (op.Add r) n o h = elim (owns_with net (born n r) o h) [ inl old ↦ inl old | inr new ↦ inr (born_now n r o new) ]
operated_born net f (op.Set k q c) n o h =
    let changed = with_change net c (record_at net k q) in
    inl (changed_owns net f k q c (record_at net k q) refl o (owns_unmarked changed (with_listed_marks changed).offline o h))
operated_born net f (op.Remove k q) n o h = let left = without_record net k q in inl (owns_without net f k q o (owns_unmarked left (with_listed_marks left).offline o h))
operated_born net f (op.Health balancer backend true) n o h = inl (owns_unmarked net (marked net balancer backend true).offline o h)
operated_born net f (op.Health balancer backend false) n o h = inl (owns_unmarked net (marked net balancer backend false).offline o h)

pub accepted_born : (net : Network) (ops : List Op) (n : ℕ) → IsFit net → AllByRecursion IsOpInGrammar ops → ops_fault net ops n ≡ None → (o : KeyOwner) → Owns (accepted net ops n) o → Owns net o ⊎ ((birth_in o).0 ≡ n)
accepted_born net [] n f g none o h = inl h
accepted_born net (p ∷ ops) n f g none o h =
    let parts = no_first (op_fault net p) _ none in
    elim (accepted_born (operated net p n) ops n (operated_fit net p n f g.0 parts.0) g.1 parts.1 o h) [ inl mid ↦ operated_born net f p n o mid | inr new ↦ inr new ]
