-- Each record after an edit is of this event, or the one of its kind and name before but for values that were set.
use Rattle.std.specs.Prelude.{◌≡◌, ◌⊎◌, ℕ, true, false, List, [], ◌∷◌, Option, Some, None, option_map, refl}
use Rattle.std.specs.List.{AllByRecursion}
use mathlib.Core.Path.{sym, ap, subst, ◌∙◌}
use mathlib.Core.Logic.{inl, inr}
use Rattle.ovn_base.specs.declared.name.Name.{Name}
use Rattle.ovn_base.specs.names.ByName.{at, put}
use Rattle.ovn_base.proofs.ByNameLaws.{put_cases}
use Rattle.nb_records.specs.Editing.{born, changed_record, with_change, with_listed_marks, operated, accepted}
use Rattle.nb_records.specs.Grammar.{IsOpInGrammar}
use Rattle.nb_records.specs.Network.{Network, with_record, without_record, without_entry, record_at, kind_of, name_of, birth_of, marked}
use Rattle.nb_records.specs.declared.balancer.OfflineMark.{OfflineMark}
use Rattle.nb_records.specs.declared.change.Change.{Change}
use Rattle.nb_records.specs.declared.change.Change.TheVariants as change
use Rattle.nb_records.specs.declared.change.Op.{Op}
use Rattle.nb_records.specs.declared.change.Op.TheVariants as op
use Rattle.nb_records.specs.declared.kinds.Kind.{Kind}
use Rattle.nb_records.specs.declared.kinds.Kind.TheVariants as kind
use Rattle.nb_records.specs.declared.record.Record.{Record}
use Rattle.nb_records.specs.declared.record.Record.TheVariants as row
use Rattle.nb_records.specs.declared.balancer.LoadBalancer.{LoadBalancer}
use Rattle.nb_records.specs.declared.router.Nat.{Nat}
use Rattle.nb_records.specs.declared.router.Route.{Route}
use Rattle.nb_records.specs.declared.router.Router.{Router}
use Rattle.nb_records.specs.declared.router.RouterPort.{RouterPort}
use Rattle.nb_records.specs.declared.router.StaticMac.{StaticMac}
use Rattle.nb_records.specs.declared.rule.Acl.{Acl}
use Rattle.nb_records.specs.declared.rule.AddressSet.{AddressSet}
use Rattle.nb_records.specs.declared.rule.PortGroup.{PortGroup}
use Rattle.nb_records.specs.declared.switch.Switch.{Switch}
use Rattle.nb_records.specs.declared.switch.SwitchPort.{SwitchPort}
use Rattle.nb_edits.proofs.EditValidity.{IsFit, Fits, some_of, no_first, operated_fit}
use Rattle.nb_edits.proofs.KindLists.{kept_at, removed_at}
use Rattle.nb_edits.specs.EditLeaves.{IsSetOf, AreRecordsFrom}
use Rattle.nb_edits.specs.OpFaults.{op_fault, ops_fault}

-- ---- but for values that were set

set_itself : (r : Record) → IsSetOf r r
set_itself (row.Switch r) = refl
set_itself (row.Router r) = refl
set_itself (row.RouterPort r) = refl
set_itself (row.SwitchPort r) = refl
set_itself (row.AddressSet r) = refl
set_itself (row.PortGroup r) = refl
set_itself (row.Acl r) = refl
set_itself (row.Route r) = refl
set_itself (row.Nat r) = refl
set_itself (row.LoadBalancer r) = refl
set_itself (row.StaticMac r) = refl

set_twice : (r s t : Record) → IsSetOf r s → IsSetOf s t → IsSetOf r t
set_twice (row.Switch r) (row.Switch s) (row.Switch t) h k = h ∙ ap (λ (x : Switch). x) k
set_twice (row.Router r) (row.Router s) (row.Router t) h k = h ∙ ap (λ (x : Router). x) k
set_twice (row.RouterPort r) (row.RouterPort s) (row.RouterPort t) h k = h ∙ ap (λ (x : RouterPort). record x { mac = r.mac; networks = r.networks; peer = r.peer }) k
set_twice (row.SwitchPort r) (row.SwitchPort s) (row.SwitchPort t) h k = h ∙ ap (λ (x : SwitchPort). record x { addresses = r.addresses; port_security = r.port_security; enabled = r.enabled }) k
set_twice (row.AddressSet r) (row.AddressSet s) (row.AddressSet t) h k = h ∙ ap (λ (x : AddressSet). record x { addresses = r.addresses }) k
set_twice (row.PortGroup r) (row.PortGroup s) (row.PortGroup t) h k = h ∙ ap (λ (x : PortGroup). record x { ports = r.ports }) k
set_twice (row.Acl r) (row.Acl s) (row.Acl t) h k = h ∙ ap (λ (x : Acl). record x { priority = r.priority; matching = r.matching; action = r.action }) k
set_twice (row.Route r) (row.Route s) (row.Route t) h k = h ∙ ap (λ (x : Route). record x { prefix = r.prefix; nexthop = r.nexthop }) k
set_twice (row.Nat r) (row.Nat s) (row.Nat t) h k = h ∙ ap (λ (x : Nat). record x { external_ip = r.external_ip; logical_ip = r.logical_ip }) k
set_twice (row.LoadBalancer r) (row.LoadBalancer s) (row.LoadBalancer t) h k = h ∙ ap (λ (x : LoadBalancer). record x { vips = r.vips; switches = r.switches; routers = r.routers }) k
set_twice (row.StaticMac r) (row.StaticMac s) (row.StaticMac t) h k = h ∙ ap (λ (x : StaticMac). record x { ip = r.ip; mac = r.mac }) k
set_twice (row.Switch r) (row.Switch s) t h k = absurd k
set_twice (row.Router r) (row.Router s) t h k = absurd k
set_twice (row.RouterPort r) (row.RouterPort s) t h k = absurd k
set_twice (row.SwitchPort r) (row.SwitchPort s) t h k = absurd k
set_twice (row.AddressSet r) (row.AddressSet s) t h k = absurd k
set_twice (row.PortGroup r) (row.PortGroup s) t h k = absurd k
set_twice (row.Acl r) (row.Acl s) t h k = absurd k
set_twice (row.Route r) (row.Route s) t h k = absurd k
set_twice (row.Nat r) (row.Nat s) t h k = absurd k
set_twice (row.LoadBalancer r) (row.LoadBalancer s) t h k = absurd k
set_twice (row.StaticMac r) (row.StaticMac s) t h k = absurd k
set_twice r s t h k = absurd h

-- a record that is another one but for values that were set has its birth
pub same_birth : (r s : Record) → IsSetOf r s → birth_of r ≡ birth_of s
same_birth (row.Switch r) (row.Switch s) h = ap (λ (x : Switch). x.birth) h
same_birth (row.Router r) (row.Router s) h = ap (λ (x : Router). x.birth) h
same_birth (row.RouterPort r) (row.RouterPort s) h = ap (λ (x : RouterPort). x.birth) h
same_birth (row.SwitchPort r) (row.SwitchPort s) h = ap (λ (x : SwitchPort). x.birth) h
same_birth (row.AddressSet r) (row.AddressSet s) h = ap (λ (x : AddressSet). x.birth) h
same_birth (row.PortGroup r) (row.PortGroup s) h = ap (λ (x : PortGroup). x.birth) h
same_birth (row.Acl r) (row.Acl s) h = ap (λ (x : Acl). x.birth) h
same_birth (row.Route r) (row.Route s) h = ap (λ (x : Route). x.birth) h
same_birth (row.Nat r) (row.Nat s) h = ap (λ (x : Nat). x.birth) h
same_birth (row.LoadBalancer r) (row.LoadBalancer s) h = ap (λ (x : LoadBalancer). x.birth) h
same_birth (row.StaticMac r) (row.StaticMac s) h = ap (λ (x : StaticMac). x.birth) h
same_birth r s h = absurd h

set_changed : (c : Change) (r : Record) → IsSetOf (changed_record c r) r
set_changed (change.RouterPort mac networks peer) (row.RouterPort r) = refl
set_changed (change.SwitchPort addresses port_security enabled) (row.SwitchPort r) = refl
set_changed (change.AddressSet addresses) (row.AddressSet r) = refl
set_changed (change.PortGroup ports) (row.PortGroup r) = refl
set_changed (change.Acl priority matching action) (row.Acl r) = refl
set_changed (change.Route prefix nexthop) (row.Route r) = refl
set_changed (change.Nat external_ip logical_ip) (row.Nat r) = refl
set_changed (change.LoadBalancer vips switches routers) (row.LoadBalancer r) = refl
set_changed (change.StaticMac ip mac) (row.StaticMac r) = refl
set_changed c r = set_itself r

same_kind : (r s : Record) → IsSetOf r s → kind_of r ≡ kind_of s
same_kind (row.Switch r) (row.Switch s) h = refl
same_kind (row.Router r) (row.Router s) h = refl
same_kind (row.RouterPort r) (row.RouterPort s) h = refl
same_kind (row.SwitchPort r) (row.SwitchPort s) h = refl
same_kind (row.AddressSet r) (row.AddressSet s) h = refl
same_kind (row.PortGroup r) (row.PortGroup s) h = refl
same_kind (row.Acl r) (row.Acl s) h = refl
same_kind (row.Route r) (row.Route s) h = refl
same_kind (row.Nat r) (row.Nat s) h = refl
same_kind (row.LoadBalancer r) (row.LoadBalancer s) h = refl
same_kind (row.StaticMac r) (row.StaticMac s) h = refl
same_kind r s h = absurd h

same_name : (r s : Record) → IsSetOf r s → name_of r ≡ name_of s
same_name (row.Switch r) (row.Switch s) h = ap (λ (x : Switch). x.name) h
same_name (row.Router r) (row.Router s) h = ap (λ (x : Router). x.name) h
same_name (row.RouterPort r) (row.RouterPort s) h = ap (λ (x : RouterPort). x.name) h
same_name (row.SwitchPort r) (row.SwitchPort s) h = ap (λ (x : SwitchPort). x.name) h
same_name (row.AddressSet r) (row.AddressSet s) h = ap (λ (x : AddressSet). x.name) h
same_name (row.PortGroup r) (row.PortGroup s) h = ap (λ (x : PortGroup). x.name) h
same_name (row.Acl r) (row.Acl s) h = ap (λ (x : Acl). x.name) h
same_name (row.Route r) (row.Route s) h = ap (λ (x : Route). x.name) h
same_name (row.Nat r) (row.Nat s) h = ap (λ (x : Nat). x.name) h
same_name (row.LoadBalancer r) (row.LoadBalancer s) h = ap (λ (x : LoadBalancer). x.name) h
same_name (row.StaticMac r) (row.StaticMac s) h = ap (λ (x : StaticMac). x.name) h
same_name r s h = absurd h

-- ---- at a kind and name

at_kind : (net : Network) (k : Kind) (q : Name) (r : Record) → record_at net k q ≡ Some r → kind_of r ≡ k
at_kind net kind.Switch q r h = let f = some_of row.Switch (at net.switches q) r h in ap kind_of (sym f.2)
at_kind net kind.Router q r h = let f = some_of row.Router (at net.routers q) r h in ap kind_of (sym f.2)
at_kind net kind.RouterPort q r h = let f = some_of row.RouterPort (at net.router_ports q) r h in ap kind_of (sym f.2)
at_kind net kind.SwitchPort q r h = let f = some_of row.SwitchPort (at net.switch_ports q) r h in ap kind_of (sym f.2)
at_kind net kind.AddressSet q r h = let f = some_of row.AddressSet (at net.address_sets q) r h in ap kind_of (sym f.2)
at_kind net kind.PortGroup q r h = let f = some_of row.PortGroup (at net.port_groups q) r h in ap kind_of (sym f.2)
at_kind net kind.Acl q r h = let f = some_of row.Acl (at net.acls q) r h in ap kind_of (sym f.2)
at_kind net kind.Route q r h = let f = some_of row.Route (at net.routes q) r h in ap kind_of (sym f.2)
at_kind net kind.Nat q r h = let f = some_of row.Nat (at net.nats q) r h in ap kind_of (sym f.2)
at_kind net kind.LoadBalancer q r h = let f = some_of row.LoadBalancer (at net.load_balancers q) r h in ap kind_of (sym f.2)
at_kind net kind.StaticMac q r h = let f = some_of row.StaticMac (at net.static_macs q) r h in ap kind_of (sym f.2)

at_name : (net : Network) → IsFit net → (k : Kind) (q : Name) (r : Record) → record_at net k q ≡ Some r → name_of r ≡ q
at_name net f kind.Switch q r h =
    let x = some_of row.Switch (at net.switches q) r h in
    ap name_of (sym x.2) ∙ (kept_at (λ (s : Switch). s.name) (λ s. Fits (row.Switch s)) net.switches (f.each kind.Switch) q x.0 x.1).0
at_name net f kind.Router q r h =
    let x = some_of row.Router (at net.routers q) r h in
    ap name_of (sym x.2) ∙ (kept_at (λ (s : Router). s.name) (λ s. Fits (row.Router s)) net.routers (f.each kind.Router) q x.0 x.1).0
at_name net f kind.RouterPort q r h =
    let x = some_of row.RouterPort (at net.router_ports q) r h in
    ap name_of (sym x.2) ∙ (kept_at (λ (s : RouterPort). s.name) (λ s. Fits (row.RouterPort s)) net.router_ports (f.each kind.RouterPort) q x.0 x.1).0
at_name net f kind.SwitchPort q r h =
    let x = some_of row.SwitchPort (at net.switch_ports q) r h in
    ap name_of (sym x.2) ∙ (kept_at (λ (s : SwitchPort). s.name) (λ s. Fits (row.SwitchPort s)) net.switch_ports (f.each kind.SwitchPort) q x.0 x.1).0
at_name net f kind.AddressSet q r h =
    let x = some_of row.AddressSet (at net.address_sets q) r h in
    ap name_of (sym x.2) ∙ (kept_at (λ (s : AddressSet). s.name) (λ s. Fits (row.AddressSet s)) net.address_sets (f.each kind.AddressSet) q x.0 x.1).0
at_name net f kind.PortGroup q r h =
    let x = some_of row.PortGroup (at net.port_groups q) r h in
    ap name_of (sym x.2) ∙ (kept_at (λ (s : PortGroup). s.name) (λ s. Fits (row.PortGroup s)) net.port_groups (f.each kind.PortGroup) q x.0 x.1).0
at_name net f kind.Acl q r h =
    let x = some_of row.Acl (at net.acls q) r h in
    ap name_of (sym x.2) ∙ (kept_at (λ (s : Acl). s.name) (λ s. Fits (row.Acl s)) net.acls (f.each kind.Acl) q x.0 x.1).0
at_name net f kind.Route q r h =
    let x = some_of row.Route (at net.routes q) r h in
    ap name_of (sym x.2) ∙ (kept_at (λ (s : Route). s.name) (λ s. Fits (row.Route s)) net.routes (f.each kind.Route) q x.0 x.1).0
at_name net f kind.Nat q r h =
    let x = some_of row.Nat (at net.nats q) r h in
    ap name_of (sym x.2) ∙ (kept_at (λ (s : Nat). s.name) (λ s. Fits (row.Nat s)) net.nats (f.each kind.Nat) q x.0 x.1).0
at_name net f kind.LoadBalancer q r h =
    let x = some_of row.LoadBalancer (at net.load_balancers q) r h in
    ap name_of (sym x.2) ∙ (kept_at (λ (s : LoadBalancer). s.name) (λ s. Fits (row.LoadBalancer s)) net.load_balancers (f.each kind.LoadBalancer) q x.0 x.1).0
at_name net f kind.StaticMac q r h =
    let x = some_of row.StaticMac (at net.static_macs q) r h in
    ap name_of (sym x.2) ∙ (kept_at (λ (s : StaticMac). s.name) (λ s. Fits (row.StaticMac s)) net.static_macs (f.each kind.StaticMac) q x.0 x.1).0

-- the record that was put, or one that was there
abbrev IsPut : Record → Kind → Name → Record → Type 0
IsPut x k q r = (k ≡ kind_of x) × (q ≡ name_of x) × (r ≡ x)

found_with : (net : Network) (x : Record) (k : Kind) (q : Name) (r : Record) → record_at (with_record net x) k q ≡ Some r → IsPut x k q r ⊎ (record_at net k q ≡ Some r)
found_with net (row.Switch x) kind.Switch q r h =
    let f = some_of row.Switch (at (put net.switches x.name x) q) r h in
    elim (put_cases net.switches x.name x q f.0 f.1) [ inl new ↦ inl (refl, new.0, sym f.2 ∙ ap row.Switch new.1) | inr old ↦ inr (ap (option_map row.Switch) old.1 ∙ ap Some f.2) ]
found_with net (row.Router x) kind.Router q r h =
    let f = some_of row.Router (at (put net.routers x.name x) q) r h in
    elim (put_cases net.routers x.name x q f.0 f.1) [ inl new ↦ inl (refl, new.0, sym f.2 ∙ ap row.Router new.1) | inr old ↦ inr (ap (option_map row.Router) old.1 ∙ ap Some f.2) ]
found_with net (row.RouterPort x) kind.RouterPort q r h =
    let f = some_of row.RouterPort (at (put net.router_ports x.name x) q) r h in
    elim (put_cases net.router_ports x.name x q f.0 f.1) [ inl new ↦ inl (refl, new.0, sym f.2 ∙ ap row.RouterPort new.1) | inr old ↦ inr (ap (option_map row.RouterPort) old.1 ∙ ap Some f.2) ]
found_with net (row.SwitchPort x) kind.SwitchPort q r h =
    let f = some_of row.SwitchPort (at (put net.switch_ports x.name x) q) r h in
    elim (put_cases net.switch_ports x.name x q f.0 f.1) [ inl new ↦ inl (refl, new.0, sym f.2 ∙ ap row.SwitchPort new.1) | inr old ↦ inr (ap (option_map row.SwitchPort) old.1 ∙ ap Some f.2) ]
found_with net (row.AddressSet x) kind.AddressSet q r h =
    let f = some_of row.AddressSet (at (put net.address_sets x.name x) q) r h in
    elim (put_cases net.address_sets x.name x q f.0 f.1) [ inl new ↦ inl (refl, new.0, sym f.2 ∙ ap row.AddressSet new.1) | inr old ↦ inr (ap (option_map row.AddressSet) old.1 ∙ ap Some f.2) ]
found_with net (row.PortGroup x) kind.PortGroup q r h =
    let f = some_of row.PortGroup (at (put net.port_groups x.name x) q) r h in
    elim (put_cases net.port_groups x.name x q f.0 f.1) [ inl new ↦ inl (refl, new.0, sym f.2 ∙ ap row.PortGroup new.1) | inr old ↦ inr (ap (option_map row.PortGroup) old.1 ∙ ap Some f.2) ]
found_with net (row.Acl x) kind.Acl q r h =
    let f = some_of row.Acl (at (put net.acls x.name x) q) r h in
    elim (put_cases net.acls x.name x q f.0 f.1) [ inl new ↦ inl (refl, new.0, sym f.2 ∙ ap row.Acl new.1) | inr old ↦ inr (ap (option_map row.Acl) old.1 ∙ ap Some f.2) ]
found_with net (row.Route x) kind.Route q r h =
    let f = some_of row.Route (at (put net.routes x.name x) q) r h in
    elim (put_cases net.routes x.name x q f.0 f.1) [ inl new ↦ inl (refl, new.0, sym f.2 ∙ ap row.Route new.1) | inr old ↦ inr (ap (option_map row.Route) old.1 ∙ ap Some f.2) ]
found_with net (row.Nat x) kind.Nat q r h =
    let f = some_of row.Nat (at (put net.nats x.name x) q) r h in
    elim (put_cases net.nats x.name x q f.0 f.1) [ inl new ↦ inl (refl, new.0, sym f.2 ∙ ap row.Nat new.1) | inr old ↦ inr (ap (option_map row.Nat) old.1 ∙ ap Some f.2) ]
found_with net (row.LoadBalancer x) kind.LoadBalancer q r h =
    let f = some_of row.LoadBalancer (at (put net.load_balancers x.name x) q) r h in
    elim (put_cases net.load_balancers x.name x q f.0 f.1) [ inl new ↦ inl (refl, new.0, sym f.2 ∙ ap row.LoadBalancer new.1) | inr old ↦ inr (ap (option_map row.LoadBalancer) old.1 ∙ ap Some f.2) ]
found_with net (row.StaticMac x) kind.StaticMac q r h =
    let f = some_of row.StaticMac (at (put net.static_macs x.name x) q) r h in
    elim (put_cases net.static_macs x.name x q f.0 f.1) [ inl new ↦ inl (refl, new.0, sym f.2 ∙ ap row.StaticMac new.1) | inr old ↦ inr (ap (option_map row.StaticMac) old.1 ∙ ap Some f.2) ]
found_with net x k q r h = inr h

found_without : (net : Network) → IsFit net → (j : Kind) (p : Name) (k : Kind) (q : Name) (r : Record) → record_at (without_record net j p) k q ≡ Some r → record_at net k q ≡ Some r
found_without net f kind.Switch p kind.Switch q r h =
    let x = some_of row.Switch (at (without_entry net.switches p) q) r h in
    ap (option_map row.Switch) (removed_at _ net.switches (f.each kind.Switch).sorted q x.0 x.1) ∙ ap Some x.2
found_without net f kind.Router p kind.Router q r h =
    let x = some_of row.Router (at (without_entry net.routers p) q) r h in
    ap (option_map row.Router) (removed_at _ net.routers (f.each kind.Router).sorted q x.0 x.1) ∙ ap Some x.2
found_without net f kind.RouterPort p kind.RouterPort q r h =
    let x = some_of row.RouterPort (at (without_entry net.router_ports p) q) r h in
    ap (option_map row.RouterPort) (removed_at _ net.router_ports (f.each kind.RouterPort).sorted q x.0 x.1) ∙ ap Some x.2
found_without net f kind.SwitchPort p kind.SwitchPort q r h =
    let x = some_of row.SwitchPort (at (without_entry net.switch_ports p) q) r h in
    ap (option_map row.SwitchPort) (removed_at _ net.switch_ports (f.each kind.SwitchPort).sorted q x.0 x.1) ∙ ap Some x.2
found_without net f kind.AddressSet p kind.AddressSet q r h =
    let x = some_of row.AddressSet (at (without_entry net.address_sets p) q) r h in
    ap (option_map row.AddressSet) (removed_at _ net.address_sets (f.each kind.AddressSet).sorted q x.0 x.1) ∙ ap Some x.2
found_without net f kind.PortGroup p kind.PortGroup q r h =
    let x = some_of row.PortGroup (at (without_entry net.port_groups p) q) r h in
    ap (option_map row.PortGroup) (removed_at _ net.port_groups (f.each kind.PortGroup).sorted q x.0 x.1) ∙ ap Some x.2
found_without net f kind.Acl p kind.Acl q r h =
    let x = some_of row.Acl (at (without_entry net.acls p) q) r h in
    ap (option_map row.Acl) (removed_at _ net.acls (f.each kind.Acl).sorted q x.0 x.1) ∙ ap Some x.2
found_without net f kind.Route p kind.Route q r h =
    let x = some_of row.Route (at (without_entry net.routes p) q) r h in
    ap (option_map row.Route) (removed_at _ net.routes (f.each kind.Route).sorted q x.0 x.1) ∙ ap Some x.2
found_without net f kind.Nat p kind.Nat q r h =
    let x = some_of row.Nat (at (without_entry net.nats p) q) r h in
    ap (option_map row.Nat) (removed_at _ net.nats (f.each kind.Nat).sorted q x.0 x.1) ∙ ap Some x.2
found_without net f kind.LoadBalancer p kind.LoadBalancer q r h =
    let x = some_of row.LoadBalancer (at (without_entry net.load_balancers p) q) r h in
    ap (option_map row.LoadBalancer) (removed_at _ net.load_balancers (f.each kind.LoadBalancer).sorted q x.0 x.1) ∙ ap Some x.2
found_without net f kind.StaticMac p kind.StaticMac q r h =
    let x = some_of row.StaticMac (at (without_entry net.static_macs p) q) r h in
    ap (option_map row.StaticMac) (removed_at _ net.static_macs (f.each kind.StaticMac).sorted q x.0 x.1) ∙ ap Some x.2
found_without net f j p k q r h = h

pub found_unmarked : (net : Network) (marks : List OfflineMark) (k : Kind) (q : Name) → record_at (record net { offline = marks }) k q ≡ record_at net k q
found_unmarked net marks kind.Switch q = refl
found_unmarked net marks kind.Router q = refl
found_unmarked net marks kind.RouterPort q = refl
found_unmarked net marks kind.SwitchPort q = refl
found_unmarked net marks kind.AddressSet q = refl
found_unmarked net marks kind.PortGroup q = refl
found_unmarked net marks kind.Acl q = refl
found_unmarked net marks kind.Route q = refl
found_unmarked net marks kind.Nat q = refl
found_unmarked net marks kind.LoadBalancer q = refl
found_unmarked net marks kind.StaticMac q = refl

-- ---- operations

abbrev IsFrom : Network → ℕ → Kind → Name → Record → Type 0
IsFrom net n k q r = ((birth_of r).0 ≡ n) ⊎ ((s : Record) × (record_at net k q ≡ Some s) × IsSetOf r s)

born_now : (n : ℕ) (r : Record) → (birth_of (born n r)).0 ≡ n
born_now n (row.Switch r) = refl
born_now n (row.Router r) = refl
born_now n (row.RouterPort r) = refl
born_now n (row.SwitchPort r) = refl
born_now n (row.AddressSet r) = refl
born_now n (row.PortGroup r) = refl
born_now n (row.Acl r) = refl
born_now n (row.Route r) = refl
born_now n (row.Nat r) = refl
born_now n (row.LoadBalancer r) = refl
born_now n (row.StaticMac r) = refl

changed_from : (net : Network) → IsFit net → (n : ℕ) (j : Kind) (p : Name) (c : Change) (a : Option Record) → record_at net j p ≡ a → (k : Kind) (q : Name) (r : Record) → record_at (with_change net c a) k q ≡ Some r → IsFrom net n k q r
changed_from net f n j p c None is k q r h = inr (r, h, set_itself r)
changed_from net f n j p c (Some s) is k q r h = elim (found_with net (changed_record c s) k q r h) [
  | inl new ↦ (
      let set = set_changed c s in
      let of_kind : k ≡ j = new.0 ∙ same_kind (changed_record c s) s set ∙ at_kind net j p s is in
      let of_name : q ≡ p = new.1 ∙ same_name (changed_record c s) s set ∙ at_name net f j p s is in
      inr (s, (λ i. record_at net (of_kind i) (of_name i)) ∙ is, subst (λ (x : Record). IsSetOf x s) (sym new.2) set))
  | inr old ↦ inr (r, old, set_itself r)
]

operated_from : (net : Network) → IsFit net → (o : Op) (n : ℕ) (k : Kind) (q : Name) (r : Record) → record_at (operated net o n) k q ≡ Some r → IsFrom net n k q r
operated_from net f (op.Add x) n k q r h = elim (found_with net (born n x) k q r h) [
  | inl new ↦ inl (ap (λ (y : Record). (birth_of y).0) new.2 ∙ born_now n x)
  | inr old ↦ inr (r, old, set_itself r)
]
operated_from net f (op.Set j p c) n k q r h =
    let changed = with_change net c (record_at net j p) in
    changed_from net f n j p c (record_at net j p) refl k q r (sym (found_unmarked changed (with_listed_marks changed).offline k q) ∙ h)
operated_from net f (op.Remove j p) n k q r h =
    let left = without_record net j p in
    inr (r, found_without net f j p k q r (sym (found_unmarked left (with_listed_marks left).offline k q) ∙ h), set_itself r)
operated_from net f (op.Health balancer backend true) n k q r h = inr (r, sym (found_unmarked net (marked net balancer backend true).offline k q) ∙ h, set_itself r)
operated_from net f (op.Health balancer backend false) n k q r h = inr (r, sym (found_unmarked net (marked net balancer backend false).offline k q) ∙ h, set_itself r)

pub accepted_from : (net : Network) (ops : List Op) (n : ℕ) → IsFit net → AllByRecursion IsOpInGrammar ops → ops_fault net ops n ≡ None → AreRecordsFrom net (accepted net ops n) n
accepted_from net [] n f g none = λ k q r h. inr (r, h, set_itself r)
accepted_from net (o ∷ ops) n f g none = λ k q r h.
    let parts = no_first (op_fault net o) _ none in
    elim (accepted_from (operated net o n) ops n (operated_fit net o n f g.0 parts.0) g.1 parts.1 k q r h) [
      | inl new ↦ inl new
      | inr mid ↦ elim (operated_from net f o n k q mid.0 mid.1) [
        | inl new ↦ inl (ap (λ b. b.0) (same_birth r mid.0 mid.2) ∙ new)
        | inr old ↦ inr (old.0, old.1, set_twice r mid.0 old.0 mid.2 old.2)
      ]
    ]
