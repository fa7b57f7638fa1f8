-- Kinds and names of records that operations put, and what they leave at other names.
use Rattle.std.specs.Prelude.{◌≡◌, ◌≢◌, ◌⊎◌, ℕ, Bool, true, false, cond, List, [], ◌∷◌, Option, Some, None, option_map, refl}
use Rattle.std.specs.BTreeMap.{is_at}
use Rattle.std.specs.Cmp.Lexicographic.{slice_cmp}
use Rattle.std.specs.Ordering.{nat_cmp}
use mathlib.Core.Path.{sym, ap, subst, ◌∙◌}
use mathlib.Core.Logic.{inl, inr}
use Rattle.address_sets.specs.Members.{sets_of}
use Rattle.ovn_base.specs.declared.name.Name.{Name}
use Rattle.ovn_base.specs.names.ByName.{at}
use Rattle.ovn_base.proofs.ByNameLaws.{same_name, at_tail, put_other}
use Rattle.nb_records.specs.Editing.{born, changed_record, with_change}
use Rattle.nb_records.specs.Network.{Network, with_record, without_record, without_entry, record_at, kind_of, name_of}
use Rattle.nb_records.specs.declared.balancer.LoadBalancer.{LoadBalancer}
use Rattle.nb_records.specs.declared.change.Change.{Change}
use Rattle.nb_records.specs.declared.change.Change.TheVariants as change
use Rattle.nb_records.specs.declared.kinds.Kind.{Kind}
use Rattle.nb_records.specs.declared.kinds.Kind.TheVariants as kind
use Rattle.nb_records.specs.declared.record.Record.{Record}
use Rattle.nb_records.specs.declared.record.Record.TheVariants as row
use Rattle.nb_records.specs.declared.router.Nat.{Nat}
use Rattle.nb_records.specs.declared.router.Route.{Route}
use Rattle.nb_records.specs.declared.router.Router.{Router}
use Rattle.nb_records.specs.declared.router.RouterPort.{RouterPort}
use Rattle.nb_records.specs.declared.router.StaticMac.{StaticMac}
use Rattle.nb_records.specs.declared.rule.Acl.{Acl}
use Rattle.nb_records.specs.declared.rule.AddressSet.{AddressSet}
use Rattle.nb_records.specs.declared.rule.PortGroup.{PortGroup}
use Rattle.nb_records.specs.declared.switch.Switch.{Switch}
use Rattle.nb_records.specs.declared.switch.SwitchPort.{SwitchPort}
use Rattle.nb_edits.proofs.EditValidity.{IsFit, Fits, some_of}
use Rattle.nb_edits.proofs.KindLists.{IsKept, kept_at}

-- ---- kinds and names

-- the record is of the kind and has the name
abbrev pub IsNamed : Kind → Name → Record → Type 0
IsNamed k q r = (kind_of r ≡ k) × (name_of r ≡ q)

-- the event that adds a record leaves it its kind and name
pub born_named : (n : ℕ) (r : Record) → IsNamed (kind_of r) (name_of r) (born n r)
born_named n (row.Switch r) = (refl, refl)
born_named n (row.Router r) = (refl, refl)
born_named n (row.RouterPort r) = (refl, refl)
born_named n (row.SwitchPort r) = (refl, refl)
born_named n (row.AddressSet r) = (refl, refl)
born_named n (row.PortGroup r) = (refl, refl)
born_named n (row.Acl r) = (refl, refl)
born_named n (row.Route r) = (refl, refl)
born_named n (row.Nat r) = (refl, refl)
born_named n (row.LoadBalancer r) = (refl, refl)
born_named n (row.StaticMac r) = (refl, refl)

-- so does a change
pub changed_named : (c : Change) (r : Record) → IsNamed (kind_of r) (name_of r) (changed_record c r)
changed_named (change.RouterPort mac networks peer) (row.RouterPort r) = (refl, refl)
changed_named (change.SwitchPort addresses port_security enabled) (row.SwitchPort r) = (refl, refl)
changed_named (change.AddressSet addresses) (row.AddressSet r) = (refl, refl)
changed_named (change.PortGroup ports) (row.PortGroup r) = (refl, refl)
changed_named (change.Acl priority matching action) (row.Acl r) = (refl, refl)
changed_named (change.Route prefix nexthop) (row.Route r) = (refl, refl)
changed_named (change.Nat external_ip logical_ip) (row.Nat r) = (refl, refl)
changed_named (change.LoadBalancer vips switches routers) (row.LoadBalancer r) = (refl, refl)
changed_named (change.StaticMac ip mac) (row.StaticMac r) = (refl, refl)
changed_named c r = (refl, refl)

-- what is found among the records of a kind is of the kind, and at its own name
row_named : {X : Type 0} (f : X → Record) (name : X → Name) (fits : X → Type 0) (es : List (Name × X)) → IsKept name fits es → (k : Kind) → ((x : X) → IsNamed k (name x) (f x)) → (q : Name) (r : Record) → option_map f (at es q) ≡ Some r
    → IsNamed k q r
row_named f name fits es kept k is q r found =
    let x = some_of f (at es q) r found in
    let own = is x.0 in
    (ap kind_of (sym x.2) ∙ own.0, ap name_of (sym x.2) ∙ own.1 ∙ (kept_at name fits es kept q x.0 x.1).0)

-- what is found at a kind and name is of that kind and has that name
pub named_at : (net : Network) → IsFit net → (k : Kind) (q : Name) (r : Record) → record_at net k q ≡ Some r → IsNamed k q r
named_at net f kind.Switch q r h = row_named row.Switch (λ (s : Switch). s.name) (λ s. Fits (row.Switch s)) net.switches (f.each kind.Switch) kind.Switch (λ s. (refl, refl)) q r h
named_at net f kind.Router q r h = row_named row.Router (λ (s : Router). s.name) (λ s. Fits (row.Router s)) net.routers (f.each kind.Router) kind.Router (λ s. (refl, refl)) q r h
named_at net f kind.RouterPort q r h = row_named row.RouterPort (λ (s : RouterPort). s.name) (λ s. Fits (row.RouterPort s)) net.router_ports (f.each kind.RouterPort) kind.RouterPort (λ s. (refl, refl)) q r h
named_at net f kind.SwitchPort q r h = row_named row.SwitchPort (λ (s : SwitchPort). s.name) (λ s. Fits (row.SwitchPort s)) net.switch_ports (f.each kind.SwitchPort) kind.SwitchPort (λ s. (refl, refl)) q r h
named_at net f kind.AddressSet q r h = row_named row.AddressSet (λ (s : AddressSet). s.name) (λ s. Fits (row.AddressSet s)) net.address_sets (f.each kind.AddressSet) kind.AddressSet (λ s. (refl, refl)) q r h
named_at net f kind.PortGroup q r h = row_named row.PortGroup (λ (s : PortGroup). s.name) (λ s. Fits (row.PortGroup s)) net.port_groups (f.each kind.PortGroup) kind.PortGroup (λ s. (refl, refl)) q r h
named_at net f kind.Acl q r h = row_named row.Acl (λ (s : Acl). s.name) (λ s. Fits (row.Acl s)) net.acls (f.each kind.Acl) kind.Acl (λ s. (refl, refl)) q r h
named_at net f kind.Route q r h = row_named row.Route (λ (s : Route). s.name) (λ s. Fits (row.Route s)) net.routes (f.each kind.Route) kind.Route (λ s. (refl, refl)) q r h
named_at net f kind.Nat q r h = row_named row.Nat (λ (s : Nat). s.name) (λ s. Fits (row.Nat s)) net.nats (f.each kind.Nat) kind.Nat (λ s. (refl, refl)) q r h
named_at net f kind.LoadBalancer q r h = row_named row.LoadBalancer (λ (s : LoadBalancer). s.name) (λ s. Fits (row.LoadBalancer s)) net.load_balancers (f.each kind.LoadBalancer) kind.LoadBalancer (λ s. (refl, refl)) q r h
named_at net f kind.StaticMac q r h = row_named row.StaticMac (λ (s : StaticMac). s.name) (λ s. Fits (row.StaticMac s)) net.static_macs (f.each kind.StaticMac) kind.StaticMac (λ s. (refl, refl)) q r h

-- so it is found by its own
pub itself_at : (net : Network) → IsFit net → (k : Kind) (q : Name) (r : Record) → record_at net k q ≡ Some r → record_at net (kind_of r) (name_of r) ≡ Some r
itself_at net f k q r h = let n = named_at net f k q r h in (λ i. record_at net (n.0 i) (n.1 i)) ∙ h

-- ---- other names

-- without an entry the other names keep what they have
removed_other : {X : Type 0} (es : List (Name × X)) (p q : Name) → q ≢ p → at (without_entry es p) q ≡ at es q
removed_other [] p q apart = refl
removed_other (e ∷ es) p q apart = by (is_at (slice_cmp nat_cmp p) e.0) refl (removed_other es p q apart)
  where
    by : (b : Bool) → is_at (slice_cmp nat_cmp p) e.0 ≡ b → at (without_entry es p) q ≡ at es q → at (cond b es (e ∷ without_entry es p)) q ≡ at (e ∷ es) q
    by true is rest = sym (at_tail e es q (λ same. apart (same ∙ sym (same_name p e.0 is))))
    by false is rest = ap (λ o. cond (is_at (slice_cmp nat_cmp q) e.0) (Some e.1) o) rest

module _ (net : Network) (q : Name) where
  -- beside a record that is put
  pub switch_beside : (r : Record) → ¬ IsNamed kind.Switch q r → at (with_record net r).switches q ≡ at net.switches q
  switch_beside (row.Switch r) other = put_other net.switches r.name r q (λ same. other (refl, sym same))
  switch_beside r other = refl

  pub port_beside : (r : Record) → ¬ IsNamed kind.SwitchPort q r → at (with_record net r).switch_ports q ≡ at net.switch_ports q
  port_beside (row.SwitchPort r) other = put_other net.switch_ports r.name r q (λ same. other (refl, sym same))
  port_beside r other = refl

  -- beside one that is changed
  pub switch_unchanged : (c : Change) (a : Option Record) → ((r : Record) → a ≡ Some r → ¬ IsNamed kind.Switch q r) → at (with_change net c a).switches q ≡ at net.switches q
  switch_unchanged c None other = refl
  switch_unchanged c (Some r) other = switch_beside (changed_record c r) (λ named. let is = changed_named c r in other r refl (sym is.0 ∙ named.0, sym is.1 ∙ named.1))

  pub port_unchanged : (c : Change) (a : Option Record) → ((r : Record) → a ≡ Some r → ¬ IsNamed kind.SwitchPort q r) → at (with_change net c a).switch_ports q ≡ at net.switch_ports q
  port_unchanged c None other = refl
  port_unchanged c (Some r) other = port_beside (changed_record c r) (λ named. let is = changed_named c r in other r refl (sym is.0 ∙ named.0, sym is.1 ∙ named.1))

  -- beside one that is taken out
  pub switch_without : (k : Kind) (p : Name) → ¬ ((k ≡ kind.Switch) × (p ≡ q)) → at (without_record net k p).switches q ≡ at net.switches q
  switch_without kind.Switch p other = removed_other net.switches p q (λ same. other (refl, sym same))
  switch_without k p other = refl

  pub port_without : (k : Kind) (p : Name) → ¬ ((k ≡ kind.SwitchPort) × (p ≡ q)) → at (without_record net k p).switch_ports q ≡ at net.switch_ports q
  port_without kind.SwitchPort p other = removed_other net.switch_ports p q (λ same. other (refl, sym same))
  port_without k p other = refl

  -- so it is with routers and their ports
  pub router_beside : (r : Record) → ¬ IsNamed kind.Router q r → at (with_record net r).routers q ≡ at net.routers q
  router_beside (row.Router r) other = put_other net.routers r.name r q (λ same. other (refl, sym same))
  router_beside r other = refl

  pub router_port_beside : (r : Record) → ¬ IsNamed kind.RouterPort q r → at (with_record net r).router_ports q ≡ at net.router_ports q
  router_port_beside (row.RouterPort r) other = put_other net.router_ports r.name r q (λ same. other (refl, sym same))
  router_port_beside r other = refl

  pub router_unchanged : (c : Change) (a : Option Record) → ((r : Record) → a ≡ Some r → ¬ IsNamed kind.Router q r) → at (with_change net c a).routers q ≡ at net.routers q
  router_unchanged c None other = refl
  router_unchanged c (Some r) other = router_beside (changed_record c r) (λ named. let is = changed_named c r in other r refl (sym is.0 ∙ named.0, sym is.1 ∙ named.1))

  pub router_port_unchanged : (c : Change) (a : Option Record) → ((r : Record) → a ≡ Some r → ¬ IsNamed kind.RouterPort q r) → at (with_change net c a).router_ports q ≡ at net.router_ports q
  router_port_unchanged c None other = refl
  router_port_unchanged c (Some r) other = router_port_beside (changed_record c r) (λ named. let is = changed_named c r in other r refl (sym is.0 ∙ named.0, sym is.1 ∙ named.1))

  pub router_without : (k : Kind) (p : Name) → ¬ ((k ≡ kind.Router) × (p ≡ q)) → at (without_record net k p).routers q ≡ at net.routers q
  router_without kind.Router p other = removed_other net.routers p q (λ same. other (refl, sym same))
  router_without k p other = refl

  pub router_port_without : (k : Kind) (p : Name) → ¬ ((k ≡ kind.RouterPort) × (p ≡ q)) → at (without_record net k p).router_ports q ≡ at net.router_ports q
  router_port_without kind.RouterPort p other = removed_other net.router_ports p q (λ same. other (refl, sym same))
  router_port_without k p other = refl

  -- and with rules
  pub acl_beside : (r : Record) → ¬ IsNamed kind.Acl q r → at (with_record net r).acls q ≡ at net.acls q
  acl_beside (row.Acl r) other = put_other net.acls r.name r q (λ same. other (refl, sym same))
  acl_beside r other = refl

  pub acl_unchanged : (c : Change) (a : Option Record) → ((r : Record) → a ≡ Some r → ¬ IsNamed kind.Acl q r) → at (with_change net c a).acls q ≡ at net.acls q
  acl_unchanged c None other = refl
  acl_unchanged c (Some r) other = acl_beside (changed_record c r) (λ named. let is = changed_named c r in other r refl (sym is.0 ∙ named.0, sym is.1 ∙ named.1))

  pub acl_without : (k : Kind) (p : Name) → ¬ ((k ≡ kind.Acl) × (p ≡ q)) → at (without_record net k p).acls q ≡ at net.acls q
  acl_without kind.Acl p other = removed_other net.acls p q (λ same. other (refl, sym same))
  acl_without k p other = refl

-- ---- other kinds

-- the kinds of records that have members: address sets and port groups
abbrev pub HasMembers : Kind → Type 0
HasMembers k = (k ≡ kind.AddressSet) ⊎ (k ≡ kind.PortGroup)

module _ (net : Network) where
  -- beside a record of another kind that is put, the sets and groups are the same
  pub sets_beside : (r : Record) → ¬ HasMembers (kind_of r) → sets_of (with_record net r) ≡ sets_of net
  sets_beside (row.AddressSet r) other = absurd (other (inl refl))
  sets_beside (row.PortGroup r) other = absurd (other (inr refl))
  sets_beside r other = refl

  -- beside one that is changed
  pub sets_unchanged : (c : Change) (a : Option Record) → ((r : Record) → a ≡ Some r → ¬ HasMembers (kind_of r)) → sets_of (with_change net c a) ≡ sets_of net
  sets_unchanged c None other = refl
  sets_unchanged c (Some r) other = sets_beside (changed_record c r) (λ is. other r refl (subst (λ (k : Kind). HasMembers k) (changed_named c r).0 is))

  -- beside one that is taken out
  pub sets_without : (k : Kind) (p : Name) → ¬ HasMembers k → sets_of (without_record net k p) ≡ sets_of net
  sets_without kind.AddressSet p other = absurd (other (inl refl))
  sets_without kind.PortGroup p other = absurd (other (inr refl))
  sets_without k p other = refl
