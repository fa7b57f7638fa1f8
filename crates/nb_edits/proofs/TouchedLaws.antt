-- An operation changes no record but those of one name.
use Rattle.std.specs.Prelude.{◌≡◌, ◌≢◌, ℕ, Bool, true, false, cond, List, [], ◌∷◌, Option, Some, None, option_map, refl}
use Rattle.std.specs.BTreeMap.{is_at}
use Rattle.std.specs.BTreeSet.{insert_key}
use Rattle.std.specs.Cmp.Lexicographic.{slice_cmp}
use Rattle.std.specs.Option.{option_map_or}
use Rattle.std.specs.Ordering.{nat_cmp, is_eq, match_ordering}
use Rattle.std.specs.declared.cmp.Ordering.{Ordering}
use Rattle.std.specs.declared.cmp.Ordering.TheVariants.{Less, Equal, Greater}
use mathlib.Core.Path.{sym, ap, subst, ◌∙◌}
use mathlib.Core.Logic.{inl, inr}
use Rattle.ovn_base.specs.declared.name.Name.{Name}
use Rattle.ovn_base.specs.lists.Among.{Among, here, there}
use Rattle.ovn_base.specs.names.ByName.{at}
use Rattle.ovn_base.proofs.AmongLaws.{among_cases, among_none, among_same}
use Rattle.ovn_base.proofs.ByNameLaws.{at_tail, put_other, same_name}
use Rattle.nb_records.specs.Editing.{born, changed_record, with_change, with_listed_marks, operated, accepted}
use Rattle.nb_records.specs.Network.{Network, with_record, without_record, without_entry, record_at, name_of, marked}
use Rattle.nb_records.specs.declared.change.Change.{Change}
use Rattle.nb_records.specs.declared.change.Change.TheVariants as change
use Rattle.nb_records.specs.declared.change.Op.{Op}
use Rattle.nb_records.specs.declared.change.Op.TheVariants as op
use Rattle.nb_records.specs.declared.kinds.Kind.{Kind}
use Rattle.nb_records.specs.declared.kinds.Kind.TheVariants as kind
use Rattle.nb_records.specs.declared.record.Record.{Record}
use Rattle.nb_records.specs.declared.record.Record.TheVariants as row
use Rattle.nb_edits.proofs.RecordLaws.{found_unmarked}
use Rattle.nb_edits.specs.Touched.{touched_name, touched_names, AgreeBut}

-- ---- one record put or taken out

removed_other : {X : Type 0} (es : List (Name × X)) (p q : Name) → q ≢ p → at (without_entry es p) q ≡ at es q
removed_other [] p q apart = refl
removed_other {X} (e ∷ es) p q apart = by (is_at (slice_cmp nat_cmp p) e.0) refl (removed_other es p q apart)
  where
    by : (b : Bool) → is_at (slice_cmp nat_cmp p) e.0 ≡ b → at (without_entry es p) q ≡ at es q → at (cond b es (e ∷ without_entry es p)) q ≡ at (e ∷ es) q
    by true is rest = sym (at_tail e es q (λ h. apart (h ∙ sym (same_name p e.0 is))))
    by false is rest = ap (λ r. cond (is_at (slice_cmp nat_cmp q) e.0) (Some e.1) r) rest

other_with : (net : Network) (x : Record) (k : Kind) (q : Name) → q ≢ name_of x → record_at (with_record net x) k q ≡ record_at net k q
other_with net (row.Switch x) kind.Switch q apart = ap (option_map row.Switch) (put_other net.switches x.name x q apart)
other_with net (row.Router x) kind.Router q apart = ap (option_map row.Router) (put_other net.routers x.name x q apart)
other_with net (row.RouterPort x) kind.RouterPort q apart = ap (option_map row.RouterPort) (put_other net.router_ports x.name x q apart)
other_with net (row.SwitchPort x) kind.SwitchPort q apart = ap (option_map row.SwitchPort) (put_other net.switch_ports x.name x q apart)
other_with net (row.AddressSet x) kind.AddressSet q apart = ap (option_map row.AddressSet) (put_other net.address_sets x.name x q apart)
other_with net (row.PortGroup x) kind.PortGroup q apart = ap (option_map row.PortGroup) (put_other net.port_groups x.name x q apart)
other_with net (row.Acl x) kind.Acl q apart = ap (option_map row.Acl) (put_other net.acls x.name x q apart)
other_with net (row.Route x) kind.Route q apart = ap (option_map row.Route) (put_other net.routes x.name x q apart)
other_with net (row.Nat x) kind.Nat q apart = ap (option_map row.Nat) (put_other net.nats x.name x q apart)
other_with net (row.LoadBalancer x) kind.LoadBalancer q apart = ap (option_map row.LoadBalancer) (put_other net.load_balancers x.name x q apart)
other_with net (row.StaticMac x) kind.StaticMac q apart = ap (option_map row.StaticMac) (put_other net.static_macs x.name x q apart)
other_with net x k q apart = refl

other_without : (net : Network) (j : Kind) (p : Name) (k : Kind) (q : Name) → q ≢ p → record_at (without_record net j p) k q ≡ record_at net k q
other_without net kind.Switch p kind.Switch q apart = ap (option_map row.Switch) (removed_other net.switches p q apart)
other_without net kind.Router p kind.Router q apart = ap (option_map row.Router) (removed_other net.routers p q apart)
other_without net kind.RouterPort p kind.RouterPort q apart = ap (option_map row.RouterPort) (removed_other net.router_ports p q apart)
other_without net kind.SwitchPort p kind.SwitchPort q apart = ap (option_map row.SwitchPort) (removed_other net.switch_ports p q apart)
other_without net kind.AddressSet p kind.AddressSet q apart = ap (option_map row.AddressSet) (removed_other net.address_sets p q apart)
other_without net kind.PortGroup p kind.PortGroup q apart = ap (option_map row.PortGroup) (removed_other net.port_groups p q apart)
other_without net kind.Acl p kind.Acl q apart = ap (option_map row.Acl) (removed_other net.acls p q apart)
other_without net kind.Route p kind.Route q apart = ap (option_map row.Route) (removed_other net.routes p q apart)
other_without net kind.Nat p kind.Nat q apart = ap (option_map row.Nat) (removed_other net.nats p q apart)
other_without net kind.LoadBalancer p kind.LoadBalancer q apart = ap (option_map row.LoadBalancer) (removed_other net.load_balancers p q apart)
other_without net kind.StaticMac p kind.StaticMac q apart = ap (option_map row.StaticMac) (removed_other net.static_macs p q apart)
other_without net j p k q apart = refl

-- ---- names

not_one : (q p : Name) → ¬ Among q (p ∷ []) → q ≢ p
not_one q p none same = none (among_same q p [] same)

born_name : (n : ℕ) (r : Record) → name_of (born n r) ≡ name_of r
born_name n (row.Switch r) = refl
born_name n (row.Router r) = refl
born_name n (row.RouterPort r) = refl
born_name n (row.SwitchPort r) = refl
born_name n (row.AddressSet r) = refl
born_name n (row.PortGroup r) = refl
born_name n (row.Acl r) = refl
born_name n (row.Route r) = refl
born_name n (row.Nat r) = refl
born_name n (row.LoadBalancer r) = refl
born_name n (row.StaticMac r) = refl

changed_name : (c : Change) (r : Record) → name_of (changed_record c r) ≡ name_of r
changed_name (change.RouterPort mac networks peer) (row.RouterPort r) = refl
changed_name (change.SwitchPort addresses port_security enabled) (row.SwitchPort r) = refl
changed_name (change.AddressSet addresses) (row.AddressSet r) = refl
changed_name (change.PortGroup ports) (row.PortGroup r) = refl
changed_name (change.Acl priority matching action) (row.Acl r) = refl
changed_name (change.Route prefix nexthop) (row.Route r) = refl
changed_name (change.Nat external_ip logical_ip) (row.Nat r) = refl
changed_name (change.LoadBalancer vips switches routers) (row.LoadBalancer r) = refl
changed_name (change.StaticMac ip mac) (row.StaticMac r) = refl
changed_name c r = refl

-- ---- operations

-- the record that is set has its own name
set_touches : (net : Network) (c : Change) (p : Name) (o : Option Record) (k : Kind) (q : Name) → ¬ Among q (option_map_or name_of o p ∷ []) → record_at (with_change net c o) k q ≡ record_at net k q
set_touches net c p None k q none = refl
set_touches net c p (Some s) k q none = other_with net (changed_record c s) k q (λ same. not_one q (name_of s) none (same ∙ changed_name c s))

operated_touches : (net : Network) (o : Op) (n : ℕ) → AgreeBut (touched_name net o ∷ []) net (operated net o n)
operated_touches net (op.Add r) n k q none = other_with net (born n r) k q (λ same. not_one q (name_of r) none (same ∙ born_name n r))
operated_touches net (op.Set j p c) n k q none =
    let changed = with_change net c (record_at net j p) in
    found_unmarked changed (with_listed_marks changed).offline k q ∙ set_touches net c p (record_at net j p) k q none
operated_touches net (op.Remove j p) n k q none =
    let left = without_record net j p in
    found_unmarked left (with_listed_marks left).offline k q ∙ other_without net j p k q (not_one q p none)
operated_touches net (op.Health balancer backend true) n k q none = found_unmarked net (marked net balancer backend true).offline k q
operated_touches net (op.Health balancer backend false) n k q none = found_unmarked net (marked net balancer backend false).offline k q

-- ---- all of them

module _ (name : Name) where
  kept_inserted : (names : List Name) (q : Name) → Among q names → Among q (insert_key (slice_cmp nat_cmp) names name)
  kept_inserted [] q m = absurd (among_none q m)
  kept_inserted (p ∷ names) q m = by (slice_cmp nat_cmp name p) (kept_inserted names q)
    where
      by : (o : Ordering) → (Among q names → Among q (insert_key (slice_cmp nat_cmp) names name)) → Among q (match_ordering o (name ∷ p ∷ names) (p ∷ names) (p ∷ insert_key (slice_cmp nat_cmp) names name))
      by Less rest = there m
      by Equal rest = m
      by Greater rest = elim (among_cases q p names m) [ inl same ↦ among_same q p (insert_key (slice_cmp nat_cmp) names name) same | inr later ↦ there (rest later) ]

  inserted : (names : List Name) → Among name (insert_key (slice_cmp nat_cmp) names name)
  inserted [] = here
  inserted (p ∷ names) = by (slice_cmp nat_cmp name p) refl (inserted names)
    where
      by : (o : Ordering) → slice_cmp nat_cmp name p ≡ o → Among name (insert_key (slice_cmp nat_cmp) names name) → Among name (match_ordering o (name ∷ p ∷ names) (p ∷ names) (p ∷ insert_key (slice_cmp nat_cmp) names name))
      by Less is rest = here
      by Equal is rest = among_same name p names (same_name name p (ap is_eq is))
      by Greater is rest = there rest

-- no name is lost
names_kept : (net : Network) (names : List Name) (ops : List Op) (n : ℕ) (q : Name) → Among q names → Among q (touched_names net names ops n)
names_kept net names [] n q m = m
names_kept net names (o ∷ ops) n q m = names_kept (operated net o n) (insert_key (slice_cmp nat_cmp) names (touched_name net o)) ops n q (kept_inserted (touched_name net o) names q m)

accepted_touches : (net : Network) (names : List Name) (ops : List Op) (n : ℕ) → AgreeBut (touched_names net names ops n) net (accepted net ops n)
accepted_touches net names [] n k q none = refl
accepted_touches net names (o ∷ ops) n k q none =
    let name = touched_name net o in
    let more = insert_key (slice_cmp nat_cmp) names name in
    accepted_touches (operated net o n) more ops n k q none
    ∙ operated_touches net o n k q (λ m. elim (among_cases q name [] m) [
      | inl same ↦ none (names_kept (operated net o n) more ops n q (subst (λ (x : Name). Among x more) (sym same) (inserted name names)))
      | inr gone ↦ among_none q gone
    ])

-- the records after the operations on a copy, and before them
pub touched_after : (net start after : Network) (held names : List Name) (ops : List Op) (n : ℕ) → start ≡ net → after ≡ accepted start ops n → names ≡ touched_names start held ops n → AgreeBut names net after
touched_after net start after held names ops n copied is are =
    subst (λ (x : Network). AgreeBut names x after) copied
    (subst (λ (x : Network). AgreeBut names start x) (sym is)
    (subst (λ (l : List Name). AgreeBut l start (accepted start ops n)) (sym are) (accepted_touches start held ops n)))

pub touched_before : (net start after : Network) (held names : List Name) (ops : List Op) (n : ℕ) → start ≡ net → after ≡ accepted start ops n → names ≡ touched_names start held ops n → AgreeBut names after net
touched_before net start after held names ops n copied is are k q none = sym (touched_after net start after held names ops n copied is are k q none)
