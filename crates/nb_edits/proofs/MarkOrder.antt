-- Marks stay in order, and so all records do.
use Rattle.std.specs.Prelude.{◌≡◌, ℕ, Bool, true, false, cond, List, [], ◌∷◌, Option, Some, None, refl}
use Rattle.std.specs.BTreeSet.{insert_key}
use Rattle.std.specs.Cmp.{IsTotalOrder, then_total, on_total, nat_cmp_total}
use Rattle.std.specs.List.{AllByRecursion}
use Rattle.std.specs.List.Sorted.{IsStrictlySortedBy}
use Rattle.std.specs.Ordering.{match_ordering, ordering_reverse}
use Rattle.std.specs.Set.{remove_key}
use Rattle.std.specs.declared.cmp.Ordering.{Ordering}
use Rattle.std.specs.declared.cmp.Ordering.TheVariants.{Less, Equal, Greater}
use Rattle.std.proofs.lemmas.Cmp.{nat_list_cmp_total}
use Rattle.std.proofs.lemmas.List.Kept.{IsStrictlySortedBy-filter}
use mathlib.Core.Path.{sym, ap, subst, ◌∙◌}
use Rattle.ovn_base.specs.declared.name.Name.{Name}
use Rattle.nb_records.specs.Editing.{born, changed_record, with_change, operated, accepted}
use Rattle.nb_records.specs.Network.{Network, AreInOrder, with_record, without_record, record_at, mark_cmp, backend_cmp}
use Rattle.nb_records.specs.declared.balancer.OfflineMark.{OfflineMark}
use Rattle.nb_records.specs.declared.change.Change.{Change}
use Rattle.nb_records.specs.declared.change.Op.{Op}
use Rattle.nb_records.specs.declared.change.Op.TheVariants as op
use Rattle.nb_records.specs.declared.kinds.Kind.{Kind}
use Rattle.nb_records.specs.declared.kinds.Kind.TheVariants as kind
use Rattle.nb_records.specs.declared.record.Record.{Record}
use Rattle.nb_records.specs.declared.record.Record.TheVariants as row
use Rattle.nb_edits.proofs.EditValidity.{IsFit}

backend_total : IsTotalOrder backend_cmp
backend_total = then_total (on_total (λ b. b.ip.0) nat_cmp_total) (on_total (λ b. b.port) nat_cmp_total)

mark_total : IsTotalOrder mark_cmp
mark_total = then_total (on_total (λ m. m.balancer) nat_list_cmp_total) (on_total (λ m. m.backend) backend_total)

-- ---- sets in order

module _ (test : OfflineMark → Bool) where
  pub all_left : (P : OfflineMark → Type 0) (ms : List OfflineMark) → AllByRecursion P ms → AllByRecursion P (remove_key test ms)
  all_left P [] h = h
  all_left P (m ∷ ms) h = by (test m) (all_left P ms h.1)
    where
      by : (b : Bool) → AllByRecursion P (remove_key test ms) → AllByRecursion P (cond b ms (m ∷ remove_key test ms))
      by true rest = h.1
      by false rest = (h.0, rest)

  removed_in_order : (ms : List OfflineMark) → IsStrictlySortedBy mark_cmp ms → IsStrictlySortedBy mark_cmp (remove_key test ms)
  unfolding IsStrictlySortedBy
  removed_in_order [] s = s
  removed_in_order (m ∷ ms) s = by (test m) (removed_in_order ms s.1)
    where
      by : (b : Bool) → IsStrictlySortedBy mark_cmp (remove_key test ms) → IsStrictlySortedBy mark_cmp (cond b ms (m ∷ remove_key test ms))
      by true rest = s.1
      by false rest = (all_left (λ x. mark_cmp m x ≡ Less) ms s.0, rest)

module _ (k : OfflineMark) where
  pub all_with : (P : OfflineMark → Type 0) (ms : List OfflineMark) → AllByRecursion P ms → P k → AllByRecursion P (insert_key mark_cmp ms k)
  all_with P [] h p = (p, tt)
  all_with P (m ∷ ms) h p = by (mark_cmp k m) (all_with P ms h.1 p)
    where
      by : (o : Ordering) → AllByRecursion P (insert_key mark_cmp ms k) → AllByRecursion P (match_ordering o (k ∷ m ∷ ms) (m ∷ ms) (m ∷ insert_key mark_cmp ms k))
      by Less rest = (p, h)
      by Equal rest = h
      by Greater rest = (h.0, rest)

  all_above : (m : OfflineMark) (ms : List OfflineMark) → mark_cmp k m ≡ Less → AllByRecursion (λ x. mark_cmp m x ≡ Less) ms → AllByRecursion (λ x. mark_cmp k x ≡ Less) ms
  all_above m [] below h = tt
  all_above m (x ∷ xs) below h = (mark_total.trans k m x below h.0, all_above m xs below h.1)

  inserted_in_order : (ms : List OfflineMark) → IsStrictlySortedBy mark_cmp ms → IsStrictlySortedBy mark_cmp (insert_key mark_cmp ms k)
  unfolding IsStrictlySortedBy
  inserted_in_order [] s = (tt, tt)
  inserted_in_order (m ∷ ms) s = by (mark_cmp k m) refl (inserted_in_order ms s.1)
    where
      by : (o : Ordering) → mark_cmp k m ≡ o → IsStrictlySortedBy mark_cmp (insert_key mark_cmp ms k) → IsStrictlySortedBy mark_cmp (match_ordering o (k ∷ m ∷ ms) (m ∷ ms) (m ∷ insert_key mark_cmp ms k))
      by Less is rest = ((is, all_above m ms is s.0), s)
      by Equal is rest = s
      by Greater is rest = (all_with (λ x. mark_cmp m x ≡ Less) ms s.0 (mark_total.antisymm m k ∙ ap ordering_reverse is), rest)

-- ---- operations

pub marks_with : (net : Network) (r : Record) → (with_record net r).offline ≡ net.offline
marks_with net (row.Switch r) = refl
marks_with net (row.Router r) = refl
marks_with net (row.RouterPort r) = refl
marks_with net (row.SwitchPort r) = refl
marks_with net (row.AddressSet r) = refl
marks_with net (row.PortGroup r) = refl
marks_with net (row.Acl r) = refl
marks_with net (row.Route r) = refl
marks_with net (row.Nat r) = refl
marks_with net (row.LoadBalancer r) = refl
marks_with net (row.StaticMac r) = refl

pub marks_without : (net : Network) (k : Kind) (q : Name) → (without_record net k q).offline ≡ net.offline
marks_without net kind.Switch q = refl
marks_without net kind.Router q = refl
marks_without net kind.RouterPort q = refl
marks_without net kind.SwitchPort q = refl
marks_without net kind.AddressSet q = refl
marks_without net kind.PortGroup q = refl
marks_without net kind.Acl q = refl
marks_without net kind.Route q = refl
marks_without net kind.Nat q = refl
marks_without net kind.LoadBalancer q = refl
marks_without net kind.StaticMac q = refl

pub marks_changed : (net : Network) (c : Change) (a : Option Record) → (with_change net c a).offline ≡ net.offline
marks_changed net c None = refl
marks_changed net c (Some r) = marks_with net (changed_record c r)

abbrev InOrder : List OfflineMark → Type 0
InOrder ms = IsStrictlySortedBy mark_cmp ms

operated_in_order : (net : Network) (o : Op) (n : ℕ) → InOrder net.offline → InOrder (operated net o n).offline
operated_in_order net (op.Add r) n s = subst InOrder (sym (marks_with net (born n r))) s
operated_in_order net (op.Set k q c) n s = IsStrictlySortedBy-filter mark_cmp _ _ (subst InOrder (sym (marks_changed net c (record_at net k q))) s)
operated_in_order net (op.Remove k q) n s = IsStrictlySortedBy-filter mark_cmp _ _ (subst InOrder (sym (marks_without net k q)) s)
operated_in_order net (op.Health balancer backend true) n s = removed_in_order _ net.offline s
operated_in_order net (op.Health balancer backend false) n s = inserted_in_order _ net.offline s

marks_in_order : (net : Network) (ops : List Op) (n : ℕ) → InOrder net.offline → InOrder (accepted net ops n).offline
marks_in_order net [] n s = s
marks_in_order net (o ∷ ops) n s = marks_in_order (operated net o n) ops n (operated_in_order net o n s)

pub accepted_in_order : (net : Network) (ops : List Op) (n : ℕ) → InOrder net.offline → IsFit (accepted net ops n) → AreInOrder (accepted net ops n)
accepted_in_order net ops n s f = record {
  switches = (f.each kind.Switch).sorted;
  routers = (f.each kind.Router).sorted;
  router_ports = (f.each kind.RouterPort).sorted;
  switch_ports = (f.each kind.SwitchPort).sorted;
  address_sets = (f.each kind.AddressSet).sorted;
  port_groups = (f.each kind.PortGroup).sorted;
  acls = (f.each kind.Acl).sorted;
  routes = (f.each kind.Route).sorted;
  nats = (f.each kind.Nat).sorted;
  load_balancers = (f.each kind.LoadBalancer).sorted;
  static_macs = (f.each kind.StaticMac).sorted;
  offline = marks_in_order net ops n s;
}
