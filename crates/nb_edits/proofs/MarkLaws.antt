-- Marks stay ones of backends that their balancers list.
use Rattle.std.specs.Prelude.{◌≡◌, ℕ, true, false, List, [], ◌∷◌, None}
use Rattle.std.specs.List.{AllByRecursion}
use Rattle.std.proofs.lemmas.Bool.{false≢true}
use mathlib.Core.Path.{sym, ap, subst, ◌∙◌}
use mathlib.Core.Logic.{inl, inr}
use Rattle.ovn_base.specs.names.ByName.{at}
use Rattle.ovn_base.proofs.AmongLaws.{among_all, all_among, filter_among}
use Rattle.ovn_base.proofs.ByNameLaws.{one_or_two, put_other}
use Rattle.nb_records.specs.Editing.{born, with_change, with_listed_marks, operated, accepted, lists_backend}
use Rattle.nb_records.specs.Network.{Network, with_record, without_record, record_at, kind_of, name_of, mark_of}
use Rattle.nb_records.specs.declared.balancer.OfflineMark.{OfflineMark}
use Rattle.nb_records.specs.declared.change.Op.{Op}
use Rattle.nb_records.specs.declared.change.Op.TheVariants as op
use Rattle.nb_records.specs.declared.record.Record.{Record}
use Rattle.nb_records.specs.declared.record.Record.TheVariants as row
use Rattle.nb_rules.specs.First.{fault_if}
use Rattle.nb_edits.proofs.EditValidity.{no_first, no_fault, not_there}
use Rattle.nb_edits.proofs.MarkOrder.{all_left, all_with, marks_with}
use Rattle.nb_edits.specs.EditLeaves.{AreListed, MarksListed, EachMarksListed}
use Rattle.nb_edits.specs.OpFaults.{is_kept_mark, is_taken_for, op_fault, ops_fault}

-- the marks that are left are listed
unlisted_dropped : (net : Network) → AreListed (with_listed_marks net)
unlisted_dropped net = all_among (λ m. is_kept_mark net m ≡ true) _ (λ m k. (filter_among (is_kept_mark net) m net.offline k).1)

-- a record that is added takes no balancer away
kept_with : (net : Network) (n : ℕ) (r : Record) → is_taken_for net (kind_of r) (name_of r) ≡ false → (m : OfflineMark) → is_kept_mark net m ≡ true → is_kept_mark (with_record net (born n r)) m ≡ true
kept_with net n (row.LoadBalancer r) free m h = elim (one_or_two m.balancer r.name) [
  | inl same ↦ (
      let none : at net.load_balancers m.balancer ≡ None = ap (at net.load_balancers) same ∙ not_there row.LoadBalancer (at net.load_balancers r.name) free in
      absurd (false≢true (ap (lists_backend m.backend) (sym none) ∙ h)))
  | inr other ↦ ap (lists_backend m.backend) (put_other net.load_balancers r.name (record r { birth = record { 0 = n } }) m.balancer other) ∙ h
]
kept_with net n r free m h = h

added_listed : (net : Network) (n : ℕ) (r : Record) → is_taken_for net (kind_of r) (name_of r) ≡ false → AreListed net → AreListed (with_record net (born n r))
added_listed net n r free h =
    subst (λ (ms : List OfflineMark). AllByRecursion (λ m. is_kept_mark (with_record net (born n r)) m ≡ true) ms) (sym (marks_with net (born n r)))
    (all_among (λ m. is_kept_mark (with_record net (born n r)) m ≡ true) net.offline (λ m k. kept_with net n r free m (among_all (λ x. is_kept_mark net x ≡ true) m net.offline h k)))

operated_listed : (net : Network) (o : Op) (n : ℕ) → op_fault net o ≡ None → MarksListed net o → AreListed net → AreListed (operated net o n)
operated_listed net (op.Add r) n none listed h = added_listed net n r (no_fault (is_taken_for net (kind_of r) (name_of r)) _ (no_first (fault_if (is_taken_for net (kind_of r) (name_of r)) _) _ none).0) h
operated_listed net (op.Set k q c) n none listed h = unlisted_dropped (with_change net c (record_at net k q))
operated_listed net (op.Remove k q) n none listed h = unlisted_dropped (without_record net k q)
operated_listed net (op.Health balancer backend true) n none listed h = all_left _ (λ m. is_kept_mark net m ≡ true) net.offline h
operated_listed net (op.Health balancer backend false) n none listed h = all_with (mark_of balancer backend) (λ m. is_kept_mark net m ≡ true) net.offline h listed

-- the operations one after another, each on what those before it leave
pub accepted_listed : (net : Network) (ops : List Op) (n : ℕ) → ops_fault net ops n ≡ None → EachMarksListed net ops n → AreListed net → AreListed (accepted net ops n)
accepted_listed net [] n none listed h = h
accepted_listed net (o ∷ ops) n none listed h =
    let parts = no_first (op_fault net o) _ none in
    accepted_listed (operated net o n) ops n parts.1 listed.1 (operated_listed net o n parts.0 listed.0 h)
