-- An edit without a fault leaves sound records.
use Rattle.std.specs.Prelude.{◌≡◌, ℕ, List, [], None}
use Rattle.std.specs.List.{AllByRecursion}
use mathlib.Core.Logic.{inl, inr}
use Rattle.nb_records.specs.Editing.{accepted}
use Rattle.nb_records.specs.Grammar.{IsOpInGrammar}
use Rattle.nb_records.specs.Network.{Network}
use Rattle.nb_records.specs.declared.change.Op.{Op}
use Rattle.nb_rules.proofs.Validity.{unbroken}
use Rattle.nb_rules.specs.FirstBroken.{first_broken}
use Rattle.nb_rules.specs.Valid.{IsValid}
use Rattle.nb_edits.proofs.EditValidity.{no_first, valid_fit, fit_valid, accepted_fit, accepted_born}
use Rattle.nb_edits.proofs.MarkLaws.{accepted_listed}
use Rattle.nb_edits.proofs.MarkOrder.{accepted_in_order}
use Rattle.nb_edits.proofs.OwnerLaws.{among_owns, owns_among}
use Rattle.nb_edits.proofs.RecordLaws.{accepted_from}
use Rattle.nb_edits.specs.EditLeaves.{LeavesSoundRecords}
use Rattle.nb_edits.specs.OpFaults.{ops_fault, fault_of}

pub edit_sound : (net : Network) (ops : List Op) (n : ℕ) → IsValid net → AllByRecursion IsOpInGrammar ops → fault_of net ops n ≡ None → LeavesSoundRecords net ops n
unfolding fault_of
edit_sound net ops n v g none =
    let parts = no_first (ops_fault net ops n) (first_broken (accepted net ops n) ops) none in
    let f = valid_fit net v in
    let after = accepted_fit net ops n f g parts.0 in
    let order = accepted_in_order net ops n v.in_order.offline after in
    let whole = (unbroken (accepted net ops n) []).1 ((unbroken (accepted net ops n) ops).0 parts.1) in
    record {
      valid = fit_valid (accepted net ops n) after order whole;
      records = accepted_from net ops n f g parts.0;
      owners = λ o m. elim (accepted_born net ops n f g parts.0 o (among_owns (accepted net ops n) order o m)) [ inl old ↦ inl (owns_among net o old) | inr new ↦ inr new ];
      marks = λ listed h. accepted_listed net ops n parts.0 listed h;
    }
