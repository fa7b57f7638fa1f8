use Rattle.std.proofs.Common.{◌≡◌, ◌<◌, not, length, None, ap, sym, subst, ◌∙◌}
use Rattle.std.specs.List.{find}
use Rattle.nb_records.specs.Editing.{with_listed_marks}
use Rattle.nb_records.specs.Network.{Network}
use Rattle.nb_edits.specs.OpFaults.{is_kept_mark}
use Rattle.nb_edits.proofs.MarkLists.{mark_dropped, fewer_marks, all_kept}
use Rattle.nb_edits.proofs.marks.drop_unlisted.Goals as goal

pub marks-smaller : goal.marks-smaller
marks-smaller c = subst (λ (n : Network). length n.offline < length c.marks.records.offline) (sym c.in_ok-mark.ensures.ok) (fewer_marks c.marks.records c.in-Some.mark (sym c.in-Some.ensures))

pub marks-preserved : goal.marks-preserved
marks-preserved c = c.marks.invariant ∙ mark_dropped c.marks.records c.in-Some.mark (sym c.in-Some.ensures) ∙ ap with_listed_marks (sym c.in_ok-mark.ensures.ok)

pub returns : goal.returns
returns c =
    let none : find (λ m. not (is_kept_mark c.marks.records m)) c.marks.records.offline ≡ None = (cc) in
    sym (all_kept c.marks.records none) ∙ sym c.marks.invariant
