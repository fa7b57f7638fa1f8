use Rattle.std.proofs.Common.{◌≡◌, length}
use Rattle.nb_records.specs.Editing.{with_listed_marks}
use Rattle.nb_edits.proofs.marks.drop_unlisted.Given as goal

-- those that are left tell it
abbrev pub invariant-marks : goal.invariant-marks
invariant-marks l = with_listed_marks l.fn.records ≡ with_listed_marks l.records

abbrev pub decreases-marks : goal.decreases-marks
decreases-marks l = length l.records.offline
