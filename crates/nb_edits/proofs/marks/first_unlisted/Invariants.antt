use Rattle.std.proofs.Common.{◌≡◌, not}
use Rattle.std.specs.List.{find}
use Rattle.nb_edits.specs.OpFaults.{is_kept_mark}
use Rattle.nb_edits.proofs.marks.first_unlisted.Given as goal

-- those that are left tell it
abbrev pub invariant-marks : goal.invariant-marks
invariant-marks l = find (λ m. not (is_kept_mark l.records m)) l.records.offline ≡ find (λ m. not (is_kept_mark l.records m)) l.mark-iterator
