use Rattle.std.proofs.Common.{◌≡◌, ◌≤◌, ◌<◌, ◌+◌, ◌∙◌, Bool, List, ap, arith, get_or, length, subst, sym, take, true}
use Rattle.std.proofs.Math.ListN.{length-set, set}
use Rattle.conn_zones.proofs.FreeLaws.{AreMarks, marked_more, marked_same}
use Rattle.conn_zones.proofs.giving.marks_below.Goals as goal
use Rattle.conn_zones.proofs.giving.marks_below.Goals.{then-at-end, else-at-end}

pub numbers-preserved : goal.numbers-preserved
numbers-preserved c =
    let end = c.args.end in
    let numbers = c.args.numbers.now in
    let i = c.numbers.number-index in
    let marks = c.numbers.marks.items in
    let so_far = c.numbers.invariant in
    let at = c.from-at.ensures in
    elim c.if-at-end.branch [
      | then-at-end w ↦
          let items : c.if-at-end.marks.items ≡ set marks (get_or numbers i 0) true = ap (λ v. v.items) w.marks-is ∙ ap (λ n. set marks n true) at in
          let within : get_or numbers i 0 < length marks = omega (arith, w.if-at-end.true, at, so_far.each) in
          record {
            each = ap (λ (l : List Bool). length l) items ∙ length-set marks (get_or numbers i 0) true ∙ so_far.each;
            marked = subst (λ (l : List Bool). AreMarks end (take (i + 1) numbers) l) (sym items) (marked_more end marks numbers i c.numbers-test.true so_far.marked within);
          }
      | else-at-end w ↦
          let items : c.if-at-end.marks.items ≡ marks = ap (λ v. v.items) w.marks-is in
          let past : end ≤ get_or numbers i 0 = omega (arith, w.if-at-end.false, at) in
          record {
            each = ap (λ (l : List Bool). length l) items ∙ so_far.each;
            marked = subst (λ (l : List Bool). AreMarks end (take (i + 1) numbers) l) (sym items) (marked_same end marks numbers i c.numbers-test.true so_far.marked past);
          }
    ]
