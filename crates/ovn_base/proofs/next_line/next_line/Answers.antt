use Rattle.std.proofs.Common.{◌≡◌, ◌+◌, ◌<◌, ⊎_elim, ℕ, [], true, length, List, arith, ap, sym, ◌∙◌, subst, true≢false}
use Rattle.std.proofs.lemmas.Result.{err_from_is_err_and}
use Rattle.ovn_base.specs.lines.Lines.{HasNoFeed, ended_lines}
use Rattle.ovn_base.specs.lines.Reading.{Reading}
use Rattle.ovn_base.proofs.LineSearch.{Going, Searched, searched-skip, searched-front, searched-within, going-more, found-ended, found-last, stopped, impatient}
use Rattle.ovn_base.proofs.LineLaws.{ended_lines-none}
use Rattle.ovn_base.proofs.next_line.next_line.Goals as goal
use Rattle.ovn_base.proofs.next_line.next_line.Goals.{then-scanned-gt-MAX_LINE, else-scanned-gt-MAX_LINE}

pub returns-then-cut_line-clause-line : goal.returns-then-cut_line-clause-line
returns-then-cut_line-clause-line g c =
    let kind = rw c.text.ensures at c.line_of.ensures in
    rw kind (found-ended _ _ c.line.is_skipped c.line.buf c.cut_line.new.self _ c.line.invariant.going c.if-cut_line.ensures.cut)

pub returns-then-ended-clause-line : goal.returns-then-ended-clause-line
returns-then-ended-clause-line g c =
    let mid = c.cut_line.new.self in
    let same = c.if-cut_line.ensures.cut.0 in
    let none = subst (λ (x : Reading). HasNoFeed x.held) (sym same) c.if-cut_line.ensures.cut.1 in
    let going = subst (λ (x : Reading). Going c.args.buf.now (g.S.Source.left c.args.source.now) c.line.is_skipped x (g.S.Source.left c.line.source)) (sym same) c.line.invariant.going in
    let kind = rw c.held_len-scanned.ensures at c.line_of-then-ended.ensures in
    let some : length mid.held ≡ 0 → c.line.is_skipped ≡ true = λ z. ⊎_elim (λ p. p.1) (λ n. absurd (n (c.held_len-scanned.ensures ∙ z))) c.else-scanned-eq0.either in
    rw kind (found-last _ _ c.line.is_skipped mid c.cut_all.new.self _ going none (sym c.if-ended.ensures) some c.cut_all.ensures)

pub line-preserved : goal.line-preserved
line-preserved g c =
    let mid = c.line.buf in
    let cut = c.if-cut_line.ensures.cut in
    let left = g.S.Source.left c.line.source in
    let ended = ap (λ (x : Reading). x.ended) (sym cut.0) ∙ sym c.if-ended.ensures in
    let going = c.line.invariant.going in
    let searched : Searched c.args.buf.now (g.S.Source.left c.args.source.now) c.if-scanned-gt-MAX_LINE.is_skipped c.if-scanned-gt-MAX_LINE.scanned c.if-scanned-gt-MAX_LINE.buf left =
    elim c.if-scanned-gt-MAX_LINE.branch [
      | then-scanned-gt-MAX_LINE w ↦
          let new = subst (λ (x : Reading). w.cut_all-then-scanned-gt-MAX_LINE.new.self ≡ record x { given = x.given + length x.held; text = x.held; held = [] }) cut.0 w.cut_all-then-scanned-gt-MAX_LINE.ensures in
          let long : 1048576 < length mid.held = rw (ap (λ (x : Reading). length x.held) (sym cut.0), ← c.held_len-scanned.ensures) w.if-scanned-gt-MAX_LINE.true in
          rw (w.buf-is, w.scanned-is, w.is_skipped-is) (searched-skip _ _ c.line.is_skipped mid _ left going cut.1 ended c.line.invariant.sound long new)
      | else-scanned-gt-MAX_LINE w ↦
          rw (w.buf-is, w.scanned-is, w.is_skipped-is, cut.0) (record {
            going = going;
            none = cut.1;
            all = c.held_len-scanned.ensures ∙ ap (λ (x : Reading). length x.held) cut.0;
            ended = ended;
            faulted = c.line.invariant.sound;
          })
    ] in
    let more = c.in_ok-refill.ensures in
    record {
      going = going-more _ _ c.if-scanned-gt-MAX_LINE.is_skipped c.if-scanned-gt-MAX_LINE.buf c.refill.new.self left _ searched.going more.ahead more.given;
      scanned = searched-within _ _ _ searched.all more.front;
      seen = searched-front _ _ _ searched.none searched.all more.front;
      sound = more.faulted ∙ searched.faulted;
      ended = λ _. c.line.invariant.ended ended;
      after_end = λ h. absurd (true≢false (sym h ∙ c.line.invariant.ended ended));
      at_end = λ _ h. more.at_end h;
      patient = λ h. absurd (impatient c.line.buf.held c.args.buf.now.held cut.1 (c.line.invariant.patient h).1 h);
      faults = omega arith;
    }

pub returns-in_err-refill-clause-patient : goal.returns-in_err-refill-clause-patient
returns-in_err-refill-clause-patient g c = λ h.
    let cut = c.if-cut_line.ensures.cut in
    absurd (impatient c.line.buf.held c.args.buf.now.held cut.1 (c.line.invariant.patient h).1 h)

pub returns-in_err-refill-clause-after_end : goal.returns-in_err-refill-clause-after_end
returns-in_err-refill-clause-after_end g c = λ h.
    let cut = c.if-cut_line.ensures.cut in
    let ended = ap (λ (x : Reading). x.ended) (sym cut.0) ∙ sym c.if-ended.ensures in
    absurd (true≢false (sym h ∙ c.line.invariant.ended ended))

pub returns-in_err-refill-clause-fault : goal.returns-in_err-refill-clause-fault
returns-in_err-refill-clause-fault g c =
    let mid = c.line.buf in
    let cut = c.if-cut_line.ensures.cut in
    let left = g.S.Source.left c.line.source in
    let ended = ap (λ (x : Reading). x.ended) (sym cut.0) ∙ sym c.if-ended.ensures in
    let going = c.line.invariant.going in
    let searched : Searched c.args.buf.now (g.S.Source.left c.args.source.now) c.if-scanned-gt-MAX_LINE.is_skipped c.if-scanned-gt-MAX_LINE.scanned c.if-scanned-gt-MAX_LINE.buf left =
    elim c.if-scanned-gt-MAX_LINE.branch [
      | then-scanned-gt-MAX_LINE w ↦
          let new = subst (λ (x : Reading). w.cut_all-then-scanned-gt-MAX_LINE.new.self ≡ record x { given = x.given + length x.held; text = x.held; held = [] }) cut.0 w.cut_all-then-scanned-gt-MAX_LINE.ensures in
          let long : 1048576 < length mid.held = rw (ap (λ (x : Reading). length x.held) (sym cut.0), ← c.held_len-scanned.ensures) w.if-scanned-gt-MAX_LINE.true in
          rw (w.buf-is, w.scanned-is, w.is_skipped-is) (searched-skip _ _ c.line.is_skipped mid _ left going cut.1 ended c.line.invariant.sound long new)
      | else-scanned-gt-MAX_LINE w ↦
          rw (w.buf-is, w.scanned-is, w.is_skipped-is, cut.0) (record {
            going = going;
            none = cut.1;
            all = c.held_len-scanned.ensures ∙ ap (λ (x : Reading). length x.held) cut.0;
            ended = ended;
            faulted = c.line.invariant.sound;
          })
    ] in
    let more = c.in_err-refill.ensures in
    let after = going-more _ _ c.if-scanned-gt-MAX_LINE.is_skipped c.if-scanned-gt-MAX_LINE.buf c.refill.new.self left _ searched.going more.ahead more.given in
    let none = subst (λ (x : List ℕ). HasNoFeed x) (sym more.err.0) searched.none in
    let p = err_from_is_err_and c.from_residual.result c.from_residual.ensures.1 in
    rw p.1 (stopped _ _ c.if-scanned-gt-MAX_LINE.is_skipped c.refill.new.self _ after none more.err.1)

pub returns-in_err-refill-clause-none_held : goal.returns-in_err-refill-clause-none_held
returns-in_err-refill-clause-none_held g c =
    let cut = c.if-cut_line.ensures.cut in
    let none : ended_lines c.if-scanned-gt-MAX_LINE.buf.held ≡ [] =
    elim c.if-scanned-gt-MAX_LINE.branch [
      | then-scanned-gt-MAX_LINE w ↦ rw w.buf-is (ap (λ (x : Reading). ended_lines x.held) w.cut_all-then-scanned-gt-MAX_LINE.ensures)
      | else-scanned-gt-MAX_LINE w ↦ rw (w.buf-is, cut.0) (ended_lines-none c.line.buf.held cut.1)
    ] in
    let p = err_from_is_err_and c.from_residual.result c.from_residual.ensures.1 in
    rw p.1 (ap ended_lines c.in_err-refill.ensures.err.0 ∙ none)
