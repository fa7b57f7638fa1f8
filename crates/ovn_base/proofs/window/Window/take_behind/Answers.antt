use Rattle.std.proofs.Common.{length, arith, ap, refl, take_all}
use Rattle.std.proofs.lemmas.Result.{err_from_is_err_and}
use Rattle.ovn_base.specs.lines.WindowState.{WindowState}
use Rattle.ovn_base.proofs.WindowLaws.{held-kept, held-more, ahead-more, front-more}
use Rattle.ovn_base.proofs.window.Window.take_behind.Goals as goal

pub returns-in_err-count-clause-ahead : goal.returns-in_err-count-clause-ahead
returns-in_err-count-clause-ahead g c =
    let held = ap (λ (v : WindowState). v.held) c.self.view_is in
    let w = c.self.inside in
    let front = rw c.deref_mut.ensures.value at c.in_err-count.ensures.front in
    let kept = held-kept w.bytes.len w.start w.end c.take_to.new.bytes w.bytes.items c.args.self.now.held (omega arith) (omega arith) front held in
    rw (kept, c.in_err-count.ensures.err) refl

pub returns-in_err-count-clause-front : goal.returns-in_err-count-clause-front
returns-in_err-count-clause-front g c =
    let held = ap (λ (v : WindowState). v.held) c.self.view_is in
    let w = c.self.inside in
    let front = rw c.deref_mut.ensures.value at c.in_err-count.ensures.front in
    let kept = held-kept w.bytes.len w.start w.end c.take_to.new.bytes w.bytes.items c.args.self.now.held (omega arith) (omega arith) front held in
    rw kept (take_all (length c.args.self.now.held) c.args.self.now.held (omega arith))

pub returns-in_err-count-clause-err : goal.returns-in_err-count-clause-err
returns-in_err-count-clause-err g c =
    let held = ap (λ (v : WindowState). v.held) c.self.view_is in
    let w = c.self.inside in
    let front = rw c.deref_mut.ensures.value at c.in_err-count.ensures.front in
    let kept = held-kept w.bytes.len w.start w.end c.take_to.new.bytes w.bytes.items c.args.self.now.held (omega arith) (omega arith) front held in
    let p = err_from_is_err_and c.from_residual.result c.from_residual.ensures.1 in
    rw p.1 kept

pub returns-clause-ahead : goal.returns-clause-ahead
returns-clause-ahead g c =
    let held = ap (λ (v : WindowState). v.held) c.self.view_is in
    let w = c.self.inside in
    let front = rw c.deref_mut.ensures.value at c.in_ok-count.ensures.front in
    let more = held-more w.bytes.len w.start w.end c.in_ok-count.count c.take_to.new.bytes w.bytes.items c.args.self.now.held (omega arith) (omega arith) front held (omega arith) (omega (arith, c.in_ok-count.ensures.room, c.deref_mut.ensures.len)) in
    ahead-more _ _ _ _ _ more c.in_ok-count.ensures.bytes

pub returns-clause-front : goal.returns-clause-front
returns-clause-front g c =
    let held = ap (λ (v : WindowState). v.held) c.self.view_is in
    let w = c.self.inside in
    let front = rw c.deref_mut.ensures.value at c.in_ok-count.ensures.front in
    let more = held-more w.bytes.len w.start w.end c.in_ok-count.count c.take_to.new.bytes w.bytes.items c.args.self.now.held (omega arith) (omega arith) front held (omega arith) (omega (arith, c.in_ok-count.ensures.room, c.deref_mut.ensures.len)) in
    front-more _ _ _ more
