use Rattle.std.proofs.Common.{◌+◌, ◌-◌, ◌≤◌, ◌<◌, length, drop, arith, length-take, slice_range, ap}
use Rattle.ovn_base.specs.lines.WindowState.{WindowState}
use Rattle.ovn_base.proofs.WindowLaws.{range-front, range-rest, cut-record}
use Rattle.ovn_base.proofs.window.Window.cut.Goals as goal

pub returns : goal.returns
returns c =
    let w = c.self.inside in
    let held = ap (λ (v : WindowState). v.held) c.self.view_is in
    let within : c.args.at < length (slice_range w.bytes.items w.start w.end) = rw held c.requires in
    let inside : w.start + (c.args.at + 1) ≤ w.end = omega (arith, length-take (w.end - w.start) (drop w.start w.bytes.items)) in
    let front = range-front w.bytes.items w.start w.end c.args.at (omega arith) in
    let rest = range-rest w.bytes.items w.start w.end (c.args.at + 1) inside in
    cut-record _ _ _ _ c.args.at c.self.view_is front rest
