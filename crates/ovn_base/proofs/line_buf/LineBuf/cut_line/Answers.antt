use Rattle.std.proofs.Common.{◌≡◌, ◌+◌, drop, take, arith, ap, refl, ◌∙◌}
use Rattle.ovn_base.specs.lines.Reading.{Reading}
use Rattle.ovn_base.specs.lines.WindowState.{WindowState}
use Rattle.ovn_base.proofs.CutLaws.{searched-none, searched-some, cut-ended}
use Rattle.ovn_base.proofs.line_buf.LineBuf.cut_line.Goals as goal

pub returns-in_default-clause-cut : goal.returns-in_default-clause-cut
returns-in_default-clause-cut c =
    let seen : c.held.result.now ≡ c.args.self.now.held = c.held.ensures ∙ ap (λ (v : Reading). v.held) c.self.view_is in
    let found = rw seen at c.in_default.ensures in
    (refl, searched-none c.args.self.now.held c.args.scanned c.requires.no_feed found)

pub returns-clause-cut : goal.returns-clause-cut
returns-clause-cut c =
    let held = ap (λ (v : Reading). v.held) c.self.view_is in
    let given = ap (λ (v : Reading). v.given) c.self.view_is in
    let seen : c.held.result.now ≡ c.args.self.now.held = c.held.ensures ∙ held in
    let found = rw seen at c.in-Some.ensures in
    let at = c.args.scanned + c.in-Some.at in
    let first = searched-some c.args.self.now.held c.args.scanned c.in-Some.at c.requires.no_feed found in
    let text = ap (λ (v : WindowState). v.text) c.cut.ensures ∙ ap (take at) held in
    let rest = ap (λ (v : WindowState). v.held) c.cut.ensures ∙ ap (drop (at + 1)) held in
    cut-ended c.args.self.now _ at first text rest (omega arith) (ap (λ (v : Reading). v.ended) c.self.view_is) (ap (λ (v : Reading). v.faulted) c.self.view_is)
