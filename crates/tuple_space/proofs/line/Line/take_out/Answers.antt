use Rattle.std.proofs.Common.{◌≡◌, rules, not, filter, sym, ap, ◌∙◌}
use Rattle.std.proofs.lemmas.Fn.{filter_same}
use Rattle.flow_table.specs.contracts.flow.FlowPartialEq.TheImpl.{ghosts}
use Rattle.tuple_space.specs.Lines.{Flows, in_line}
use Rattle.tuple_space.proofs.LineLaws.{line_without, line_with}
use Rattle.tuple_space.proofs.line.Line.take_out.Goals as goal
use Rattle.tuple_space.proofs.line.Line.take_out.Goals.{in-Some-1, in-None-1}

pub returns-then-is_first-clause-flows : goal.returns-then-is_first-clause-flows
returns-then-is_first-clause-flows c =
    let left : c.retain.new.self.items ≡ filter (λ z. not (ghosts.eq z c.args.flow.now)) c.self.inside.rest.items = filter_same _ _ _ (λ x b f' k. search rules) _ _ c.retain.ensures.filtered in
    let same : in_line c.take_first.result c.take_first.new.rest.items ≡ filter (λ z. not (ghosts.eq z c.args.flow.now)) c.args.self.now.flows =
    sym c.take_first.ensures.items ∙ left
    ∙ sym (line_without (λ z. ghosts.eq z c.args.flow.now) c.self.inside.first c.self.inside.rest.items (sym c.is_first.ensures ∙ c.if-is_first.true))
    ∙ ap (λ (l : Flows). filter (λ z. not (ghosts.eq z c.args.flow.now)) l.flows) c.self.view_is
    in
    elim c.match-self-take_first.branch [ in-Some-1 w ↦ ap (λ (l : Flows). l.flows) w.self-is ∙ same | in-None-1 w ↦ ap (λ (l : Flows). l.flows) w.self-is ∙ same ]

pub returns-else-is_first-clause-flows : goal.returns-else-is_first-clause-flows
returns-else-is_first-clause-flows c =
    let left : c.retain.new.self.items ≡ filter (λ z. not (ghosts.eq z c.args.flow.now)) c.self.inside.rest.items = filter_same _ _ _ (λ x b f' k. search rules) _ _ c.retain.ensures.filtered in
    ap (in_line c.self.inside.first) left
    ∙ sym (line_with (λ z. ghosts.eq z c.args.flow.now) c.self.inside.first c.self.inside.rest.items (sym c.is_first.ensures ∙ c.if-is_first.false))
    ∙ ap (λ (l : Flows). filter (λ z. not (ghosts.eq z c.args.flow.now)) l.flows) c.self.view_is
