use Rattle.std.proofs.Common.{◌≡◌, rules, not, filter}
use Rattle.std.proofs.lemmas.Fn.{filter_same}
use Rattle.std.specs.List.{list_any}
use Rattle.flow_table.specs.contracts.flow.FlowPartialEq.TheImpl.{ghosts}
use Rattle.flow_table.proofs.OnceLaws.{kept_outside, once_filter}
use Rattle.flow_table.proofs.flow_list.take_out.Goals as goal

pub returns-clause-kept : goal.returns-clause-kept
returns-clause-kept c = λ f.
    let left : c.retain.new.self.items ≡ filter (λ z. not (list_any (λ y. ghosts.eq y z) c.args.gone.now)) c.args.flows.now.items = filter_same _ _ _ (λ x b f' k. search rules) _ _ c.retain.ensures.filtered in
    rw left (kept_outside ghosts.eq c.exact_flow.ensures c.args.gone.now c.args.flows.now.items f)

pub returns-clause-once : goal.returns-clause-once
returns-clause-once c = λ h.
    let left : c.retain.new.self.items ≡ filter (λ z. not (list_any (λ y. ghosts.eq y z) c.args.gone.now)) c.args.flows.now.items = filter_same _ _ _ (λ x b f' k. search rules) _ _ c.retain.ensures.filtered in
    rw left (once_filter (λ z. not (list_any (λ y. ghosts.eq y z) c.args.gone.now)) c.args.flows.now.items h)
