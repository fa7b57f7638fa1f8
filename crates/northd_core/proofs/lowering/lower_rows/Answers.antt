use Rattle.std.specs.Prelude.{◌≡◌, ◌+◌, List, ◌∷◌, drop, flat_map}
use Rattle.std.specs.List.{AllByRecursion}
use Rattle.std.proofs.Common.{sym, ap, subst, ◌∙◌}
use Rattle.std.proofs.lemmas.List.{drop_more}
use Rattle.flow_table.specs.declared.flow.Flow.{Flow}
use Rattle.logical_flows.specs.declared.flow.LFlow.{LFlow}
use Rattle.flow_lowering.specs.LoweredFlows.{lowered_flows}
use Rattle.northd_core.specs.Lowering.{IsLowerable}
use Rattle.northd_core.proofs.Counted.{more_counted, one_counted}
use Rattle.northd_core.proofs.Joined.{one_more_list}
use Rattle.northd_core.proofs.lowering.lower_rows.Goals as goal

pub rows-preserved : goal.rows-preserved
rows-preserved g c =
    let lowered : LFlow → List Flow = λ row. lowered_flows c.args.keys.now c.args.sets.now row c.args.datapath.now in
    let before : List LFlow = drop c.rows.row-index c.args.rows.now in
    let rest : List LFlow = drop (c.rows.row-index + 1) c.args.rows.now in
    let row : LFlow = c.row-item.result in
    let left : before ≡ row ∷ rest = drop_more c.args.rows.now c.rows.row-index row c.rows-test.true ∙ ap (λ (x : LFlow). x ∷ rest) (sym c.row-item.is) in
    record {
      flows = one_more_list lowered c.rows.flows c.lower.new.out row rest before (flat_map lowered c.args.rows.now) c.in_ok-lower.ensures.lowered left c.rows.invariant.flows;
      can = (subst (λ rs. AllByRecursion (IsLowerable c.args.keys.now c.args.sets.now c.args.datapath.now) rs) left c.rows.invariant.can).1;
      steps = more_counted c.args.steps.now c.rows.steps c.lower.new.steps c.rows.invariant.steps (one_counted c.rows.steps c.lower.new.steps c.lower.ensures.steps);
    }

pub returns-in_err-lower-clause-steps : goal.returns-in_err-lower-clause-steps
returns-in_err-lower-clause-steps g c = more_counted c.args.steps.now c.rows.steps c.lower.new.steps c.rows.invariant.steps (one_counted c.rows.steps c.lower.new.steps c.lower.ensures.steps)
