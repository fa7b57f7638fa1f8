use Rattle.std.proofs.Common.{[], ◌∷◌, ◌++◌, reverse, sym, ap, ◌∙◌, subst, append-nil}
use Rattle.std.specs.Prelude.{List, Option, Some, None, cond}
use Rattle.std.proofs.lemmas.Result.{err_from_is_err_and}
use Rattle.std.specs.List.{AllByRecursion}
use Rattle.flow_table.specs.declared.flow.Flow.{Flow}
use Rattle.switch_engine.specs.declared.carried.Carried.{Carried}
use Rattle.switch_engine.specs.Advance.{Brings, IsCarriedInRange}
use Rattle.switch_engine.specs.Proper.{Sets}
use Rattle.switch_engine.proofs.Settings.{proper_sets}
use Rattle.switch_engine.proofs.WalkSteps.{advanced, stacked}
use Rattle.switch_engine.proofs.Fronts.{keeps_steps, keeps_both}
use Rattle.switch_engine.proofs.engine.advance.Goals as goal

pub returns-in_err-end_unmatched-clause-err : goal.returns-in_err-end_unmatched-clause-err
returns-in_err-end_unmatched-clause-err g c =
    let failed = err_from_is_err_and c.from_residual.result c.from_residual.ensures.1 in
    rw failed.1 (keeps_steps c.args.out.now c.end_unmatched.new.effects c.in_err-end_unmatched.ensures.err)

pub returns-in_err-add_step-clause-err : goal.returns-in_err-add_step-clause-err
returns-in_err-add_step-clause-err g c =
    let failed = err_from_is_err_and c.from_residual-in_err-add_step.result c.from_residual-in_err-add_step.ensures.1 in
    rw failed.1 (keeps_both c.args.out.now c.add_step.new.steps [] c.args.out.now.effects (c.in_err-add_step.ensures.err ∙ sym (append-nil c.args.out.now.walk)) (record { more = []; all_effects = sym (append-nil c.args.out.now.effects) }))

pub run_ops-requires-clause-sets : goal.run_ops-requires-clause-sets
run_ops-requires-clause-sets g c = subst (AllByRecursion Sets) (sym (c.as_slice.ensures ∙ ap (λ (f : Flow). f.ops) c.get.ensures)) (proper_sets c.in-Some.flow.now (c.requires.proper c.in-Some.flow.now c.in-Some.ensures.found.held))

pub run_ops-requires-clause-in_range : goal.run_ops-requires-clause-in_range
run_ops-requires-clause-in_range g c = (c.requires.in_range, subst (AllByRecursion IsCarriedInRange) (sym c.new-made.ensures) tt)

pub returns-clause-ok : goal.returns-clause-ok
returns-clause-ok g c =
    let itself : Option Carried = cond c.in_ok-goes_on.goes_on (Some c.run_ops.new.copy) None in
    advanced c.in-Some.flow.now c.in-Some.ensures.found c.as_slice.result.now (c.as_slice.ensures ∙ ap (λ (f : Flow). f.ops) c.get.ensures) c.args.out.now c.add_step.new.steps c.run_ops.new.effects itself c.run_ops.new.made
    (subst (λ (made : List Carried). Brings c.args.entry.now c.args.now c.as_slice.result.now c.args.copy.now itself c.args.zones.now.entries c.run_ops.new.zones.entries c.args.out.now.effects c.run_ops.new.effects made c.run_ops.new.made)
    c.new-made.ensures c.in_ok-goes_on.ensures.brings)
    (reverse c.args.pending.now) (cond c.in_ok-goes_on.goes_on (c.run_ops.new.copy ∷ []) [] ++ reverse c.put_all.new.pending)
    (stacked c.args.pending.now c.put_all.new.pending c.run_ops.new.made c.in_ok-goes_on.goes_on c.run_ops.new.copy c.in_ok-put_all.ensures)
    c.in_ok-add_step.ensures.ok
