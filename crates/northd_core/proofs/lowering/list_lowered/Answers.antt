use Rattle.std.specs.Prelude.{◌≡◌, ◌++◌, ◌∷◌, []}
use Rattle.std.proofs.Common.{ap, subst, ◌∙◌}
use Rattle.northd_core.specs.Listing.{with_each}
use Rattle.northd_core.specs.Lowering.{Lowering, lowered_of}
use Rattle.northd_core.proofs.Counted.{more_counted}
use Rattle.northd_core.proofs.Joined.{one_more}
use Rattle.northd_core.proofs.lowering.list_lowered.Goals as goal

pub units-preserved : goal.units-preserved
units-preserved g c =
    let l : Lowering = record { net = c.args.records.now; keys = c.args.keys.now } in
    let unit = c.in-Some.unit.now in
    let next = c.next.new.self in
    let all = c.args.units.now.keys in
    record {
      all = ap (λ es. es ++ with_each (lowered_of l) next) (c.in_ok-push.ensures.ok ∙ ap (λ flows. c.units.all ++ (unit, flows) ∷ []) c.in_ok-flows.ensures.flows)
          ∙ one_more c.units.all (unit, lowered_of l unit) (with_each (lowered_of l) next) (with_each (lowered_of l) all)
          (subst (λ us. c.units.all ++ with_each (lowered_of l) us ≡ with_each (lowered_of l) all) c.in-Some.ensures.steps c.units.invariant.all);
      steps = more_counted c.args.steps.now c.units.steps c.lower_unit.new.steps c.units.invariant.steps c.lower_unit.ensures.steps;
    }

pub returns-in_err-flows-clause-steps : goal.returns-in_err-flows-clause-steps
returns-in_err-flows-clause-steps g c = more_counted c.args.steps.now c.units.steps c.lower_unit.new.steps c.units.invariant.steps c.lower_unit.ensures.steps

pub returns-in_err-push-clause-steps : goal.returns-in_err-push-clause-steps
returns-in_err-push-clause-steps g c = more_counted c.args.steps.now c.units.steps c.lower_unit.new.steps c.units.invariant.steps c.lower_unit.ensures.steps
