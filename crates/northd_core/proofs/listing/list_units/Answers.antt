use Rattle.std.specs.Prelude.{◌≡◌, ◌++◌, ◌∷◌, [], map}
use Rattle.std.proofs.Common.{ap, subst, ◌∙◌}
use Rattle.logical_flows.specs.declared.flow.LFlow.{LFlow}
use Rattle.ovn_base.specs.declared.name.Name.{Name}
use Rattle.stage_rows.specs.Rows.{on_some}
use Rattle.stage_rows.specs.Units.{pairs_of_unit, rows_of}
use Rattle.northd_core.specs.Listing.{with_each}
use Rattle.northd_core.proofs.Counted.{more_counted}
use Rattle.northd_core.proofs.Joined.{one_more}
use Rattle.northd_core.proofs.listing.list_units.Goals as goal

pub units-preserved : goal.units-preserved
units-preserved g c =
    let net = c.args.records.now in
    let unit = c.in-Some.unit.now in
    let next = c.next.new.self in
    let all = c.args.units.now.keys in
    let rows_are = c.in_ok-rows.ensures.rows in
    let pairs_are = c.in_ok-paired.ensures ∙ (λ i. on_some (c.unit_datapath-datapath.ensures i) (λ (d : Name). map (λ (r : LFlow). (r, d)) ((c.as_slice.ensures ∙ rows_are) i))) in (
      ap (λ l. l ++ with_each (rows_of net) next) (c.in_ok-push-2.ensures.ok ∙ ap (λ rows. c.units.flows ++ (unit, rows) ∷ []) rows_are)
          ∙ one_more c.units.flows (unit, rows_of net unit) (with_each (rows_of net) next) (with_each (rows_of net) all)
          (subst (λ us. c.units.flows ++ with_each (rows_of net) us ≡ with_each (rows_of net) all) c.in-Some.ensures.steps c.units.invariant.0),
      ap (λ l. l ++ with_each (pairs_of_unit net) next) (c.in_ok-push.ensures.ok ∙ ap (λ pairs. c.units.pairs ++ (unit, pairs) ∷ []) pairs_are)
          ∙ one_more c.units.pairs (unit, pairs_of_unit net unit) (with_each (pairs_of_unit net) next) (with_each (pairs_of_unit net) all)
          (subst (λ us. c.units.pairs ++ with_each (pairs_of_unit net) us ≡ with_each (pairs_of_unit net) all) c.in-Some.ensures.steps c.units.invariant.1),
      more_counted c.args.steps.now c.units.steps c.unit_rows.new.steps c.units.invariant.2 c.unit_rows.ensures.steps,
    )

pub returns-in_err-rows-clause-steps : goal.returns-in_err-rows-clause-steps
returns-in_err-rows-clause-steps g c = more_counted c.args.steps.now c.units.steps c.unit_rows.new.steps c.units.invariant.2 c.unit_rows.ensures.steps

pub returns-in_err-paired-clause-steps : goal.returns-in_err-paired-clause-steps
returns-in_err-paired-clause-steps g c = more_counted c.args.steps.now c.units.steps c.unit_rows.new.steps c.units.invariant.2 c.unit_rows.ensures.steps

pub returns-in_err-push-clause-steps : goal.returns-in_err-push-clause-steps
returns-in_err-push-clause-steps g c = more_counted c.args.steps.now c.units.steps c.unit_rows.new.steps c.units.invariant.2 c.unit_rows.ensures.steps

pub returns-in_err-push-2-clause-steps : goal.returns-in_err-push-2-clause-steps
returns-in_err-push-2-clause-steps g c = more_counted c.args.steps.now c.units.steps c.unit_rows.new.steps c.units.invariant.2 c.unit_rows.ensures.steps
