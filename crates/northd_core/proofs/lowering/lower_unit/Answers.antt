use Rattle.std.specs.List.{AllByRecursion}
use Rattle.std.proofs.Common.{sym, subst, ◌∙◌}
use Rattle.stage_rows.specs.Units.{rows_of}
use Rattle.northd_core.specs.Lowering.{IsLowerable}
use Rattle.northd_core.proofs.Counted.{more_counted}
use Rattle.northd_core.proofs.LoweredRows.{can_be_lowered}
use Rattle.northd_core.proofs.lowering.lower_unit.Goals as goal

pub lower_rows-requires : goal.lower_rows-requires
lower_rows-requires g c =
    let net = c.args.records.now in
    let keys = c.args.keys.now in
    let unit = c.args.unit.now in
    let d = c.in-Some.datapath in
    let all = can_be_lowered (record { net = net; keys = keys }) c.requires.can c.rows_can_be_lowered.ensures c.rows_are_narrow.ensures c.named_ports_are_live.ensures unit d (sym c.in-Some.ensures) in
    subst (λ rows. AllByRecursion (IsLowerable keys c.args.sets.now d) rows) (sym (c.as_slice.ensures ∙ c.in_ok-rows.ensures.rows))
    (subst (λ sets. AllByRecursion (IsLowerable keys sets d) (rows_of net unit)) (sym c.requires.sets) all)

pub returns-in-Some-clause-steps : goal.returns-in-Some-clause-steps
returns-in-Some-clause-steps g c = more_counted c.args.steps.now c.unit_rows.new.steps c.lower_rows.new.steps c.unit_rows.ensures.steps c.lower_rows.ensures.steps
