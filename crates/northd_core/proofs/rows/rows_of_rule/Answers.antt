use Rattle.std.proofs.Common.{sym, ◌∙◌}
use Rattle.northd_core.proofs.RowUnits.{on_rule}
use Rattle.northd_core.proofs.rows.rows_of_rule.Goals as goal

pub translate-requires : goal.translate-requires
translate-requires g c = on_rule c.args.records.now c.requires.valid c.args.rule.now c.args.switch.now (sym c.is_on.ensures ∙ c.if-is_on.true)
