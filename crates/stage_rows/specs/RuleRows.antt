-- The rows of rules.
use Rattle.std.specs.Prelude.{ℕ, ◌+◌, [], ◌∷◌}
use Rattle.inet_packet.specs.declared.regs.Reg.TheVariants as reg
use Rattle.match_language.specs.declared.field.Direction.{Direction}
use Rattle.match_language.specs.declared.field.Direction.TheVariants.{FromLport, ToLport}
use Rattle.nb_records.specs.declared.rule.Acl.{Acl}
use Rattle.nb_records.specs.declared.rule.RuleAction.{RuleAction}
use Rattle.nb_records.specs.declared.rule.RuleAction.TheVariants as action
use Rattle.logical_flows.specs.declared.action.Action.TheVariants as a
use Rattle.logical_flows.specs.declared.flow.LFlow.{LFlow}
use Rattle.logical_flows.specs.declared.stage.Stage.{Stage}
use Rattle.logical_flows.specs.declared.stage.Stage.TheVariants as stage
use Rattle.stage_rows.specs.Rows.{ranked_row, go_on}
use Rattle.stage_rows.specs.declared.priorities.TheConstants.{RULE_PRIORITY}

-- of equal priority, the row of the greatest rank is taken
abbrev pub rule_rank : RuleAction → ℕ
rule_rank action.Drop = 6
rule_rank action.Reject = 5
rule_rank action.AllowStateless = 4
rule_rank action.AllowRelated = 3
rule_rank action.Allow = 2

-- the number of the verdict in its register
abbrev pub verdict_number : RuleAction → ℕ
verdict_number action.Allow = 1
verdict_number action.AllowRelated = 2
verdict_number action.AllowStateless = 3
verdict_number action.Reject = 4
verdict_number action.Drop = 5

abbrev pub rule_stage : Direction → Stage
rule_stage FromLport = stage.SwitchAclIn
rule_stage ToLport = stage.SwitchAclOut

abbrev pub rule_row : Acl → LFlow
rule_row r = ranked_row (rule_stage r.direction) (RULE_PRIORITY + r.priority) (rule_rank r.action) [] r.matching (a.Set reg.Verdict (verdict_number r.action) ∷ go_on (rule_stage r.direction) ∷ [])
