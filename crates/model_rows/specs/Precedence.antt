-- Rows of rules that come before others. Their lines are those of a second reading of the rules, made apart from these definitions.
use Rattle.std.specs.Prelude.{List, [], ◌∷◌, ◌++◌, codes}
use Rattle.flow_table.specs.declared.flow.Cause.TheVariants as cause
use Rattle.match_language.specs.declared.field.Direction.TheVariants as way
use Rattle.nb_records.specs.declared.rule.RuleAction.TheVariants as action
use Rattle.model_rows.specs.Frames.{hex}
use Rattle.model_rows.specs.Play.{RowEvent, edited, out, drop, to_one}
use Rattle.model_rows.specs.Records.{add_rule, add_rule_at}
use Rattle.model_rows.specs.Rules.{is_88b5}
use Rattle.model_rows.specs.Switch.{two_ports, entered, arrived, there, f}

-- a rule that drops, of a lower priority than one that allows
abbrev pub lower_drop_rules : List RowEvent
lower_drop_rules = two_ports
    ++ edited (add_rule_at 900 (codes "r1") (codes "s0") way.FromLport is_88b5 action.Drop ∷ [])
    ∷ edited (add_rule (codes "r2") (codes "s0") way.FromLport is_88b5 action.Allow ∷ [])
    ∷ []

abbrev pub lower_drop : List RowEvent
lower_drop = lower_drop_rules
    ++ entered (codes "p1") f (there (to_one (codes "p2")) f ∷ [])
    ∷ arrived 1 (out (codes "p2") (hex f) ∷ [])
    ∷ []

-- a rule on what goes to ports matches at the port of exit alone
abbrev pub drop_at_exit_rules : List RowEvent
drop_at_exit_rules = two_ports ++ edited (add_rule (codes "r1") (codes "s0") way.ToLport is_88b5 action.Drop ∷ []) ∷ []

abbrev pub drop_at_exit : List RowEvent
drop_at_exit = drop_at_exit_rules
    ++ entered (codes "p1") f (there (to_one (codes "p2")) f ∷ [])
    ∷ arrived 1 (drop (codes "s0") (codes "p2") cause.Acl ∷ [])
    ∷ []

-- of equal priority, to reject comes before to allow without tracking
abbrev pub reject_rules : List RowEvent
reject_rules = two_ports
    ++ edited (add_rule (codes "r1") (codes "s0") way.FromLport is_88b5 action.AllowStateless ∷ [])
    ∷ edited (add_rule (codes "r2") (codes "s0") way.FromLport is_88b5 action.Reject ∷ [])
    ∷ []

abbrev pub reject_first : List RowEvent
reject_first = reject_rules ++ entered (codes "p1") f (drop (codes "s0") (codes "p1") cause.Reject ∷ []) ∷ []
