-- The rows of r_input that a router has, in groups.
use Rattle.std.specs.Prelude.{List, [], ◌∷◌}
use Rattle.flow_table.specs.declared.flow.Cause.TheVariants as cause
use Rattle.match_language.specs.declared.expr.Expr.TheVariants as e
use Rattle.match_language.specs.declared.field.Field.TheVariants as f
use Rattle.match_language.specs.declared.field.Predicate.TheVariants as p
use Rattle.logical_flows.specs.declared.flow.LFlow.{LFlow}
use Rattle.logical_flows.specs.declared.stage.Stage.TheVariants as stage
use Rattle.stage_rows.specs.RouterRows.{from_or_to_unroutable}
use Rattle.stage_rows.specs.Rows.{field_among, drop_row}
use Rattle.stage_rows.specs.declared.priorities.TheConstants.{OTHER_ARP_PRIORITY, SPENT_PRIORITY, UNROUTABLE_PRIORITY}

-- what no router passes on
abbrev pub dropped_rows : List LFlow
dropped_rows =
    drop_row stage.RouterInput OTHER_ARP_PRIORITY (e.Is p.Arp ∷ []) cause.Arp
    ∷ drop_row stage.RouterInput UNROUTABLE_PRIORITY (from_or_to_unroutable ∷ []) cause.BadIp
    ∷ drop_row stage.RouterInput SPENT_PRIORITY (field_among f.IpTtl (0 ∷ 1 ∷ []) ∷ []) cause.Ttl
    ∷ []
