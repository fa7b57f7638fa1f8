-- The rows of an entry of a port's security, in groups.
use Rattle.std.specs.Prelude.{List, [], ◌∷◌, ◌++◌, map}
use Rattle.flow_table.specs.declared.flow.Cause.TheVariants as cause
use Rattle.match_language.specs.declared.expr.Expr.{Expr}
use Rattle.match_language.specs.declared.expr.Expr.TheVariants as e
use Rattle.match_language.specs.declared.field.Predicate.TheVariants as p
use Rattle.nb_records.specs.declared.switch.SecurityEntry.{SecurityEntry}
use Rattle.nb_records.specs.declared.switch.SwitchPort.{SwitchPort}
use Rattle.logical_flows.specs.declared.flow.LFlow.{LFlow}
use Rattle.logical_flows.specs.declared.stage.Stage.TheVariants as stage
use Rattle.stage_rows.specs.Rows.{pass_row, drop_row}
use Rattle.stage_rows.specs.SwitchRows.{sent_by, may_send, got_by, may_get}
use Rattle.stage_rows.specs.declared.priorities.TheConstants.{GOT_BY_PRIORITY, MAY_GET_PRIORITY, MAY_SEND_PRIORITY, OTHER_SOURCE_PRIORITY, OTHER_TARGET_PRIORITY, SENT_BY_PRIORITY}

-- ---- s_port_sec

-- lets through what the entry's Ethernet address sends and of which the terms hold
abbrev pub send_row : SwitchPort → SecurityEntry → List Expr → LFlow
send_row q x terms = pass_row stage.SwitchPortSecurity MAY_SEND_PRIORITY (sent_by q x ++ terms)

-- what the entry lets it send
abbrev pub send_rows : SwitchPort → SecurityEntry → List LFlow
send_rows q x = map (send_row q x) (may_send x)

-- and what else comes from it
abbrev pub other_send_rows : SwitchPort → SecurityEntry → List LFlow
other_send_rows q x =
    drop_row stage.SwitchPortSecurity OTHER_SOURCE_PRIORITY (sent_by q x ++ e.Any (e.Is p.Ip4 ∷ e.Is p.Arp ∷ []) ∷ []) cause.PortSecurity
    ∷ pass_row stage.SwitchPortSecurity SENT_BY_PRIORITY (sent_by q x)
    ∷ []

-- ---- s_sec_out

-- lets through what goes to the entry's Ethernet address and of which the terms hold
abbrev pub get_row : SwitchPort → SecurityEntry → List Expr → LFlow
get_row q x terms = pass_row stage.SwitchSecurityOut MAY_GET_PRIORITY (got_by q x ++ terms)

-- what the entry lets it get
abbrev pub get_rows : SwitchPort → SecurityEntry → List LFlow
get_rows q x = map (get_row q x) (may_get x)

-- and what else goes to it
abbrev pub other_get_rows : SwitchPort → SecurityEntry → List LFlow
other_get_rows q x =
    drop_row stage.SwitchSecurityOut OTHER_TARGET_PRIORITY (got_by q x ++ e.Is p.Ip4 ∷ []) cause.PortSecurity
    ∷ pass_row stage.SwitchSecurityOut GOT_BY_PRIORITY (got_by q x)
    ∷ []
