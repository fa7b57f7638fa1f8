-- The rows of NAT.
use Rattle.std.specs.Prelude.{◌+◌, List, [], ◌∷◌}
use Rattle.flow_table.specs.declared.flow.Cause.TheVariants as cause
use Rattle.match_language.specs.declared.field.Field.TheVariants as f
use Rattle.nb_records.specs.declared.router.Nat.{Nat}
use Rattle.logical_flows.specs.declared.action.Action.TheVariants as a
use Rattle.flow_table.specs.declared.flow.ZoneOf.TheVariants as zone
use Rattle.logical_flows.specs.declared.flow.LFlow.{LFlow}
use Rattle.logical_flows.specs.declared.stage.Stage.TheVariants as stage
use Rattle.stage_rows.specs.Rows.{ip_is, ip_in, is_new, is_invalid, tracked_row, go_on}
use Rattle.stage_rows.specs.declared.priorities.TheConstants.{DNAT_PRIORITY, SNAT_PRIORITY}

abbrev pub nat_dnat : Nat → List LFlow
nat_dnat r = tracked_row stage.RouterDnat DNAT_PRIORITY (is_new ∷ []) (ip_is f.Ip4Dst r.external_ip ∷ []) (a.Dnat zone.Dnat r.logical_ip.addr ∷ go_on stage.RouterDnat ∷ []) ∷ []

-- the longer prefix of sources is taken
abbrev pub nat_snat : Nat → List LFlow
nat_snat r =
    tracked_row stage.RouterSnat (SNAT_PRIORITY + r.logical_ip.len) (is_new ∷ []) (ip_in f.Ip4Src r.logical_ip ∷ []) (a.Snat zone.Snat r.external_ip ∷ go_on stage.RouterSnat ∷ [])
    ∷ tracked_row stage.RouterSnat (SNAT_PRIORITY + r.logical_ip.len) (is_invalid ∷ []) (ip_in f.Ip4Src r.logical_ip ∷ []) (a.Drop cause.Invalid ∷ [])
    ∷ []
