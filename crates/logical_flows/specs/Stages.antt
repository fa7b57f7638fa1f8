-- The names and the tables of pipelines and stages.
use Rattle.std.specs.Prelude.{ℕ, if◌then◌else◌, nat_lt, List, codes}
use Rattle.ovn_base.specs.declared.stages.TheConstants.{ADMIT_TABLE, PORT_SECURITY_TABLE, TRACK_TABLE, ACL_TABLE, STATE_TABLE, ARP_TABLE, LOOKUP_TABLE, EGRESS_TRACK_TABLE, EGRESS_ACL_TABLE, EGRESS_STATE_TABLE, EGRESS_SECURITY_TABLE, ROUTER_INPUT_TABLE, ROUTER_UNDO_TABLE, ROUTER_DNAT_TABLE, ROUTER_OWN_TABLE, ROUTER_ROUTE_TABLE, ROUTER_SNAT_TABLE, REMOTE_TABLE}
use Rattle.logical_flows.specs.declared.stage.Pipeline.{Pipeline}
use Rattle.logical_flows.specs.declared.stage.Pipeline.TheVariants.{Ingress, Egress}
use Rattle.logical_flows.specs.declared.stage.Stage.{Stage}
use Rattle.logical_flows.specs.declared.stage.Stage.TheVariants as stage

abbrev pub pipeline_name : Pipeline → List ℕ
pipeline_name Ingress = codes "ingress"
pipeline_name Egress = codes "egress"

abbrev pub stage_name : Stage → List ℕ
stage_name stage.SwitchAdmit = codes "s_admit"
stage_name stage.SwitchPortSecurity = codes "s_port_sec"
stage_name stage.SwitchTrack = codes "s_track"
stage_name stage.SwitchAclIn = codes "s_acl_in"
stage_name stage.SwitchStateIn = codes "s_state_in"
stage_name stage.SwitchArp = codes "s_arp"
stage_name stage.SwitchLookup = codes "s_lookup"
stage_name stage.SwitchTrackOut = codes "s_track_out"
stage_name stage.SwitchAclOut = codes "s_acl_out"
stage_name stage.SwitchStateOut = codes "s_state_out"
stage_name stage.SwitchSecurityOut = codes "s_sec_out"
stage_name stage.RouterAdmit = codes "r_admit"
stage_name stage.RouterInput = codes "r_input"
stage_name stage.RouterUndo = codes "r_undo"
stage_name stage.RouterDnat = codes "r_dnat"
stage_name stage.RouterOwn = codes "r_own"
stage_name stage.RouterRoute = codes "r_route"
stage_name stage.RouterNeighbour = codes "r_neighbour"
stage_name stage.RouterFind = codes "r_find"
stage_name stage.RouterSnat = codes "r_snat"

-- the number of the stage's table
abbrev pub stage_table : Stage → ℕ
stage_table stage.SwitchAdmit = ADMIT_TABLE
stage_table stage.SwitchPortSecurity = PORT_SECURITY_TABLE
stage_table stage.SwitchTrack = TRACK_TABLE
stage_table stage.SwitchAclIn = ACL_TABLE
stage_table stage.SwitchStateIn = STATE_TABLE
stage_table stage.SwitchArp = ARP_TABLE
stage_table stage.SwitchLookup = LOOKUP_TABLE
stage_table stage.SwitchTrackOut = EGRESS_TRACK_TABLE
stage_table stage.SwitchAclOut = EGRESS_ACL_TABLE
stage_table stage.SwitchStateOut = EGRESS_STATE_TABLE
stage_table stage.SwitchSecurityOut = EGRESS_SECURITY_TABLE
stage_table stage.RouterAdmit = ADMIT_TABLE
stage_table stage.RouterInput = ROUTER_INPUT_TABLE
stage_table stage.RouterUndo = ROUTER_UNDO_TABLE
stage_table stage.RouterDnat = ROUTER_DNAT_TABLE
stage_table stage.RouterOwn = ROUTER_OWN_TABLE
stage_table stage.RouterRoute = ROUTER_ROUTE_TABLE
stage_table stage.RouterNeighbour = LOOKUP_TABLE
stage_table stage.RouterFind = EGRESS_TRACK_TABLE
stage_table stage.RouterSnat = ROUTER_SNAT_TABLE

-- the pipeline on which the stage lies: the tables before those of frames are of ingress
abbrev pub stage_pipeline : Stage → Pipeline
stage_pipeline s = if nat_lt (stage_table s) REMOTE_TABLE then Ingress else Egress
