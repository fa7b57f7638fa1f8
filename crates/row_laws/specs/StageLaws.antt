-- The law of a stage: the row that is taken does what the network says.
use Rattle.std.specs.Prelude.{◌≡◌, List, IsSome}
use Rattle.ovn_base.specs.declared.name.Name.{Name}
use Rattle.ovn_base.specs.names.ByName.{at}
use Rattle.inet_packet.specs.declared.regs.Regs.{Regs}
use Rattle.flow_table.specs.Matching.{IsBest, NoneMatches}
use Rattle.flow_table.specs.declared.flow.Flow.{Flow}
use Rattle.match_cubes.specs.declared.sets.Sets.{Sets}
use Rattle.nb_records.specs.Network.{Network}
use Rattle.nb_rules.specs.Valid.{IsValid}
use Rattle.logical_flows.specs.Stages.{stage_table, stage_pipeline}
use Rattle.logical_flows.specs.declared.flow.LFlow.{LFlow}
use Rattle.logical_flows.specs.declared.stage.Stage.{Stage}
use Rattle.logical_flows.specs.declared.stage.Stage.TheVariants as stage
use Rattle.tunnel_keys.specs.Keys.{Keys}
use Rattle.flow_lowering.specs.LoweredFlows.{lowered_ops}
use Rattle.net_model.specs.Sights.{Sight, roster_of}
use Rattle.row_laws.specs.BestRow.{HoldsRows}
use Rattle.row_laws.specs.Copies.{Copy, IsAtPort}
use Rattle.row_laws.specs.Numbers.{HasNumbers}
use Rattle.row_laws.specs.Rows.{IsRowIn, RowHolds, IsBestRow}
use Rattle.row_laws.specs.StageActions.{actions_at}

-- An unbeaten row of the stage that holds of a copy in the switch has exactly the actions that the network tells.
abbrev pub StageLaw : Stage → Type 0
StageLaw s =
    (net : Network) → IsValid net → (c : Copy) (regs : Regs) → IsAtPort net (stage_pipeline s) c regs
    → (row : LFlow) → IsBestRow net (roster_of net) (stage_table s) c.port.switch regs c.sight row → row.actions ≡ actions_at s net c

-- Some row of the stage holds of every packet on a switch.
abbrev pub BaseLaw : Stage → Type 0
BaseLaw s =
    (net : Network) (switch : Name) → IsSome (at net.switches switch) → (regs : Regs) (sight : Sight)
    → (row : LFlow) × IsRowIn net (stage_table s) switch row × RowHolds (roster_of net) regs sight row

-- So two unbeaten rows that hold of it have equal actions.
abbrev pub AgreeLaw : Stage → Type 0
AgreeLaw s =
    (net : Network) → IsValid net → (c : Copy) (regs : Regs) → IsAtPort net (stage_pipeline s) c regs
    → (row other : LFlow) → IsBestRow net (roster_of net) (stage_table s) c.port.switch regs c.sight row
    → IsBestRow net (roster_of net) (stage_table s) c.port.switch regs c.sight other → row.actions ≡ other.actions

-- a switch's table of the stage holds the rows, and the copy's registers have its numbers
pub record IsInTable (net : Network) (keys : Keys) (sets : Sets) (flows : List Flow) (s : Stage) (c : Copy) (regs : Regs) : Type 0 where
  pub valid : IsValid net
  pub holds : HoldsRows net keys sets flows (stage_table s)
  pub numbers : HasNumbers keys sets (roster_of net) c.port.switch regs c.sight
  pub copy : IsAtPort net (stage_pipeline s) c regs

-- In numbers: a flow of the stage's table is taken, and each that may be does what the network tells.
abbrev pub TableLaw : Stage → Type 0
TableLaw s =
    (net : Network) (keys : Keys) (sets : Sets) (flows : List Flow) (c : Copy) (regs : Regs) → IsInTable net keys sets flows s c regs
    → (¬ NoneMatches flows (stage_table s) regs c.sight.packet)
    × ((f : Flow) → IsBest flows (stage_table s) regs c.sight.packet f → f.ops ≡ lowered_ops keys (actions_at s net c))

-- It is so in each stage of a switch.
pub record OfEachStage (Law : Stage → Type 0) : Type 0 where
  pub admit : Law stage.SwitchAdmit
  pub port_security : Law stage.SwitchPortSecurity
  pub track : Law stage.SwitchTrack
  pub acl_in : Law stage.SwitchAclIn
  pub state_in : Law stage.SwitchStateIn
  pub arp : Law stage.SwitchArp
  pub lookup : Law stage.SwitchLookup
  pub track_out : Law stage.SwitchTrackOut
  pub acl_out : Law stage.SwitchAclOut
  pub state_out : Law stage.SwitchStateOut
  pub security_out : Law stage.SwitchSecurityOut
