-- The law of a stage of any router, be it one that translates or not: the row that is taken does what the network says.
use Rattle.std.specs.Prelude.{◌≡◌, List}
use Rattle.inet_packet.specs.declared.regs.Regs.{Regs}
use Rattle.flow_table.specs.Matching.{IsBest, NoneMatches}
use Rattle.flow_table.specs.declared.flow.Flow.{Flow}
use Rattle.match_cubes.specs.declared.sets.Sets.{Sets}
use Rattle.nb_records.specs.Network.{Network}
use Rattle.nb_rules.specs.Valid.{IsValid}
use Rattle.logical_flows.specs.Stages.{stage_table}
use Rattle.logical_flows.specs.declared.flow.LFlow.{LFlow}
use Rattle.logical_flows.specs.declared.stage.Stage.{Stage}
use Rattle.tunnel_keys.specs.Keys.{Keys}
use Rattle.flow_lowering.specs.LoweredFlows.{lowered_ops}
use Rattle.row_laws.specs.BestRow.{HoldsRows}
use Rattle.row_laws.specs.Numbers.{HasNumbers}
use Rattle.row_laws.specs.Rows.{IsBestRow}
use Rattle.row_laws.specs.routers.RouterActions.{router_actions_at}
use Rattle.row_laws.specs.routers.RouterCopies.{RouterCopy, IsPlain, router_roster}
use Rattle.row_laws.specs.routers.TranslatingActions.{router_actions_by, IsAtAnyRouterPort}

-- An unbeaten row of the stage that holds of a copy in the router has exactly the actions that the network tells.
abbrev pub AnyRouterStageLaw : Stage → Type 0
AnyRouterStageLaw s =
    (net : Network) → IsValid net → (c : RouterCopy) (regs : Regs) → IsAtAnyRouterPort net s c regs
    → (row : LFlow) → IsBestRow net (router_roster net) (stage_table s) c.port.router regs c.sight row → row.actions ≡ router_actions_by s net c

-- So two unbeaten rows that hold of it have equal actions.
abbrev pub AnyRouterAgreeLaw : Stage → Type 0
AnyRouterAgreeLaw s =
    (net : Network) → IsValid net → (c : RouterCopy) (regs : Regs) → IsAtAnyRouterPort net s c regs
    → (row other : LFlow) → IsBestRow net (router_roster net) (stage_table s) c.port.router regs c.sight row
    → IsBestRow net (router_roster net) (stage_table s) c.port.router regs c.sight other → row.actions ≡ other.actions

-- a router's table of the stage holds the rows, and the copy's registers have its numbers
pub record IsInAnyRouterTable (net : Network) (keys : Keys) (sets : Sets) (flows : List Flow) (s : Stage) (c : RouterCopy) (regs : Regs) : Type 0 where
  pub valid : IsValid net
  pub holds : HoldsRows net keys sets flows (stage_table s)
  pub numbers : HasNumbers keys sets (router_roster net) c.port.router regs c.sight
  pub copy : IsAtAnyRouterPort net s c regs

-- In numbers: a flow of the stage's table is taken, and each that may be does what the network tells.
abbrev pub AnyRouterTableLaw : Stage → Type 0
AnyRouterTableLaw s =
    (net : Network) (keys : Keys) (sets : Sets) (flows : List Flow) (c : RouterCopy) (regs : Regs) → IsInAnyRouterTable net keys sets flows s c regs
    → (¬ NoneMatches flows (stage_table s) regs c.sight.packet)
    × ((f : Flow) → IsBest flows (stage_table s) regs c.sight.packet f → f.ops ≡ lowered_ops keys (router_actions_by s net c))

-- On a router that translates nothing, of whose packets no list was asked, the actions are those of such routers.
abbrev pub PlainActionsLaw : Stage → Type 0
PlainActionsLaw s = (net : Network) → IsValid net → (c : RouterCopy) → IsPlain net c → router_actions_by s net c ≡ router_actions_at s net c
