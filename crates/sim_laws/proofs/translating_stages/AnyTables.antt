-- The tables of a chassis do with a copy in a router what the network tells.
use Rattle.std.specs.Prelude.{◌≡◌}
use Rattle.flow_lowering.specs.LoweredFlows.{lowered_ops}
use Rattle.flow_table.specs.Matching.{IsBest, NoneMatches}
use Rattle.flow_table.specs.declared.flow.Flow.{Flow}
use Rattle.logical_flows.specs.Stages.{stage_table}
use Rattle.logical_flows.specs.declared.stage.Stage.{Stage}
use Rattle.logical_flows.specs.declared.stage.Stage.TheVariants as stage
use Rattle.net_model.specs.Trail.{Lists}
use Rattle.row_laws.specs.BestRow.{HoldsRows}
use Rattle.row_laws.specs.routers.RouterCopies.{RouterCopy}
use Rattle.row_laws.specs.routers.RouterLaws.{OfEachRouterStage}
use Rattle.row_laws.specs.routers.TranslatingActions.{router_actions_by}
use Rattle.row_laws.specs.routers.TranslatingLaws.{AnyRouterTableLaw}
use Rattle.switch_engine.specs.Zones.{ZoneLists}
use Rattle.switch_engine.specs.declared.carried.Carried.{Carried}
use Rattle.sim_laws.specs.pipelines.Standing.{Chassis, net_of, IsLaidOut}
use Rattle.sim_laws.specs.routers.RouterStanding.{StandsInRouter}

-- A flow of the stage's table is taken for a copy that stands there, and each that may be does what the network tells.
abbrev pub DoesAsTold : Chassis → Stage → Type 0
DoesAsTold s here =
    (c : RouterCopy) (lists : Lists) (zones : ZoneLists) (copy : Carried) → StandsInRouter s here (stage_table here) c lists zones copy
    → (¬ NoneMatches s.flows (stage_table here) copy.regs c.sight.packet)
    × ((f : Flow) → IsBest s.flows (stage_table here) copy.regs c.sight.packet f → f.ops ≡ lowered_ops s.keys (router_actions_by here (net_of s) c))

does_so : (here : Stage) → AnyRouterTableLaw here → (s : Chassis) → IsLaidOut s → HoldsRows (net_of s) s.keys s.sets s.flows (stage_table here) → DoesAsTold s here
does_so here law s laid holds c lists zones copy h =
    law (net_of s) s.keys s.sets s.flows c copy.regs (record { valid = laid.valid; holds = holds; numbers = h.numbers; copy = h.at_port })

-- so it is in each table
pub do_so : OfEachRouterStage AnyRouterTableLaw → (s : Chassis) → IsLaidOut s → OfEachRouterStage (DoesAsTold s)
do_so law s laid = record {
  admit = does_so stage.RouterAdmit law.admit s laid laid.tables.admit;
  input = does_so stage.RouterInput law.input s laid laid.tables.port_security;
  undo = does_so stage.RouterUndo law.undo s laid laid.tables.track;
  dnat = does_so stage.RouterDnat law.dnat s laid laid.tables.acl_in;
  own = does_so stage.RouterOwn law.own s laid laid.tables.state_in;
  route = does_so stage.RouterRoute law.route s laid laid.tables.arp;
  neighbour = does_so stage.RouterNeighbour law.neighbour s laid laid.tables.lookup;
  find = does_so stage.RouterFind law.find s laid laid.tables.track_out;
  snat = does_so stage.RouterSnat law.snat s laid laid.tables.acl_out;
}
