-- A step in a table of a switch: what the network tells of the stage is what the flow does that is taken.
use Rattle.std.specs.Prelude.{ℕ, List, [], ◌∷◌}
use Rattle.std.proofs.Common.{sym, subst}
use Rattle.flow_table.specs.Matching.{IsBest, NoneMatches}
use Rattle.flow_table.specs.declared.flow.FlowOp.{FlowOp}
use Rattle.inet_packet.specs.declared.packet.Packet.{Packet}
use Rattle.logical_flows.specs.Stages.{stage_table, stage_pipeline}
use Rattle.logical_flows.specs.declared.stage.Stage.{Stage}
use Rattle.net_model.specs.Trail.{Lists}
use Rattle.row_laws.specs.BestRow.{HoldsRows}
use Rattle.row_laws.specs.Copies.{Copy}
use Rattle.row_laws.specs.StageActions.{actions_at}
use Rattle.row_laws.specs.StageLaws.{TableLaw, IsInTable}
use Rattle.switch_engine.specs.Outcome.{outcome, going_on, choosing, IsDone}
use Rattle.switch_engine.specs.Zones.{ZoneLists}
use Rattle.switch_engine.specs.declared.carried.Carried.{Carried}
use Rattle.switch_engine.specs.declared.effect.Effect.{Effect}
use Rattle.sim_laws.proofs.pipelines.WalkOn.{comes_step}
use Rattle.sim_laws.specs.pipelines.Standing.{Chassis, net_of, course_of, IsLaidOut, StandsAtTable}
use Rattle.sim_laws.specs.pipelines.WalkOn.{Reached, Comes}
use Rattle.sim_laws.specs.routers.TranslatingWords.{Bring}

-- the operations, done on a copy, bring it so far, whatever they tell
abbrev pub DoesOps : Chassis → List FlowOp → ZoneLists → Carried → Reached → Type 0
DoesOps s ops zones copy So =
    (told : List Effect) → IsDone s.by (outcome s.entry s.scene.now ops (choosing copy zones told)) told
    → So told (outcome s.entry s.scene.now ops (choosing copy zones told)).zones (going_on (outcome s.entry s.scene.now ops (choosing copy zones told)))

module _ (s : Chassis) (laid : IsLaidOut s) (stage : Stage) (law : TableLaw stage) (rows : HoldsRows (net_of s) s.keys s.sets s.flows (stage_table stage)) where
  pub table_step : (c : Copy) (lists : Lists) (zones : ZoneLists) (copy : Carried) → StandsAtTable s (stage_pipeline stage) (stage_table stage) c lists zones copy
      → (So : Reached) → Bring s (actions_at stage (net_of s) c) zones copy So → Comes (course_of s) zones (copy ∷ []) So
  table_step c lists zones copy h So does =
      let here : IsInTable (net_of s) s.keys s.sets s.flows stage c copy.regs = record { valid = laid.valid; holds = rows; numbers = h.numbers; copy = h.at_port } in
      let t = law (net_of s) s.keys s.sets s.flows c copy.regs here in
      comes_step (course_of s) zones copy So
      (subst (λ (k : ℕ). ¬ NoneMatches s.flows k copy.regs copy.packet) (sym h.in_table) (subst (λ (q : Packet). ¬ NoneMatches s.flows (stage_table stage) copy.regs q) (sym h.packet) t.0))
      (λ f best.
      let own : IsBest s.flows (stage_table stage) copy.regs c.sight.packet f =
      subst (λ (q : Packet). IsBest s.flows (stage_table stage) copy.regs q f) h.packet (subst (λ (k : ℕ). IsBest s.flows k copy.regs copy.packet f) h.in_table best) in
      subst (λ (ops : List FlowOp). DoesOps s ops zones copy So) (sym (t.1 f own)) does)
