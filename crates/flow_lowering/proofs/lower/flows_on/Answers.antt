use Rattle.std.proofs.Common.{◌≡◌, ◌+◌, ◌∷◌, ◌++◌, [], List, map, drop, sym, ap, ◌∙◌}
use Rattle.std.specs.Prelude.{Option, Some, None}
use Rattle.std.specs.List.{filter_map}
use Rattle.std.proofs.lemmas.List.{drop_more}
use Rattle.inet_packet.specs.declared.cube.Cube.{Cube}
use Rattle.flow_table.specs.declared.flow.Flow.{Flow}
use Rattle.logical_flows.specs.declared.flow.RegIs.{RegIs}
use Rattle.flow_lowering.specs.LoweredFlows.{flow_on}
use Rattle.flow_lowering.specs.Registers.{dp_is, met_with_all}
use Rattle.flow_lowering.proofs.FlowSteps.{flow_more, flow_none}
use Rattle.flow_lowering.proofs.lower.flows_on.Goals as goal
use Rattle.flow_lowering.proofs.lower.flows_on.Goals.{in-Some+in_ok-flow_on+in_ok-push, in_default}

pub loop-cube-preserved : goal.loop-cube-preserved
loop-cube-preserved c =
    let flow : Cube → Flow = flow_on c.args.flow.now c.args.ops.now in
    let met : Cube → Option Cube = met_with_all (dp_is c.args.key ∷ c.args.flow.now.regs) in
    let cube : Cube = c.cube-item.result in
    let rest : List Cube = drop (c.loop-cube.cube-index + 1) c.args.cubes.now in
    let left : drop c.loop-cube.cube-index c.args.cubes.now ≡ cube ∷ rest =
    drop_more c.args.cubes.now c.loop-cube.cube-index cube c.loop-cube-test.true ∙ ap (λ (x : Cube). x ∷ rest) (sym c.cube-item.is) in
    let before = ap (λ (cs : List Cube). c.loop-cube.flows ++ map flow (filter_map met cs)) (sym left) ∙ c.loop-cube.invariant in
    let same = λ (o : Option Cube) (h : o ≡ met_with_all (dp_is c.args.key ∷ c.as_slice.result.now) cube). h ∙ ap (λ (rs : List RegIs). met_with_all (dp_is c.args.key ∷ rs) cube) c.as_slice.ensures in
    elim c.match-met_on.branch [
      | in-Some+in_ok-flow_on+in_ok-push w ↦
          ap (λ (fs : List Flow). fs ++ map flow (filter_map met rest))
          (w.flows-is ∙ w.in_ok-push.ensures.ok ∙ ap (λ (f : Flow). c.loop-cube.flows ++ f ∷ []) w.in_ok-flow_on.ensures)
          ∙ flow_more flow met c.loop-cube.flows cube w.in-Some.met rest (same (Some w.in-Some.met) w.in-Some.ensures)
          ∙ before
      | in_default w ↦
          ap (λ (fs : List Flow). fs ++ map flow (filter_map met rest)) w.flows-is ∙ flow_none flow met c.loop-cube.flows cube rest (same None w.in_default.ensures) ∙ before
    ]
