use Rattle.std.proofs.Common.{◌≡◌, ◌++◌, ◌∙◌, [], ◌∷◌, Option, map, sym, subst, ap}
use Rattle.std.proofs.lemmas.Result.{err_from_is_err_and}
use Rattle.ovn_base.specs.declared.name.Name.{Name}
use Rattle.physical_flows.specs.Around.{around_rows}
use Rattle.physical_flows.specs.ChassisFlows.{AreExactly}
use Rattle.physical_flows.specs.Stages.{Basis}
use Rattle.physical_flows.specs.UnitFlows.{HaveRows, rows_held}
use Rattle.tuple_space.specs.Bunches.{flows_in}
use Rattle.world_setup.specs.Ground.{ground_after, IsChangeOf}
use Rattle.world_setup.specs.Setup.{ArePatches, ComesOver, HaveStores, IsFlowBy, IsLoweredOrDone, IsTurnOfTables, SetupView, every_delta, both_deltas}
use Rattle.world_setup.proofs.SetupTurns.{AreTablesTurned, ComesWith, new_rows, planned_change, turn_of_tables, was_or_comes}
use Rattle.world_setup.proofs.setup.Setup.prepare.Goals as goal
use Rattle.world_setup.proofs.setup.Setup.prepare.Goals.{in-Some+in_ok-flows-in-Some+in_ok-push-in-Some, in-None}

pub invariant_of-self-in_err-push-in-Some : goal.invariant_of-self-in_err-push-in-Some
invariant_of-self-in_err-push-in-Some c = record {
  lowered = c.self.invariant.lowered;
  stores = subst (HaveStores c.self.inside.ground) (sym c.reserve.ensures.entries) c.prepare_each.ensures.kept;
}

pub returns-in_err-flows-in-Some-clause-patch : goal.returns-in_err-flows-in-Some-clause-patch
returns-in_err-flows-in-Some-clause-patch c = let failed = err_from_is_err_and c.from_residual-in_err-flows-in-Some.result c.from_residual-in_err-flows-in-Some.ensures.1 in rw failed.1 tt

pub returns-in_err-push-in-Some-clause-patch : goal.returns-in_err-push-in-Some-clause-patch
returns-in_err-push-in-Some-clause-patch c = let failed = err_from_is_err_and c.from_residual-in_err-push-in-Some.result c.from_residual-in_err-push-in-Some.ensures.1 in rw failed.1 tt

pub returns-clause-patch : goal.returns-clause-patch
returns-clause-patch c =
    let before = c.self.inside.ground in
    let after = ground_after c.args.change before in
    let over : ComesOver before.config.chassis c.args.come after.config.chassis = subst (λ (s : SetupView). ComesOver s.ground.config.chassis c.args.come (ground_after c.args.change s.ground).config.chassis) (sym c.self.view_is) c.requires.chassis in
    let comes : ComesWith after c.args.come c.match-come.come c.match-come.sim.added = elim c.match-come.branch [
      | in-Some+in_ok-flows-in-Some+in_ok-push-in-Some w ↦
          let name = w.in-Some.name in
          let flows = w.in_ok-flows-in-Some.flows in
          let held = w.in_ok-flows-in-Some.held in
          subst (λ (who : Option Name). ComesWith after who c.match-come.come c.match-come.sim.added) (sym w.in-Some.is) (
            flows,
            held,
            w.come-is,
            ap (λ s. s.added) w.sim-is ∙ w.in_ok-push-in-Some.ensures.ok ∙ ap (λ s. s.added ++ (name, held) ∷ []) c.sim_change-sim.ensures,
            subst (λ (b : Basis). HaveRows (around_rows b) (rows_held flows)) w.maps-maps.ensures w.in_ok-flows-in-Some.ensures.rows,
            subst (λ (b : Basis). AreExactly (IsFlowBy b) (flows_in held.bunches)) w.maps-maps.ensures w.in_ok-flows-in-Some.ensures.flows,
          )
      | in-None w ↦ subst (λ (who : Option Name). ComesWith after who c.match-come.come c.match-come.sim.added) (sym w.in-None.is) (w.come-is, ap (λ s. s.added) w.sim-is ∙ ap (λ s. s.added) c.sim_change-sim.ensures)
    ] in
    record {
      change = subst (λ (s : SetupView). IsChangeOf s.ground c.args.change) (sym c.self.view_is) c.requires.fits;
      lowered = subst (λ (s : SetupView). IsLoweredOrDone s.ground (ground_after c.args.change s.ground) s.lowered c.args.lowered) (sym c.self.view_is) c.requires.planned;
      patches = subst (λ es. ArePatches before after es c.in_ok-patches.patches) (sym c.reserve.ensures.entries) c.in_ok-patches.ensures.patches;
      chassis = was_or_comes before after c.match-come.come c.match-come.sim.added c.args.come over comes;
      new = new_rows before after c.match-come.come c.match-come.sim.added c.args.come comes;
      room = λ some. c.in_ok-reserve.ensures.ok;
    }

pub returns-clause-turned : goal.returns-clause-turned
returns-clause-turned c =
    let before = c.self.inside.ground in
    let after = ground_after c.args.change before in
    let over : ComesOver before.config.chassis c.args.come after.config.chassis = subst (λ (s : SetupView). ComesOver s.ground.config.chassis c.args.come (ground_after c.args.change s.ground).config.chassis) (sym c.self.view_is) c.requires.chassis in
    let every = every_delta c.args.lowered in
    let turned : AreTablesTurned before after every = subst (λ (s : SetupView). AreTablesTurned s.ground (ground_after c.args.change s.ground) every) (sym c.self.view_is) (record {
      had = c.requires.before;
      have = c.requires.keyed;
      lowered = planned_change c.args.self.now.ground (ground_after c.args.change c.args.self.now.ground) c.args.self.now.lowered c.args.lowered c.requires.planned;
    }) in
    let deltas : c.in_ok-sim.field-0 ≡ map (λ p. (p.0, both_deltas every p.1.delta)) c.in_ok-patches.patches = c.in_ok-sim.ensures ∙ ap (λ l. map (λ p. (p.0, both_deltas every p.1.delta)) l) c.as_slice.ensures in
    let turn : IsTurnOfTables before after c.match-come.sim = elim c.match-come.branch [
      | in-Some+in_ok-flows-in-Some+in_ok-push-in-Some w ↦
          let name = w.in-Some.name in
          let flows = w.in_ok-flows-in-Some.flows in
          let held = w.in_ok-flows-in-Some.held in
          let comes : ComesWith after c.args.come c.match-come.come c.match-come.sim.added =
          subst (λ (who : Option Name). ComesWith after who c.match-come.come c.match-come.sim.added) (sym w.in-Some.is) (
            flows,
            held,
            w.come-is,
            ap (λ s. s.added) w.sim-is ∙ w.in_ok-push-in-Some.ensures.ok ∙ ap (λ s. s.added ++ (name, held) ∷ []) c.sim_change-sim.ensures,
            subst (λ (b : Basis). HaveRows (around_rows b) (rows_held flows)) w.maps-maps.ensures w.in_ok-flows-in-Some.ensures.rows,
            subst (λ (b : Basis). AreExactly (IsFlowBy b) (flows_in held.bunches)) w.maps-maps.ensures w.in_ok-flows-in-Some.ensures.flows,
          ) in
          turn_of_tables before after every turned c.prepare_each.new.stores.entries c.in_ok-patches.patches c.args.come c.match-come.come c.match-come.sim c.in_ok-patches.ensures.patches over comes
          (ap (λ s. s.removed) w.sim-is ∙ ap (λ s. s.removed) c.sim_change-sim.ensures) (ap (λ s. s.tables) w.sim-is ∙ deltas)
      | in-None w ↦
          let comes : ComesWith after c.args.come c.match-come.come c.match-come.sim.added =
          subst (λ (who : Option Name). ComesWith after who c.match-come.come c.match-come.sim.added) (sym w.in-None.is) (w.come-is, ap (λ s. s.added) w.sim-is ∙ ap (λ s. s.added) c.sim_change-sim.ensures) in
          turn_of_tables before after every turned c.prepare_each.new.stores.entries c.in_ok-patches.patches c.args.come c.match-come.come c.match-come.sim c.in_ok-patches.ensures.patches over comes
          (ap (λ s. s.removed) w.sim-is ∙ ap (λ s. s.removed) c.sim_change-sim.ensures) (ap (λ s. s.tables) w.sim-is ∙ deltas)
    ] in
    subst (λ (s : SetupView). IsTurnOfTables s.ground (ground_after c.args.change s.ground) c.match-come.sim) c.self.view_is turn
