use Rattle.std.specs.Prelude.{IfOk}
use Rattle.std.proofs.Common.{sym, subst}
use Rattle.std.proofs.lemmas.Result.{IfOk-weaker}
use Rattle.nb_records.specs.Network.{Network}
use Rattle.northd_core.specs.Lowering.{Lowering, CanCompile, HaveLowered, IsLoweredPlan, StayLowered}
use Rattle.northd_core.proofs.lowered.LoweredFlows.prepare_touched.Goals as goal

pub plan_units-requires : goal.plan_units-requires
plan_units-requires g c = subst (λ (n : Network). CanCompile (record { net = n; keys = c.args.keys.now })) (sym c.after.ensures) c.requires

pub returns-clause-planned : goal.returns-clause-planned
returns-clause-planned g c =
    subst (λ (n : Network). IfOk c.plan_units.result (λ patch. (before : Lowering) → CanCompile before → HaveLowered before c.args.self.now → StayLowered before (record { net = n; keys = c.args.keys.now }) c.in_ok-units.units.keys
    → IsLoweredPlan before (record { net = n; keys = c.args.keys.now }) c.plan_units.new.self patch) → IfOk c.plan_units.result (λ patch. (before : Lowering) → CanCompile before → HaveLowered before c.args.self.now
    → StayLowered before (record { net = c.args.plan.now.after; keys = c.args.keys.now }) c.args.touched.now
    → IsLoweredPlan before (record { net = c.args.plan.now.after; keys = c.args.keys.now }) c.plan_units.new.self patch)) (sym c.after.ensures)
    (λ planned. IfOk-weaker c.plan_units.result _ _ (λ patch leads before can had others. leads before can had (λ u out. others u (λ m. out ((c.in_ok-units.ensures u).1 m)))) planned)
    c.plan_units.ensures.planned
