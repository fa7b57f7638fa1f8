use Rattle.std.proofs.Common.{◌≡◌, List, [], ◌∷◌, Option, Some, None, sym, subst}
use Rattle.std.specs.List.{AllByRecursion}
use Rattle.std.specs.Map.{keys_of}
use Rattle.ovn_base.specs.lists.Among.{Among, here}
use Rattle.ovn_base.specs.lists.Once.{EachOnce}
use Rattle.ovn_base.proofs.AmongLaws.{among_none}
use Rattle.ovn_base.specs.declared.delta.Delta.{Delta}
use Rattle.ovn_base.specs.declared.name.Name.{Name}
use Rattle.flow_table.proofs.ChangeLaws.{delta_of_any}
use Rattle.flow_table.specs.declared.flow.Flow.{Flow}
use Rattle.flow_table.specs.declared.tables.Tables.{Tables}
use Rattle.switch_engine.specs.Proper.{IsProper}
use Rattle.chassis_sim.specs.Changing.{AllAreDeltas, IsDeltaOfAny}
use Rattle.chassis_sim.specs.State.{at_name}
use Rattle.sim_tests.proofs.OneFlow.{one_proper}
use Rattle.sim_tests.proofs.packets.replace.Goals as goal

of_any : (comes goes : Flow) (delta : Delta Flow) → delta.added ≡ comes ∷ [] → delta.removed ≡ comes ∷ goes ∷ [] → (flows : Option (List Flow)) → IsDeltaOfAny delta flows
of_any comes goes delta added removed None = tt
of_any comes goes delta added removed (Some flows) = delta_of_any flows delta comes added (subst (λ l. Among comes l) (sym removed) here)

pub prepare-requires-clause-once : goal.prepare-requires-clause-once
prepare-requires-clause-once c = subst (λ (l : List (Name × Delta Flow)). EachOnce (keys_of l)) (sym c.in_ok-one.ensures) (λ m. among_none c.args.chassis m, tt)

pub prepare-requires-clause-deltas : goal.prepare-requires-clause-deltas
prepare-requires-clause-deltas c =
    let held = c.args.sim.now.state.chassis in
    subst (AllAreDeltas held) (sym c.in_ok-one.ensures) (of_any c.args.comes c.args.goes c.in_ok-delta.delta c.in_ok-delta.ensures.added c.in_ok-delta.ensures.removed (at_name held c.args.chassis), tt)

pub apply-requires-clause-proper : goal.apply-requires-clause-proper
apply-requires-clause-proper c = record {
  deltas = subst (λ (l : List (Name × Delta Flow)). AllByRecursion (λ table. IsProper table.1.added) l) (sym c.in_ok-one.ensures) (one_proper c.args.comes c.in_ok-delta.delta.added c.in_ok-delta.ensures.added c.requires, tt);
  chassis = subst (λ l. AllByRecursion (λ (e : Name × Tables). IsProper e.1.flows) l) (sym c.new.ensures) tt;
}
