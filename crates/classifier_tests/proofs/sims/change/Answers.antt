use Rattle.std.proofs.Common.{◌≡◌, List, ◌++◌, Option, Some, None, refl, sym, subst, ap, ◌∙◌}
use Rattle.std.specs.Map.{keys_of}
use Rattle.ovn_base.specs.lists.Among.{Among}
use Rattle.ovn_base.specs.lists.Once.{EachOnce}
use Rattle.ovn_base.proofs.AmongLaws.{among_none, among_left}
use Rattle.ovn_base.specs.declared.delta.Delta.{Delta}
use Rattle.ovn_base.specs.declared.name.Name.{Name}
use Rattle.flow_table.specs.declared.flow.Flow.{Flow}
use Rattle.chassis_sim.specs.Changing.{AllAreDeltas, IsDeltaOfAny}
use Rattle.chassis_sim.specs.State.{at_name}
use Rattle.classifier_tests.proofs.sims.change.Goals as goal

-- a delta of flows that are all named among those that go is one of any flows
of_any : (comes goes : List Flow) (delta : Delta Flow) → EachOnce comes → delta.added ≡ comes → delta.removed ≡ comes ++ goes → (flows : Option (List Flow)) → IsDeltaOfAny delta flows
of_any comes goes delta once added removed None = tt
of_any comes goes delta once added removed (Some flows) = record {
  once = subst EachOnce (sym added) once;
  new = λ f a m. subst (λ l. Among f l) (sym removed) (among_left f comes goes (subst (λ l. Among f l) added a));
}

pub prepare-requires-clause-once : goal.prepare-requires-clause-once
prepare-requires-clause-once g c = subst (λ (l : List (Name × Delta Flow)). EachOnce (keys_of l)) (sym c.in_ok-one.ensures) (λ m. among_none c.args.chassis m, tt)

pub prepare-requires-clause-deltas : goal.prepare-requires-clause-deltas
prepare-requires-clause-deltas g c =
    let held = c.args.sim.now.state.chassis in
    let delta : Delta Flow = record { added = c.args.comes; removed = c.append.new.self } in
    subst (AllAreDeltas held) (sym c.in_ok-one.ensures)
    (of_any c.args.comes c.args.goes delta c.requires.once refl (c.in_ok-append.ensures.ok ∙ ap (λ l. l ++ c.args.goes) c.in_ok-removed.ensures) (at_name held c.args.chassis), tt)
