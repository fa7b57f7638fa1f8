use Rattle.std.proofs.Common.{◌≡◌, ◌+◌, ◌∷◌, drop, sym, ap, ◌∙◌, subst, refl}
use Rattle.std.proofs.lemmas.List.{drop_more}
use Rattle.std.specs.Prelude.{List}
use Rattle.std.specs.List.{AllByRecursion}
use Rattle.flow_table.specs.declared.flow.FlowOp.{FlowOp}
use Rattle.switch_engine.specs.declared.actions.Turn.TheVariants as turn
use Rattle.switch_engine.specs.Advance.{DoesAll}
use Rattle.switch_engine.specs.Outcome.{act}
use Rattle.switch_engine.specs.Proper.{Sets}
use Rattle.switch_engine.proofs.Doings.{Doings, doings_first, doings_next, doings_leave, doings_end}
use Rattle.switch_engine.proofs.actions.run_ops.Goals as goal

pub ops-init : goal.ops-init
ops-init c = record { doings = doings_first c.requires.in_range; sets = c.requires.sets; room = refl }

pub ops-preserved : goal.ops-preserved
ops-preserved c =
    let rest = drop (c.ops.op-index + 1) c.args.ops.now in
    let split : drop c.ops.op-index c.args.ops.now ≡ c.op-item.result ∷ rest = drop_more c.args.ops.now c.ops.op-index c.op-item.result c.ops-test.true ∙ ap (λ o. o ∷ rest) (sym c.op-item.is) in
    let d : Doings c.args.entry.now c.args.now c.args.ops.now (c.op-item.result ∷ rest) c.args.copy.now c.ops.copy c.args.zones.now.entries c.ops.zones.entries c.args.effects.now c.ops.effects c.args.made.now c.ops.made =
    subst (λ (os : List FlowOp). Doings c.args.entry.now c.args.now c.args.ops.now os c.args.copy.now c.ops.copy c.args.zones.now.entries c.ops.zones.entries c.args.effects.now c.ops.effects c.args.made.now c.ops.made) split c.ops.invariant.doings in
    let x : DoesAll (act c.args.entry.now c.args.now c.op-item.result) turn.Next c.ops.copy c.act.new.copy c.ops.zones.entries c.act.new.zones.entries c.ops.effects c.act.new.effects c.ops.made c.act.new.made =
    subst (λ t. DoesAll (act c.args.entry.now c.args.now c.op-item.result) t c.ops.copy c.act.new.copy c.ops.zones.entries c.act.new.zones.entries c.ops.effects c.act.new.effects c.ops.made c.act.new.made) c.in-Next.is c.in_ok-act.ensures.does in
    record {
      doings = doings_next x d;
      sets = (subst (AllByRecursion Sets) split c.ops.invariant.sets).1;
      room = c.in_ok-act.ensures.room ∙ c.ops.invariant.room;
    }

pub returns-in-Leaves-clause-brings : goal.returns-in-Leaves-clause-brings
returns-in-Leaves-clause-brings c =
    let rest = drop (c.ops.op-index + 1) c.args.ops.now in
    let split : drop c.ops.op-index c.args.ops.now ≡ c.op-item.result ∷ rest = drop_more c.args.ops.now c.ops.op-index c.op-item.result c.ops-test.true ∙ ap (λ o. o ∷ rest) (sym c.op-item.is) in
    let d : Doings c.args.entry.now c.args.now c.args.ops.now (c.op-item.result ∷ rest) c.args.copy.now c.ops.copy c.args.zones.now.entries c.ops.zones.entries c.args.effects.now c.ops.effects c.args.made.now c.ops.made =
    subst (λ (os : List FlowOp). Doings c.args.entry.now c.args.now c.args.ops.now os c.args.copy.now c.ops.copy c.args.zones.now.entries c.ops.zones.entries c.args.effects.now c.ops.effects c.args.made.now c.ops.made) split c.ops.invariant.doings in
    let x : DoesAll (act c.args.entry.now c.args.now c.op-item.result) turn.Leaves c.ops.copy c.act.new.copy c.ops.zones.entries c.act.new.zones.entries c.ops.effects c.act.new.effects c.ops.made c.act.new.made =
    subst (λ t. DoesAll (act c.args.entry.now c.args.now c.op-item.result) t c.ops.copy c.act.new.copy c.ops.zones.entries c.act.new.zones.entries c.ops.effects c.act.new.effects c.ops.made c.act.new.made) c.in-Leaves.is c.in_ok-act.ensures.does in
    doings_leave x d

pub returns-in-Ends-clause-brings : goal.returns-in-Ends-clause-brings
returns-in-Ends-clause-brings c =
    let rest = drop (c.ops.op-index + 1) c.args.ops.now in
    let split : drop c.ops.op-index c.args.ops.now ≡ c.op-item.result ∷ rest = drop_more c.args.ops.now c.ops.op-index c.op-item.result c.ops-test.true ∙ ap (λ o. o ∷ rest) (sym c.op-item.is) in
    let d : Doings c.args.entry.now c.args.now c.args.ops.now (c.op-item.result ∷ rest) c.args.copy.now c.ops.copy c.args.zones.now.entries c.ops.zones.entries c.args.effects.now c.ops.effects c.args.made.now c.ops.made =
    subst (λ (os : List FlowOp). Doings c.args.entry.now c.args.now c.args.ops.now os c.args.copy.now c.ops.copy c.args.zones.now.entries c.ops.zones.entries c.args.effects.now c.ops.effects c.args.made.now c.ops.made) split c.ops.invariant.doings in
    let x : DoesAll (act c.args.entry.now c.args.now c.op-item.result) turn.Ends c.ops.copy c.act.new.copy c.ops.zones.entries c.act.new.zones.entries c.ops.effects c.act.new.effects c.ops.made c.act.new.made =
    subst (λ t. DoesAll (act c.args.entry.now c.args.now c.op-item.result) t c.ops.copy c.act.new.copy c.ops.zones.entries c.act.new.zones.entries c.ops.effects c.act.new.effects c.ops.made c.act.new.made) c.in-Ends.is c.in_ok-act.ensures.does in
    doings_end x d
