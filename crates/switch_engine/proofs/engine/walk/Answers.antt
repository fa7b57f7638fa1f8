use Rattle.std.proofs.Common.{◌≡◌, ◌∷◌, ◌++◌, [], cond, Bool, List, reverse, sym, ap, ◌∙◌, subst, arith, refl}
use Rattle.std.specs.List.{AllByRecursion}
use Rattle.switch_engine.specs.declared.carried.Carried.{Carried}
use Rattle.switch_engine.specs.Advance.{Advances, IsCarriedInRange}
use Rattle.switch_engine.specs.Walk.{start}
use Rattle.switch_engine.proofs.WalkSteps.{Going, going_first, going_next, going_over, on_top}
use Rattle.switch_engine.proofs.Measure.{advance_falls}
use Rattle.switch_engine.proofs.Ranges.{start_in_range}
use Rattle.switch_engine.proofs.engine.walk.Goals as goal

pub copies-init : goal.copies-init
copies-init g c =
    let one : c.at_start-copy.result ∷ reverse c.new-pending.result ≡ start c.args.entry.now c.args.packet ∷ [] =
    ap (λ copy. copy ∷ reverse c.new-pending.result) c.at_start-copy.ensures ∙ ap (λ (l : List Carried). start c.args.entry.now c.args.packet ∷ reverse l) c.new-pending.ensures in
    record {
      going = subst (Going (g.T.Lookup.flows c.args.tables.now) c.args.entry.now c.args.now c.args.packet c.args.zones.now.entries c.args.zones.now.entries c.args.out.now c.args.out.now) (sym one) (going_first c.args.out.now);
      proper = c.requires.proper;
      entry = c.requires.entry;
      in_range = subst (AllByRecursion IsCarriedInRange) (sym one) (record { table = omega arith; regs = start_in_range c.args.entry.now; whole = c.requires.whole; passes = omega arith }, tt);
      room = refl;
    }

pub copies-smaller-then-branch : goal.copies-smaller-then-branch
copies-smaller-then-branch g c =
    let left : cond c.in_ok-advance.field-0 (c.advance.new.copy ∷ []) [] ++ reverse c.advance.new.pending ≡ c.advance.new.copy ∷ reverse c.advance.new.pending =
    ap (λ (b : Bool). cond b (c.advance.new.copy ∷ []) [] ++ reverse c.advance.new.pending) c.if-branch.true in
    advance_falls
    (subst (λ (l : List Carried). Advances (g.T.Lookup.flows c.args.tables.now) c.args.entry.now c.args.now c.copies.copy c.copies.zones.entries c.advance.new.zones.entries (reverse c.copies.pending) l c.copies.out c.advance.new.out) left c.in_ok-advance.ensures.ok)
    c.copies.invariant.proper c.copies.invariant.in_range.0 (subst (AllByRecursion IsCarriedInRange) left c.in_ok-advance.ensures.all_in_range)

pub copies-preserved-then-branch : goal.copies-preserved-then-branch
copies-preserved-then-branch g c =
    let left : cond c.in_ok-advance.field-0 (c.advance.new.copy ∷ []) [] ++ reverse c.advance.new.pending ≡ c.advance.new.copy ∷ reverse c.advance.new.pending =
    ap (λ (b : Bool). cond b (c.advance.new.copy ∷ []) [] ++ reverse c.advance.new.pending) c.if-branch.true in
    record {
      going = subst (Going (g.T.Lookup.flows c.args.tables.now) c.args.entry.now c.args.now c.args.packet c.args.zones.now.entries c.advance.new.zones.entries c.args.out.now c.advance.new.out) left
          (going_next c.copies.invariant.going c.in_ok-advance.ensures.ok);
      proper = c.copies.invariant.proper;
      entry = c.copies.invariant.entry;
      in_range = subst (AllByRecursion IsCarriedInRange) left c.in_ok-advance.ensures.all_in_range;
      room = c.in_ok-advance.ensures.room ∙ c.copies.invariant.room;
    }

pub returns-in_default-clause-ok : goal.returns-in_default-clause-ok
returns-in_default-clause-ok g c =
    let left : cond c.in_ok-advance.field-0 (c.advance.new.copy ∷ []) [] ++ reverse c.advance.new.pending ≡ [] =
    ap (λ (b : Bool). cond b (c.advance.new.copy ∷ []) [] ++ reverse c.advance.new.pending) c.if-branch.false ∙ ap reverse c.in_default.ensures.0 in
    going_over (subst (Going (g.T.Lookup.flows c.args.tables.now) c.args.entry.now c.args.now c.args.packet c.args.zones.now.entries c.advance.new.zones.entries c.args.out.now c.advance.new.out) left
    (going_next c.copies.invariant.going c.in_ok-advance.ensures.ok))

pub copies-smaller : goal.copies-smaller
copies-smaller g c =
    let left : cond c.in_ok-advance.field-0 (c.advance.new.copy ∷ []) [] ++ reverse c.advance.new.pending ≡ c.in-Some.next ∷ reverse c.pop.new.self =
    ap (λ (b : Bool). cond b (c.advance.new.copy ∷ []) [] ++ reverse c.advance.new.pending) c.if-branch.false ∙ on_top c.pop.new.self c.advance.new.pending c.in-Some.next c.in-Some.ensures in
    advance_falls
    (subst (λ (l : List Carried). Advances (g.T.Lookup.flows c.args.tables.now) c.args.entry.now c.args.now c.copies.copy c.copies.zones.entries c.advance.new.zones.entries (reverse c.copies.pending) l c.copies.out c.advance.new.out) left c.in_ok-advance.ensures.ok)
    c.copies.invariant.proper c.copies.invariant.in_range.0 (subst (AllByRecursion IsCarriedInRange) left c.in_ok-advance.ensures.all_in_range)

pub copies-preserved : goal.copies-preserved
copies-preserved g c =
    let left : cond c.in_ok-advance.field-0 (c.advance.new.copy ∷ []) [] ++ reverse c.advance.new.pending ≡ c.in-Some.next ∷ reverse c.pop.new.self =
    ap (λ (b : Bool). cond b (c.advance.new.copy ∷ []) [] ++ reverse c.advance.new.pending) c.if-branch.false ∙ on_top c.pop.new.self c.advance.new.pending c.in-Some.next c.in-Some.ensures in
    record {
      going = subst (Going (g.T.Lookup.flows c.args.tables.now) c.args.entry.now c.args.now c.args.packet c.args.zones.now.entries c.advance.new.zones.entries c.args.out.now c.advance.new.out) left
          (going_next c.copies.invariant.going c.in_ok-advance.ensures.ok);
      proper = c.copies.invariant.proper;
      entry = c.copies.invariant.entry;
      in_range = subst (AllByRecursion IsCarriedInRange) left c.in_ok-advance.ensures.all_in_range;
      room = c.in_ok-advance.ensures.room ∙ c.copies.invariant.room;
    }
