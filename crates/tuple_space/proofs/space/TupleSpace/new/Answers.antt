use Rattle.std.proofs.Common.{ℕ, List, subst}
use Rattle.ovn_base.specs.lists.Among.{Among}
use Rattle.ovn_base.proofs.AmongLaws.{among_none}
use Rattle.flow_table.specs.declared.flow.Flow.{Flow}
use Rattle.tuple_space.specs.Bunches.{flows_under}
use Rattle.tuple_space.proofs.space.TupleSpace.new.Goals as goal

pub invariant_of-result : goal.invariant_of-result
invariant_of-result c =
    let none = λ (key : List ℕ). λ (f : Flow). λ (m : Among f (flows_under c.new-4.result key)). among_none f (subst (λ bs. Among f (flows_under bs key)) c.new-4.ensures m) in
    record {
      filed = λ key f m. absurd (none key f m);
      let_through = λ key f m. absurd (none key f m);
      few = λ m k. absurd (among_none m (subst (λ l. Among m l) c.new.ensures k));
    }
