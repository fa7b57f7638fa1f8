use Rattle.std.proofs.Common.{sym, subst}
use Rattle.std.specs.List.{AllByRecursion}
use Rattle.ovn_base.specs.lists.Among.{Among}
use Rattle.ovn_base.proofs.AmongLaws.{among_none}
use Rattle.ovn_base.specs.declared.delta.Delta.{Delta}
use Rattle.ovn_base.specs.declared.name.Name.{Name}
use Rattle.flow_table.specs.declared.flow.Flow.{Flow}
use Rattle.switch_engine.specs.Proper.{IsProper}
use Rattle.classifier_tests.proofs.sims.come.Goals as goal

pub apply-requires-clause-proper : goal.apply-requires-clause-proper
apply-requires-clause-proper g c = record {
  deltas = subst (λ l. AllByRecursion (λ (table : Name × Delta Flow). IsProper table.1.added) l) (sym c.new-2.ensures) tt;
  chassis = subst (λ l. AllByRecursion (λ e. IsProper (g.T.Lookup.flows e.1)) l) (sym c.in_ok-one.ensures) (λ f m. absurd (among_none f (subst (λ l. Among f l) c.in_ok-empty.ensures m)), tt);
}
