use Rattle.std.proofs.Common.{sym, subst}
use Rattle.std.specs.List.{AllByRecursion}
use Rattle.flow_table.specs.declared.flow.Flow.{Flow}
use Rattle.flow_table.specs.declared.tables.Tables.{Tables}
use Rattle.ovn_base.specs.declared.delta.Delta.{Delta}
use Rattle.ovn_base.specs.declared.name.Name.{Name}
use Rattle.switch_engine.specs.Proper.{IsProper}
use Rattle.sim_tests.proofs.sims.settle.Goals as goal

pub apply-requires-clause-proper : goal.apply-requires-clause-proper
apply-requires-clause-proper c = record {
  deltas = subst (λ l. AllByRecursion (λ (table : Name × Delta Flow). IsProper table.1.added) l) (sym c.new-3.ensures) tt;
  chassis = subst (λ l. AllByRecursion (λ (e : Name × Tables). IsProper e.1.flows) l) (sym c.new.ensures) tt;
}
