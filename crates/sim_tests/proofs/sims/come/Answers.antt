use Rattle.std.proofs.Common.{sym, subst}
use Rattle.flow_table.specs.HeldFlows.{HeldFlows}
use Rattle.switch_engine.specs.Proper.{IsProper}
use Rattle.sim_tests.proofs.sims.come.Goals as goal

pub bring-requires : goal.bring-requires
bring-requires g c = subst (λ (t : HeldFlows). IsProper t.flows) (sym c.tables.view_is) c.in_ok-tables.ensures
