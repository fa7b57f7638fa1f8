use Rattle.std.proofs.Common.{sym, subst}
use Rattle.chassis_sim.specs.Changing.{AllAreDeltas}
use Rattle.chassis_sim.specs.State.{SimView}
use Rattle.chassis_sim.proofs.Rezoning.{still_chassis}
use Rattle.chassis_sim.proofs.sim.Sim.prepare.Goals as goal

pub invariant_of-self-in_err-fresh : goal.invariant_of-self-in_err-fresh
invariant_of-self-in_err-fresh g c = still_chassis _ _ _ _ c.make_ready.ensures.flows c.make_ready.ensures.lists c.self.invariant

pub invariant_of-self-2 : goal.invariant_of-self-2
invariant_of-self-2 g c = still_chassis _ _ _ _ c.make_ready.ensures.flows c.make_ready.ensures.lists c.self.invariant

pub make_ready-requires-clause-deltas : goal.make_ready-requires-clause-deltas
make_ready-requires-clause-deltas g c = subst (λ (s : SimView g.row.T.Denot). AllAreDeltas s.state.chassis c.args.change.now.tables) (sym c.self.view_is) c.requires.deltas
