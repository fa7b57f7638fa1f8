use Rattle.ovnsim.specs.declared.run.Stop.TheVariants.{Memory}
use Rattle.ovnsim.proofs.Stops.{nothing_done}
use Rattle.ovnsim.proofs.OneEvent.{passed_on}
use Rattle.ovnsim.proofs.run.replay.Goals as goal

pub returns-in_err-buf-clause-stopped : goal.returns-in_err-buf-clause-stopped
returns-in_err-buf-clause-stopped g c = passed_on c.from_residual.result Memory _ c.from_residual.ensures.1 (nothing_done _ _)

pub returns-in_err-world-clause-stopped : goal.returns-in_err-world-clause-stopped
returns-in_err-world-clause-stopped g c = passed_on c.from_residual-in_err-world.result Memory _ c.from_residual-in_err-world.ensures.1 (nothing_done _ _)
