use Rattle.match_cubes.specs.Points.{setting}
use Rattle.match_cubes.proofs.FitsLaws.{cubes_exact}
use Rattle.match_cubes.proofs.cubes.cubes.Goals as goal

pub returns-in-Ok-clause-exact : goal.returns-in-Ok-clause-exact
returns-in-Ok-clause-exact c = cubes_exact (setting c.args.sets.now c.args.ports.now) c.args.expr.now c.in-Ok.all c.requires.suited c.in-Ok.ensures
