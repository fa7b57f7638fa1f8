use Rattle.chassis_sim.proofs.Fronts.{pushed_front}
use Rattle.chassis_sim.proofs.names.tell.Goals as goal

pub returns-clause-kept : goal.returns-clause-kept
returns-clause-kept c = record {
  effects = c.tell_effects.ensures.kept;
  walks = pushed_front c.push.result c.args.out.now.walks c.push.new.self _ c.push.ensures.ok c.push.ensures.err;
}
