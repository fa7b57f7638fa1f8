use Rattle.std.proofs.Common.{rules}
use Rattle.chassis_sim.proofs.frames.spelled.Goals as goal

pub returns-clause-sent : goal.returns-clause-sent
returns-clause-sent c = record {
  vni = c.args.vni;
  in_key = c.args.in_key;
  out_key = c.args.out_key;
  packet = c.args.packet.now;
  vni_within = c.requires.vni;
  in_key_within = c.requires.in_key;
  out_key_within = search rules;
  whole = c.requires.whole;
  spelled = search rules;
}
