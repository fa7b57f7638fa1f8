use Rattle.std.proofs.Common.{arith}
use Rattle.inet_packet.specs.Rewrites.{ip4_with_ports}
use Rattle.inet_packet.proofs.RewriteSteps.{whole_with, right_with, ports_steps}
use Rattle.inet_packet.proofs.packet.Packet.set_ports.Goals as goal

pub returns-clause-whole : goal.returns-clause-whole
returns-clause-whole c = λ h. rw c.set_ports.ensures (whole_with (ip4_with_ports c.args.src c.args.dst) c.args.self.now h (ports_steps c.args.src c.args.dst c.args.self.now (omega arith) (omega arith) h))

pub returns-clause-right : goal.returns-clause-right
returns-clause-right c = λ h r. rw c.set_ports.ensures (right_with (ip4_with_ports c.args.src c.args.dst) c.args.self.now (ports_steps c.args.src c.args.dst c.args.self.now (omega arith) (omega arith) h) r)
