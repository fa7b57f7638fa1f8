use Rattle.std.proofs.Common.{arith}
use Rattle.inet_packet.specs.Rewrites.{ip4_with_dst}
use Rattle.inet_packet.proofs.RewriteSteps.{whole_with, right_with, dst_steps}
use Rattle.inet_packet.proofs.packet.Packet.set_dst.Goals as goal

pub returns-clause-whole : goal.returns-clause-whole
returns-clause-whole c = λ h. rw c.set_dst.ensures (whole_with (ip4_with_dst c.args.ip) c.args.self.now h (dst_steps c.args.ip c.args.self.now (omega arith) h))

pub returns-clause-right : goal.returns-clause-right
returns-clause-right c = λ h r. rw c.set_dst.ensures (right_with (ip4_with_dst c.args.ip) c.args.self.now (dst_steps c.args.ip c.args.self.now (omega arith) h) r)
