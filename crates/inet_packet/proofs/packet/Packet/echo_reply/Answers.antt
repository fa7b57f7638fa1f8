use Rattle.inet_packet.specs.Rewrites.{ip4_as_reply}
use Rattle.inet_packet.proofs.RewriteSteps.{whole_with, right_with, reply_steps}
use Rattle.inet_packet.proofs.packet.Packet.echo_reply.Goals as goal

pub returns-clause-whole : goal.returns-clause-whole
returns-clause-whole c = λ h. rw c.echo_reply.ensures (whole_with ip4_as_reply c.args.self.now h (reply_steps c.args.self.now h))

pub returns-clause-right : goal.returns-clause-right
returns-clause-right c = λ h r. rw c.echo_reply.ensures (right_with ip4_as_reply c.args.self.now (reply_steps c.args.self.now h) r)
