use Rattle.inet_packet.specs.Rewrites.{ip4_dec_ttl}
use Rattle.inet_packet.proofs.RewriteSteps.{whole_with, right_with, ttl_steps}
use Rattle.inet_packet.proofs.packet.Packet.dec_ttl.Goals as goal

pub returns-clause-whole : goal.returns-clause-whole
returns-clause-whole c = λ h. rw c.dec_ttl.ensures (whole_with ip4_dec_ttl c.args.self.now h (ttl_steps c.args.self.now h))

pub returns-clause-right : goal.returns-clause-right
returns-clause-right c = λ h r. rw c.dec_ttl.ensures (right_with ip4_dec_ttl c.args.self.now (ttl_steps c.args.self.now h) r)
