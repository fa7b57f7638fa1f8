use Rattle.std.proofs.Common.{arith}
use Rattle.inet_packet.proofs.RewriteSteps.{arp_whole}
use Rattle.inet_packet.proofs.packet.Packet.arp_reply.Goals as goal

pub returns-clause-whole : goal.returns-clause-whole
returns-clause-whole c = λ h. rw c.arp_reply.ensures (arp_whole c.args.mac c.args.ip c.args.self.now (omega arith) c.requires h)
