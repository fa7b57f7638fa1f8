use Rattle.inet_packet.proofs.frame_ip4.take_part.Goals as goal

pub returns-then-len-ge20-clause-named : goal.returns-then-len-ge20-clause-named
returns-then-len-ge20-clause-named c = c.take_tcp.ensures.named c.args.frag c.args.proto c.args.len (λ ne. ne c.if-frag-ne0.false) c.if-proto-eq6.true c.if-len-ge20.true

pub returns-then-len-ge8-clause-named : goal.returns-then-len-ge8-clause-named
returns-then-len-ge8-clause-named c = c.take_udp.ensures.named c.args.frag c.args.proto c.args.len (λ ne. ne c.if-frag-ne0.false) c.if-proto-eq17.true c.if-len-ge8.true

pub returns-then-len-ge8-2-clause-named : goal.returns-then-len-ge8-2-clause-named
returns-then-len-ge8-2-clause-named c = c.take_icmp.ensures.named c.args.frag c.args.proto c.args.len (λ ne. ne c.if-frag-ne0.false) c.if-proto-eq1.true c.if-len-ge8-2.true
