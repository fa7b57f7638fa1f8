use Rattle.std.proofs.Common.{sym, ◌∙◌, arith}
use Rattle.std.proofs.lemmas.Result.{err_from_is_err_and}
use Rattle.inet_packet.proofs.DecodeLaws.{head_of, made_frame, made_whole, fault_bad, not_bad}
use Rattle.inet_packet.proofs.OnePacket.{one_packet_at_most}
use Rattle.inet_packet.proofs.decode.decode.Goals as goal

pub returns-in_err-body-clause-bad : goal.returns-in_err-body-clause-bad
returns-in_err-body-clause-bad c =
    let dst = c.take_mac-dst.result.0 in
    let src = c.take_mac-src.result.0 in
    let t = c.take_u16-ether_type.result.0 in
    let rest = c.take_u16-ether_type.result.1.now in
    let head = head_of c.args.frame.now c.take_mac-dst.result.1.now c.take_mac-src.result.1.now rest dst src t c.take_mac-dst.ensures.parts c.take_mac-src.ensures.parts c.take_u16-ether_type.ensures.parts (omega arith) (λ i. omega (arith, c.type_inv.frame i)) in
    let p = err_from_is_err_and c.from_residual.result c.from_residual.ensures.1 in
    rw (p.1, p.2) (fault_bad c.in_err-body.field-0.0 c.args.frame.now dst src t rest c.if-frame-lt-MIN_FRAME.false c.if-frame-gt-MAX_FRAME.false head c.in_err-body.ensures)

pub returns-clause-frame : goal.returns-clause-frame
returns-clause-frame c =
    let dst = c.take_mac-dst.result.0 in
    let src = c.take_mac-src.result.0 in
    let t = c.take_u16-ether_type.result.0 in
    let rest = c.take_u16-ether_type.result.1.now in
    let head = head_of c.args.frame.now c.take_mac-dst.result.1.now c.take_mac-src.result.1.now rest dst src t c.take_mac-dst.ensures.parts c.take_mac-src.ensures.parts c.take_u16-ether_type.ensures.parts (omega arith) (λ i. omega (arith, c.type_inv.frame i)) in
    made_frame c.args.frame.now dst src t rest c.in_ok-body.body c.in_ok-body.tail head c.in_ok-body.ensures

pub returns-clause-whole : goal.returns-clause-whole
returns-clause-whole c =
    let dst = c.take_mac-dst.result.0 in
    let src = c.take_mac-src.result.0 in
    let t = c.take_u16-ether_type.result.0 in
    let rest = c.take_u16-ether_type.result.1.now in
    let head = head_of c.args.frame.now c.take_mac-dst.result.1.now c.take_mac-src.result.1.now rest dst src t c.take_mac-dst.ensures.parts c.take_mac-src.ensures.parts c.take_u16-ether_type.ensures.parts (omega arith) (λ i. omega (arith, c.type_inv.frame i)) in
    made_whole c.args.frame.now dst src t rest c.in_ok-body.body c.in_ok-body.tail c.if-frame-lt-MIN_FRAME.false c.if-frame-gt-MAX_FRAME.false head c.in_ok-body.ensures

pub returns-clause-again : goal.returns-clause-again
returns-clause-again c =
    let dst = c.take_mac-dst.result.0 in
    let src = c.take_mac-src.result.0 in
    let t = c.take_u16-ether_type.result.0 in
    let rest = c.take_u16-ether_type.result.1.now in
    let head = head_of c.args.frame.now c.take_mac-dst.result.1.now c.take_mac-src.result.1.now rest dst src t c.take_mac-dst.ensures.parts c.take_mac-src.ensures.parts c.take_u16-ether_type.ensures.parts (omega arith) (λ i. omega (arith, c.type_inv.frame i)) in
    let b = c.in_ok-body.body in
    let tail = c.in_ok-body.tail in
    λ p h e.
    one_packet_at_most (record { dst = dst; src = src; body = b; tail = tail }) p
    (made_whole c.args.frame.now dst src t rest b tail c.if-frame-lt-MIN_FRAME.false c.if-frame-gt-MAX_FRAME.false head c.in_ok-body.ensures) h
    (made_frame c.args.frame.now dst src t rest b tail head c.in_ok-body.ensures ∙ sym e)

pub returns-clause-bad : goal.returns-clause-bad
returns-clause-bad c =
    let dst = c.take_mac-dst.result.0 in
    let src = c.take_mac-src.result.0 in
    let t = c.take_u16-ether_type.result.0 in
    let rest = c.take_u16-ether_type.result.1.now in
    let head = head_of c.args.frame.now c.take_mac-dst.result.1.now c.take_mac-src.result.1.now rest dst src t c.take_mac-dst.ensures.parts c.take_mac-src.ensures.parts c.take_u16-ether_type.ensures.parts (omega arith) (λ i. omega (arith, c.type_inv.frame i)) in
    (λ e. absurd (cc), λ bad. absurd (not_bad c.args.frame.now dst src t rest c.if-frame-lt-MIN_FRAME.false c.if-frame-gt-MAX_FRAME.false head (record { body = c.in_ok-body.body; tail = c.in_ok-body.tail; is_body = c.in_ok-body.ensures }) bad))
