use Rattle.std.proofs.Common.{Err, ap, arith, ◌∙◌}
use Rattle.world_core.proofs.FrameFaults.{bad_is_told, packet_is_told}
use Rattle.world_core.proofs.frames.read_entering.Goals as goal

pub returns-in-Ok : goal.returns-in-Ok
returns-in-Ok c = packet_is_told c.in-Ok.packet c.args.frame.now c.in-Ok.ensures.whole c.in-Ok.ensures.frame

pub returns-in-Err-BadIp4 : goal.returns-in-Err-BadIp4
returns-in-Err-BadIp4 c =
    let told = c.in-Err-BadIp4.is ∙ ap Err c.in-Err-BadIp4.field-0-is in
    bad_is_told c.args.frame.now (λ i. omega (arith, c.type_inv.frame i)) (c.decode.ensures.bad.0 told)
