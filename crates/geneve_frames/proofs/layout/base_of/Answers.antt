use Rattle.std.proofs.Common.{arith, refl}
use Rattle.geneve_frames.proofs.Bytes.{base_found}
use Rattle.geneve_frames.proofs.layout.base_of.Goals as goal

pub returns-clause-found : goal.returns-clause-found
returns-clause-found c = base_found c.args.frame.now c.split_at.result.0.now c.split_at.result.1.now _ (λ i. omega (arith, c.type_inv.frame i)) c.if-frame-lt-BASE_LENGTH.false c.split_at.ensures.front c.split_at.ensures.back refl (omega (arith, c.from.ensures)) refl c.read_u16.ensures c.read_u24.ensures
