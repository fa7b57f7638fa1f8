use Rattle.std.proofs.Common.{arith, refl}
use Rattle.geneve_frames.proofs.Bytes.{option_found}
use Rattle.geneve_frames.proofs.layout.option_of.Goals as goal

pub returns-clause-found : goal.returns-clause-found
returns-clause-found c = option_found c.args.options.now c.split_at.result.0.now c.split_at.result.1.now c.split_at-2.result.0.now c.split_at-2.result.1.now _ _ (λ i. omega (arith, c.type_inv.options i)) c.if-options-lt-OPTION_LENGTH.false c.split_at.ensures.front c.split_at.ensures.back (omega (arith, c.from-length.ensures)) c.if-rest-length.false c.split_at-2.ensures.front c.split_at-2.ensures.back c.read_u16.ensures refl refl
