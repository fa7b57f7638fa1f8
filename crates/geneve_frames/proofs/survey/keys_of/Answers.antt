use Rattle.std.proofs.Common.{arith}
use Rattle.geneve_frames.proofs.Bytes.{keys_found}
use Rattle.geneve_frames.proofs.survey.keys_of.Goals as goal

pub returns : goal.returns
returns c = keys_found c.args.content.now _ _ (λ i. omega (arith, c.type_inv.content i)) c.requires c.read_u16-in_key.ensures c.read_u16-out_key.ensures
