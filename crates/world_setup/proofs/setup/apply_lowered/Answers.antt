use Rattle.std.proofs.Common.{subst}
use Rattle.world_setup.specs.Setup.{IsLoweredOrDone, lowering_in}
use Rattle.world_setup.proofs.setup.apply_lowered.Goals as goal

pub apply-requires : goal.apply-requires
apply-requires c = (subst (λ o. IsLoweredOrDone c.requires.0 c.requires.1 c.args.lowered.now o) c.in-Some.is c.requires.2).ready

pub returns-in-Some : goal.returns-in-Some
returns-in-Some c before after had planned = c.apply.ensures.leads (lowering_in before) (lowering_in after) (subst (λ o. IsLoweredOrDone before after c.args.lowered.now o) c.in-Some.is planned)
