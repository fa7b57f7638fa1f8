use Rattle.std.proofs.Common.{Some, sym, subst}
use Rattle.chassis_sim.proofs.Lookups.{is_found}
use Rattle.world_setup.specs.Setup.{HasRowsAt, IsPatchAt}
use Rattle.world_setup.proofs.stores.apply_one.Goals as goal

pub returns-in-Some-clause-applied : goal.returns-in-Some-clause-applied
returns-in-Some-clause-applied c before after leads =
    let had = c.in-Some.ensures.value in
    let updates = (c.get_mut.follows.holds c.apply.new.self).3 (is_found _ c.in-Some.flows.now (sym had)) in
    subst (HasRowsAt after) (sym updates.1) (c.apply.ensures.leads before after (subst (λ o. IsPatchAt before after o (Some c.args.patch)) (sym had) leads))
