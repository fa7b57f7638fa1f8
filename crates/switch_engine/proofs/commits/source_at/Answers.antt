use Rattle.std.proofs.Common.{ap, sym, ◌∙◌, nat_eq}
use Rattle.std.proofs.lemmas.Map.Steps.{set_value_same}
use Rattle.switch_engine.proofs.commits.source_at.Goals as goal

pub returns-in-Some-clause-unchanged : goal.returns-in-Some-clause-unchanged
returns-in-Some-clause-unchanged c =
    let written = c.get_mut.follows.holds c.in-Some.zone.now in
    ap (λ z. (c.get_mut.follows.lender z).entries) c.source_in.ensures.unchanged
    ∙ written.0 ∙ set_value_same (nat_eq c.args.number) c.args.zones.now.entries c.in-Some.zone.now (sym c.in-Some.ensures.value)
