use Rattle.std.specs.Map.{keys_of}
use Rattle.std.proofs.Common.{sym, subst}
use Rattle.flow_refs.specs.Origins.{flows_of}
use Rattle.stage_rows.specs.Units.{pairs_of_unit}
use Rattle.northd_core.specs.Held.{North, HaveSame, unit_order}
use Rattle.northd_core.specs.Plans.{ListsEach, IsPairOf}
use Rattle.northd_core.proofs.NorthPlans.{pairs_listed}
use Rattle.northd_core.proofs.northd.Northd.pair.Goals as goal

pub returns-in_err-flow-clause-each : goal.returns-in_err-flow-clause-each
returns-in_err-flow-clause-each c net valid stands =
    let held = subst (λ (n : North). HaveSame (flows_of unit_order n.pairs.origins) (pairs_of_unit net)) (sym c.self.view_is) stands.pairs in
    subst (λ (n : North). ListsEach (IsPairOf net) (keys_of n.pairs.counts)) c.self.view_is
    (pairs_listed net valid c.exact_pairs.ensures c.self.inside.pairs.origins (keys_of c.self.inside.pairs.counts) held c.flow.ensures.once c.flow.ensures.held)

pub returns-clause-each : goal.returns-clause-each
returns-clause-each c net valid stands =
    let held = subst (λ (n : North). HaveSame (flows_of unit_order n.pairs.origins) (pairs_of_unit net)) (sym c.self.view_is) stands.pairs in
    subst (λ (n : North). ListsEach (IsPairOf net) (keys_of n.pairs.counts)) c.self.view_is
    (pairs_listed net valid c.exact_pairs.ensures c.self.inside.pairs.origins (keys_of c.self.inside.pairs.counts) held c.flow.ensures.once c.flow.ensures.held)
