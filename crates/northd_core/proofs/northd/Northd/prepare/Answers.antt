use Rattle.std.specs.Prelude.{◌≡◌}
use Rattle.std.proofs.Common.{ap, sym, subst, ◌∙◌}
use Rattle.flow_refs.specs.Origins.{IsEachOnce}
use Rattle.flow_refs.specs.Store.{Prepared, IsKept, IsPreparedFor}
use Rattle.logical_flows.specs.declared.flow.LFlow.{LFlow}
use Rattle.logical_flows.specs.declared.unit.UnitId.{UnitId}
use Rattle.nb_records.specs.Network.{Network}
use Rattle.ovn_base.specs.declared.name.Name.{Name}
use Rattle.stage_rows.specs.Units.{pairs_of_unit, rows_of, units_of}
use Rattle.northd_core.specs.Held.{North, same_flow, same_pair, unit_order}
use Rattle.northd_core.specs.Listing.{HaveJoined, with_each}
use Rattle.northd_core.proofs.NorthPlans.{is_left, is_plan}
use Rattle.northd_core.proofs.Stores.{given_once}
use Rattle.northd_core.proofs.northd.Northd.prepare.Goals as goal

pub prepare-requires-clause-once : goal.prepare-requires-clause-once
prepare-requires-clause-once g c =
    subst (λ es. IsEachOnce unit_order es) (sym c.in_ok-flows.ensures.flows) (given_once (rows_of c.after-2.result.now) c.put_units-2.new.units.keys c.in_ok-flows.ensures.order)

pub prepare-requires-2-clause-once : goal.prepare-requires-2-clause-once
prepare-requires-2-clause-once g c =
    subst (λ es. IsEachOnce unit_order es) (sym c.in_ok-flows.ensures.pairs) (given_once (pairs_of_unit c.after-2.result.now) c.put_units-2.new.units.keys c.in_ok-flows.ensures.order)

pub returns-in_err-pairs-clause-left : goal.returns-in_err-pairs-clause-left
returns-in_err-pairs-clause-left g c =
    is_left c.exact_flow.ensures c.exact_pairs.ensures c.args.self.now (record { flows = c.prepare.new.self; pairs = c.prepare-2.new.self })
    (subst (λ (n : North). IsKept same_flow unit_order n.flows.origins c.prepare.new.self.origins) c.self.view_is c.prepare.ensures.kept)
    (subst (λ (n : North). IsKept same_pair unit_order n.pairs.origins c.prepare-2.new.self.origins) c.self.view_is c.prepare-2.ensures.kept)
    (subst (λ (n : North). (p : Prepared LFlow UnitId) → IsPreparedFor same_flow unit_order n.flows p → IsPreparedFor same_flow unit_order c.prepare.new.self p) c.self.view_is c.prepare.ensures.stays)
    (subst (λ (n : North). (p : Prepared (LFlow × Name) UnitId) → IsPreparedFor same_pair unit_order n.pairs p → IsPreparedFor same_pair unit_order c.prepare-2.new.self p) c.self.view_is c.prepare-2.ensures.stays)
    (c.prepare.ensures.counts ∙ ap (λ (n : North). n.flows.counts) c.self.view_is) (c.prepare-2.ensures.counts ∙ ap (λ (n : North). n.pairs.counts) c.self.view_is)

pub returns-clause-left : goal.returns-clause-left
returns-clause-left g c =
    is_left c.exact_flow.ensures c.exact_pairs.ensures c.args.self.now (record { flows = c.prepare.new.self; pairs = c.prepare-2.new.self })
    (subst (λ (n : North). IsKept same_flow unit_order n.flows.origins c.prepare.new.self.origins) c.self.view_is c.prepare.ensures.kept)
    (subst (λ (n : North). IsKept same_pair unit_order n.pairs.origins c.prepare-2.new.self.origins) c.self.view_is c.prepare-2.ensures.kept)
    (subst (λ (n : North). (p : Prepared LFlow UnitId) → IsPreparedFor same_flow unit_order n.flows p → IsPreparedFor same_flow unit_order c.prepare.new.self p) c.self.view_is c.prepare.ensures.stays)
    (subst (λ (n : North). (p : Prepared (LFlow × Name) UnitId) → IsPreparedFor same_pair unit_order n.pairs p → IsPreparedFor same_pair unit_order c.prepare-2.new.self p) c.self.view_is c.prepare-2.ensures.stays)
    (c.prepare.ensures.counts ∙ ap (λ (n : North). n.flows.counts) c.self.view_is) (c.prepare-2.ensures.counts ∙ ap (λ (n : North). n.pairs.counts) c.self.view_is)

pub returns-clause-planned : goal.returns-clause-planned
returns-clause-planned g c =
    let keys = c.put_units-2.new.units.keys in
    is_plan c.args.records.now c.args.plan.now.after c.requires.before c.requires.after c.exact_flow.ensures c.exact_pairs.ensures c.exact_units.ensures
    c.new-units.result.keys c.put_units.new.units.keys keys c.in_ok-put_units.ensures (subst (λ (n : Network). HaveJoined (units_of n) c.put_units.new.units.keys keys) c.after.ensures c.in_ok-put_units-2.ensures)
    c.args.self.now (record { flows = c.prepare.new.self; pairs = c.prepare-2.new.self }) (record { flows = c.in_ok-flows-2.flows; pairs = c.in_ok-pairs.pairs })
    c.in_ok-flows.field-0.flows c.in_ok-flows.field-0.pairs
    (subst (λ (n : Network). c.in_ok-flows.field-0.flows ≡ with_each (rows_of n) keys) c.after-2.ensures c.in_ok-flows.ensures.flows)
    (subst (λ (n : Network). c.in_ok-flows.field-0.pairs ≡ with_each (pairs_of_unit n) keys) c.after-2.ensures c.in_ok-flows.ensures.pairs)
    c.in_ok-flows-2.ensures.same c.in_ok-pairs.ensures.same
    (subst (λ (n : North). IsKept same_flow unit_order n.flows.origins c.prepare.new.self.origins) c.self.view_is c.prepare.ensures.kept)
    (subst (λ (n : North). IsKept same_pair unit_order n.pairs.origins c.prepare-2.new.self.origins) c.self.view_is c.prepare-2.ensures.kept)
    (record { flows = c.in_ok-flows-2.ensures.prepared; pairs = c.in_ok-pairs.ensures.prepared }) c.requires.stands
