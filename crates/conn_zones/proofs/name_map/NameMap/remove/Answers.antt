use Rattle.std.proofs.Common.{◌∙◌, ap, sym, subst}
use Rattle.std.specs.List.{remove}
use Rattle.ovn_base.specs.names.ByName.{at, IsByName}
use Rattle.conn_zones.proofs.NameMaps.{at_gap, remove_sorted, remove_at, gap_removed}
use Rattle.conn_zones.proofs.name_map.NameMap.remove.Goals as goal

pub invariant_of-self : goal.invariant_of-self
invariant_of-self g c = subst IsByName (sym c.remove.ensures.items) (remove_sorted c.self.inside.entries.items c.in-Ok.index c.self.invariant)

pub returns-in-Ok : goal.returns-in-Ok
returns-in-Ok g c = λ q.
    ap (λ l. at l q) (c.remove.ensures.items ∙ ap (λ l. remove l c.in-Ok.index) c.self.view_is)
    ∙ remove_at c.args.self.now c.args.name.now c.in-Ok.index (subst IsByName c.self.view_is c.self.invariant) c.in-Ok.ensures.found q

pub returns-in-Err : goal.returns-in-Err
returns-in-Err g c = gap_removed c.args.self.now c.args.name.now (at_gap c.args.self.now c.args.name.now c.in-Err.field-0 c.in-Err.ensures.absent)
