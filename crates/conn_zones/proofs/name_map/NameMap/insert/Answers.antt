use Rattle.std.proofs.Common.{◌∙◌, ap, sym, subst}
use Rattle.std.specs.Prelude.{slice_set}
use Rattle.std.specs.List.{insert}
use Rattle.ovn_base.specs.names.ByName.{at, IsByName}
use Rattle.ovn_base.proofs.ByNameLaws.{put_sorted}
use Rattle.conn_zones.specs.NameMaps.{IsPlaceAt, IsGapAt}
use Rattle.conn_zones.proofs.NameMaps.{set_puts, insert_puts, put_at}
use Rattle.conn_zones.proofs.name_map.NameMap.insert.Goals as goal

-- the name was there, and its value is written over
pub invariant_of-self : goal.invariant_of-self
invariant_of-self g c =
    let place = subst (λ l. IsPlaceAt l c.args.name c.in-Ok.index) (sym c.self.view_is) c.in-Ok.ensures.found in
    subst IsByName (sym (set_puts c.self.inside.entries.items c.args.name c.in-Ok.index place c.args.value)) (put_sorted c.self.inside.entries.items c.args.name c.args.value c.self.invariant)

pub returns-in-Ok-clause-entries : goal.returns-in-Ok-clause-entries
returns-in-Ok-clause-entries g c =
    ap (λ l. slice_set l c.in-Ok.index (c.args.name, c.args.value)) c.self.view_is ∙ set_puts c.args.self.now c.args.name c.in-Ok.index c.in-Ok.ensures.found c.args.value

pub returns-in-Ok-clause-values : goal.returns-in-Ok-clause-values
returns-in-Ok-clause-values g c =
    let entries = ap (λ l. slice_set l c.in-Ok.index (c.args.name, c.args.value)) c.self.view_is ∙ set_puts c.args.self.now c.args.name c.in-Ok.index c.in-Ok.ensures.found c.args.value in
    λ q. ap (λ l. at l q) entries ∙ put_at c.args.self.now c.args.name c.args.value q

-- it is added in the gap
pub invariant_of-self-in-Err : goal.invariant_of-self-in-Err
invariant_of-self-in-Err g c =
    let gap = subst (λ l. IsGapAt l c.args.name c.in-Err.index) (sym c.self.view_is) c.in-Err.ensures.absent in
    subst IsByName (sym (c.in_ok-insert-in-Err.ensures.items ∙ insert_puts c.self.inside.entries.items c.args.name c.in-Err.index gap c.args.value)) (put_sorted c.self.inside.entries.items c.args.name c.args.value c.self.invariant)

pub returns-in_ok-insert-in-Err-clause-entries : goal.returns-in_ok-insert-in-Err-clause-entries
returns-in_ok-insert-in-Err-clause-entries g c =
    c.in_ok-insert-in-Err.ensures.items ∙ ap (λ l. insert l c.in-Err.index (c.args.name, c.args.value)) c.self.view_is ∙ insert_puts c.args.self.now c.args.name c.in-Err.index c.in-Err.ensures.absent c.args.value

pub returns-in_ok-insert-in-Err-clause-values : goal.returns-in_ok-insert-in-Err-clause-values
returns-in_ok-insert-in-Err-clause-values g c =
    let entries = c.in_ok-insert-in-Err.ensures.items ∙ ap (λ l. insert l c.in-Err.index (c.args.name, c.args.value)) c.self.view_is ∙ insert_puts c.args.self.now c.args.name c.in-Err.index c.in-Err.ensures.absent c.args.value in
    λ q. ap (λ l. at l q) entries ∙ put_at c.args.self.now c.args.name c.args.value q
