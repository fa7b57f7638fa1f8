use Rattle.std.proofs.Common.{◌∙◌, ◌+◌, ◌∷◌, List, ap, sym, drop}
use Rattle.std.specs.Prelude.{Option}
use Rattle.std.proofs.lemmas.List.{drop_more}
use Rattle.ovn_base.specs.declared.name.Name.{Name}
use Rattle.conn_zones.proofs.NamedLaws.{place_left, next_place}
use Rattle.conn_zones.proofs.keeping.kept_places.Goals as goal

pub change-preserved : goal.change-preserved
change-preserved c =
    let i = c.change.name-index in
    let e : Name × Option Name = c.change-item.result in
    let rest = drop (i + 1) c.args.change.now in
    let split = drop_more c.args.change.now i e c.change-test.true ∙ ap (λ (x : Name × Option Name). x ∷ rest) (sym c.change-item.is) in
    let homes = c.args.homes.now in
    λ q. next_place homes c.change.kept c.keep_one.new.places e rest c.keep_one.ensures q
    ∙ sym (ap (λ (l : List (Name × Option Name)). place_left homes l c.change.kept q) split) ∙ c.change.invariant q
