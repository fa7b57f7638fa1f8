use Rattle.std.specs.Prelude.{◌+◌, ◌∷◌, drop}
use Rattle.std.proofs.Common.{refl, ap, sym, ◌∙◌}
use Rattle.std.proofs.lemmas.List.{drop_all, drop_more}
use Rattle.tunnel_keys.proofs.KeyOrder.{none_left, one_came}
use Rattle.northd_core.specs.Held.{unit_order}
use Rattle.northd_core.proofs.units.units_in.Goals as goal

pub units-preserved : goal.units-preserved
units-preserved c =
    let units = c.args.units.now in
    let i = c.units.unit-index in
    let rest = drop (i + 1) units in
    let split = drop_more units i c.unit-item.result c.units-test.true ∙ ap (λ k. k ∷ rest) (sym c.unit-item.is) in
    one_came unit_order c.exact_unit_order.ensures units c.units.set.keys c.insert.new.self.keys (drop i units) rest c.unit-item.result c.units.invariant split c.in_ok-insert.ensures.keys

pub returns : goal.returns
returns c =
    let keys = c.units.set.keys in
    none_left c.args.units.now keys keys (drop c.units.unit-index c.args.units.now) c.units.invariant (drop_all c.units.unit-index c.args.units.now c.units-test.false) refl
