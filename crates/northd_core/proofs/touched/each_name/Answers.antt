use Rattle.std.specs.Prelude.{◌+◌, ◌∷◌, drop}
use Rattle.std.specs.Cmp.Lexicographic.{slice_cmp}
use Rattle.std.specs.Ordering.{is_eq, nat_cmp}
use Rattle.std.proofs.Common.{ap, sym, ◌∙◌}
use Rattle.std.proofs.lemmas.List.{drop_all, drop_more}
use Rattle.tunnel_keys.proofs.KeyOrder.{all_came, none_left, one_came}
use Rattle.northd_core.proofs.touched.each_name.Goals as goal

pub names-preserved : goal.names-preserved
names-preserved c =
    let names = c.args.names.now in
    let i = c.names.name-index in
    let rest = drop (i + 1) names in
    let split = drop_more names i c.name-item.result c.names-test.true ∙ ap (λ k. k ∷ rest) (sym c.name-item.is) in
    one_came (slice_cmp nat_cmp) (λ a b h. (c.exact_name.ensures.order a b).0 (ap is_eq h)) names c.names.sorted.keys c.insert.new.self.keys (drop i names) rest c.name-item.result c.names.invariant split c.in_ok-insert.ensures.keys

pub returns : goal.returns
returns c =
    let whole = all_came c.singles.singles c.singles.name-iterator c.into_iter-name-iterator.result c.names.sorted.keys c.singles.invariant c.in-None.ensures.steps.0 c.into_iter-name-iterator.ensures.into_iter_gives.0 in
    none_left c.args.names.now c.names.sorted.keys c.singles.singles (drop c.names.name-index c.args.names.now) c.names.invariant (drop_all c.names.name-index c.args.names.now c.names-test.false) whole
