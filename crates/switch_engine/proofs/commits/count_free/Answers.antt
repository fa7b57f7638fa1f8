use Rattle.std.proofs.Common.{true, false, arith, sym, ap, ◌∙◌, length}
use Rattle.ovn_base.specs.declared.address.Backend.{Backend}
use Rattle.conn_table.specs.Picks.{is_free_backend}
use Rattle.switch_engine.proofs.Filters.{filter_from}
use Rattle.switch_engine.proofs.commits.count_free.Goals as goal

none : Backend
none = record { ip = record { 0 = 0 }; port = 0 }

pub backends-preserved : goal.backends-preserved
unfolding none
backends-preserved c =
    let test = is_free_backend c.args.zone.now c.args.tuple.now in
    let more = ap length (filter_from test c.args.backends.now c.backends.backend-index none c.backends-test.true true (sym c.is_free_backend.ensures ∙ c.if-not-is_free_backend.false)) in
    record { counted = omega (arith, c.backends.invariant.counted, more); few = omega (arith, c.backends.invariant.few) }

pub backends-preserved-then-not-is_free_backend : goal.backends-preserved-then-not-is_free_backend
unfolding none
backends-preserved-then-not-is_free_backend c =
    let test = is_free_backend c.args.zone.now c.args.tuple.now in
    let same = ap length (filter_from test c.args.backends.now c.backends.backend-index none c.backends-test.true false (sym c.is_free_backend.ensures ∙ c.if-not-is_free_backend.true)) in
    record { counted = omega (arith, c.backends.invariant.counted, same); few = omega (arith, c.backends.invariant.few) }
