use Rattle.std.proofs.Common.{true, false, sym, ap, ◌∙◌}
use Rattle.std.specs.Prelude.{slice_get}
use Rattle.ovn_base.specs.declared.address.Backend.{Backend}
use Rattle.conn_table.specs.Picks.{is_free_backend}
use Rattle.switch_engine.proofs.Filters.{filter_from, past_first}
use Rattle.switch_engine.proofs.commits.nth_free.Goals as goal

none : Backend
none = record { ip = record { 0 = 0 }; port = 0 }

pub backends-preserved : goal.backends-preserved
unfolding none
backends-preserved c =
    let test = is_free_backend c.args.zone.now c.args.tuple.now in
    let more = filter_from test c.args.backends.now c.backends.backend-index none c.backends-test.true true (sym c.is_free_backend.ensures ∙ c.if-not-is_free_backend.false) in
    sym (past_first _ _ c.backends.left c.if-left-eq0.false) ∙ ap (λ l. slice_get l c.backends.left) (sym more) ∙ c.backends.invariant

pub backends-preserved-then-not-is_free_backend : goal.backends-preserved-then-not-is_free_backend
unfolding none
backends-preserved-then-not-is_free_backend c =
    let test = is_free_backend c.args.zone.now c.args.tuple.now in
    let same = filter_from test c.args.backends.now c.backends.backend-index none c.backends-test.true false (sym c.is_free_backend.ensures ∙ c.if-not-is_free_backend.true) in
    ap (λ l. slice_get l c.backends.left) (sym same) ∙ c.backends.invariant
