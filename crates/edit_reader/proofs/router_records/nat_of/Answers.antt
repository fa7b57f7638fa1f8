use Rattle.std.specs.Prelude.{refl}
use Rattle.std.proofs.lemmas.Result.{err_from_is_err_and}
use Rattle.edit_reader.specs.Records.{record_of}
use Rattle.edit_reader.proofs.Exits.{fails_after}
use Rattle.edit_reader.proofs.router_records.nat_of.Goals as goal

pub returns-in_err-needed-4 : goal.returns-in_err-needed-4
unfolding record_of
returns-in_err-needed-4 c =
    let p = err_from_is_err_and c.from_residual-in_err-needed-4.result c.from_residual-in_err-needed-4.ensures.1 in
    rw (p.1, p.2) (fails_after c.in_err-needed-4.field-0.0 _ _ c.in_err-needed-4.ensures.value (λ f h.
    rw (c.in_ok-needed.ensures.value, c.in_ok-needed-2.ensures.value, c.in_ok-needed-3.ensures.value, h) refl))

pub returns-in_err-needed-5 : goal.returns-in_err-needed-5
unfolding record_of
returns-in_err-needed-5 c =
    let p = err_from_is_err_and c.from_residual-in_err-needed-5.result c.from_residual-in_err-needed-5.ensures.1 in
    rw (p.1, p.2) (fails_after c.in_err-needed-5.field-0.0 _ _ c.in_err-needed-5.ensures.value (λ f h.
    rw (c.in_ok-needed.ensures.value, c.in_ok-needed-2.ensures.value, c.in_ok-needed-3.ensures.value, c.in_ok-needed-4.ensures.value, h) refl))

pub returns : goal.returns
unfolding record_of
returns c = rw (c.in_ok-needed.ensures.value, c.in_ok-needed-2.ensures.value, c.in_ok-needed-3.ensures.value, c.in_ok-needed-4.ensures.value, c.in_ok-needed-5.ensures.value) refl
