use Rattle.std.specs.Prelude.{refl}
use Rattle.std.proofs.lemmas.Result.{err_from_is_err_and}
use Rattle.edit_reader.specs.Records.{record_of}
use Rattle.edit_reader.proofs.Exits.{fails_after}
use Rattle.edit_reader.proofs.switch_records.acl_of.Goals as goal

pub returns-in_err-group_in : goal.returns-in_err-group_in
unfolding record_of
returns-in_err-group_in c =
    let p = err_from_is_err_and c.from_residual-in_err-group_in.result c.from_residual-in_err-group_in.ensures.1 in
    rw (p.1, p.2) (fails_after c.in_err-group_in.field-0.0 _ _ c.in_err-group_in.ensures (λ f h.
    rw (c.in_ok-needed.ensures.value, c.in_ok-switch_in.ensures, h) refl))

pub returns : goal.returns
unfolding record_of
returns c = rw (c.in_ok-needed.ensures.value, c.in_ok-switch_in.ensures, c.in_ok-group_in.ensures, c.in_ok-needed-2.ensures.value, c.in_ok-needed-3.ensures.value, c.in_ok-match_in.ensures, c.in_ok-needed-4.ensures.value) refl
