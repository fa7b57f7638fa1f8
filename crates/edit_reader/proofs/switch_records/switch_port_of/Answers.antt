use Rattle.std.specs.Prelude.{refl}
use Rattle.std.proofs.lemmas.Result.{err_from_is_err_and}
use Rattle.edit_reader.specs.Records.{record_of}
use Rattle.edit_reader.proofs.Exits.{fails_after}
use Rattle.edit_reader.proofs.switch_records.switch_port_of.Goals as goal

pub returns-in_err-router_port_in : goal.returns-in_err-router_port_in
unfolding record_of
returns-in_err-router_port_in c =
    let p = err_from_is_err_and c.from_residual-in_err-router_port_in.result c.from_residual-in_err-router_port_in.ensures.1 in
    rw (p.1, p.2) (fails_after c.in_err-router_port_in.field-0.0 _ _ c.in_err-router_port_in.ensures (λ f h.
    rw (c.in_ok-needed.ensures.value, c.in_ok-needed-2.ensures.value, c.in_ok-default_or.ensures.value, h) refl))

pub returns-in_err-listed : goal.returns-in_err-listed
unfolding record_of
returns-in_err-listed c =
    let p = err_from_is_err_and c.from_residual-in_err-listed.result c.from_residual-in_err-listed.ensures.1 in
    rw (p.1, p.2) (fails_after c.in_err-listed.field-0.0 _ _ c.in_err-listed.ensures.value (λ f h.
    rw (c.in_ok-needed.ensures.value, c.in_ok-needed-2.ensures.value, c.in_ok-default_or.ensures.value, c.in_ok-router_port_in.ensures, h) refl))

pub returns-in_err-listed-2 : goal.returns-in_err-listed-2
unfolding record_of
returns-in_err-listed-2 c =
    let p = err_from_is_err_and c.from_residual-in_err-listed-2.result c.from_residual-in_err-listed-2.ensures.1 in
    rw (p.1, p.2) (fails_after c.in_err-listed-2.field-0.0 _ _ c.in_err-listed-2.ensures.value (λ f h.
    rw (c.in_ok-needed.ensures.value, c.in_ok-needed-2.ensures.value, c.in_ok-default_or.ensures.value, c.in_ok-router_port_in.ensures, c.in_ok-listed.ensures.value, h) refl))

pub returns-in_err-default_or-2 : goal.returns-in_err-default_or-2
unfolding record_of
returns-in_err-default_or-2 c =
    let p = err_from_is_err_and c.from_residual-in_err-default_or-2.result c.from_residual-in_err-default_or-2.ensures.1 in
    rw (p.1, p.2) (fails_after c.in_err-default_or-2.field-0.0 _ _ c.in_err-default_or-2.ensures.value (λ f h.
    rw (c.in_ok-needed.ensures.value, c.in_ok-needed-2.ensures.value, c.in_ok-default_or.ensures.value, c.in_ok-router_port_in.ensures, c.in_ok-listed.ensures.value, c.in_ok-listed-2.ensures.value, h) refl))

pub returns : goal.returns
unfolding record_of
returns c = rw (c.in_ok-needed.ensures.value, c.in_ok-needed-2.ensures.value, c.in_ok-default_or.ensures.value, c.in_ok-router_port_in.ensures, c.in_ok-listed.ensures.value, c.in_ok-listed-2.ensures.value, c.in_ok-default_or-2.ensures.value) refl
