use Rattle.std.proofs.Common.{◌≡◌, Some, slice_get, get_or, sym, subst, ap, ◌∙◌}
use Rattle.std.specs.Prelude.{bit_and}
use Rattle.std.proofs.lemmas.Option.{slice_get-get_or}
use Rattle.inet_packet.specs.declared.cube.Bits.{Bits}
use Rattle.tuple_space.proofs.SieveLaws.{fit_at}
use Rattle.tuple_space.proofs.sieve.wanted_at.Goals as goal

pub returns-in-Some : goal.returns-in-Some
returns-in-Some c = λ xs fit.
    let found = c.in-Some.ensures.lookup in
    let at : slice_get c.args.bits.now c.args.asked.now.field ≡ Some c.in-Some.wanted.now = slice_get-get_or c.args.bits.now c.args.asked.now.field c.in-Some.wanted.now found.3.0 ∙ ap (λ (b : Bits). Some b) (sym found.1) in
    subst (λ m. bit_and (get_or xs c.args.asked.now.field 0) m ≡ c.in-Some.wanted.now.value) c.if-wanted-asked.true (fit_at c.args.bits.now xs c.args.asked.now.field c.in-Some.wanted.now fit at)
