use Rattle.std.proofs.Common.{◌+◌, ◌-◌, length, drop, sym, ◌∙◌, arith, take_all, length-drop}
use Rattle.ovn_base.proofs.AddressLemmas.{at_none}
use Rattle.ovn_base.proofs.SeparatorLaws.{no_place, at_place}
use Rattle.ovn_base.proofs.read_address.cut.Goals as goal

pub returns-in_err-index-clause-none : goal.returns-in_err-index-clause-none
returns-in_err-index-clause-none c = at_none _ c.from_residual.ensures (no_place c.args.separator c.args.text.now (sym c.place_of.ensures ∙ c.in_err-index.was))

pub returns-clause-found : goal.returns-clause-found
returns-clause-found c =
    let text = c.args.text.now in
    let behind = c.in_ok-index.index + 1 in
    let first = at_place c.args.separator text c.in_ok-index.index (sym c.place_of.ensures ∙ c.in_ok-index.was) in
    let rest = take_all (length text - behind) (drop behind text) (omega (arith, length-drop behind text)) in
    rw rest (first.split, first.before)
