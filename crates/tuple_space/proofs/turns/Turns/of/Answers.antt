use Rattle.std.proofs.Common.{List, sym, subst, ap, ◌∙◌}
use Rattle.std.proofs.Common.{Vec}
use Rattle.std.specs.declared.alloc.Global.{Global}
use Rattle.std.specs.Option.{option_copied, option_map}
use Rattle.tuple_space.specs.declared.turn.Turn.{Turn}
use Rattle.tuple_space.specs.Turns.{IsByBound, turns_of}
use Rattle.tuple_space.proofs.TableLaws.{turns_there, found_table}
use Rattle.tuple_space.proofs.turns.Turns.of.Goals as goal

pub returns-in-Some-clause-turns : goal.returns-in-Some-clause-turns
returns-in-Some-clause-turns c =
    let at = found_table c.args.table c.self.inside.tables.entries ∙ ap (λ o. option_map (λ (v : Vec Turn Global). v.items) o) (sym c.get.ensures.value ∙ ap option_copied c.in-Some.is) in
    c.as_slice.ensures.value ∙ sym (ap (λ o. turns_there o) at) ∙ ap (λ v. turns_of v c.args.table) c.self.view_is

pub returns-in-Some-clause-order : goal.returns-in-Some-clause-order
returns-in-Some-clause-order c =
    let at = found_table c.args.table c.self.inside.tables.entries ∙ ap (λ o. option_map (λ (v : Vec Turn Global). v.items) o) (sym c.get.ensures.value ∙ ap option_copied c.in-Some.is) in
    subst (λ (l : List Turn). IsByBound l) (sym (c.as_slice.ensures.value ∙ sym (ap (λ o. turns_there o) at))) (c.self.invariant c.args.table)

pub returns-in-None-clause-turns : goal.returns-in-None-clause-turns
returns-in-None-clause-turns c =
    let at = found_table c.args.table c.self.inside.tables.entries ∙ ap (λ o. option_map (λ (v : Vec Turn Global). v.items) o) (sym c.get.ensures.value ∙ ap option_copied c.in-None.is) in
    sym (ap (λ o. turns_there o) at) ∙ ap (λ v. turns_of v c.args.table) c.self.view_is
