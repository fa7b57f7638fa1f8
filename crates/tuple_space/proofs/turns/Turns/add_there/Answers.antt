use Rattle.std.proofs.Common.{◌≡◌, List, is_some, nat_eq, sym, subst, ap, ◌∙◌}
use Rattle.std.proofs.Common.{Vec}
use Rattle.std.specs.declared.alloc.Global.{Global}
use Rattle.std.proofs.lemmas.Bool.{false≢true}
use Rattle.std.specs.Option.{option_copied_mut, option_map}
use Rattle.std.specs.Map.{lookup}
use Rattle.indexmap.proofs.MapLemmas.{OnOk-map}
use Rattle.tuple_space.specs.declared.turn.Turn.{Turn}
use Rattle.tuple_space.specs.Turns.{IsByBound, HasTurn, turns_of, tables_of}
use Rattle.tuple_space.proofs.TableLaws.{turns_there, found_table, IsTurned, turned_write, turned_order, turned_has, turned_kept}
use Rattle.tuple_space.proofs.turns.Turns.add_there.Goals as goal

pub unreachable-requires : goal.unreachable-requires
unreachable-requires c =
    let at = found_table c.args.table c.self.inside.tables.entries ∙ ap (λ o. option_map (λ (v : Vec Turn Global). v.items) o) (sym c.get_mut.ensures.value ∙ ap option_copied_mut c.in-None.is) in
    false≢true (ap (λ o. is_some o) (sym at) ∙ ap (λ v. is_some (lookup (nat_eq c.args.table) v)) c.self.view_is ∙ c.requires)

pub returns-clause-has : goal.returns-clause-has
returns-clause-has c =
    let es = c.self.inside.tables.entries in
    let after = (c.get_mut.follows.lender c.add_turn.new.turns).entries in
    let at = sym c.get_mut.ensures.value ∙ ap option_copied_mut c.in-Some.is in
    let ts : turns_of (tables_of es) c.args.table ≡ c.in-Some.turns.now.items = ap (λ o. turns_there o) (found_table c.args.table es ∙ ap (λ o. option_map (λ (v : Vec Turn Global). v.items) o) at) in
    let turned : IsTurned c.args.table c.add_turn.new.turns.items (tables_of es) (tables_of after) = turned_write c.args.table es after c.in-Some.turns.now c.add_turn.new.turns at (c.get_mut.follows.holds c.add_turn.new.turns).0 in
    OnOk-map c.add_turn.result (HasTurn c.add_turn.new.turns.items c.args.number 0 0) (HasTurn (turns_of (tables_of after) c.args.table) c.args.number 0 0)
    (turned_has c.args.table c.add_turn.new.turns.items (tables_of es) (tables_of after) turned c.args.number 0 0) c.add_turn.ensures.has

pub invariant_of-self : goal.invariant_of-self
invariant_of-self c =
    let es = c.self.inside.tables.entries in
    let after = (c.get_mut.follows.lender c.add_turn.new.turns).entries in
    let at = sym c.get_mut.ensures.value ∙ ap option_copied_mut c.in-Some.is in
    let ts : turns_of (tables_of es) c.args.table ≡ c.in-Some.turns.now.items = ap (λ o. turns_there o) (found_table c.args.table es ∙ ap (λ o. option_map (λ (v : Vec Turn Global). v.items) o) at) in
    let turned : IsTurned c.args.table c.add_turn.new.turns.items (tables_of es) (tables_of after) = turned_write c.args.table es after c.in-Some.turns.now c.add_turn.new.turns at (c.get_mut.follows.holds c.add_turn.new.turns).0 in
    turned_order c.args.table c.add_turn.new.turns.items (tables_of es) (tables_of after) turned c.self.invariant (λ h. c.add_turn.ensures.order (subst (λ (l : List Turn). IsByBound l) ts h))

pub returns-clause-kept : goal.returns-clause-kept
returns-clause-kept c = λ k n p r h.
    let es = c.self.inside.tables.entries in
    let after = (c.get_mut.follows.lender c.add_turn.new.turns).entries in
    let at = sym c.get_mut.ensures.value ∙ ap option_copied_mut c.in-Some.is in
    let ts : turns_of (tables_of es) c.args.table ≡ c.in-Some.turns.now.items = ap (λ o. turns_there o) (found_table c.args.table es ∙ ap (λ o. option_map (λ (v : Vec Turn Global). v.items) o) at) in
    let turned : IsTurned c.args.table c.add_turn.new.turns.items (tables_of es) (tables_of after) = turned_write c.args.table es after c.in-Some.turns.now c.add_turn.new.turns at (c.get_mut.follows.holds c.add_turn.new.turns).0 in
    turned_kept c.args.table c.add_turn.new.turns.items (tables_of es) (tables_of after) turned
    (λ n p r h. c.add_turn.ensures.kept n p r (subst (λ (l : List Turn). HasTurn l n p r) ts h)) k n p r
    (subst (λ v. HasTurn (turns_of v k) n p r) (sym c.self.view_is) h)
