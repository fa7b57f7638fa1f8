use Rattle.std.proofs.Common.{◌≡◌, List, nat_eq, sym, subst, ap, ◌∙◌}
use Rattle.std.proofs.Common.{Vec}
use Rattle.std.specs.declared.alloc.Global.{Global}
use Rattle.std.specs.Option.{option_copied_mut, option_map}
use Rattle.std.specs.Map.{lookup}
use Rattle.tuple_space.specs.declared.turn.Turn.{Turn}
use Rattle.tuple_space.specs.Turns.{IsByBound, HasTurn, turns_of, tables_of}
use Rattle.tuple_space.proofs.TableLaws.{turns_there, found_table, has_place, IsTurned, turned_write, turned_order, turned_has, turned_kept}
use Rattle.tuple_space.proofs.turns.Turns.raise.Goals as goal

pub raise_turn-requires : goal.raise_turn-requires
raise_turn-requires c =
    let es = c.self.inside.tables.entries in
    let at = sym c.get_mut.ensures.value ∙ ap option_copied_mut c.in-Some.is in
    let ts : turns_of (tables_of es) c.args.table ≡ c.in-Some.turns.now.items = ap (λ o. turns_there o) (found_table c.args.table es ∙ ap (λ o. option_map (λ (v : Vec Turn Global). v.items) o) at) in
    subst (λ (l : List Turn). HasTurn l c.args.number 0 0) (ap (λ v. turns_of v c.args.table) (sym c.self.view_is) ∙ ts) c.requires

pub unreachable-requires : goal.unreachable-requires
unreachable-requires c =
    let at = found_table c.args.table c.self.inside.tables.entries ∙ ap (λ o. option_map (λ (v : Vec Turn Global). v.items) o) (sym c.get_mut.ensures.value ∙ ap option_copied_mut c.in-None.is) in
    has_place c.args.table c.args.self.now c.args.number 0 0 c.requires (ap (λ v. lookup (nat_eq c.args.table) v) (sym c.self.view_is) ∙ at)

pub returns-clause-has : goal.returns-clause-has
returns-clause-has c =
    let es = c.self.inside.tables.entries in
    let after = (c.get_mut.follows.lender c.raise_turn.new.turns).entries in
    let at = sym c.get_mut.ensures.value ∙ ap option_copied_mut c.in-Some.is in
    let ts : turns_of (tables_of es) c.args.table ≡ c.in-Some.turns.now.items = ap (λ o. turns_there o) (found_table c.args.table es ∙ ap (λ o. option_map (λ (v : Vec Turn Global). v.items) o) at) in
    let turned : IsTurned c.args.table c.raise_turn.new.turns.items (tables_of es) (tables_of after) = turned_write c.args.table es after c.in-Some.turns.now c.raise_turn.new.turns at (c.get_mut.follows.holds c.raise_turn.new.turns).0 in
    turned_has c.args.table c.raise_turn.new.turns.items (tables_of es) (tables_of after) turned c.args.number c.args.priority c.args.rank c.raise_turn.ensures.has

pub invariant_of-self : goal.invariant_of-self
invariant_of-self c =
    let es = c.self.inside.tables.entries in
    let after = (c.get_mut.follows.lender c.raise_turn.new.turns).entries in
    let at = sym c.get_mut.ensures.value ∙ ap option_copied_mut c.in-Some.is in
    let ts : turns_of (tables_of es) c.args.table ≡ c.in-Some.turns.now.items = ap (λ o. turns_there o) (found_table c.args.table es ∙ ap (λ o. option_map (λ (v : Vec Turn Global). v.items) o) at) in
    let turned : IsTurned c.args.table c.raise_turn.new.turns.items (tables_of es) (tables_of after) = turned_write c.args.table es after c.in-Some.turns.now c.raise_turn.new.turns at (c.get_mut.follows.holds c.raise_turn.new.turns).0 in
    turned_order c.args.table c.raise_turn.new.turns.items (tables_of es) (tables_of after) turned c.self.invariant (λ h. c.raise_turn.ensures.order (subst (λ (l : List Turn). IsByBound l) ts h))

pub returns-clause-kept : goal.returns-clause-kept
returns-clause-kept c = λ k n p r h.
    let es = c.self.inside.tables.entries in
    let after = (c.get_mut.follows.lender c.raise_turn.new.turns).entries in
    let at = sym c.get_mut.ensures.value ∙ ap option_copied_mut c.in-Some.is in
    let ts : turns_of (tables_of es) c.args.table ≡ c.in-Some.turns.now.items = ap (λ o. turns_there o) (found_table c.args.table es ∙ ap (λ o. option_map (λ (v : Vec Turn Global). v.items) o) at) in
    let turned : IsTurned c.args.table c.raise_turn.new.turns.items (tables_of es) (tables_of after) = turned_write c.args.table es after c.in-Some.turns.now c.raise_turn.new.turns at (c.get_mut.follows.holds c.raise_turn.new.turns).0 in
    turned_kept c.args.table c.raise_turn.new.turns.items (tables_of es) (tables_of after) turned
    (λ n p r h. c.raise_turn.ensures.kept n p r (subst (λ (l : List Turn). HasTurn l n p r) ts h)) k n p r
    (subst (λ v. HasTurn (turns_of v k) n p r) (sym c.self.view_is) h)
