use Rattle.std.proofs.Common.{◌≡◌, List, None, nat_eq, sym, subst, ap, ◌∙◌}
use Rattle.std.specs.Map.{lookup}
use Rattle.tuple_space.specs.declared.turn.Turn.{Turn}
use Rattle.tuple_space.specs.Turns.{IsByBound, HasTurn, turns_of, tables_of}
use Rattle.tuple_space.proofs.TableLaws.{has_place, IsTurned, turned_more, turned_order, turned_has, turned_kept}
use Rattle.tuple_space.proofs.turns.Turns.add_new.Goals as goal

pub invariant_of-self : goal.invariant_of-self
invariant_of-self c =
    let es = c.self.inside.tables.entries in
    let none : lookup (nat_eq c.args.table) (tables_of es) ≡ None = ap (λ v. lookup (nat_eq c.args.table) v) c.self.view_is ∙ c.requires in
    let after = c.insert.new.self.entries in
    let turned : IsTurned c.args.table c.add_turn.new.turns.items (tables_of es) (tables_of after) = turned_more c.args.table es after c.add_turn.new.turns none c.in-Ok.ensures.entries in
    turned_order c.args.table c.add_turn.new.turns.items (tables_of es) (tables_of after) turned c.self.invariant (λ h. c.add_turn.ensures.order (subst (λ (l : List Turn). IsByBound l) (sym c.new-turns.ensures.items) tt))

pub returns-in-Ok-clause-has : goal.returns-in-Ok-clause-has
returns-in-Ok-clause-has c =
    let es = c.self.inside.tables.entries in
    let none : lookup (nat_eq c.args.table) (tables_of es) ≡ None = ap (λ v. lookup (nat_eq c.args.table) v) c.self.view_is ∙ c.requires in
    let after = c.insert.new.self.entries in
    let turned : IsTurned c.args.table c.add_turn.new.turns.items (tables_of es) (tables_of after) = turned_more c.args.table es after c.add_turn.new.turns none c.in-Ok.ensures.entries in
    turned_has c.args.table c.add_turn.new.turns.items (tables_of es) (tables_of after) turned c.args.number 0 0 c.in_ok-add_turn.ensures.has

pub returns-in-Ok-clause-kept : goal.returns-in-Ok-clause-kept
returns-in-Ok-clause-kept c = λ k n p r h.
    let es = c.self.inside.tables.entries in
    let none : lookup (nat_eq c.args.table) (tables_of es) ≡ None = ap (λ v. lookup (nat_eq c.args.table) v) c.self.view_is ∙ c.requires in
    let after = c.insert.new.self.entries in
    let turned : IsTurned c.args.table c.add_turn.new.turns.items (tables_of es) (tables_of after) = turned_more c.args.table es after c.add_turn.new.turns none c.in-Ok.ensures.entries in
    turned_kept c.args.table c.add_turn.new.turns.items (tables_of es) (tables_of after) turned
    (λ n p r h. absurd (has_place c.args.table (tables_of es) n p r h none)) k n p r
    (subst (λ v. HasTurn (turns_of v k) n p r) (sym c.self.view_is) h)
