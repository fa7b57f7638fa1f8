use Rattle.std.proofs.Common.{◌≤◌, ◌+◌, insert, length, vec_capacity, sym, subst, ap, ◌∙◌}
use Rattle.tuple_space.specs.Lines.{Flows, in_line, line_room}
use Rattle.tuple_space.proofs.LineLaws.{line_insert, line_room_less}
use Rattle.tuple_space.proofs.line.Line.insert.Goals as goal

pub returns-then-place-gt0-clause-flows : goal.returns-then-place-gt0-clause-flows
returns-then-place-gt0-clause-flows c =
    let first = c.self.inside.first in
    let rest = c.self.inside.rest.items in
    let within = subst (λ (l : Flows). c.args.place ≤ length l.flows) (sym c.self.view_is) c.requires.place in
    ap (in_line first) c.put_at.ensures.items ∙ line_insert first rest c.args.place c.args.flow c.self.invariant c.if-place-gt0.true within ∙ ap (λ (l : Flows). insert l.flows c.args.place c.args.flow) c.self.view_is

pub returns-then-place-gt0-clause-room : goal.returns-then-place-gt0-clause-room
returns-then-place-gt0-clause-room c =
    let first = c.self.inside.first in
    let rest = c.self.inside.rest in
    let more = c.put_at.new.rest in
    subst (λ (l : Flows). l.room ≤ line_room first more.items (vec_capacity more) + 1) c.self.view_is (line_room_less first rest.items more.items (vec_capacity rest) (vec_capacity more) c.put_at.ensures.len c.put_at.ensures.capacity)
