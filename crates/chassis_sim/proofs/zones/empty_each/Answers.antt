use Rattle.std.proofs.Common.{◌∙◌, ℕ, List, length, ◌∷◌, sym, subst, arith}
use Rattle.ovn_base.specs.declared.name.Name.{Name}
use Rattle.chassis_sim.specs.Changing.{AreEmptied, HaveRoom}
use Rattle.chassis_sim.specs.State.{at_name}
use Rattle.chassis_sim.specs.Tables.{zones_held}
use Rattle.chassis_sim.proofs.Emptying.{emptied_none, emptied_more, less_room, less_rooms, none_left}
use Rattle.chassis_sim.proofs.zones.empty_each.Goals as goal

pub empty_one-requires : goal.empty_one-requires
empty_one-requires c =
    let rest = c.next.new.self.rest.items in
    let e : Name × ℕ = (c.in-Some.name, c.in-Some.number) in
    let all = subst (λ (l : List (Name × ℕ)). HaveRoom (length l) c.emptied.zones.entries l) c.in-Some.ensures.steps.0 c.emptied.invariant.room in
    less_room 1 (length (e ∷ rest)) c.in-Some.number (at_name c.emptied.zones.entries c.in-Some.name) (omega arith) all.0

pub emptied-preserved : goal.emptied-preserved
emptied-preserved c =
    let rest = c.next.new.self.rest.items in
    let e : Name × ℕ = (c.in-Some.name, c.in-Some.number) in
    let old = c.emptied.zones.entries in
    let new = c.empty_one.new.zones.entries in
    let steps = c.in-Some.ensures.steps.0 in
    let all = subst (λ (l : List (Name × ℕ)). HaveRoom (length l) old l) steps c.emptied.invariant.room in
    record {
      emptied = λ name after h. c.emptied.invariant.emptied name after
          (subst (λ (l : List (Name × ℕ)). AreEmptied l name (at_name (zones_held old) name) after) (sym steps)
          (emptied_more e rest name (at_name (zones_held old) name) (at_name (zones_held new) name) after (c.empty_one.ensures.emptied name) h));
      room = less_rooms (length rest) old new (c.empty_one.ensures.room (length rest)) rest (subst (λ n. HaveRoom n old rest) (omega arith) all.1);
    }

pub returns : goal.returns
returns c name =
    let now = at_name (zones_held c.emptied.zones.entries) name in
    let over = none_left c.emptied.name-iterator.rest.items (sym c.emptied.name-iterator.rest.ok.0 ∙ c.in-None.ensures.steps.0) in
    c.emptied.invariant.emptied name now (subst (λ (l : List (Name × ℕ)). AreEmptied l name now now) (sym over) (emptied_none name now))
