use Rattle.std.proofs.Common.{◌∙◌, List, sym, subst}
use Rattle.ovn_base.specs.declared.name.Name.{Name}
use Rattle.conn_zones.specs.declared.numbers.ZoneUse.{ZoneUse}
use Rattle.conn_zones.specs.Zoning.{Zoned}
use Rattle.conn_zones.specs.Rezoning.{IsHomeChange, IsRezoned}
use Rattle.conn_zones.specs.Giving.{AreGiven, HaveNumbers}
use Rattle.conn_zones.proofs.ZoneChanges.{room, rezoned}
use Rattle.conn_zones.proofs.zones.ConnZones.after.Goals as goal

pub give_each-requires : goal.give_each-requires
give_each-requires c =
    let before : Zoned = record { homes = c.self.inside.homes; numbers = c.self.inside.numbers } in
    let fits : IsHomeChange before.homes c.args.change.now = subst (λ (z : Zoned). IsHomeChange z.homes c.args.change.now) (sym c.self.view_is) c.requires in
    subst (λ (l : List (ZoneUse × Name)). HaveNumbers c.in_ok-numbers.numbers l) (sym (c.as_slice.ensures ∙ c.in_ok-zones.ensures c.in_ok-homes.homes c.in_ok-homes.ensures))
    (room before c.args.change.now c.in_ok-homes.homes c.in_ok-numbers.numbers c.in_ok-numbers.numbers c.self.invariant fits c.in_ok-homes.ensures (c.in_ok-numbers.ensures before.homes c.self.invariant c.in_ok-homes.ensures))

pub invariant_of-result : goal.invariant_of-result
invariant_of-result c =
    let before : Zoned = record { homes = c.self.inside.homes; numbers = c.self.inside.numbers } in
    let fits : IsHomeChange before.homes c.args.change.now = subst (λ (z : Zoned). IsHomeChange z.homes c.args.change.now) (sym c.self.view_is) c.requires in
    let given = subst (λ (l : List (ZoneUse × Name)). AreGiven c.in_ok-numbers.numbers l c.give_each.new.numbers) (c.as_slice.ensures ∙ c.in_ok-zones.ensures c.in_ok-homes.homes c.in_ok-homes.ensures) c.in_ok-give_each.ensures in
    (rezoned before c.args.change.now c.in_ok-homes.homes c.in_ok-numbers.numbers c.give_each.new.numbers c.self.invariant fits c.in_ok-homes.ensures (c.in_ok-numbers.ensures before.homes c.self.invariant c.in_ok-homes.ensures) given).zoned

pub returns : goal.returns
returns c =
    let before : Zoned = record { homes = c.self.inside.homes; numbers = c.self.inside.numbers } in
    let after : Zoned = record { homes = c.in_ok-homes.homes; numbers = c.give_each.new.numbers } in
    let fits : IsHomeChange before.homes c.args.change.now = subst (λ (z : Zoned). IsHomeChange z.homes c.args.change.now) (sym c.self.view_is) c.requires in
    let given = subst (λ (l : List (ZoneUse × Name)). AreGiven c.in_ok-numbers.numbers l c.give_each.new.numbers) (c.as_slice.ensures ∙ c.in_ok-zones.ensures c.in_ok-homes.homes c.in_ok-homes.ensures) c.in_ok-give_each.ensures in
    subst (λ (z : Zoned). IsRezoned z c.args.change.now after) c.self.view_is
    (rezoned before c.args.change.now c.in_ok-homes.homes c.in_ok-numbers.numbers c.give_each.new.numbers c.self.invariant fits c.in_ok-homes.ensures (c.in_ok-numbers.ensures before.homes c.self.invariant c.in_ok-homes.ensures) given)
