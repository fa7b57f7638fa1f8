use Rattle.std.proofs.Common.{◌∙◌, ◌+◌, ◌∷◌, List, ap, sym, subst, drop}
use Rattle.std.proofs.lemmas.List.{drop_more}
use Rattle.ovn_base.specs.declared.name.Name.{Name}
use Rattle.conn_zones.specs.declared.numbers.ZoneUse.{ZoneUse}
use Rattle.conn_zones.specs.Giving.{AreGiven, HaveNumbers}
use Rattle.conn_zones.proofs.GivingLaws.{room_for_one, room_for_rest}
use Rattle.conn_zones.proofs.giving.give_each.Goals as goal

pub give-requires : goal.give-requires
give-requires c =
    let i = c.zones.zone-index in
    let a : ZoneUse × Name = c.zones-item.result in
    let rest = drop (i + 1) c.args.zones.now in
    let split = drop_more c.args.zones.now i a c.zones-test.true ∙ ap (λ (x : ZoneUse × Name). x ∷ rest) (sym c.zones-item.is) in
    room_for_one c.zones.numbers a rest (subst (λ (l : List (ZoneUse × Name)). HaveNumbers c.zones.numbers l) split c.zones.invariant.few)

pub zones-preserved : goal.zones-preserved
zones-preserved c =
    let i = c.zones.zone-index in
    let a : ZoneUse × Name = c.zones-item.result in
    let rest = drop (i + 1) c.args.zones.now in
    let split = drop_more c.args.zones.now i a c.zones-test.true ∙ ap (λ (x : ZoneUse × Name). x ∷ rest) (sym c.zones-item.is) in
    let room = subst (λ (l : List (ZoneUse × Name)). HaveNumbers c.zones.numbers l) split c.zones.invariant.few in
    record {
      few = room_for_rest c.zones.numbers a rest c.give.new.numbers room c.in_ok-give.ensures;
      given = λ after more. c.zones.invariant.given after (subst (λ (l : List (ZoneUse × Name)). AreGiven c.zones.numbers l after) (sym split) (c.give.new.numbers, c.in_ok-give.ensures, more));
    }
