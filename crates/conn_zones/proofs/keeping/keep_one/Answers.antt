use Rattle.std.proofs.Common.{◌∙◌, ap, sym}
use Rattle.conn_zones.specs.Rezoning.{is_home_on}
use Rattle.conn_zones.proofs.NamedLaws.{place_stays}
use Rattle.conn_zones.proofs.keeping.keep_one.Goals as goal

pub returns-in-Some : goal.returns-in-Some
returns-in-Some c =
    let place = c.in-Some.place.now in
    let home = sym (c.is_home_on.ensures ∙ ap (λ o. is_home_on o place.chassis) c.get-home.ensures) ∙ c.if-is_home_on.true in
    place_stays c.args.homes.now c.args.places.now c.args.name.now place (sym c.in-Some.ensures) home
