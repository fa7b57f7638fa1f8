use Rattle.std.proofs.Common.{List, subst}
use Rattle.std.specs.Prelude.{Option}
use Rattle.ovn_base.specs.declared.name.Name.{Name}
use Rattle.conn_zones.specs.Zoning.{KnownHomes, GivenNumbers}
use Rattle.conn_zones.specs.Giving.{ArePlacesAfter}
use Rattle.conn_zones.proofs.NamedLaws.{numbers_kept}
use Rattle.conn_zones.proofs.numbers.ZoneNumbers.kept.Goals as goal

pub returns : goal.returns
returns c =
    let kept : GivenNumbers = record { ports = c.in_ok-kept_places.field-0; dnat = c.in_ok-kept_places-2.field-0; snat = c.in_ok-kept_places-3.field-0 } in
    let ports = subst (λ (t : KnownHomes × List (Name × Option Name) × GivenNumbers). ArePlacesAfter t.0.ports t.1 t.2.ports kept.ports) (λ i. (c.after.view_is i, c.as_slice.ensures i, c.self.view_is i)) c.in_ok-kept_places.ensures in
    let dnat = subst (λ (t : List (Name × Name) × List (Name × Option Name) × GivenNumbers). ArePlacesAfter t.0 t.1 t.2.dnat kept.dnat) (λ i. (c.new-nobody.ensures i, c.as_slice-routers.ensures i, c.self.view_is i)) c.in_ok-kept_places-2.ensures in
    let snat = subst (λ (t : List (Name × Name) × List (Name × Option Name) × GivenNumbers). ArePlacesAfter t.0 t.1 t.2.snat kept.snat) (λ i. (c.new-nobody.ensures i, c.as_slice-routers.ensures i, c.self.view_is i)) c.in_ok-kept_places-3.ensures in
    λ before zoned rehomed. numbers_kept before c.args.change.now c.args.after.now rehomed c.args.self.now zoned kept ports dnat snat
