use Rattle.std.proofs.Common.{◌≡◌, drop}
use Rattle.ovn_base.specs.declared.name.Name.{Name}
use Rattle.conn_zones.proofs.NamedLaws.{place_left}
use Rattle.conn_zones.proofs.keeping.kept_places.Given as goal

-- those who are left leave of the places now what all leave of those before
abbrev pub invariant-change : goal.invariant-change
invariant-change l = (q : Name) → place_left l.homes (drop l.name-index l.change) l.kept q ≡ place_left l.homes l.change l.places q
