-- The row of a route that is there.
use Rattle.std.specs.Prelude.{◌≡◌, List, [], ◌∷◌, flat_map, Option, Some, None, option_map}
use Rattle.std.proofs.Common.{refl, ap, sym, ◌∙◌, append-nil}
use Rattle.ovn_base.specs.declared.name.Name.{Name}
use Rattle.ovn_base.specs.names.ByName.{at}
use Rattle.nb_records.specs.Network.{Network}
use Rattle.nb_records.specs.Ways.{Way, best_by, is_better_way, network_ways}
use Rattle.nb_records.specs.declared.router.Route.{Route}
use Rattle.logical_flows.specs.declared.stage.Stage.{Stage}
use Rattle.logical_flows.specs.declared.unit.UnitId.TheVariants as unit
use Rattle.stage_rows.specs.Admitting.{AdmitsRoute}
use Rattle.stage_rows.specs.RouterRows.{route_row, routed_rows}
use Rattle.stage_rows.specs.Rows.{on_some}
use Rattle.stage_rows.specs.Units.{rows_of, all_stages, route_rows}
use Rattle.router_stages.specs.Exits.{exit_of, exit_towards, route_row_by}

-- by the exit of the best way
pub routed_by_exit : (net : Network) (r : Route) → routed_rows net r ≡ on_some (exit_towards net r.router r.nexthop) (λ exit. route_row_by r exit ∷ [])
routed_by_exit net r = by (best_by is_better_way (network_ways net r.router r.nexthop))
  where
    by : (o : Option Way) → on_some o (λ w. route_row r w ∷ []) ≡ on_some (option_map exit_of o) (λ exit. route_row_by r exit ∷ [])
    by None = refl
    by (Some w) = refl

-- of the record that is found under the route's name
pub rows_of_found : (net : Network) (name : Name) (r : Route) → Some r ≡ at net.routes name → rows_of net (unit.Route name) ≡ routed_rows net r
rows_of_found net name r h =
    ap (λ (o : Option Route). flat_map (λ (s : Stage). on_some o (route_rows s net)) all_stages) (sym h)
    ∙ append-nil (routed_rows net r)

some_is_none : {A : Type 0} (x : A) → Some x ≡ None → ⊥
some_is_none x h = cc

pub is_found : (net : Network) (name : Name) → AdmitsRoute net name → None ≡ at net.routes name → ⊥
is_found net name a h = some_is_none a.route (sym a.there ∙ sym h)
