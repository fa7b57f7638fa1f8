-- The rows of a router that is there.
use Rattle.std.specs.Prelude.{◌≡◌, Bool, true, false, flat_map, Option, Some, None, option_map}
use Rattle.std.proofs.Common.{refl, ap, sym, ◌∙◌}
use Rattle.ovn_base.specs.declared.name.Name.{Name}
use Rattle.ovn_base.specs.names.ByName.{at}
use Rattle.nb_records.specs.Network.{Network}
use Rattle.nb_records.specs.Routers.{translates}
use Rattle.nb_records.specs.declared.router.Router.{Router}
use Rattle.logical_flows.specs.declared.stage.Stage.{Stage}
use Rattle.logical_flows.specs.declared.unit.UnitId.TheVariants as unit
use Rattle.stage_rows.specs.Admitting.{AdmitsRouter}
use Rattle.stage_rows.specs.Rows.{on_some}
use Rattle.stage_rows.specs.Units.{rows_of, all_stages, router_rows}
use Rattle.router_stages.specs.RouterLists.{router_list}

by_stage : (translating : Bool) → flat_map (λ s. router_rows s translating) all_stages ≡ router_list translating
by_stage true = refl
by_stage false = refl

-- of the record that is found under the router's name
pub rows_of_found : (net : Network) (name : Name) (r : Router) → Some r ≡ at net.routers name → rows_of net (unit.Router name) ≡ router_list (translates net r)
rows_of_found net name r h =
    ap (λ (o : Option Router). flat_map (λ (s : Stage). on_some (option_map (translates net) o) (router_rows s)) all_stages) (sym h)
    ∙ by_stage (translates net r)

some_is_none : {A : Type 0} (x : A) → Some x ≡ None → ⊥
some_is_none x h = cc

pub is_found : (net : Network) (name : Name) → AdmitsRouter net name → None ≡ at net.routers name → ⊥
is_found net name a h = some_is_none a.record_of (sym a.there ∙ sym h)
