-- The rows of a port that is found under its name.
use Rattle.std.specs.Prelude.{◌≡◌, ◌++◌, List, [], flat_map, Option, Some, None}
use Rattle.std.proofs.Common.{ap, sym, ◌∙◌, append_assoc, append-nil}
use Rattle.ovn_base.specs.declared.name.Name.{Name}
use Rattle.ovn_base.specs.names.ByName.{at}
use Rattle.nb_records.specs.Network.{Network}
use Rattle.nb_records.specs.declared.router.RouterPort.{RouterPort}
use Rattle.nb_records.specs.declared.switch.SwitchPort.{SwitchPort}
use Rattle.logical_flows.specs.declared.stage.Stage.{Stage}
use Rattle.logical_flows.specs.declared.unit.UnitId.TheVariants.{Port}
use Rattle.stage_rows.specs.RouterRows.{port_for_router, port_input, port_own, port_route}
use Rattle.stage_rows.specs.Rows.{on_some}
use Rattle.stage_rows.specs.Units.{rows_of, all_stages, router_port_rows, port_rows}
use Rattle.router_stages.specs.RouterLists.{port_list}
use Rattle.router_stages.specs.UnitLaws.{AdmitsRouterPort}

-- four lists, one behind the other
joined : {X : Type 0} (a b c d : List X) → a ++ (b ++ (c ++ (d ++ []))) ≡ a ++ b ++ c ++ d
joined a b c d = simp (append_assoc, append-nil)

by_stage : (net : Network) (q : RouterPort) → flat_map (λ s. router_port_rows s net q) all_stages ≡ port_list net q
by_stage net q = joined (port_for_router q) (port_input net q) (port_own q) (port_route q)

-- of the record that is found under the port's name
pub rows_of_found : (net : Network) (name : Name) (q : RouterPort) → AdmitsRouterPort net name → Some q ≡ at net.router_ports name → rows_of net (Port name) ≡ port_list net q
rows_of_found net name q a h =
    ap (λ (o : Option SwitchPort). flat_map (λ (s : Stage). port_rows s net o (at net.router_ports name)) all_stages) a.only
    ∙ ap (λ (o : Option RouterPort). flat_map (λ (s : Stage). on_some o (router_port_rows s net)) all_stages) (sym h)
    ∙ by_stage net q

some_is_none : {A : Type 0} (x : A) → Some x ≡ None → ⊥
some_is_none x h = cc

pub is_found : (net : Network) (name : Name) → AdmitsRouterPort net name → None ≡ at net.router_ports name → ⊥
is_found net name a h = some_is_none a.port (sym a.there ∙ sym h)
