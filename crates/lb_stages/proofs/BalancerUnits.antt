-- The rows of a balancer that is found under its name.
use Rattle.std.specs.Prelude.{◌≡◌, ◌++◌, List, flat_map, Option, Some, None}
use Rattle.std.proofs.Common.{ap, sym, ◌∙◌, append-nil}
use Rattle.ovn_base.specs.declared.name.Name.{Name}
use Rattle.ovn_base.specs.names.ByName.{at}
use Rattle.nb_records.specs.Network.{Network, is_online}
use Rattle.nb_records.specs.Switches.{is_named}
use Rattle.nb_records.specs.declared.balancer.LoadBalancer.{LoadBalancer}
use Rattle.logical_flows.specs.declared.flow.LFlow.{LFlow}
use Rattle.logical_flows.specs.declared.stage.Stage.{Stage}
use Rattle.logical_flows.specs.declared.unit.UnitId.TheVariants as unit
use Rattle.stage_rows.specs.Admitting.{AdmitsBalancer}
use Rattle.stage_rows.specs.BalancerRows.{switch_vips, router_vips}
use Rattle.stage_rows.specs.Rows.{on_some, when}
use Rattle.stage_rows.specs.Units.{rows_of, all_stages, balancer_rows}
use Rattle.lb_stages.specs.BalancerList.{balancer_list}

-- of the record that is found under the balancer's name
pub rows_of_found : (net : Network) (name datapath : Name) (b : LoadBalancer) → Some b ≡ at net.load_balancers name
    → rows_of net (unit.Balancer name datapath) ≡ balancer_list (is_online net name) datapath b
rows_of_found net name datapath b h =
    let online = is_online net name in
    ap (λ (o : Option LoadBalancer). flat_map (λ (s : Stage). on_some o (balancer_rows s online datapath)) all_stages) (sym h)
    ∙ ap (λ (rows : List LFlow). when (is_named datapath b.routers) (router_vips online b) ++ rows) (append-nil (when (is_named datapath b.switches) (switch_vips online b)))

some_is_none : {A : Type 0} (x : A) → Some x ≡ None → ⊥
some_is_none x h = cc

pub is_found : (net : Network) (name datapath : Name) → AdmitsBalancer net name datapath → None ≡ at net.load_balancers name → ⊥
is_found net name datapath a h = some_is_none a.balancer (sym a.there ∙ sym h)
