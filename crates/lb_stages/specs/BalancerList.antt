-- The rows of a balancer on a switch or router, in the order of the stages.
use Rattle.std.specs.Prelude.{Bool, List, ◌++◌}
use Rattle.logical_flows.specs.declared.flow.LFlow.{LFlow}
use Rattle.nb_records.specs.Switches.{is_named}
use Rattle.nb_records.specs.declared.balancer.LoadBalancer.{LoadBalancer}
use Rattle.ovn_base.specs.declared.address.Backend.{Backend}
use Rattle.ovn_base.specs.declared.name.Name.{Name}
use Rattle.stage_rows.specs.BalancerRows.{switch_vips, router_vips}
use Rattle.stage_rows.specs.Rows.{when}

-- by the test of which backends are online
abbrev pub balancer_list : (Backend → Bool) → Name → LoadBalancer → List LFlow
balancer_list online datapath b = when (is_named datapath b.routers) (router_vips online b) ++ when (is_named datapath b.switches) (switch_vips online b)
