-- The rows of a router's port, and of a router, in the order of the stages.
use Rattle.std.specs.Prelude.{List, [], ◌∷◌, ◌++◌, Bool}
use Rattle.nb_records.specs.Network.{Network}
use Rattle.nb_records.specs.declared.router.RouterPort.{RouterPort}
use Rattle.logical_flows.specs.declared.flow.LFlow.{LFlow}
use Rattle.logical_flows.specs.declared.stage.Stage.TheVariants as stage
use Rattle.stage_rows.specs.RouterRows.{port_for_router, port_input, port_own, port_route, router_admit, router_input, router_undo, router_dnat, router_own, router_route, router_neighbour_base, router_find, router_snat}

abbrev pub port_list : Network → RouterPort → List LFlow
port_list net q = port_for_router q ++ port_input net q ++ port_own q ++ port_route q

-- of a router that translates or doesn't, by pipeline
abbrev pub ingress_rows : Bool → List LFlow
ingress_rows translating = router_admit ++ router_input ++ router_undo translating ++ router_dnat ++ router_own ++ router_route ++ router_neighbour_base

abbrev pub egress_rows : Bool → List LFlow
egress_rows translating = router_find translating ++ router_snat

abbrev pub router_list : Bool → List LFlow
router_list translating = ingress_rows translating ++ egress_rows translating
