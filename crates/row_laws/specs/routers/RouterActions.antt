-- What each stage of a router does with a packet, by the network alone: its causes, answers, routes and neighbours as actions.
use Rattle.std.specs.Prelude.{◌++◌, not, List, [], ◌∷◌, Option, Some, None, cond, filter_map}
use Rattle.std.specs.Option.{option_and_then}
use Rattle.ovn_base.specs.declared.address.Ip4.{Ip4}
use Rattle.ovn_base.specs.declared.address.Mac.{Mac}
use Rattle.ovn_base.specs.declared.name.Name.{Name}
use Rattle.flow_table.specs.declared.flow.Cause.{Cause}
use Rattle.flow_table.specs.declared.flow.Cause.TheVariants as cause
use Rattle.inet_packet.specs.Fields as field
use Rattle.inet_packet.specs.declared.packet.Packet.{Packet}
use Rattle.inet_packet.specs.declared.regs.Reg.TheVariants as reg
use Rattle.nb_records.specs.Neighbours.{neighbour_of}
use Rattle.nb_records.specs.Network.{Network}
use Rattle.nb_records.specs.Ways.{Way, best_by, is_better_way, network_ways, route_way, routes_of}
use Rattle.nb_records.specs.declared.router.RouterPort.{RouterPort}
use Rattle.logical_flows.specs.declared.action.Action.{Action}
use Rattle.logical_flows.specs.declared.action.Action.TheVariants as a
use Rattle.logical_flows.specs.declared.stage.Stage.{Stage}
use Rattle.logical_flows.specs.declared.stage.Stage.TheVariants as stage
use Rattle.stage_rows.specs.RouterRows.{routed_by}
use Rattle.stage_rows.specs.Rows.{go_on, deliver}
use Rattle.stage_rows.specs.SwitchRows.{answer_actions}
use Rattle.net_model.specs.Forwarding.{own_address}
use Rattle.net_model.specs.Headers.{dst_of, ip_of}
use Rattle.net_model.specs.RouterInput.{Intake, answers_with, becomes, passes_on, refuses, intake, is_for_port}
use Rattle.net_model.specs.Trail.{first_cause}
use Rattle.row_laws.specs.StageActions.{unless_dropped}
use Rattle.row_laws.specs.routers.RouterCopies.{RouterCopy}

-- a packet that is not for the port is not taken in
abbrev pub not_for_port : RouterPort → Packet → Option Cause
not_for_port i p = first_cause ((not (is_for_port i p), cause.NotForRouter) ∷ [])

-- a packet for the port is answered, becomes the router's own answer, which is only routed, is dropped, or passes
abbrev pub intake_actions : RouterPort → Packet → Intake → List Action
intake_actions i p (answers_with q) = answer_actions i.mac (ip_of (field.arp_tpa p.body))
intake_actions i p (becomes q) = a.EchoReply ∷ a.Set reg.Own 1 ∷ a.Go 13 ∷ []
intake_actions i p (refuses why) = a.Drop why ∷ []
intake_actions i p passes_on = go_on stage.RouterInput ∷ []

-- the ways of the router to the destination: by its networks and its routes that hold it
abbrev pub ways_to : Network → Name → Ip4 → List Way
ways_to net router dst = network_ways net router dst ++ filter_map (route_way net dst) (routes_of net router)

-- the best of them: by the longest prefix, and at equal length by a network before a route
abbrev pub best_way : Network → Name → Ip4 → Option Way
best_way net router dst = best_by is_better_way (ways_to net router dst)

-- the next hop is the destination by a network, and by a route the router that it names
abbrev pub next_by : Way → Action
next_by w = cond w.is_network a.NextDst (a.Set reg.Next w.hop.next.0)

-- the packet has one hop less to live, and is to leave by the port of its way for the next hop
abbrev pub route_actions : Option Way → List Action
route_actions None = a.Drop cause.NoRoute ∷ []
route_actions (Some w) = routed_by w.hop.port (next_by w)

-- the packet goes to its neighbour, where there is one
abbrev pub neighbour_actions : Option Mac → List Action
neighbour_actions None = a.Drop cause.NoNeighbour ∷ []
neighbour_actions (Some mac) = a.EthDst mac ∷ deliver ∷ []

-- what the stage of a router does with the copy
abbrev pub router_actions_at : Stage → Network → RouterCopy → List Action
router_actions_at stage.RouterAdmit net c = unless_dropped stage.RouterAdmit (not_for_port c.port c.sight.packet)
router_actions_at stage.RouterInput net c = intake_actions c.port c.sight.packet (intake net c.port c.sight.packet)
router_actions_at stage.RouterOwn net c = unless_dropped stage.RouterOwn (own_address net c.port c.sight.packet)
router_actions_at stage.RouterRoute net c = route_actions (best_way net c.port.router (dst_of c.sight.packet))
router_actions_at stage.RouterNeighbour net c = neighbour_actions (option_and_then (λ q. neighbour_of net q c.words.next) c.out)
router_actions_at stage.RouterUndo net c = go_on stage.RouterUndo ∷ []
router_actions_at stage.RouterDnat net c = go_on stage.RouterDnat ∷ []
router_actions_at stage.RouterFind net c = go_on stage.RouterFind ∷ []
router_actions_at stage.RouterSnat net c = go_on stage.RouterSnat ∷ []
router_actions_at _ net c = []
