-- The rows of load balancers.
use Rattle.std.specs.Prelude.{Bool, List, [], ◌∷◌, map, filter}
use Rattle.inet_packet.specs.declared.regs.Reg.TheVariants as reg
use Rattle.match_language.specs.declared.expr.Expr.{Expr}
use Rattle.match_language.specs.declared.expr.Expr.TheVariants as e
use Rattle.match_language.specs.declared.field.Field.TheVariants as f
use Rattle.match_language.specs.declared.field.Predicate.TheVariants as p
use Rattle.nb_records.specs.declared.balancer.BalancerProtocol.{BalancerProtocol}
use Rattle.nb_records.specs.declared.balancer.BalancerProtocol.TheVariants as protocol
use Rattle.nb_records.specs.declared.balancer.LoadBalancer.{LoadBalancer}
use Rattle.nb_records.specs.declared.balancer.Vip.{Vip}
use Rattle.ovn_base.specs.declared.address.Backend.{Backend}
use Rattle.logical_flows.specs.declared.action.Action.{Action}
use Rattle.logical_flows.specs.declared.action.Action.TheVariants as a
use Rattle.flow_table.specs.declared.flow.ZoneOf.{ZoneOf}
use Rattle.flow_table.specs.declared.flow.ZoneOf.TheVariants as zone
use Rattle.logical_flows.specs.declared.flow.LFlow.{LFlow}
use Rattle.logical_flows.specs.declared.stage.Stage.TheVariants as stage
use Rattle.stage_rows.specs.Rows.{reg_is, is_new, field_is, ip_is, tracked_row, go_on}
use Rattle.stage_rows.specs.declared.priorities.TheConstants.{ROUTER_VIP_PRIORITY, SWITCH_VIP_PRIORITY}

-- a packet of the protocol to the virtual address and its port
abbrev pub to_vip : BalancerProtocol → Backend → List Expr
to_vip protocol.Tcp vip = e.Is p.Tcp ∷ ip_is f.Ip4Dst vip.ip ∷ field_is f.TcpDst vip.port ∷ []
to_vip protocol.Udp vip = e.Is p.Udp ∷ ip_is f.Ip4Dst vip.ip ∷ field_is f.UdpDst vip.port ∷ []

-- one of the backends that are online, in the order in which they are listed
abbrev pub balance : (Backend → Bool) → Vip → ZoneOf → Action
balance online v z = a.Balance z v.at (filter online v.backends)

-- on a switch, where a connection begins at its port of entry
abbrev pub switch_vip_row : (Backend → Bool) → BalancerProtocol → Vip → LFlow
switch_vip_row online kind v =
    tracked_row stage.SwitchStateIn SWITCH_VIP_PRIORITY (reg_is reg.Tracked 1 ∷ is_new ∷ []) (to_vip kind v.at) (balance online v zone.In ∷ go_on stage.SwitchStateIn ∷ [])

abbrev pub switch_vips : (Backend → Bool) → LoadBalancer → List LFlow
switch_vips online b = map (switch_vip_row online b.protocol) b.vips

-- on a gateway router
abbrev pub router_vip_row : (Backend → Bool) → BalancerProtocol → Vip → LFlow
router_vip_row online kind v = tracked_row stage.RouterDnat ROUTER_VIP_PRIORITY (is_new ∷ []) (to_vip kind v.at) (balance online v zone.Dnat ∷ go_on stage.RouterDnat ∷ [])

abbrev pub router_vips : (Backend → Bool) → LoadBalancer → List LFlow
router_vips online b = map (router_vip_row online b.protocol) b.vips
