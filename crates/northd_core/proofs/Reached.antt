-- What a router's port reaches is a unit of the network.
use Rattle.std.specs.Prelude.{◌≡◌, ◌++◌, Some, is_some}
use Rattle.std.proofs.Common.{ap}
use Rattle.ovn_base.proofs.AmongLaws.{among_left, among_right, among_map, among_filter, among_flat_map}
use Rattle.ovn_base.proofs.ByNameLaws.{at_among}
use Rattle.ovn_base.specs.declared.address.Ip4.{Ip4}
use Rattle.ovn_base.specs.declared.address.Mac.{Mac}
use Rattle.ovn_base.specs.declared.name.Name.{Name}
use Rattle.ovn_base.specs.lists.Among.{Among}
use Rattle.ovn_base.specs.names.ByName.{at}
use Rattle.nb_records.specs.Neighbours.{neighbour_of}
use Rattle.nb_records.specs.Network.{Network}
use Rattle.nb_records.specs.Routers.{partner_of_router_port}
use Rattle.nb_records.specs.declared.router.RouterPort.{RouterPort}
use Rattle.logical_flows.specs.declared.unit.UnitId.TheVariants as unit
use Rattle.stage_rows.specs.Facts.{ips_in_order}
use Rattle.stage_rows.specs.Units.{bound_ips, ips_beyond, neighbour_ips, units_of, units_of_router_port}
use Rattle.row_laws.proofs.records.AnsweredIps.{order_to}
use Rattle.row_laws.proofs.routers.Reached.{reached}

pub neighbour_listed : (net : Network) (p : RouterPort) (ip : Ip4) (mac : Mac) (q : Name) → at net.router_ports q ≡ Some p → neighbour_of net p ip ≡ Some mac → Among (unit.Neighbour q ip) (units_of net)
neighbour_listed net p ip mac q is known =
    let u = unit.Neighbour q ip in
    let ips = bound_ips net p ++ ips_beyond net (partner_of_router_port net p) in
    let one = among_filter (λ x. is_some (neighbour_of net p x)) ip (ips_in_order ips) (order_to ips ip (reached net p ip mac known)) (ap is_some known) in
    let own = among_flat_map (units_of_router_port net) (q, p) u net.router_ports (at_among net.router_ports q p is) (among_map (unit.Neighbour q) ip (neighbour_ips net p) one) in
    among_left u _ _ (among_left u _ _ (among_left u _ _ (among_left u _ _ (among_right u _ _ own))))
