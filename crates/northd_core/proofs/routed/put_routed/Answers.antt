use Rattle.std.specs.Prelude.{◌++◌, map}
use Rattle.std.specs.Map.{keys_of}
use Rattle.logical_flows.specs.declared.unit.UnitId.TheVariants as unit
use Rattle.stage_rows.specs.Units.{balancer_units, neighbour_units}
use Rattle.northd_core.proofs.Joined.{both_join}
use Rattle.northd_core.proofs.routed.put_routed.Goals as goal

pub returns : goal.returns
returns c =
    let net = c.args.records.now in
    let start = c.args.units.now.keys in
    let ports = map unit.Port (keys_of net.router_ports) in
    let routes = map unit.Route (keys_of net.routes) in
    let nats = map unit.Nat (keys_of net.nats) in
    let routers = map unit.Router (keys_of net.routers) in
    both_join ((((ports ++ routes) ++ neighbour_units net) ++ nats) ++ balancer_units net) routers start c.put_balancers.new.units.keys c.put_routers.new.units.keys
    (both_join (((ports ++ routes) ++ neighbour_units net) ++ nats) (balancer_units net) start c.put_nats.new.units.keys c.put_balancers.new.units.keys
    (both_join ((ports ++ routes) ++ neighbour_units net) nats start c.put_neighbours.new.units.keys c.put_nats.new.units.keys
    (both_join (ports ++ routes) (neighbour_units net) start c.put_routes.new.units.keys c.put_neighbours.new.units.keys
    (both_join ports routes start c.put_router_ports.new.units.keys c.put_routes.new.units.keys c.in_ok-put_router_ports.ensures c.in_ok-put_routes.ensures)
    c.in_ok-put_neighbours.ensures) c.in_ok-put_nats.ensures) c.in_ok-put_balancers.ensures) c.in_ok-put_routers.ensures
