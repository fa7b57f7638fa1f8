use Rattle.std.proofs.Common.{◌≡◌, ◌++◌, map, drop}
use Rattle.stage_rows.specs.RouterRows.{network_row}
use Rattle.router_stages.proofs.stages.routing.push_port_route.Given as goal

-- the rows so far, and those of the networks that are left
abbrev pub invariant-networks : goal.invariant-networks
invariant-networks l = l.out ++ map (network_row l.port) (drop l.network-index l.network-items) ≡ l.fn.out ++ map (network_row l.port) l.port.networks
