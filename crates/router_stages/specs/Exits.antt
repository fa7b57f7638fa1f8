-- By which port a router reaches an address, as plain functions find it: by name, Ethernet address and length of the network's prefix.
use Rattle.std.specs.Prelude.{◌+◌, ◌*◌, nat_lt, Bool, List, [], ◌∷◌, map, flat_map, Option, Some, None, option_map, cond}
use Rattle.std.specs.List.{filter}
use Rattle.inet_packet.specs.declared.regs.Reg.TheVariants as reg
use Rattle.logical_flows.specs.declared.action.Action.TheVariants as a
use Rattle.logical_flows.specs.declared.flow.LFlow.{LFlow}
use Rattle.logical_flows.specs.declared.stage.Stage.TheVariants as stage
use Rattle.match_language.specs.declared.field.Field.TheVariants as f
use Rattle.nb_records.specs.Network.{Network}
use Rattle.nb_records.specs.Routers.{contains}
use Rattle.nb_records.specs.Ways.{Way, best_of, best_by, is_better_way, network_ways}
use Rattle.nb_records.specs.declared.router.Route.{Route}
use Rattle.nb_records.specs.declared.router.RouterPort.{RouterPort}
use Rattle.ovn_base.specs.declared.address.Cidr.{Cidr}
use Rattle.ovn_base.specs.declared.address.Ip4.{Ip4}
use Rattle.ovn_base.specs.declared.name.Name.{Name}
use Rattle.ovn_base.specs.names.SameName.{same_name}
use Rattle.router_stages.specs.declared.facts.exits.Exit.{Exit}
use Rattle.stage_rows.specs.Rows.{ip_in, match_row, go_on}
use Rattle.stage_rows.specs.declared.priorities.TheConstants.{ROUTE_PRIORITY}

-- what a row needs of a way by a network
abbrev pub exit_of : Way → Exit
exit_of w = record { length = w.length; port = w.hop.port.name; mac = w.hop.port.mac }

-- that of the best way by a network
abbrev pub exit_towards : Network → Name → Ip4 → Option Exit
exit_towards net router ip = option_map exit_of (best_by is_better_way (network_ways net router ip))

-- ---- how it is found

abbrev pub is_longer : Exit → Exit → Bool
is_longer a b = nat_lt b.length a.length

abbrev pub longest : List Exit → Option Exit
longest exits = best_by is_longer exits

-- the longer of two, the first where none is
abbrev pub or_longer : Option Exit → Option Exit → Option Exit
or_longer None other = other
or_longer (Some exit) other = Some (best_of is_longer exit other)

-- by those of a port's networks that hold the address
abbrev pub exit_over : RouterPort → Cidr → Exit
exit_over q n = record { length = n.len; port = q.name; mac = q.mac }

abbrev pub exits_over : RouterPort → Ip4 → List Cidr → List Exit
exits_over q ip networks = map (exit_over q) (filter (λ n. contains n ip) networks)

abbrev pub exits_by : Name → Ip4 → Name × RouterPort → List Exit
exits_by router ip e = cond (same_name e.1.router router) (exits_over e.1 ip e.1.networks) []

abbrev pub exits_among : List (Name × RouterPort) → Name → Ip4 → List Exit
exits_among ports router ip = flat_map (exits_by router ip) ports

-- ---- rows

-- the row of a route that leaves by the exit
abbrev pub route_row_by : Route → Exit → LFlow
route_row_by r exit =
    match_row stage.RouterRoute (ROUTE_PRIORITY + 2 * r.prefix.len) (ip_in f.Ip4Dst r.prefix ∷ [])
    (a.DecTtl ∷ a.Set reg.Next r.nexthop.0 ∷ a.SetOut exit.port ∷ a.EthSrc exit.mac ∷ a.Set reg.Loopback 1 ∷ go_on stage.RouterRoute ∷ [])
