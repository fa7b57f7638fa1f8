-- Where ports are bound and gateway routers at home, and their zones.
use Rattle.std.specs.Prelude.{◌≡◌, ◌≤◌, List, Option, Some, IsSome, length, option_map}
use Rattle.std.specs.Cmp.Lexicographic.{slice_cmp}
use Rattle.std.specs.List.{filter_map}
use Rattle.std.specs.List.Sorted.{IsStrictlySortedBy}
use Rattle.std.specs.Ordering.{nat_cmp}
use Rattle.ovn_base.specs.lists.Among.{Among}
use Rattle.ovn_base.specs.declared.name.Name.{Name}
use Rattle.ovn_base.specs.names.ByName.{at, IsByName}
use Rattle.ovn_base.specs.declared.limits.TheConstants.{MAX_CHASSIS}
use Rattle.conn_zones.specs.Zoning.{Zoned, IsZoned}
use Rattle.nb_records.specs.declared.router.Router.{Router}
use Rattle.net_model.specs.Config.{Config, home_of_router}
use Rattle.physical_flows.specs.TableList.{one_home}

-- a gateway router that is at home, with its chassis
abbrev pub homed_router : Config → Name × Router → Option (Name × Name)
homed_router config e = option_map (λ home. (e.0, home)) (one_home (home_of_router config e.1))

-- each gateway router whose chassis is there, with that, in order of name
abbrev pub router_homes : Config → List (Name × Name)
router_homes config = filter_map (homed_router config) config.net.routers

-- each binding joins a port and a chassis that are there; there are not too many chassis; and the zones are those of who is at home by the
-- bindings, each with its number
pub record AreBound (config : Config) (zones : Zoned) : Type 0 where
  pub bindings_sorted : IsByName config.bindings
  pub port_there : (q c : Name) → at config.bindings q ≡ Some c → IsSome (at config.net.switch_ports q)
  pub chassis_there : (q c : Name) → at config.bindings q ≡ Some c → Among c config.chassis
  pub chassis_sorted : IsStrictlySortedBy (slice_cmp nat_cmp) config.chassis
  pub few_chassis : length config.chassis ≤ MAX_CHASSIS
  -- ports are at home where they are bound, and gateway routers on their chassis
  pub homes : zones.homes ≡ record { ports = config.bindings; routers = router_homes config }
  pub zoned : IsZoned zones
