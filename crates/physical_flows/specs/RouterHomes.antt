-- What the homes of gateway routers are, and that no chassis has more zones than there are numbers.
use Rattle.std.specs.Prelude.{◌≡◌, ◌≤◌, ◌↔◌, Some, IsSome, length, option_and_then}
use Rattle.std.specs.Map.{keys_of}
use Rattle.ovn_base.specs.declared.name.Name.{Name}
use Rattle.ovn_base.specs.names.ByName.{at, IsByName}
use Rattle.conn_zones.specs.Rezoning.{of_chassis, zones_in}
use Rattle.conn_zones.specs.declared.numbers.TheConstants.{MAX_ZONE}
use Rattle.nb_records.specs.declared.router.Router.{Router}
use Rattle.nb_rules.specs.Valid.{IsValid}
use Rattle.net_model.specs.Config.{Config, on, home_of_router}
use Rattle.net_model.specs.ListOwners.{homed_routers}
use Rattle.physical_flows.specs.Bindings.{router_homes}
use Rattle.physical_flows.specs.TableList.{one_home}

-- a router of the name is there, and its home is the chassis alone
pub record IsRouterHome (config : Config) (r home : Name) : Type 0 where
  pub router : Router
  pub there : at config.net.routers r ≡ Some router
  pub lives : home_of_router config router ≡ on home

-- They are in order of name, where the records are.
abbrev pub RouterHomesOrderLaw : Type 0
RouterHomesOrderLaw = (config : Config) → IsByName config.net.routers → IsByName (router_homes config)

-- At each name stands the home of the router there, if that is one chassis,
abbrev pub RouterHomesFoundLaw : Type 0
RouterHomesFoundLaw =
    (config : Config) → IsByName config.net.routers
    → (r : Name) → at (router_homes config) r ≡ option_and_then (λ (router : Router). one_home (home_of_router config router)) (at config.net.routers r)

-- so they are exactly the routers whose home is one chassis, each with that.
abbrev pub RouterHomesLaw : Type 0
RouterHomesLaw = (config : Config) → IsByName config.net.routers → (r home : Name) → (at (router_homes config) r ≡ Some home) ↔ IsRouterHome config r home

-- Those are the routers that have connection lists.
abbrev pub RouterNamesLaw : Type 0
RouterNamesLaw = (config : Config) → keys_of (router_homes config) ≡ homed_routers config

-- Of valid records, no chassis has more zones than there are numbers, where bindings are in order of name and each is one of a port that is there.
abbrev pub ZonesFitLaw : Type 0
ZonesFitLaw =
    (config : Config) → IsValid config.net → IsByName config.bindings → ((q c : Name) → at config.bindings q ≡ Some c → IsSome (at config.net.switch_ports q))
    → (chassis : Name) → length (of_chassis chassis (zones_in (record { ports = config.bindings; routers = router_homes config }))) ≤ MAX_ZONE
