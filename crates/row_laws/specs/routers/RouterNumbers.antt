-- The numbers that stand in registers for router ports.
use Rattle.std.specs.Prelude.{◌≡◌, ◌<◌, ◌⊎◌, ℕ, Some, None}
use Rattle.ovn_base.specs.declared.limits.TheConstants.{MAX_PORT_KEY}
use Rattle.ovn_base.specs.declared.name.Name.{Name}
use Rattle.ovn_base.specs.names.ByName.{at}
use Rattle.nb_records.specs.Network.{Network}
use Rattle.nb_records.specs.declared.router.RouterPort.{RouterPort}
use Rattle.nb_rules.specs.Valid.{IsValid}
use Rattle.tunnel_keys.specs.Keys.{Keys, IsKeys}
use Rattle.row_laws.specs.Numbers.{IsPortKey, NumberStandsFor}
use Rattle.row_laws.specs.routers.RouterCopies.{router_port_identity, router_roster}

-- The live key of a router's port stands for the port.
abbrev pub RouterPortStandsLaw : Type 0
RouterPortStandsLaw =
    (net : Network) (keys : Keys) → IsValid net → IsKeys keys → (i : RouterPort) → at net.router_ports i.name ≡ Some i
    → (n : ℕ) → IsPortKey keys i.router i.name n → NumberStandsFor keys (router_roster net) i.router (Some (router_port_identity i)) n

-- What is no key of ports, as 0, stands for none.
abbrev pub NoRouterPortStandsLaw : Type 0
NoRouterPortStandsLaw =
    (net : Network) (keys : Keys) → IsKeys keys → (router : Name) (n : ℕ) → (n ≡ 0) ⊎ (MAX_PORT_KEY < n) → NumberStandsFor keys (router_roster net) router None n
