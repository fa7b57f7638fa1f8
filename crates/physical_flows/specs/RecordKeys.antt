-- Each record that has a key by the records has one.
use Rattle.std.specs.Prelude.{◌≡◌, ◌⊎◌, [], Some, IsSome}
use Rattle.ovn_base.specs.declared.name.Name.{Name}
use Rattle.ovn_base.specs.names.ByName.{at}
use Rattle.ovn_base.specs.declared.limits.TheConstants.{MAX_DATAPATH_KEY, MAX_PORT_KEY}
use Rattle.nb_records.specs.Network.{Network}
use Rattle.nb_records.specs.declared.router.Router.{Router}
use Rattle.nb_records.specs.declared.router.RouterPort.{RouterPort}
use Rattle.nb_records.specs.declared.switch.Switch.{Switch}
use Rattle.nb_records.specs.declared.switch.SwitchPort.{SwitchPort}
use Rattle.tunnel_keys.specs.Keys.{Keys, IsKeys}
use Rattle.tunnel_keys.specs.declared.owner.DatapathKey.{DatapathKey}
use Rattle.tunnel_keys.specs.declared.owner.PortKey.{PortKey}

-- each switch and each router has a live key, and so has each of their ports, and nothing else has one
pub record HaveKeys (net : Network) (keys : Keys) : Type 0 where
  -- the keys are in range, no two owners have one, and nobody has two
  pub hold : IsKeys keys
  pub datapath_has : (a : Name) (switch : Switch) → at net.switches a ≡ Some switch → (k : DatapathKey) × (at keys.datapaths a ≡ Some k) × (k.birth ≡ switch.birth)
  pub router_has : (a : Name) (router : Router) → at net.routers a ≡ Some router → (k : DatapathKey) × (at keys.datapaths a ≡ Some k) × (k.birth ≡ router.birth)
  pub datapath_of : (a : Name) (k : DatapathKey) → at keys.datapaths a ≡ Some k → IsSome (at net.switches a) ⊎ IsSome (at net.routers a)
  -- a port's key is one of the datapath that its record names
  pub port_has : (q : Name) (port : SwitchPort) → at net.switch_ports q ≡ Some port → (k : PortKey) × (at keys.ports q ≡ Some k) × (k.birth ≡ port.birth) × (k.datapath ≡ port.switch)
  pub router_port_has : (p : Name) (port : RouterPort) → at net.router_ports p ≡ Some port → (k : PortKey) × (at keys.ports p ≡ Some k) × (k.birth ≡ port.birth) × (k.datapath ≡ port.router)
  pub port_of : (q : Name) (k : PortKey) → at keys.ports q ≡ Some k → IsSome (at net.switch_ports q) ⊎ IsSome (at net.router_ports q)
  -- no event changes the ranges
  pub datapath_range : keys.datapath_range ≡ MAX_DATAPATH_KEY
  pub port_range : keys.port_range ≡ MAX_PORT_KEY
  -- no record goes yet, so that no key is retired
  pub no_retired_datapaths : keys.retired_datapaths ≡ []
  pub no_retired_ports : keys.retired_ports ≡ []
