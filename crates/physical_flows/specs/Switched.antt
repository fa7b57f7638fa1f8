-- Records and keys of which the tables around the pipelines are made.
use Rattle.std.specs.Prelude.{◌≡◌, true, [], Some}
use Rattle.nb_records.specs.Network.{Network}
use Rattle.nb_records.specs.Switches.{is_virtual}
use Rattle.nb_records.specs.declared.switch.SwitchPort.{SwitchPort}
use Rattle.nb_rules.specs.Valid.{IsValid}
use Rattle.ovn_base.specs.declared.name.Name.{Name}
use Rattle.ovn_base.specs.names.ByName.{at}
use Rattle.physical_flows.specs.RecordKeys.{HaveKeys}
use Rattle.tunnel_keys.specs.Keys.{Keys}

-- The records are valid; each switch, each router and each of their ports has a live key, and nobody else has one; the ranges of keys are
-- whole, and no key is retired.
pub record IsKeyed (net : Network) (keys : Keys) : Type 0 where
  pub valid : IsValid net
  pub keyed : HaveKeys net keys

-- Where records are valid and there is no router port, all ports of switches are virtual.
abbrev pub VirtualPortsLaw : Type 0
VirtualPortsLaw = (net : Network) → IsValid net → net.router_ports ≡ [] → (q : Name) (port : SwitchPort) → at net.switch_ports q ≡ Some port → is_virtual port ≡ true
