-- Who has tunnel keys, by the records.
use Rattle.std.specs.Prelude.{◌++◌, not, List, map}
use Rattle.std.specs.List.{filter}
use Rattle.nb_records.specs.Network.{Network}
use Rattle.nb_records.specs.declared.router.Router.{Router}
use Rattle.nb_records.specs.declared.router.RouterPort.{RouterPort}
use Rattle.nb_records.specs.declared.switch.Switch.{Switch}
use Rattle.nb_records.specs.declared.switch.SwitchPort.{SwitchPort}
use Rattle.ovn_base.specs.declared.name.Name.{Name}
use Rattle.tunnel_keys.specs.Edits.{GivesKeys}
use Rattle.tunnel_keys.specs.Keys.{Keys, IsKeys}
use Rattle.tunnel_keys.specs.Owners.{is_listed}
use Rattle.tunnel_keys.specs.declared.owner.KeyOwner.{KeyOwner}
use Rattle.tunnel_keys.specs.declared.owner.KeyOwner.TheVariants.{Datapath, Port}

abbrev pub switch_owner : Name × Switch → KeyOwner
switch_owner e = Datapath e.0 e.1.birth

abbrev pub router_owner : Name × Router → KeyOwner
router_owner e = Datapath e.0 e.1.birth

abbrev pub router_port_owner : Name × RouterPort → KeyOwner
router_port_owner e = Port e.1.router e.0 e.1.birth

abbrev pub switch_port_owner : Name × SwitchPort → KeyOwner
switch_port_owner e = Port e.1.switch e.0 e.1.birth

-- the datapaths and ports of the records, by identity, in the order of the kinds and then of names
abbrev pub owners_of : Network → List KeyOwner
owners_of net = map switch_owner net.switches ++ map router_owner net.routers ++ map router_port_owner net.router_ports ++ map switch_port_owner net.switch_ports

-- those by the first records that are none by the second
abbrev pub owners_only_in : Network → Network → List KeyOwner
owners_only_in one another = filter (λ owner. not (is_listed (owners_of another) owner)) (owners_of one)

-- The records become others: who comes gets a key, a legal one, and who goes has its key retired.
pub record Rekeys (before after : Network) (held keys : Keys) : Type 0 where
  pub hold : IsKeys keys
  pub given : GivesKeys held (owners_only_in after before) (owners_only_in before after) keys
