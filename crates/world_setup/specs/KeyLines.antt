-- The lines and the names of the keys that an edit gives.
use Rattle.std.specs.Prelude.{◌++◌, ℕ, List, Option, Some, None, map, flat_map, unwrap_or}
use Rattle.std.specs.List.{filter_map}
use Rattle.ovn_base.specs.declared.address.Birth.{Birth}
use Rattle.ovn_base.specs.declared.name.Name.{Name}
use Rattle.ovn_base.specs.names.ByName.{in_order}
use Rattle.physical_flows.specs.Numbers.{datapath_number, port_number}
use Rattle.switch_engine.specs.declared.effect.NetEffect.{NetEffect}
use Rattle.switch_engine.specs.declared.effect.NetEffect.TheVariants.{DatapathKey, PortKey}
use Rattle.tunnel_keys.specs.Keys.{Keys}
use Rattle.tunnel_keys.specs.Owners.{datapaths_in, ports_in}
use Rattle.tunnel_keys.specs.declared.owner.KeyOwner.{KeyOwner}
use Rattle.tunnel_keys.specs.declared.owner.KeyOwner.TheVariants.{Datapath, Port}

-- the line of a datapath's key, and of a port's; who was given a key has one
abbrev pub datapath_effect : Keys → Name × Birth → NetEffect
datapath_effect keys owner = DatapathKey owner.0 (unwrap_or (datapath_number keys owner.0) 0)

abbrev pub port_effect : Keys → Name × Birth → NetEffect
port_effect keys owner = PortKey owner.0 (unwrap_or (port_number keys owner.0) 0)

-- the datapath of an owner that is a port
abbrev pub as_place : KeyOwner → Option (Name × Birth)
as_place (Datapath name birth) = None
as_place (Port datapath name birth) = Some (datapath, birth)

-- the ports among the owners, in order of datapath name, and on each datapath in order of port name
abbrev pub added_ports : List KeyOwner → List (Name × Birth)
added_ports owners = flat_map (λ d. in_order (ports_in d.0 owners)) (in_order (filter_map as_place owners))

-- the lines of the keys that were given: those of datapaths in order of name, then those of ports
abbrev pub key_effects : List KeyOwner → Keys → List NetEffect
key_effects owners keys = map (datapath_effect keys) (in_order (datapaths_in owners)) ++ map (port_effect keys) (added_ports owners)

-- the name of an owner's key: that of a datapath stands under the port key 0
abbrev pub key_name : Keys → KeyOwner → ℕ × ℕ × Name
key_name keys (Datapath name birth) = (unwrap_or (datapath_number keys name) 0, 0, name)
key_name keys (Port datapath name birth) = (unwrap_or (datapath_number keys datapath) 0, unwrap_or (port_number keys name) 0, name)
