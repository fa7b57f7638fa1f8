-- What keys an edit lacks.
use Rattle.std.specs.Prelude.{Bool, List, Option, Some, cond, option_map, length, nat_lt}
use Rattle.std.specs.List.{find}
use Rattle.ovn_base.specs.declared.address.Birth.{Birth}
use Rattle.ovn_base.specs.declared.name.Name.{Name}
use Rattle.ovn_base.specs.names.ByName.{in_order}
use Rattle.nb_records.specs.Network.{Network}
use Rattle.net_model.specs.Owners.{owners_of, owners_only_in}
use Rattle.tunnel_keys.specs.Keys.{Keys, retire, free_datapath_keys, free_port_keys}
use Rattle.tunnel_keys.specs.Owners.{datapaths_in, ports_in}
use Rattle.tunnel_keys.specs.declared.owner.KeyOwner.{KeyOwner}

-- keys for datapaths, or for ports of the datapath
pub data KeyLack : Type 0 where
  datapath_keys : KeyLack
  port_keys : Name → KeyLack

-- more datapaths are added than keys are neither live nor retired
abbrev pub lacks_datapath_keys : Keys → List KeyOwner → List KeyOwner → Bool
lacks_datapath_keys keys added removed = nat_lt (length (free_datapath_keys (retire keys removed))) (length (datapaths_in added))

-- more ports are added to the datapath than keys are neither live nor retired on it
abbrev pub lacks_port_keys : Keys → List KeyOwner → List KeyOwner → Name × Birth → Bool
lacks_port_keys keys added removed d = nat_lt (length (free_port_keys (retire keys removed) (record { name = d.0; birth = d.1 }))) (length (ports_in d.0 added))

-- the datapaths of the records, in order of name
abbrev pub datapaths_of : Network → List (Name × Birth)
datapaths_of net = in_order (datapaths_in (owners_of net))

-- keys for datapaths come first, and then those for the ports of the first datapath that lacks them
abbrev pub first_lack : Keys → Network → List KeyOwner → List KeyOwner → Option KeyLack
first_lack keys after added removed =
    cond (lacks_datapath_keys keys added removed) (Some datapath_keys) (option_map (λ d. port_keys d.0) (find (lacks_port_keys keys added removed) (datapaths_of after)))

-- what is lacking where the records become others
unfoldable pub key_lack : Keys → Network → Network → Option KeyLack
key_lack keys before after = first_lack keys after (owners_only_in after before) (owners_only_in before after)
