-- Owners, and lists of them.
use Rattle.std.specs.Prelude.{Bool, List, Option, Some, None, cond}
use Rattle.std.specs.List.{list_any, filter_map}
use Rattle.ovn_base.specs.declared.name.Name.{Name}
use Rattle.ovn_base.specs.declared.address.Birth.{Birth}
use Rattle.ovn_base.specs.names.SameName.{same_name}
use Rattle.tunnel_keys.specs.Same.{same_owner}
use Rattle.tunnel_keys.specs.declared.owner.KeyOwner.{KeyOwner}
use Rattle.tunnel_keys.specs.declared.owner.KeyOwner.TheVariants.{Datapath, Port}

-- its name
abbrev pub name_in : KeyOwner → Name
name_in (Datapath name birth) = name
name_in (Port datapath name birth) = name

-- the event that added it
abbrev pub birth_in : KeyOwner → Birth
birth_in (Datapath name birth) = birth
birth_in (Port datapath name birth) = birth

-- the datapath of a port
abbrev pub place_in : KeyOwner → Name
place_in (Datapath name birth) = name
place_in (Port datapath name birth) = datapath

-- the owner is one of them
abbrev pub is_listed : List KeyOwner → KeyOwner → Bool
is_listed owners owner = list_any (λ o. same_owner o owner) owners

-- the owner's name and birth, where it is a datapath
abbrev pub as_datapath : KeyOwner → Option (Name × Birth)
as_datapath (Datapath name birth) = Some (name, birth)
as_datapath (Port datapath name birth) = None

-- the owner's name and birth, where it is a port of the datapath
abbrev pub as_port_of : Name → KeyOwner → Option (Name × Birth)
as_port_of d (Datapath name birth) = None
as_port_of d (Port datapath name birth) = cond (same_name d datapath) (Some (name, birth)) None

-- the datapaths among the owners
abbrev pub datapaths_in : List KeyOwner → List (Name × Birth)
datapaths_in owners = filter_map as_datapath owners

-- the ports of the datapath among the owners
abbrev pub ports_in : Name → List KeyOwner → List (Name × Birth)
ports_in d owners = filter_map (as_port_of d) owners
