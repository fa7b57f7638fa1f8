-- Whether records have an owner of keys, by what stands at its name.
use Rattle.std.specs.Prelude.{◌&&◌, ◌||◌, Bool, false, not, List, [], ◌∷◌, Option, Some, None}
use Rattle.std.specs.List.{filter}
use Rattle.ovn_base.specs.declared.name.Name.{Name}
use Rattle.ovn_base.specs.names.ByName.{at}
use Rattle.ovn_base.specs.names.SameName.{same_name}
use Rattle.nb_records.specs.Network.{Network}
use Rattle.nb_records.specs.declared.router.Router.{Router}
use Rattle.nb_records.specs.declared.router.RouterPort.{RouterPort}
use Rattle.nb_records.specs.declared.switch.Switch.{Switch}
use Rattle.nb_records.specs.declared.switch.SwitchPort.{SwitchPort}
use Rattle.tunnel_keys.specs.Same.{same_birth}
use Rattle.tunnel_keys.specs.declared.owner.KeyOwner.{KeyOwner}
use Rattle.tunnel_keys.specs.declared.owner.KeyOwner.TheVariants as owner

-- a record of the test stands there
abbrev pub passes : {X : Type 0} → (X → Bool) → Option X → Bool
passes test None = false
passes test (Some x) = test x

-- what stands at the owner's name has its birth, and a port is of its datapath
abbrev pub has_owner : Network → KeyOwner → Bool
has_owner net (owner.Datapath name birth) =
    passes (λ (r : Switch). same_birth r.birth birth) (at net.switches name) || passes (λ (r : Router). same_birth r.birth birth) (at net.routers name)
has_owner net (owner.Port datapath name birth) =
    passes (λ (r : RouterPort). same_name r.router datapath && same_birth r.birth birth) (at net.router_ports name)
    || passes (λ (r : SwitchPort). same_name r.switch datapath && same_birth r.birth birth) (at net.switch_ports name)

-- those of the owners that the records don't have
abbrev pub only_in : Network → List KeyOwner → List KeyOwner
only_in net owners = filter (λ o. not (has_owner net o)) owners

-- the owner of a record that stands at the name
abbrev pub owner_in : {X : Type 0} → (Name × X → KeyOwner) → Name → Option X → List KeyOwner
owner_in owner name None = []
owner_in owner name (Some x) = owner (name, x) ∷ []

-- it, if the other records don't have it
abbrev pub new_at : {X : Type 0} → Network → (Name × X → KeyOwner) → List (Name × X) → Name → List KeyOwner
new_at net owner entries name = only_in net (owner_in owner name (at entries name))
