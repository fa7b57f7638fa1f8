-- Events that change the records or the homes of ports.
use Rattle.std.specs.Prelude.{not, Bool, false, map, List, [], ◌∷◌, Option, Some, None, option_map}
use Rattle.std.specs.BTreeMap.{is_at}
use Rattle.std.specs.BTreeSet.{insert_key}
use Rattle.std.specs.Cmp.Lexicographic.{slice_cmp}
use Rattle.std.specs.List.{filter, filter_map}
use Rattle.std.specs.Map.{remove_entry, values_of}
use Rattle.std.specs.Ordering.{nat_cmp}
use Rattle.nb_records.specs.Network.{Network, marked}
use Rattle.nb_records.specs.Switches.{is_given}
use Rattle.nb_records.specs.declared.router.Router.{Router}
use Rattle.ovn_base.specs.declared.address.Backend.{Backend}
use Rattle.ovn_base.specs.declared.name.Name.{Name}
use Rattle.ovn_base.specs.names.ByName.{at, put}
use Rattle.ovn_base.specs.names.SameName.{same_name}
use Rattle.tunnel_keys.specs.Same.{same_identity}
use Rattle.tunnel_keys.specs.declared.owner.Identity.{Identity}
use Rattle.net_model.specs.Config.{Config, port_identity, router_identity}
use Rattle.net_model.specs.ListOwners.{Emptied, none_emptied, lists_for}
use Rattle.net_model.specs.State.{State}

-- the configuration that comes, and the lists that are emptied
pub record Turn : Type 0 where
  pub next : Config
  pub emptied : Emptied

-- the one transition: all lists of those stay that are at home before and after, but the emptied ones
abbrev pub turned_by : Turn → State → State
turned_by turn m = record m { config = turn.next; lists = lists_for turn.next turn.emptied m.lists }

-- ---- identities

abbrev pub identity_at : Network → Name → Option Identity
identity_at net port = option_map port_identity (at net.switch_ports port)

-- what there may be, as a list
abbrev pub listed_if : {X : Type 0} → Option X → List X
listed_if None = []
listed_if (Some x) = x ∷ []

abbrev pub is_identity : Identity → Option Identity → Bool
is_identity id None = false
is_identity id (Some other) = same_identity other id

-- ---- bind and unbind

abbrev pub port_emptied : Network → Name → Emptied
port_emptied net port = record { ports = listed_if (identity_at net port); routers = [] }

-- the port is bound to the chassis, and its list is emptied, also where it was bound there before
abbrev pub bind : Config → Name → Name → Turn
bind c port chassis = record { next = record c { bindings = put c.bindings port chassis }; emptied = port_emptied c.net port }

abbrev pub unbind : Config → Name → Turn
unbind c port = record { next = record c { bindings = remove_entry (is_at (slice_cmp nat_cmp port)) c.bindings }; emptied = port_emptied c.net port }

-- ---- chassis

abbrev pub add_chassis : Config → Name → Turn
add_chassis c chassis = record { next = record c { chassis = insert_key (slice_cmp nat_cmp) c.chassis chassis }; emptied = none_emptied }

-- the ports that are bound to the chassis, and the gateway routers on it
abbrev pub ports_bound_to : Config → Name → List Identity
ports_bound_to c chassis = filter_map (λ e. identity_at c.net e.0) (filter (λ (e : Name × Name). same_name e.1 chassis) c.bindings)

abbrev pub gateways_on : Config → Name → List Identity
gateways_on c chassis = map (λ r. router_identity r) (filter (λ (r : Router). is_given chassis r.chassis) (values_of c.net.routers))

-- the chassis goes, and what was bound to it is bound nowhere
abbrev pub remove_chassis : Config → Name → Turn
remove_chassis c chassis = record {
  next = record c { chassis = filter (λ name. not (same_name name chassis)) c.chassis; bindings = filter (λ e. not (same_name e.1 chassis)) c.bindings };
  emptied = record { ports = ports_bound_to c chassis; routers = gateways_on c chassis };
}

-- ---- records

-- the port is among the records with the birth that it had, and so is the router
abbrev pub is_still_port : Network → Identity → Bool
is_still_port net id = is_identity id (identity_at net id.name)

abbrev pub is_still_router : Network → Identity → Bool
is_still_router net id = is_identity id (option_map router_identity (at net.routers id.name))

abbrev pub is_still_there : Network → Option Identity → Bool
is_still_there net None = false
is_still_there net (Some id) = is_still_port net id

-- a binding goes with its port, also where another port of the name comes
abbrev pub still_bound : Network → Network → List (Name × Name) → List (Name × Name)
still_bound before after bindings = filter (λ e. is_still_there after (identity_at before e.0)) bindings

abbrev pub gone_ports : Network → Network → List Identity
gone_ports before after = filter (λ id. not (is_still_port after id)) (map (λ q. port_identity q) (values_of before.switch_ports))

abbrev pub gone_routers : Network → Network → List Identity
gone_routers before after = filter (λ id. not (is_still_router after id)) (map (λ r. router_identity r) (values_of before.routers))

-- an edit: the records become these
abbrev pub edit : Config → Network → Turn
edit c net = record {
  next = record c { net = net; bindings = still_bound c.net net c.bindings };
  emptied = record { ports = gone_ports c.net net; routers = gone_routers c.net net };
}

-- the balancer's backend is marked so
abbrev pub mark_backend : Config → Name → Backend → Bool → Turn
mark_backend c balancer backend online = record { next = record c { net = marked c.net balancer backend online }; emptied = none_emptied }
