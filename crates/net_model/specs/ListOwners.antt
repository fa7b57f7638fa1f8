-- Who has connection lists, and which of them an event empties.
use Rattle.std.specs.Prelude.{List, [], map, cond}
use Rattle.std.specs.List.{filter}
use Rattle.std.specs.Map.{keys_of}
use Rattle.conn_table.specs.Connections.{ConnectionList}
use Rattle.nb_records.specs.Switches.{is_named}
use Rattle.ovn_base.specs.declared.name.Name.{Name}
use Rattle.tunnel_keys.specs.declared.owner.Identity.{Identity}
use Rattle.net_model.specs.Config.{Config, home_of_router, is_on_one}
use Rattle.net_model.specs.Trail.{Lists, list_at}

-- each gateway router that is at home on its chassis has two lists, and each bound port has one
abbrev pub homed_routers : Config → List Name
homed_routers c = keys_of (filter (λ e. is_on_one (home_of_router c e.1)) c.net.routers)

-- the ports and routers whose lists are emptied
pub record Emptied : Type 0 where
  pub ports : List Identity
  pub routers : List Identity

abbrev pub none_emptied : Emptied
none_emptied = record { ports = []; routers = [] }

abbrev pub names_of : List Identity → List Name
names_of ids = map (λ id. id.name) ids

-- the owner's list as it was, or an empty one
abbrev pub list_unless : List Name → List (Name × ConnectionList) → Name → Name × ConnectionList
list_unless emptied lists name = (name, cond (is_named name emptied) [] (list_at lists name))

-- Each owner that is at home has its list: the one that it had, or an empty one where that was emptied, or where it had none.
abbrev pub lists_for : Config → Emptied → Lists → Lists
lists_for c emptied lists = record {
  ports = map (list_unless (names_of emptied.ports) lists.ports) (keys_of c.bindings);
  dnats = map (list_unless (names_of emptied.routers) lists.dnats) (homed_routers c);
  snats = map (list_unless (names_of emptied.routers) lists.snats) (homed_routers c);
}
