-- The state of the network.
use Rattle.std.specs.Prelude.{ℕ, ◌+◌, List, [], ◌∷◌, map}
use Rattle.conn_table.specs.Connections.{ConnectionList, expired}
use Rattle.nb_records.specs.Network.{empty_network}
use Rattle.ovn_base.specs.declared.limits.TheConstants.{MAX_DATAPATH_KEY, MAX_PORT_KEY}
use Rattle.ovn_base.specs.declared.name.Name.{Name}
use Rattle.tunnel_keys.specs.Keys.{Keys, no_keys, settled}
use Rattle.net_model.specs.declared.crossing.Crossing.{Crossing}
use Rattle.net_model.specs.Config.{Config}
use Rattle.net_model.specs.Trail.{Lists}

pub record State : Type 0 where
  pub config : Config
  -- the tunnel keys of datapaths and of ports, live and retired
  pub keys : Keys
  pub lists : Lists
  -- the crossings that wait, in order of their numbers
  pub waiting : List (ℕ × Crossing)
  -- the number that the next crossing gets
  pub next : ℕ
  -- in seconds
  pub clock : ℕ
  -- how many events were accepted, and how many refused
  pub accepted : ℕ
  pub refused : ℕ

-- how many events there were
abbrev pub event_count : State → ℕ
event_count m = m.accepted + m.refused

abbrev pub no_config : Config
no_config = record { net = empty_network; chassis = []; bindings = [] }

abbrev pub no_lists : Lists
no_lists = record { ports = []; dnats = []; snats = [] }

-- no record, no chassis, no key, no crossing, no event
abbrev pub empty : State
empty = record {
  config = no_config;
  keys = no_keys MAX_DATAPATH_KEY MAX_PORT_KEY;
  lists = no_lists;
  waiting = [];
  next = 1;
  clock = 0;
  accepted = 0;
  refused = 0;
}

-- ---- after an event

-- where nothing waits, no key is retired
abbrev pub settled_where_none_waits : List (ℕ × Crossing) → Keys → Keys
settled_where_none_waits [] keys = settled keys
settled_where_none_waits (w ∷ waiting) keys = keys

-- the state after an accepted event that did this
abbrev pub finished : State → State
finished m = record m { accepted = m.accepted + 1; keys = settled_where_none_waits m.waiting m.keys }

-- ---- time

-- the connections that are left at this time
abbrev pub expired_in : ℕ → List (Name × ConnectionList) → List (Name × ConnectionList)
expired_in now lists = map (λ e. (e.0, expired now e.1)) lists

abbrev pub expired_lists : ℕ → Lists → Lists
expired_lists now lists = record { ports = expired_in now lists.ports; dnats = expired_in now lists.dnats; snats = expired_in now lists.snats }

-- the clock goes on by so many seconds
abbrev pub clocked : ℕ → State → State
clocked seconds m = record m { clock = m.clock + seconds; lists = expired_lists (m.clock + seconds) m.lists }
