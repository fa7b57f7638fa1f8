-- The numbers of the live keys, by the names that have them.
use Rattle.std.specs.Prelude.{ℕ, Option}
use Rattle.std.specs.Option.{option_map}
use Rattle.ovn_base.specs.declared.name.Name.{Name}
use Rattle.ovn_base.specs.names.ByName.{at}
use Rattle.tunnel_keys.specs.Keys.{Keys}

-- the number of the datapath, where it has a live key
abbrev pub datapath_number : Keys → Name → Option ℕ
datapath_number keys a = option_map (λ d. d.key) (at keys.datapaths a)

-- the number of the port, where it has a live key
abbrev pub port_number : Keys → Name → Option ℕ
port_number keys q = option_map (λ p. p.key) (at keys.ports q)
