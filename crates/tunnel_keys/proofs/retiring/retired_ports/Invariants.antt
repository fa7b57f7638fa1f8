use Rattle.std.proofs.Common.{◌≡◌, ◌++◌}
use Rattle.std.specs.List.{filter, filter_map}
use Rattle.tunnel_keys.specs.Owners.{is_listed}
use Rattle.tunnel_keys.specs.Keys.{port_owner, held_port}
use Rattle.tunnel_keys.proofs.retiring.retired_ports.Given as goal

abbrev pub invariant-loop-name : goal.invariant-loop-name
invariant-loop-name l = l.all ++ filter_map (held_port l.datapaths.entries) (filter (λ e. is_listed l.removed (port_owner e)) l.name-iterator) ≡ l.retired ++ filter_map (held_port l.datapaths.entries) (filter (λ e. is_listed l.removed (port_owner e)) l.ports.entries)
