use Rattle.std.proofs.Common.{◌≡◌, ◌++◌}
use Rattle.tunnel_keys.specs.Giving.{given_ports}
use Rattle.tunnel_keys.proofs.Faults.{IsEnoughBefore}
use Rattle.tunnel_keys.proofs.giving.give_port_keys.Given as goal

-- the datapaths that are left come behind those that have their keys
abbrev pub invariant-loop-name : goal.invariant-loop-name
invariant-loop-name l = (l.given ++ given_ports l.range l.live.entries l.retired l.added l.name-iterator ≡ given_ports l.range l.live.entries l.retired l.added l.datapaths.entries)
    × IsEnoughBefore l.range l.live.entries l.retired l.added l.name-iterator l.datapaths.entries
