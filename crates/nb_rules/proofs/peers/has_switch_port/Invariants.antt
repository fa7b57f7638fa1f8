use Rattle.std.proofs.Common.{◌≡◌}
use Rattle.std.specs.List.{list_any}
use Rattle.nb_rules.specs.Peers as spec
use Rattle.nb_rules.proofs.peers.has_switch_port.Given as goal

-- those that are left tell it
abbrev pub invariant-ports : goal.invariant-ports
invariant-ports l = list_any (λ e. spec.is_behind l.port e.1) l.records.switch_ports ≡ list_any (λ e. spec.is_behind l.port e.1) l._name-iterator
