use Rattle.std.proofs.Common.{◌≡◌, false}
use Rattle.nb_rules.specs.First.{has_second}
use Rattle.nb_rules.specs.Peers as spec
use Rattle.nb_rules.proofs.peers.has_two_switch_ports.Given as goal

-- those that are left tell it
abbrev pub invariant-ports : goal.invariant-ports
invariant-ports l = has_second (λ e. spec.is_behind l.port e.1) false l.records.switch_ports ≡ has_second (λ e. spec.is_behind l.port e.1) l.seen l._name-iterator
