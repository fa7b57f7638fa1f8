use Rattle.std.proofs.Common.{◌≡◌, ◌&&◌}
use Rattle.std.specs.List.{list_any}
use Rattle.nb_records.specs.Switches as facts
use Rattle.nb_rules.specs.Holders as spec
use Rattle.nb_rules.proofs.shared.is_mac_shared.Given as goal

-- those that are left tell it
abbrev pub invariant-ports : goal.invariant-ports
invariant-ports l = list_any (λ e. spec.is_switch_mate l.port e.1 && facts.has_mac l.records l.mac e.1) l.records.switch_ports ≡ list_any (λ e. spec.is_switch_mate l.port e.1 && facts.has_mac l.records l.mac e.1) l._name-iterator
