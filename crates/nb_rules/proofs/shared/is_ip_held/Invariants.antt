use Rattle.std.proofs.Common.{◌≡◌, ◌&&◌}
use Rattle.std.specs.List.{list_any}
use Rattle.nb_rules.specs.Holders as spec
use Rattle.nb_rules.proofs.shared.is_ip_held.Given as goal

-- those that are left tell it
abbrev pub invariant-ports : goal.invariant-ports
invariant-ports l = list_any (λ e. spec.is_switch_mate l.port e.1 && spec.holds_ip l.records l.ip e.1) l.records.switch_ports ≡ list_any (λ e. spec.is_switch_mate l.port e.1 && spec.holds_ip l.records l.ip e.1) l._name-iterator
