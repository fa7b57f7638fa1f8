use Rattle.std.proofs.Common.{◌≡◌}
use Rattle.std.specs.List.{list_any}
use Rattle.switch_stages.specs.SwitchTests.{takes_unknown_there}
use Rattle.switch_stages.proofs.facts.switches.some_take_there.Given as goal

-- those that are left tell it
abbrev pub invariant-ports : goal.invariant-ports
invariant-ports l = list_any (λ e. takes_unknown_there l.switch e.1) l.records.switch_ports ≡ list_any (λ e. takes_unknown_there l.switch e.1) l._name-iterator
