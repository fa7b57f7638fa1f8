use Rattle.std.proofs.Common.{◌≡◌}
use Rattle.std.specs.List.{list_any}
use Rattle.switch_stages.specs.SwitchTests.{makes_stateful}
use Rattle.switch_stages.proofs.facts.switches.some_make_stateful.Given as goal

-- those that are left tell it
abbrev pub invariant-rules : goal.invariant-rules
invariant-rules l = list_any (λ e. makes_stateful l.records l.switch e.1) l.records.acls ≡ list_any (λ e. makes_stateful l.records l.switch e.1) l._name-iterator
