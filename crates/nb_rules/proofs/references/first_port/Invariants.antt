use Rattle.std.proofs.Common.{◌≡◌, false, Some}
use Rattle.ovn_base.specs.declared.name.Name.{Name}
use Rattle.nb_records.specs.declared.kinds.Kind.TheVariants as kind
use Rattle.nb_records.specs.declared.record.Record.TheVariants as row
use Rattle.nb_rules.specs.First.{first_of}
use Rattle.nb_rules.specs.References.{is_missing, reference_fault}
use Rattle.nb_rules.proofs.references.first_port.Given as goal

-- the switch that is known isn't missing, and those that are left tell it
abbrev pub invariant-ports : goal.invariant-ports
invariant-ports l =
    ((q : Name) → l.known ≡ Some q → is_missing l.clause.records.now l.clause.ops.now l.clause.removed (kind.Switch, q) ≡ false)
    × (first_of (λ r. reference_fault l.clause.records.now l.clause.ops.now l.clause.removed (row.SwitchPort r)) l.clause.records.now.switch_ports ≡ first_of (λ r. reference_fault l.clause.records.now l.clause.ops.now l.clause.removed (row.SwitchPort r)) l._name-iterator)
