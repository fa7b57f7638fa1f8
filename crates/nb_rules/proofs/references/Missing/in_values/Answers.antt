use Rattle.std.proofs.Common.{◌≡◌, ◌<◌, ◌+◌, length, drop, Option, Some, ap, sym, ◌∙◌, arith}
use Rattle.std.specs.List.{flat_map}
use Rattle.ovn_base.specs.declared.name.Name.{Name}
use Rattle.nb_records.specs.Switches.{or_else}
use Rattle.nb_rules.specs.References as spec
use Rattle.nb_rules.proofs.FirstNames.{named_at}
use Rattle.nb_rules.proofs.references.Missing.in_values.Goals as goal

pub returns-in-Some : goal.returns-in-Some
returns-in-Some c =
    let test = spec.is_missing c.args.self.now.records.now c.args.self.now.ops.now c.args.self.now.removed in
    let values = c.args.values.now in
    let i = c.loop-value.value-index in
    let lt : i < length values = omega arith in
    let found : spec.first_named test (spec.value_references c.value-item.result) ≡ Some c.in-Some.name = (cc) in
    sym (c.loop-value.invariant
    ∙ named_at test spec.value_references values i c.value-item.result lt c.value-item.is
    ∙ ap (λ (o : Option Name). or_else o (spec.first_named test (flat_map spec.value_references (drop (i + 1) values)))) found)
