use Rattle.std.proofs.Common.{◌≡◌, ◌<◌, ◌+◌, length, drop, Option, Some, None, ap, sym, ◌∙◌, arith}
use Rattle.std.specs.List.{flat_map}
use Rattle.ovn_base.specs.declared.name.Name.{Name}
use Rattle.nb_records.specs.Switches.{or_else}
use Rattle.nb_rules.specs.References as spec
use Rattle.nb_rules.proofs.FirstNames.{named_at}
use Rattle.nb_rules.proofs.references.Missing.+matches.Goals as goal

pub in_terms-returns-in-Some : goal.in_terms-returns-in-Some
in_terms-returns-in-Some t c =
    let test = spec.is_missing c.args.self.now.records.now c.args.self.now.ops.now c.args.self.now.removed in
    let terms = c.args.terms.now in
    let i = c.loop-term.term-index in
    let lt : i < length terms = omega arith in
    let found : spec.first_named test (spec.match_references c.term-item.result) ≡ Some c.in-Some.name = (cc) in
    sym (c.loop-term.invariant
    ∙ named_at test spec.match_references terms i c.term-item.result lt c.term-item.is
    ∙ ap (λ (o : Option Name). or_else o (spec.first_named test (flat_map spec.match_references (drop (i + 1) terms)))) found)

pub in_terms-loop-term-preserved : goal.in_terms-loop-term-preserved
in_terms-loop-term-preserved t c =
    let test = spec.is_missing c.args.self.now.records.now c.args.self.now.ops.now c.args.self.now.removed in
    let terms = c.args.terms.now in
    let i = c.loop-term.term-index in
    let lt : i < length terms = omega arith in
    let found : spec.first_named test (spec.match_references c.term-item.result) ≡ None = (cc) in
    c.loop-term.invariant
    ∙ named_at test spec.match_references terms i c.term-item.result lt c.term-item.is
    ∙ ap (λ (o : Option Name). or_else o (spec.first_named test (flat_map spec.match_references (drop (i + 1) terms)))) found
