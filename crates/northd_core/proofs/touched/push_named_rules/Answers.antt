use Rattle.std.specs.Prelude.{◌≡◌, ◌+◌, ◌++◌, List, ◌∷◌, drop, flat_map, map}
use Rattle.std.proofs.Common.{sym, ap, ◌∙◌}
use Rattle.std.proofs.lemmas.List.{drop_more}
use Rattle.ovn_base.specs.declared.name.Name.{Name}
use Rattle.logical_flows.specs.declared.unit.UnitId.TheVariants.{Rule}
use Rattle.northd_core.specs.Touched.{rule_touched, switches_of_rule}
use Rattle.northd_core.proofs.Joined.{one_more_list}
use Rattle.northd_core.proofs.touched.push_named_rules.Goals as goal

pub rules-preserved : goal.rules-preserved
rules-preserved c =
    let before = c.args.before.now in
    let after = c.args.after.now in
    let names = c.args.rules.now in
    let rule : Name = c.rule-item.result in
    let rest : List Name = drop (c.rules.rule-index + 1) names in
    let left : drop c.rules.rule-index names ≡ rule ∷ rest = drop_more names c.rules.rule-index rule c.rules-test.true ∙ ap (λ x. x ∷ rest) (sym c.rule-item.is) in
    record {
      units = one_more_list (rule_touched before after) c.rules.units c.push_on_each.new.units rule rest (drop c.rules.rule-index names) (c.args.units.now ++ flat_map (rule_touched before after) names)
          (c.in_ok-push_on_each.ensures ∙ ap (λ ns. c.rules.units ++ map (Rule rule) ns) (c.as_slice.ensures ∙ c.in_ok-names.ensures)) left c.rules.invariant.units;
      switches = one_more_list (switches_of_rule before after) c.rules.switches c.append.new.self rule rest (drop c.rules.rule-index names) (c.args.switches.now ++ flat_map (switches_of_rule before after) names)
          (c.in_ok-append.ensures.ok ∙ ap (λ ns. c.rules.switches ++ ns) c.in_ok-names.ensures) left c.rules.invariant.switches;
    }
