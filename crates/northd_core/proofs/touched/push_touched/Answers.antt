use Rattle.std.specs.Prelude.{◌≡◌, ◌++◌, List, flat_map}
use Rattle.std.proofs.Common.{ap, sym, subst, ◌∙◌}
use Rattle.ovn_base.specs.declared.name.Name.{Name}
use Rattle.ovn_base.specs.lists.Among.{Among}
use Rattle.northd_core.specs.Touched.{rule_touched, rules_at, switches_balanced, switches_in, switches_of_rule, switches_touched, turned_at}
use Rattle.northd_core.proofs.Joined.{alike_join, behind_join, both_join, same_members}
use Rattle.northd_core.proofs.touched.push_touched.Goals as goal

pub returns : goal.returns
returns c =
    let before = c.args.before.now in
    let after = c.args.after.now in
    let named = c.args.named.now in
    let rules = c.args.rules.now in
    let start = c.args.units.now in
    let switches_are : c.in_ok-switches.switches ≡ switches_in named = c.in_ok-switches.ensures in
    let touched_are : c.push_balanced.new.switches ≡ switches_touched before after named rules
    = c.in_ok-push_balanced.ensures
    ∙ ap (λ ns. ns ++ switches_balanced before after)
    (c.in_ok-push_named_rules.ensures.switches ∙ ap (λ ns. ns ++ flat_map (switches_of_rule before after) rules) (c.in_ok-touched.ensures ∙ c.as_slice.ensures ∙ switches_are)) in
    let singles : List Name = c.in_ok-singles.singles in
    let are = c.as_slice-3.ensures ∙ touched_are in
    let first = flat_map (rule_touched before after) rules in
    let second = flat_map (rules_at before after) (switches_in named) in
    let third = flat_map (turned_at before after) (switches_touched before after named rules) in
    both_join (first ++ second) third start c.push_rules_at.new.units c.push_all_turned.new.units
    (both_join first second start c.push_named_rules.new.units c.push_rules_at.new.units (behind_join first start c.push_named_rules.new.units c.in_ok-push_named_rules.ensures.units)
    (behind_join second c.push_named_rules.new.units c.push_rules_at.new.units
    (c.in_ok-push_rules_at.ensures ∙ ap (λ ns. c.push_named_rules.new.units ++ flat_map (rules_at before after) ns) (c.as_slice-2.ensures ∙ switches_are))))
    (alike_join (flat_map (turned_at before after) singles) third c.push_rules_at.new.units c.push_all_turned.new.units
    (same_members (turned_at before after) singles (switches_touched before after named rules) (λ n k. subst (λ ns. Among n ns) are ((c.in_ok-singles.ensures n).0 k)))
    (same_members (turned_at before after) (switches_touched before after named rules) singles (λ n k. (c.in_ok-singles.ensures n).1 (subst (λ ns. Among n ns) (sym are) k)))
    (behind_join (flat_map (turned_at before after) singles) c.push_rules_at.new.units c.push_all_turned.new.units
    (c.in_ok-push_all_turned.ensures ∙ ap (λ ns. c.push_rules_at.new.units ++ flat_map (turned_at before after) ns) c.as_slice-4.ensures)))
