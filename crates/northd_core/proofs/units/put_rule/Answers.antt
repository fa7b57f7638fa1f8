use Rattle.std.specs.Prelude.{[], ◌∷◌}
use Rattle.std.specs.Map.{keys_of}
use Rattle.std.proofs.Common.{sym, subst, ◌∙◌}
use Rattle.logical_flows.specs.declared.unit.UnitId.TheVariants.{Rule}
use Rattle.stage_rows.specs.Units.{units_of_rule}
use Rattle.northd_core.proofs.Joined.{IsJoining, some_join, one_joins, rule_on_each, applying, not_applying}
use Rattle.northd_core.proofs.units.put_rule.Goals as goal

pub loop-switch-preserved-in_ok-insert : goal.loop-switch-preserved-in_ok-insert
loop-switch-preserved-in_ok-insert c =
    let net = c.args.records.now in
    let name = c.args.name.now in
    let rule = c.args.rule.now in
    let before = c.loop-switch.units.keys in
    let unit = Rule name c.in-Some.switch.now in
    let all = units_of_rule net (name, rule) in
    some_join c.args.units.now.keys all before c.insert.new.self.keys (unit ∷ []) (rule_on_each net name rule (keys_of c.next.new.self))
    (one_joins c.exact_unit_order.ensures before c.insert.new.self.keys unit c.in_ok-insert.ensures.keys)
    (subst (λ us. IsJoining c.args.units.now.keys all before us) (applying net name rule c.in-Some.switch.now (keys_of c.next.new.self) (sym c.applies.ensures ∙ c.if-applies.true))
    (subst (λ es. IsJoining c.args.units.now.keys all before (rule_on_each net name rule (keys_of es))) c.in-Some.ensures.steps c.loop-switch.invariant))

pub loop-switch-preserved : goal.loop-switch-preserved
loop-switch-preserved c =
    let net = c.args.records.now in
    let name = c.args.name.now in
    let rule = c.args.rule.now in
    let all = units_of_rule net (name, rule) in
    subst (λ us. IsJoining c.args.units.now.keys all c.loop-switch.units.keys us) (not_applying net name rule c.in-Some.switch.now (keys_of c.next.new.self) (sym c.applies.ensures ∙ c.if-applies.false))
    (subst (λ es. IsJoining c.args.units.now.keys all c.loop-switch.units.keys (rule_on_each net name rule (keys_of es))) c.in-Some.ensures.steps c.loop-switch.invariant)
