use Rattle.std.specs.Prelude.{[], ◌∷◌}
use Rattle.std.specs.Map.{keys_of}
use Rattle.std.proofs.Common.{sym, subst, ◌∙◌}
use Rattle.logical_flows.specs.declared.unit.UnitId.TheVariants.{Balancer}
use Rattle.northd_core.specs.Routed.{served_units}
use Rattle.northd_core.proofs.Joined.{IsJoining, some_join, one_joins, serving, not_serving}
use Rattle.northd_core.proofs.routed.put_on_routers.Goals as goal

pub loop-datapath-preserved-in_ok-insert : goal.loop-datapath-preserved-in_ok-insert
loop-datapath-preserved-in_ok-insert c =
    let name = c.args.name.now in
    let balancer = c.args.balancer.now in
    let before = c.loop-datapath.units.keys in
    let unit = Balancer name c.in-Some.datapath.now in
    let all = served_units name balancer (keys_of c.args.records.now.routers) in
    some_join c.args.units.now.keys all before c.insert.new.self.keys (unit ∷ []) (served_units name balancer (keys_of c.next.new.self))
    (one_joins c.exact_unit_order.ensures before c.insert.new.self.keys unit c.in_ok-insert.ensures.keys)
    (subst (λ us. IsJoining c.args.units.now.keys all before us) (serving name balancer c.in-Some.datapath.now (keys_of c.next.new.self) (sym c.serves.ensures ∙ c.if-serves.true))
    (subst (λ es. IsJoining c.args.units.now.keys all before (served_units name balancer (keys_of es))) c.in-Some.ensures.steps c.loop-datapath.invariant))

pub loop-datapath-preserved : goal.loop-datapath-preserved
loop-datapath-preserved c =
    let name = c.args.name.now in
    let balancer = c.args.balancer.now in
    let all = served_units name balancer (keys_of c.args.records.now.routers) in
    subst (λ us. IsJoining c.args.units.now.keys all c.loop-datapath.units.keys us) (not_serving name balancer c.in-Some.datapath.now (keys_of c.next.new.self) (sym c.serves.ensures ∙ c.if-serves.false))
    (subst (λ es. IsJoining c.args.units.now.keys all c.loop-datapath.units.keys (served_units name balancer (keys_of es))) c.in-Some.ensures.steps c.loop-datapath.invariant)
