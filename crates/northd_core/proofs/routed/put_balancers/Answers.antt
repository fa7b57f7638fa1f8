use Rattle.std.specs.Prelude.{flat_map}
use Rattle.std.proofs.Common.{subst}
use Rattle.stage_rows.specs.Units.{balancer_units, units_of_balancer}
use Rattle.northd_core.proofs.Joined.{IsJoining, some_join}
use Rattle.northd_core.proofs.routed.put_balancers.Goals as goal

pub loop-name-preserved : goal.loop-name-preserved
loop-name-preserved c =
    let net = c.args.records.now in
    let before = c.loop-name.units.keys in
    some_join c.args.units.now.keys (balancer_units net) before c.put_balancer.new.units.keys (units_of_balancer net (c.in-Some.name.now, c.in-Some.balancer.now)) (flat_map (units_of_balancer net) c.next.new.self)
    c.in_ok-put_balancer.ensures
    (subst (λ es. IsJoining c.args.units.now.keys (balancer_units net) before (flat_map (units_of_balancer net) es)) c.in-Some.ensures.steps c.loop-name.invariant)
