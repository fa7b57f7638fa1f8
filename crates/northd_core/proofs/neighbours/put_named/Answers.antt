use Rattle.std.specs.Prelude.{flat_map}
use Rattle.std.specs.Map.{keys_of}
use Rattle.std.proofs.Common.{subst}
use Rattle.northd_core.specs.Routed.{neighbours_named}
use Rattle.northd_core.proofs.Joined.{IsJoining, some_join}
use Rattle.northd_core.proofs.neighbours.put_named.Goals as goal

pub loop-name-preserved : goal.loop-name-preserved
loop-name-preserved c =
    let net = c.args.records.now in
    let before = c.loop-name.units.keys in
    let all = flat_map (neighbours_named net) (keys_of net.router_ports) in
    some_join c.args.units.now.keys all before c.put_neighbours_of.new.units.keys (neighbours_named net c.in-Some.name.now) (flat_map (neighbours_named net) (keys_of c.next.new.self))
    c.in_ok-put_neighbours_of.ensures
    (subst (λ es. IsJoining c.args.units.now.keys all before (flat_map (neighbours_named net) (keys_of es))) c.in-Some.ensures.steps c.loop-name.invariant)
