use Rattle.std.specs.Map.{keys_of}
use Rattle.std.proofs.Common.{sym, subst}
use Rattle.northd_core.specs.Listing.{HaveJoined}
use Rattle.northd_core.specs.Routed.{served_units}
use Rattle.northd_core.proofs.Joined.{both_join, served_both}
use Rattle.northd_core.proofs.routed.put_balancer.Goals as goal

pub returns : goal.returns
returns c =
    let name = c.args.name.now in
    let balancer = c.args.balancer.now in
    let switches = keys_of c.args.records.now.switches in
    let routers = keys_of c.args.records.now.routers in
    subst (λ us. HaveJoined us c.args.units.now.keys c.put_on_routers.new.units.keys) (sym (served_both name balancer switches routers))
    (both_join (served_units name balancer switches) (served_units name balancer routers) c.args.units.now.keys c.put_on_switches.new.units.keys c.put_on_routers.new.units.keys
    c.in_ok-put_on_switches.ensures c.in_ok-put_on_routers.ensures)
