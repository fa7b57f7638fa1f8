use Rattle.world_setup.specs.Homecoming.{homes_by}
use Rattle.sim_laws.specs.journeys.TurnedZones.{routers_coming}
use Rattle.world_setup.proofs.Comers.{one_comer}
use Rattle.world_setup.proofs.homes.routers_coming.Goals as goal

pub routers-preserved : goal.routers-preserved
routers-preserved c =
    let homes = c.args.homes.now in
    let records = c.args.records.now in
    let chassis = c.args.chassis.now in
    one_comer homes (record { net = records; chassis = chassis; bindings = homes.ports }) c.routers.name-iterator c.next.new.self c.in-Some.name.now c.in-Some.router.now c.routers.comers c.push_comer.new.comers
    (routers_coming homes (homes_by homes records chassis)) c.routers.invariant c.in-Some.ensures.steps c.home_among.result c.home_among.ensures c.in_ok-push_comer.ensures
