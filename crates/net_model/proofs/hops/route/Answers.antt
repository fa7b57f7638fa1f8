use Rattle.std.proofs.Common.{sym, ap, ◌∙◌}
use Rattle.std.specs.Option.{option_map}
use Rattle.net_model.proofs.HopLaws.{hop_in, hop_found}
use Rattle.net_model.proofs.hops.route.Goals as goal

pub returns-in-Some : goal.returns-in-Some
returns-in-Some c =
    let networks = c.best_network-networks in
    let routes = c.best_route-routes in
    ap (option_map hop_in) (sym c.in-Some.is)
    ∙ hop_found c.args.records.now c.args.router.now c.args.dst networks.result routes.result c.better_of.result networks.ensures routes.ensures c.better_of.ensures

pub returns-in-None : goal.returns-in-None
returns-in-None c =
    let networks = c.best_network-networks in
    let routes = c.best_route-routes in
    ap (option_map hop_in) (sym c.in-None.is)
    ∙ hop_found c.args.records.now c.args.router.now c.args.dst networks.result routes.result c.better_of.result networks.ensures routes.ensures c.better_of.ensures
