use Rattle.std.specs.Prelude.{◌++◌}
use Rattle.std.proofs.Common.{ap, sym, ◌∙◌}
use Rattle.nb_records.specs.Routers.{partner_of_router_port}
use Rattle.stage_rows.specs.Units.{bound_ips, ips_beyond}
use Rattle.northd_core.proofs.ReachedUnits.{neighbours_join}
use Rattle.northd_core.proofs.neighbours.put_neighbours_of.Goals as goal

pub returns-in_ok-put_reached-in-Some : goal.returns-in_ok-put_reached-in-Some
returns-in_ok-put_reached-in-Some c =
    let net = c.args.records.now in
    let port = c.in-Some.port.now in
    neighbours_join net c.args.name.now port (sym c.in-Some.ensures) c.args.units.now.keys c.put_reached.new.units.keys c.as_slice.result.now
    (c.as_slice.ensures ∙ c.in_ok-push_beyond-in-Some.ensures
    ∙ ap (λ xs. xs ++ ips_beyond net (partner_of_router_port net port)) (c.in_ok-push_bound-in-Some.ensures ∙ ap (λ xs. xs ++ bound_ips net port) c.new-ips.ensures))
    c.in_ok-put_reached-in-Some.ensures
