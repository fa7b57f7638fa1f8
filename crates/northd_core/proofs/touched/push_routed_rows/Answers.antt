use Rattle.std.specs.Prelude.{◌++◌}
use Rattle.northd_core.specs.Routed.{routed_units}
use Rattle.northd_core.specs.Touched.{ports_to_routers}
use Rattle.northd_core.proofs.Joined.{behind_join, both_join}
use Rattle.northd_core.proofs.touched.push_routed_rows.Goals as goal

pub returns : goal.returns
returns c =
    let before = c.args.before.now in
    let after = c.args.after.now in
    both_join (routed_units before ++ routed_units after) (ports_to_routers before after) c.args.units.now c.push_routed.new.units c.push_to_routers.new.units
    c.in_ok-push_routed.ensures (behind_join (ports_to_routers before after) c.push_routed.new.units c.push_to_routers.new.units c.in_ok-push_to_routers.ensures)
