use Rattle.std.proofs.Common.{subst}
use Rattle.northd_core.specs.Listing.{HaveJoined}
use Rattle.northd_core.specs.Touched.{beside_routers, routed_rows}
use Rattle.northd_core.proofs.Joined.{joined_to}
use Rattle.northd_core.proofs.touched.touched_rows.Goals as goal

pub returns : goal.returns
returns c =
    let before = c.args.before.now in
    let after = c.args.after.now in
    let named = c.args.named.now in
    let rules = c.args.rules.now in
    joined_to named (beside_routers before after named rules) (routed_rows before after) c.push_touched.new.units c.push_routed_rows.new.units
    (subst (λ us. HaveJoined (beside_routers before after named rules) us c.push_touched.new.units) c.in_ok-units.ensures c.in_ok-push_touched.ensures) c.in_ok-push_routed_rows.ensures
