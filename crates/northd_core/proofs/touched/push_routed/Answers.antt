use Rattle.std.specs.Prelude.{◌++◌, []}
use Rattle.std.proofs.Common.{subst}
use Rattle.northd_core.specs.Listing.{HaveJoined}
use Rattle.northd_core.specs.Routed.{routed_units}
use Rattle.northd_core.proofs.Joined.{both_join, set_behind}
use Rattle.northd_core.proofs.touched.push_routed.Goals as goal

pub returns : goal.returns
returns c =
    let before = routed_units c.args.before.now in
    let after = routed_units c.args.after.now in
    let first = subst (λ start. HaveJoined before start c.put_routed.new.units.keys) c.new-set.ensures.empty c.in_ok-put_routed.ensures in
    set_behind (before ++ after) c.put_routed-2.new.units.keys c.args.units.now c.push_all.new.units
    (both_join before after [] c.put_routed.new.units.keys c.put_routed-2.new.units.keys first c.in_ok-put_routed-2.ensures) c.in_ok-push_all.ensures
