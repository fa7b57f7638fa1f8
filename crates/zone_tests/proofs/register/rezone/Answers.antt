use Rattle.zone_tests.proofs.FewNames.{change_fits, known_after, patch_fits}
use Rattle.zone_tests.proofs.register.rezone.Goals as goal

pub prepare-requires : goal.prepare-requires
prepare-requires c = change_fits c.args.zones.now.homes c.args.most c.args.change.now c.requires.known c.requires.few_ports c.requires.few_routers c.requires.room

pub apply-requires : goal.apply-requires
apply-requires c =
    patch_fits c.args.zones.now c.prepare.new.self c.in_ok-patch.patch c.args.change.now c.in_ok-patch.ensures.kept
    (change_fits c.args.zones.now.homes c.args.most c.args.change.now c.requires.known c.requires.few_ports c.requires.few_routers c.requires.room)
    c.in_ok-patch.ensures.rezoned

pub returns-clause-known : goal.returns-clause-known
returns-clause-known c =
    known_after c.args.zones.now c.in_ok-patch.patch c.apply.new.self c.args.most c.args.change.now c.requires.known c.requires.few_ports c.requires.few_routers
    c.in_ok-patch.ensures.rezoned c.apply.ensures
