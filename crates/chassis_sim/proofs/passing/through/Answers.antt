use Rattle.std.proofs.Common.{arith, sym, subst}
use Rattle.std.specs.List.{AllByRecursion}
use Rattle.switch_engine.specs.Framed.{CanBeSent}
use Rattle.switch_engine.specs.Outcome.{any_legal, of_program}
use Rattle.chassis_sim.proofs.Outcomes.{walked}
use Rattle.chassis_sim.proofs.ZoneNumbers.{walk_same, room_stays}
use Rattle.chassis_sim.proofs.passing.through.Goals as goal

pub returns-clause-any : goal.returns-clause-any
returns-clause-any g c = walked any_legal (g.T.Lookup.flows c.args.tables.now) c.args.entry.now c.args.now c.args.packet _ _ c.new-out.result c.run.new.out c.new-out.ensures.walk c.new-out.ensures.effects c.in_ok-run.ensures.ok

pub returns-clause-own : goal.returns-clause-own
returns-clause-own g c = walked of_program (g.T.Lookup.flows c.args.tables.now) c.args.entry.now c.args.now c.args.packet _ _ c.new-out.result c.run.new.out c.new-out.ensures.walk c.new-out.ensures.effects c.in_ok-run.ensures.own

pub returns-clause-can : goal.returns-clause-can
returns-clause-can g c = c.in_ok-run.ensures.sent (subst (AllByRecursion CanBeSent) (sym c.new-out.ensures.effects) tt)

pub returns-clause-more : goal.returns-clause-more
returns-clause-more g c =
    let same = walk_same of_program (g.T.Lookup.flows c.args.tables.now) c.args.entry.now c.args.now c.args.zones.now.zones c.run.new.zones.zones _ _ _ c.in_ok-run.ensures.own.is_walk in
    room_stays c.args.zones.now c.run.new.zones same (omega (arith, c.run.ensures.room))
