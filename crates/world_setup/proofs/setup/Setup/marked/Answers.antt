use Rattle.std.proofs.Common.{[], subst, sym}
use Rattle.physical_flows.specs.Switched.{IsKeyed}
use Rattle.northd_core.specs.Lowering.{CanCompile}
use Rattle.world_setup.specs.Ground.{GroundView, ground_after, mark_change}
use Rattle.world_setup.specs.Setup.{AreTouched, lowering_in}
use Rattle.world_setup.proofs.MarkedRows.{mark_compiled, mark_keyed, mark_touches_none}
use Rattle.world_setup.proofs.setup.Setup.marked.Goals as goal

pub prepare-requires-clause-keyed : goal.prepare-requires-clause-keyed
prepare-requires-clause-keyed g c = subst (λ (x : GroundView). IsKeyed c.args.records.after x.keys) (sym c.lower_marked.ensures.kept) (mark_keyed c.args.self.now.ground c.args.records c.requires.planned)

pub prepare-requires-clause-compiled : goal.prepare-requires-clause-compiled
prepare-requires-clause-compiled g c =
    subst (λ (x : GroundView). CanCompile (lowering_in (ground_after (mark_change c.args.records) x))) (sym c.lower_marked.ensures.kept)
    (mark_compiled c.args.self.now.ground c.args.records c.requires.planned).1

pub prepare-requires-clause-touched : goal.prepare-requires-clause-touched
prepare-requires-clause-touched g c =
    subst (λ (x : GroundView). AreTouched x (ground_after (mark_change c.args.records) x) []) (sym c.lower_marked.ensures.kept)
    (mark_touches_none c.args.self.now.ground c.args.records c.requires.planned)
