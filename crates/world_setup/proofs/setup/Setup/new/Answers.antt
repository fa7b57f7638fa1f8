use Rattle.std.proofs.Common.{sym, subst}
use Rattle.ovn_base.proofs.AmongLaws.{among_none}
use Rattle.net_model.specs.State.{empty}
use Rattle.sim_laws.specs.journeys.First.{nobody_home}
use Rattle.world_setup.specs.Ground.{GroundView, ground_of}
use Rattle.world_setup.specs.Setup.{StandsForGround}
use Rattle.world_setup.proofs.setup.Setup.new.Goals as goal

-- no chassis is there, and no row
pub invariant_of-result : goal.invariant_of-result
invariant_of-result c =
    subst (λ (g : GroundView). StandsForGround g c.in_ok-new-2.field-0 c.new-3.result.entries) (sym c.in_ok-new.ensures)
    (record { lowered = c.in_ok-new-2.ensures (ground_of empty nobody_home).keys; stores = λ name among. absurd (among_none name among) })
