use Rattle.std.proofs.Common.{◌≡◌, subst, refl}
use Rattle.chassis_sim.specs.Holding.{IsSimState}
use Rattle.chassis_sim.specs.State.{SimView}
use Rattle.chassis_sim.specs.Tables.{zones_held}
use Rattle.chassis_sim.proofs.sim.Sim.state_holds.Goals as goal

pub returns-clause-state : goal.returns-clause-state
returns-clause-state g c =
    subst (λ (s : SimView g.row.T.Denot). IsSimState s.state) c.self.view_is
    (record { proper = c.self.invariant.proper; zoned = c.self.invariant.zoned; ordered = c.holds.ensures.ordered; waiting = c.holds.ensures.each })

pub returns-clause-zones : goal.returns-clause-zones
returns-clause-zones g c = subst (λ (s : SimView g.row.T.Denot). zones_held s.room.zones ≡ s.state.zones) c.self.view_is refl
