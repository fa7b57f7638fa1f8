use Rattle.std.specs.Prelude.{◌≡◌, ◌++◌, drop}
use Rattle.sim_laws.specs.journeys.TurnedZones.{zones_begun}
use Rattle.world_setup.proofs.homes.zones_begun.Given as goal

-- the zones so far, and those of the routers that are left
abbrev pub invariant-routers : goal.invariant-routers
invariant-routers l = l.zones ++ zones_begun l.numbers (drop l.name-index l.routers) ≡ zones_begun l.numbers l.routers
