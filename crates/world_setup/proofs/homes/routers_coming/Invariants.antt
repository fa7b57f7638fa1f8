use Rattle.std.specs.Prelude.{◌≡◌, ◌++◌}
use Rattle.world_setup.specs.Homecoming.{homes_by}
use Rattle.sim_laws.specs.journeys.TurnedZones.{routers_coming}
use Rattle.world_setup.proofs.Comers.{comers_in}
use Rattle.world_setup.proofs.homes.routers_coming.Given as goal

-- the routers so far that come home, and those of the ones that are left
abbrev pub invariant-routers : goal.invariant-routers
invariant-routers l = l.comers ++ comers_in l.homes (record { net = l.records; chassis = l.chassis; bindings = l.homes.ports }) l.name-iterator ≡ routers_coming l.homes (homes_by l.homes l.records l.chassis)
