use Rattle.std.specs.Prelude.{List, [], Some, map}
use Rattle.std.proofs.Common.{ap, subst, ◌∙◌}
use Rattle.conn_zones.specs.Rezoning.{IsRezoned}
use Rattle.conn_zones.specs.Zoning.{KnownHomes}
use Rattle.conn_zones.specs.declared.change.HomeChange.{HomeChange}
use Rattle.ovn_base.specs.declared.name.Name.{Name}
use Rattle.sim_laws.specs.journeys.TurnedZones.{coming_home}
use Rattle.world_setup.specs.Homecoming.{homes_by}
use Rattle.world_setup.proofs.homes.come_home.Goals as goal

-- the homes with these routers at home
abbrev homed : List (Name × Name) → HomeChange
homed routers = record { ports = []; routers = map (λ (e : Name × Name). (e.0, Some e.1)) routers }

pub returns-clause-rezoned : goal.returns-clause-rezoned
returns-clause-rezoned c =
    let change = c.in_ok-coming_home.ensures ∙ ap homed (c.as_slice.ensures ∙ c.in_ok-routers.ensures) ∙ ap (λ (before : KnownHomes). coming_home before (homes_by before c.args.records.now c.args.chassis.now)) c.homes.ensures in
    subst (λ (is : HomeChange). IsRezoned c.args.zones.now is c.in_ok-zones.zones) change c.in_ok-zones.ensures.rezoned
