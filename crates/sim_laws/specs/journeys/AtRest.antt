-- When a state is sound between events, and how events begin and end.
use Rattle.std.specs.Prelude.{◌≤◌, ◌<◌, ◌^◌, ℕ}
use Rattle.chassis_sim.specs.State.{SimState}
use Rattle.conn_zones.specs.Zoning.{Zoned}
use Rattle.match_cubes.specs.declared.sets.Sets.{Sets}
use Rattle.nb_rules.specs.Valid.{IsValid}
use Rattle.net_model.specs.State.{State, event_count, finished}
use Rattle.physical_flows.specs.Bindings.{AreBound}
use Rattle.physical_flows.specs.RecordKeys.{HaveKeys}
use Rattle.sim_laws.specs.Sound.{AreBorn, AreOnTheWay}
use Rattle.sim_laws.specs.journeys.AtHome.{AreAtHome}
use Rattle.sim_laws.specs.journeys.Holding.{HoldsNetwork}
use Rattle.sim_laws.specs.journeys.UnderWay.{BoundAreVirtual, IsUnderWay}

-- the state is one that events can leave
pub record IsAtRest (m : State) (zones : Zoned) : Type 0 where
  pub valid : IsValid m.config.net
  pub keys : HaveKeys m.config.net m.keys
  pub bound : AreBound m.config zones
  pub bound_virtual : BoundAreVirtual m.config
  pub at_home : AreAtHome m.config m.lists
  pub born : AreBorn m
  pub on_the_way : AreOnTheWay m
  pub few : event_count m ≤ 2 ^ 42

-- An event begins,
abbrev pub BeginsLaw : Type 0
BeginsLaw = (m : State) (zones : Zoned) → IsAtRest m zones → IsUnderWay m zones 0

-- and is over: it is counted, and where nothing waits no key is retired. The chassis hold that state too.
abbrev pub FinishesLaw : Type 0
FinishesLaw =
    (m : State) (zones : Zoned) (sets : Sets) (more : ℕ) (s : SimState)
    → IsUnderWay m zones more → more ≤ 2 ^ 64 → event_count m < 2 ^ 42
    → HoldsNetwork m zones.numbers sets s
    → IsAtRest (finished m) zones × HoldsNetwork (finished m) zones.numbers sets s
