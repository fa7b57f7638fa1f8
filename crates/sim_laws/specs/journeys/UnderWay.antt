-- When a state is sound in the midst of an event.
use Rattle.std.specs.Prelude.{◌≡◌, ◌≤◌, ◌+◌, ◌*◌, ◌^◌, ℕ, true, Some}
use Rattle.conn_zones.specs.Zoning.{Zoned}
use Rattle.nb_records.specs.Switches.{is_virtual}
use Rattle.nb_records.specs.declared.switch.SwitchPort.{SwitchPort}
use Rattle.nb_rules.specs.Valid.{IsValid}
use Rattle.net_model.specs.Config.{Config}
use Rattle.net_model.specs.State.{State, event_count}
use Rattle.ovn_base.specs.declared.name.Name.{Name}
use Rattle.ovn_base.specs.names.ByName.{at}
use Rattle.physical_flows.specs.Bindings.{AreBound}
use Rattle.physical_flows.specs.RecordKeys.{HaveKeys}
use Rattle.sim_laws.specs.Sound.{AreBorn, AreCrossings}
use Rattle.sim_laws.specs.journeys.AtHome.{AreAtHome}

-- each port that is bound is virtual
abbrev pub BoundAreVirtual : Config → Type 0
BoundAreVirtual config = (q chassis : Name) (port : SwitchPort) → at config.bindings q ≡ Some chassis → at config.net.switch_ports q ≡ Some port → is_virtual port ≡ true

-- The state in the midst of an event: as between events, but so many more frames may have been sent, and keys that nobody needs any more may
-- still be retired.
pub record IsUnderWay (m : State) (zones : Zoned) (more : ℕ) : Type 0 where
  pub valid : IsValid m.config.net
  pub keys : HaveKeys m.config.net m.keys
  pub bound : AreBound m.config zones
  pub bound_virtual : BoundAreVirtual m.config
  pub at_home : AreAtHome m.config m.lists
  pub born : AreBorn m
  pub crossings : AreCrossings m
  pub few : event_count m ≤ 2 ^ 42
  pub few_sent : m.next ≤ 1 + 2 ^ 64 * event_count m + more
