-- The states that events can leave.
use Rattle.std.specs.Prelude.{◌≤◌, ◌*◌}
use Rattle.conn_zones.specs.Zoning.{Zoned}
use Rattle.nb_edits.specs.EditLeaves.{AreListed}
use Rattle.net_model.specs.ListsAt.{AreListsAt}
use Rattle.net_model.specs.State.{State, event_count}
use Rattle.ovn_base.specs.declared.limits.TheConstants.{MAX_CLOCK}
use Rattle.sim_laws.specs.journeys.AtRest.{IsAtRest}

-- the state is one that events can leave
pub record IsConsistent (m : State) (zones : Zoned) : Type 0 where
  pub at_rest : IsAtRest m zones
  -- each mark is one of a backend that a vip of its balancer lists
  pub marks : AreListed m.config.net
  -- the clock goes on by at most `MAX_CLOCK` seconds with each event
  pub clock : m.clock ≤ MAX_CLOCK * event_count m
  -- the connection lists are ones, with no last use after the clock
  pub lists : AreListsAt m.clock m.lists
