-- What is seen of a world.
use Rattle.std.specs.Prelude.{◌≡◌, Bool, true, List}
use Rattle.address_sets.specs.Members.{sets_of}
use Rattle.conn_zones.specs.Zoning.{Zoned}
use Rattle.chassis_sim.specs.State as sim
use Rattle.net_model.specs.State.{State}
use Rattle.sim_laws.specs.journeys.Holding.{HoldsNetwork}
use Rattle.switch_engine.specs.declared.walk.Walk.{Walk}
use Rattle.world_setup.specs.Consistent.{IsConsistent}

pub record WorldView : Type 0 where
  pub state : State
  -- where ports are at home, and the numbers of their zones there
  pub zones : Zoned
  -- the simulated chassis: the flows of each, its connection lists, the bindings, the names of keys, and the frames that wait
  pub sim : sim.SimState
  -- the flows that the packets of the last event matched
  pub walks : List Walk
  -- no event was left half done
  pub whole : Bool

-- the simulated chassis hold the state, with rows that were lowered with the sets of the records
abbrev pub AreHeld : State → Zoned → sim.SimState → Type 0
AreHeld m zones s = HoldsNetwork m zones.numbers (sets_of m.config.net) s

pub record IsSound (w : WorldView) : Type 0 where
  pub whole : w.whole ≡ true
  pub consistent : IsConsistent w.state w.zones
  pub held : AreHeld w.state w.zones w.sim
