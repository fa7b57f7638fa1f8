-- How a world is kept: its view, and what holds of it between events.
use Rattle.sim_laws.specs.journeys.SeenLists.{lists_seen}
use Rattle.world_core.specs.Waiting.{crossings_of}
use Rattle.std.specs.Prelude.{◌≡◌, true}
use Rattle.world_core.specs.declared.world.World.TheInside.{Inside}
use Rattle.world_core.specs.WorldView.{WorldView, IsSound}

-- connection lists are those in the zones of who is at home
abbrev pub seen_of : Inside → WorldView
seen_of w = record {
  state = record {
    config = w.setup.ground.config;
    keys = w.setup.ground.keys;
    lists = lists_seen w.setup.ground.zones w.sim.state.zones;
    waiting = crossings_of w.crossings.entries w.sim.state.waiting;
    next = w.sim.state.next;
    clock = w.clock;
    accepted = w.accepted;
    refused = w.refused;
  };
  zones = w.setup.ground.zones;
  sim = w.sim.state;
  walks = w.walks;
  whole = w.whole;
}

-- a world that was not left half done is sound
pub record IsSoundOnceWhole (w : Inside) : Type 0 where
  pub sound : w.whole ≡ true → IsSound (seen_of w)
