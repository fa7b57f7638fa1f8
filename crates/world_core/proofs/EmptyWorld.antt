-- The empty world is sound.
use Rattle.std.proofs.Common.{◌≡◌, ℕ, true, List, [], arith, refl}
use Rattle.chassis_sim.specs.State as sim
use Rattle.chassis_sim.specs.State.{nothing_held}
use Rattle.conn_zones.specs.Zoning.{Zoned}
use Rattle.net_model.proofs.ListLaws.{empty_keep}
use Rattle.net_model.specs.State.{empty}
use Rattle.sim_laws.proofs.journey_laws.First.{first as nothing_first}
use Rattle.sim_laws.specs.journeys.First.{nobody_home}
use Rattle.sim_laws.specs.journeys.SeenLists.{lists_seen}
use Rattle.switch_engine.specs.declared.walk.Walk.{Walk}
use Rattle.world_setup.specs.Ground.{GroundView, ground_of}
use Rattle.world_core.specs.StepParts.{new_world}
use Rattle.world_core.specs.Waiting.{crossings_of}
use Rattle.world_core.specs.WorldView.{IsSound}
use Rattle.world_core.specs.declared.crossing_names.CrossingNames.{CrossingNames}

pub new_sound : IsSound new_world
new_sound = record { whole = refl; consistent = record { at_rest = nothing_first.0; marks = tt; clock = omega arith; lists = empty_keep }; held = nothing_first.1 }

pub are_no_zones : (zones : Zoned) → zones.homes ≡ nobody_home.homes → zones.numbers ≡ nobody_home.numbers → zones ≡ nobody_home
are_no_zones zones homes numbers = λ i. record { homes = homes i; numbers = numbers i }

-- and so is one that is made of empty parts
pub starts_sound : (g : GroundView) (s : sim.SimState) (names : List (ℕ × CrossingNames)) (walks : List Walk) → g ≡ ground_of empty nobody_home → s ≡ nothing_held → names ≡ [] → walks ≡ []
    → IsSound (record {
      state = record { config = g.config; keys = g.keys; lists = lists_seen g.zones s.zones; waiting = crossings_of names s.waiting; next = s.next; clock = 0; accepted = 0; refused = 0 };
      zones = g.zones;
      sim = s;
      walks = walks;
      whole = true;
    })
starts_sound g s names walks e f h i = rw (e, f, h, i) new_sound
