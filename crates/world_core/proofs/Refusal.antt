-- What stands where an event is refused, and once an event is over.
use Rattle.std.specs.Prelude.{◌≡◌, ◌<◌, ◌+◌, ◌^◌, ℕ, true, false, List, [], length, refl}
use Rattle.std.proofs.Common.{arith, sym, ap, ◌∙◌, ◌++◌, drop, take-append-drop}
use Rattle.conn_zones.specs.Zoning.{Zoned}
use Rattle.chassis_sim.specs.State as sim
use Rattle.edit_reader.specs.declared.event.Event.{Event}
use Rattle.event_lines.specs.declared.refusal.Refusal.{Refusal}
use Rattle.event_lines.specs.Text.{StartsWith}
use Rattle.tunnel_keys.proofs.Births.{born_later}
use Rattle.world_core.specs.Outcome.{IsAccepted, IsRefused}
use Rattle.world_core.specs.StepParts.{IsTaken}
use Rattle.world_setup.specs.Consistent.{IsConsistent}
use Rattle.world_core.specs.WorldView.{AreHeld, IsSound, WorldView}
use Rattle.sim_laws.specs.journeys.AtRest.{IsAtRest}
use Rattle.sim_laws.specs.Sound.{MayWait}
use Rattle.net_model.specs.State.{State, event_count}
use Rattle.net_model.specs.declared.crossing.Crossing.{Crossing}

-- the same state with one refused event more
abbrev one_refused : State → State
one_refused m = record m { refused = m.refused + 1 }

may_wait : (m : State) (x : Crossing) → MayWait m x → MayWait (one_refused m) x
may_wait m x w = record {
  whole = w.whole;
  datapath_key = w.datapath_key;
  in_key = w.in_key;
  aim_key = w.aim_key;
  in_live = w.in_live;
  aim_live = w.aim_live;
  no_router = w.no_router;
  no_return = w.no_return;
}

held_on : (m : State) (zones : Zoned) (s : sim.SimState) → AreHeld m zones s → AreHeld (one_refused m) zones s
held_on m zones s h = record {
  bindings = h.bindings;
  names = record { datapaths = h.names.datapaths; ports = h.names.ports };
  held = h.held;
  members = h.members;
  tables = h.tables;
  zoned = h.zoned;
  zones = h.zones;
  waiting = h.waiting;
  next = h.next;
}

rests_on : (m : State) (zones : Zoned) → IsAtRest m zones → event_count m < 2 ^ 42 → IsAtRest (one_refused m) zones
rests_on m zones now room =
    let sent = now.on_the_way.few in
    record {
      valid = now.valid;
      bound_virtual = now.bound_virtual;
      keys = now.keys;
      bound = now.bound;
      at_home = now.at_home;
      born = record {
        records = λ k q r is. let b = now.born.records k q r is in omega (arith, b);
        keys = born_later m.keys (event_count m) (event_count (one_refused m)) (omega arith) now.born.keys;
        none = now.born.none;
      };
      on_the_way = record {
        crossings = record {
          in_order = now.on_the_way.crossings.in_order;
          below = now.on_the_way.crossings.below;
          may = λ n x among. may_wait m x (now.on_the_way.crossings.may n x among);
        };
        few = omega (arith, sent);
        none = now.on_the_way.none;
      };
      few = omega (arith, room);
    }

refused_consistent : (m : State) (zones : Zoned) → IsConsistent m zones → event_count m < 2 ^ 42 → IsConsistent (one_refused m) zones
refused_consistent m zones now room = record { at_rest = rests_on m zones now.at_rest room; marks = now.marks; clock = let clock = now.clock in omega (arith, clock); lists = now.lists }

-- a refused event changes nothing but the number of refused ones
abbrev pub refused_world : WorldView → WorldView
refused_world w = record w { state = one_refused w.state; walks = [] }

pub refused_taken : (w : WorldView) → IsTaken w → event_count w.state < 2 ^ 42 → IsTaken (refused_world w)
refused_taken w taken room = record { consistent = refused_consistent w.state w.zones taken.consistent room; held = held_on w.state w.zones w.sim taken.held; taken = taken.taken }

pub refused_sound : (w : WorldView) → IsSound w → event_count w.state < 2 ^ 42 → IsSound (refused_world w)
refused_sound w sound room = record { whole = sound.whole; consistent = refused_consistent w.state w.zones sound.consistent room; held = held_on w.state w.zones w.sim sound.held }

-- the mark of an event that is taken plays no part in what it does
pub accepted_marked : (old mid : WorldView) (event : Event) (before after : List ℕ) → IsAccepted (record old { whole = false }) event before after mid → IsTaken mid → IsAccepted old event before after (record mid { whole = true }) × IsSound (record mid { whole = true })
accepted_marked old mid event before after done taken = (
  record { admitted = done.admitted; effects = done.effects; step = done.step; passed = done.passed; zones = done.zones; lists = done.lists; text = done.text },
  record { whole = refl; consistent = taken.consistent; held = taken.held },
)

pub refused_marked : (old mid : WorldView) (event : Event) (why : Refusal) (before after : List ℕ) → old.whole ≡ true → IsRefused (record old { whole = false }) event why before after mid → IsTaken mid
    → IsRefused old event why before after (record mid { whole = true }) × IsSound (record mid { whole = true })
refused_marked old mid event why before after was done taken = (
  record {
    first = done.first;
    kept = ap (λ (w : WorldView). record w { whole = true }) done.kept ∙ ap (λ b. record old { state = record old.state { refused = old.state.refused + 1 }; walks = []; whole = b }) (sym was);
    text = done.text;
  },
  record { whole = refl; consistent = taken.consistent; held = taken.held },
)

-- after want of memory the world isn't sound
pub half_done : (w : WorldView) → ¬ IsSound (record w { whole = false })
half_done w sound = let h : false ≡ true = sound.whole in cc

-- and the text has what it had at its front
pub front_kept : (before after : List ℕ) → StartsWith after before → (more : List ℕ) × (after ≡ before ++ more)
front_kept before after h = (drop (length before) after, sym (take-append-drop (length before) after) ∙ ap (λ l. l ++ drop (length before) after) h)

-- the same state again, taken
pub taken_of : (w : WorldView) → IsSound w → IsTaken (record w { whole = false })
taken_of w sound = record { consistent = sound.consistent; held = sound.held; taken = refl }
