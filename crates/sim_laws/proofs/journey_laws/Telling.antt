-- The simulated chassis, once a walk is told, hold the state that its ends leave.
use Rattle.std.specs.Prelude.{◌≡◌, ◌≤◌, ◌+◌, ◌*◌, ◌^◌, ◌++◌, ℕ, List, [], ◌∷◌, length, map, Some, refl}
use Rattle.std.specs.List.{AllZip}
use Rattle.std.proofs.Common.{sym, ap, ◌∙◌, subst}
use Rattle.chassis_sim.specs.Holding.{AreZoned}
use Rattle.chassis_sim.specs.InNames.{all_in_names, arrived_as, frames_sent}
use Rattle.chassis_sim.specs.Passing.{IsTold}
use Rattle.chassis_sim.specs.State as sim
use Rattle.chassis_sim.specs.State.{at_name}
use Rattle.chassis_sim.specs.declared.out.SimOut.{SimOut}
use Rattle.chassis_sim.specs.declared.underlay.WaitingFrame.{WaitingFrame}
use Rattle.conn_zones.specs.Zoning.{Zoned, GivenNumbers}
use Rattle.match_cubes.specs.declared.sets.Sets.{Sets}
use Rattle.net_model.specs.Config.{Config}
use Rattle.net_model.specs.Journey.{numbered_from}
use Rattle.net_model.specs.Leads.{list_owners}
use Rattle.net_model.specs.State.{State, event_count}
use Rattle.net_model.specs.Trail.{Lists, End, crossings_in}
use Rattle.net_model.specs.declared.crossing.Crossing.{Crossing}
use Rattle.ovn_base.specs.declared.name.Name.{Name}
use Rattle.ovn_base.specs.lists.Among.{Among}
use Rattle.switch_engine.specs.Zones.{ZoneLists}
use Rattle.switch_engine.specs.declared.effect.Effect.{Effect}
use Rattle.switch_engine.specs.declared.walk.Start.{Start}
use Rattle.switch_engine.specs.declared.walk.Step.{Step}
use Rattle.sim_laws.proofs.EffectNames.{AreEndsOn, all_named, next_named, frames_named}
use Rattle.sim_laws.proofs.WaitingCrossings.{crossings_behind}
use Rattle.sim_laws.specs.Effects.{effects_of}
use Rattle.sim_laws.specs.Held.{HaveOwnersNames, frame_of_crossing}
use Rattle.sim_laws.specs.Naming.{IsNumbered}
use Rattle.sim_laws.specs.Sound.{AreCrossings, MayWait}
use Rattle.sim_laws.specs.journeys.AtHome.{AreAtHome}
use Rattle.sim_laws.specs.journeys.Holding.{HoldsNetwork}
use Rattle.sim_laws.specs.journeys.InState.{zones_on}
use Rattle.sim_laws.specs.journeys.UnderWay.{IsUnderWay}
use Rattle.sim_laws.specs.pipelines.HeldLists.{HoldLists}

map_both : {X Y : Type 0} (f : X → Y) (xs ys : List X) → map f (xs ++ ys) ≡ map f xs ++ map f ys
map_both f [] ys = refl
map_both f (x ∷ xs) ys = ap (λ r. f x ∷ r) (map_both f xs ys)

-- ---- the same state but for lists and crossings

abbrev pub other : State → Lists → List (ℕ × Crossing) → ℕ → State
other m lists waiting next = record m { lists = lists; waiting = waiting; next = next }

-- where these crossings wait, and those of the ends come behind them
abbrev pub led : State → Lists → List (ℕ × Crossing) → List End → State
led m lists waiting ends = other m lists (waiting ++ numbered_from m.next (crossings_in ends)) (m.next + length (crossings_in ends))

pub may_still : (m : State) (lists : Lists) (waiting : List (ℕ × Crossing)) (next : ℕ) (x : Crossing) → MayWait m x → MayWait (other m lists waiting next) x
may_still m lists waiting next x w = record {
  whole = w.whole;
  datapath_key = w.datapath_key;
  in_key = w.in_key;
  aim_key = w.aim_key;
  in_live = w.in_live;
  aim_live = w.aim_live;
  no_router = w.no_router;
  no_return = w.no_return;
}

-- the same owners have lists
pub at_home_still : (c : Config) (before after : Lists) → list_owners after ≡ list_owners before → AreAtHome c before → AreAtHome c after
at_home_still c before after same h = record {
  ports = ap (λ (o : List Name × List Name × List Name). o.0) same ∙ h.ports;
  dnats = ap (λ (o : List Name × List Name × List Name). o.1) same ∙ h.dnats;
  snats = ap (λ (o : List Name × List Name × List Name). o.2) same ∙ h.snats;
}

-- a state with these crossings that wait, and others of the ends, is sound
pub led_sound : (m : State) (zones : Zoned) (more most : ℕ) (lists : Lists) (waiting : List (ℕ × Crossing)) (ends : List End) → IsUnderWay m zones more → AreAtHome m.config lists
    → AreCrossings (other m m.lists waiting m.next) → ((x : Crossing) → Among x (crossings_in ends) → MayWait m x)
    → m.next + length (crossings_in ends) ≤ 1 + 2 ^ 64 * event_count m + most → IsUnderWay (led m lists waiting ends) zones most
led_sound m zones more most lists waiting ends u at_home c may few = record {
  valid = u.valid;
  keys = u.keys;
  bound = u.bound;
  bound_virtual = u.bound_virtual;
  at_home = at_home;
  born = record { records = u.born.records; keys = u.born.keys; none = u.born.none };
  crossings = crossings_behind k ends (record { in_order = c.in_order; below = c.below; may = λ n x w. still x (c.may n x w) }) (λ x w. may_still m lists waiting m.next x (may x w));
  few = u.few;
  few_sent = few;
}
  where
    k : State
    k = other m lists waiting m.next

    still : (x : Crossing) → MayWait (other m m.lists waiting m.next) x → MayWait k x
    still x w = record {
      whole = w.whole;
      datapath_key = w.datapath_key;
      in_key = w.in_key;
      aim_key = w.aim_key;
      in_live = w.in_live;
      aim_live = w.aim_live;
      no_router = w.no_router;
      no_return = w.no_return;
    }

-- ---- what is told

module _ (m : State) (numbers : GivenNumbers) (sets : Sets) (s : sim.SimState) (h : HoldsNetwork m numbers sets s) where
  -- with zones that hold the lists, and with the frames of the crossings
  pub held_with : (lists : Lists) (waiting : List (ℕ × Crossing)) (next : ℕ) (zones : List (Name × ZoneLists)) (frames : List (ℕ × WaitingFrame)) (then : ℕ)
      → ((c : Name) (held : ZoneLists) → at_name zones c ≡ Some held → HoldLists (zones_on numbers c) held lists) → AreZoned s.chassis zones → frames ≡ map (frame_of_crossing m.keys) waiting → then ≡ next
      → HoldsNetwork (other m lists waiting next) numbers sets (record s { zones = zones; waiting = frames; next = then })
  held_with lists waiting next zones frames then hold zoned waits is = record {
    bindings = h.bindings;
    names = record { datapaths = h.names.datapaths; ports = h.names.ports };
    held = h.held;
    members = h.members;
    tables = h.tables;
    zoned = zoned;
    zones = hold;
    waiting = waits;
    next = is;
  }

  module _ (lists : Lists) (waiting : List (ℕ × Crossing)) (zones : List (Name × ZoneLists)) (frames : List (ℕ × WaitingFrame))
      (hold : (c : Name) (held : ZoneLists) → at_name zones c ≡ Some held → HoldLists (zones_on numbers c) held lists) (waits : frames ≡ map (frame_of_crossing m.keys) waiting)
      (chassis : Name) (from : Start) (steps : List Step) (ends : List End) (effects : List Effect) (keyed : AllZip (IsNumbered m.keys) ends effects) (on : AreEndsOn chassis (arrived_as from) ends)
      (before after : SimOut) (new : sim.SimState) (told : IsTold (record s { zones = zones; waiting = frames }) chassis from steps effects before after new) where
    abbrev old : sim.SimState
    old = record s { zones = zones; waiting = frames }

    own_names : HaveOwnersNames m.keys old
    own_names = record { datapaths = h.names.datapaths; ports = h.names.ports }

    names_are : all_in_names s.names chassis from s.next effects ≡ effects_of m.keys m.next ends
    names_are = all_named m.keys old own_names chassis from s.next ends effects keyed on ∙ ap (λ n. effects_of m.keys n ends) h.next

    pub told_effects : after.effects ≡ before.effects ++ effects_of m.keys m.next ends
    told_effects = told.told.all_effects ∙ ap (λ es. before.effects ++ es) names_are

    frames_are : frames ++ frames_sent (all_in_names s.names chassis from s.next effects) ≡ map (frame_of_crossing m.keys) (waiting ++ numbered_from m.next (crossings_in ends))
    frames_are =
        ap (λ es. frames ++ frames_sent es) names_are
        ∙ ap (λ fs. frames ++ fs) (frames_named m.keys m.next ends)
        ∙ ap (λ ws. ws ++ map (frame_of_crossing m.keys) (numbered_from m.next (crossings_in ends))) waits
        ∙ sym (map_both (frame_of_crossing m.keys) waiting (numbered_from m.next (crossings_in ends)))

    pub told_held : AreZoned s.chassis zones → HoldsNetwork (led m lists waiting ends) numbers sets new
    told_held zoned =
        subst (λ z. HoldsNetwork (led m lists waiting ends) numbers sets z) (sym told.state)
        (held_with lists (waiting ++ numbered_from m.next (crossings_in ends)) (m.next + length (crossings_in ends)) zones _ _ hold zoned frames_are
        (next_named m.keys old own_names chassis from s.next ends effects keyed ∙ ap (λ n. n + length (crossings_in ends)) h.next))
