-- A turn that is prepared and applied: the event is accepted, and the world is sound again.
use Rattle.std.specs.Prelude.{◌≡◌, ◌++◌, ◌+◌, ◌<◌, ◌^◌, ℕ, List, [], length, refl}
use Rattle.std.specs.Map.{keys_of}
use Rattle.std.proofs.Common.{sym, ap, subst, ◌∙◌}
use Rattle.std.proofs.lemmas.List.{length-map}
use Rattle.chassis_sim.specs.Changing.{AllAreDeltas, IsApplied, IsProperChange}
use Rattle.chassis_sim.specs.State as sim
use Rattle.chassis_sim.specs.declared.change.SimChange.{SimChange}
use Rattle.edit_reader.specs.Fitting.{IsEventInGrammar}
use Rattle.event_lines.specs.Lines.{accepted_lines}
use Rattle.net_model.specs.State.{State, event_count, finished, settled_where_none_waits}
use Rattle.ovn_base.specs.lists.Once.{EachOnce}
use Rattle.switch_engine.specs.declared.effect.NetEffect.{NetEffect}
use Rattle.switch_engine.specs.declared.walk.Walk.{Walk}
use Rattle.tuple_space.specs.declared.space.TupleSpace.{TupleSpace}
use Rattle.tunnel_keys.specs.Keys.{Keys, settled}
use Rattle.world_setup.specs.TurnEvents.{event_of_turn}
use Rattle.world_setup.specs.Ground.{GroundView, ground_after, ground_of}
use Rattle.world_core.specs.Inside.{seen_of}
use Rattle.world_core.specs.Outcome.{IsAccepted}
use Rattle.world_setup.specs.Setup.{IsTurnOfTables, SetupView}
use Rattle.world_setup.specs.Turning.{IsTurn, IsTurned}
use Rattle.world_core.specs.Waiting.{crossing_of, crossings_of, frame_under}
use Rattle.world_setup.specs.declared.turn_event.TurnEvent.{TurnEvent}
use Rattle.world_setup.specs.declared.setup.Turn.{Turn}
use Rattle.world_core.specs.declared.world.World.TheInside.{Inside}
use Rattle.world_setup.proofs.HeldFlows.{flows_of}
use Rattle.address_sets.specs.Members.{sets_of}
use Rattle.conn_zones.specs.Zoning.{Zoned}
use Rattle.sim_laws.proofs.journey_laws.Finishing.{begins}
use Rattle.sim_laws.proofs.journey_laws.ListsSeen.{lists_are_seen}
use Rattle.sim_laws.specs.journeys.SeenLists.{lists_seen}
use Rattle.sim_laws.specs.journeys.TurnedZones.{turned_with}
use Rattle.world_setup.specs.Consistent.{IsConsistent}
use Rattle.world_core.specs.WorldView.{AreHeld, IsSound, WorldView}
use Rattle.world_core.proofs.DecidedFlows.{IsExactFlow}
use Rattle.world_setup.proofs.TurnEvents.{given_up, kept_on, same_settled}
use Rattle.world_core.proofs.EventKinds.{no_walks}
use Rattle.world_core.proofs.TurnedLists.{relisted}
use Rattle.world_core.proofs.Turned.{are_deltas, are_proper, held_then, tables_once}

-- a state that is counted is held as before
counted_held : (m : State) (zones : Zoned) (accepted : ℕ) (keys : Keys) (s : sim.SimState) → keys ≡ m.keys → AreHeld m zones s → AreHeld (record m { accepted = accepted; keys = keys }) zones s
counted_held m zones accepted keys s same h = subst (λ k. AreHeld (record m { accepted = accepted; keys = k }) zones s) (sym same) (record {
  bindings = h.bindings;
  names = record { datapaths = h.names.datapaths; ports = h.names.ports };
  held = h.held;
  members = h.members;
  tables = h.tables;
  zoned = h.zoned;
  zones = h.zones;
  waiting = h.waiting;
  next = h.next;
})

module _ (old : WorldView) (event : TurnEvent) (sound : IsSound old) (effects : List NetEffect) (change : SimChange TupleSpace)
    (after : GroundView) (exact : IsExactFlow) (turned : IsTurned old.state old.zones (event_of_turn event) effects change after) (tables : IsTurnOfTables (ground_of old.state old.zones) after change) where
  abbrev m : State
  m = old.state

  abbrev mid : State
  mid = turned_with turned.turn turned.keys m

  abbrev end : State
  end = finished mid

  -- no key is retired
  keys_are : end.keys ≡ turned.keys
  keys_are = same_settled m.waiting turned.keys turned.unretired

  -- what is to be prepared, and to be applied
  pub each_once : EachOnce (keys_of change.tables)
  each_once = tables_once m old.zones (event_of_turn event) effects change after sound.consistent exact turned tables

  pub may_prepare : AllAreDeltas old.sim.chassis change.tables
  may_prepare = are_deltas m old.zones (event_of_turn event) effects change after sound.consistent exact turned tables old.sim sound.held

  pub may_apply : IsProperChange flows_of change
  may_apply = are_proper m old.zones (event_of_turn event) effects change after sound.consistent exact turned tables

  -- it is applied
  module _ (s : sim.SimState) (made : IsApplied flows_of old.sim change s) where
    held : AreHeld end after.zones s
    held = counted_held mid after.zones (mid.accepted + 1) end.keys s keys_are (held_then m old.zones (event_of_turn event) effects change after sound.consistent exact turned tables old.sim s sound.held made)

    lists_are : lists_seen after.zones s.zones ≡ mid.lists
    lists_are = sym (lists_are_seen end after.zones (sets_of end.config.net) 0 s (begins end after.zones turned.consistent.at_rest) held)

    -- the world then
    abbrev pub then' : WorldView
    then' = record {
      state = record m { config = after.config; keys = settled_where_none_waits m.waiting after.keys; lists = lists_seen after.zones s.zones; next = s.next; accepted = m.accepted + 1 };
      zones = after.zones;
      sim = s;
      walks = [];
      whole = old.whole;
    }

    -- the world with these parts is that one
    pub ended : (ground : GroundView) (walks : List Walk) → ground ≡ record after { keys = settled_where_none_waits m.waiting after.keys } → walks ≡ []
        → record { state = record m { config = ground.config; keys = ground.keys; lists = lists_seen ground.zones s.zones; next = s.next; accepted = m.accepted + 1 }; zones = ground.zones; sim = s; walks = walks; whole = old.whole } ≡ then'
    ended ground walks is none =
        λ i. record { state = record m { config = (is i).config; keys = (is i).keys; lists = lists_seen (is i).zones s.zones; next = s.next; accepted = m.accepted + 1 }; zones = (is i).zones; sim = s; walks = none i; whole = old.whole }

    state_is : then'.state ≡ end
    state_is =
        let g : after ≡ ground_of mid after.zones = sym turned.ground in
        let n : s.next ≡ m.next = made.next ∙ sound.held.next in
        λ i. record m { config = (g i).config; keys = settled_where_none_waits m.waiting (g i).keys; lists = lists_are i; next = n i; accepted = m.accepted + 1 }

    pub sound_then : IsSound then'
    sound_then = record {
      whole = sound.whole;
      consistent = subst (λ (w : State). IsConsistent w after.zones) (sym state_is) turned.consistent;
      held = subst (λ (w : State). AreHeld w after.zones s) (sym state_is) held;
    }

    pub accepted_then : (before text : List ℕ) → text ≡ before ++ accepted_lines (event_count m + 1) effects 0 → IsAccepted old (event_of_turn event) before text then'
    accepted_then before text is = record {
      admitted = turned.allowed;
      effects = effects;
      step = record { mid = mid; does = turned.does; state = state_is };
      passed = no_walks m.clock old.sim event (record { effects = effects; walks = [] }) s refl;
      zones = turned.zones;
      lists = λ none. relisted m old.zones change after tables old.sim s sound.held made event m.clock after.zones turned.emptied;
      text = is;
    }

-- ---- as the world is kept

module _ (w : Inside) (now : WorldView) (view : seen_of w ≡ now) (event : TurnEvent) (sound : IsSound now) (room : event_count now.state < 2 ^ 42) (grammar : IsEventInGrammar (event_of_turn event))
    (setup : SetupView) (turn : Turn) (prepared : IsTurn w.setup.ground setup (event_count (seen_of w).state + 1) (event_of_turn event) turn) (exact : IsExactFlow) where
  abbrev before : WorldView
  before = seen_of w

  abbrev ground_then : GroundView
  ground_then = ground_after turn.patch.change w.setup.ground

  sound_before : IsSound before
  sound_before = subst (λ v. IsSound v) (sym view) sound

  turned_then : IsTurned before.state before.zones (event_of_turn event) turn.effects turn.sim ground_then
  turned_then = prepared.turned before.state (record {
    ground = refl;
    number = refl;
    consistent = sound_before.consistent;
    few = subst (λ (v : WorldView). event_count v.state < 2 ^ 42) (sym view) room;
    in_grammar = grammar;
  })

  pub tables_once_each : EachOnce (keys_of turn.sim.tables)
  tables_once_each = each_once before event sound_before turn.effects turn.sim ground_then exact turned_then prepared.tables

  pub deltas_of_held : AllAreDeltas w.sim.state.chassis turn.sim.tables
  deltas_of_held = may_prepare before event sound_before turn.effects turn.sim ground_then exact turned_then prepared.tables

  pub proper_change : IsProperChange flows_of turn.sim
  proper_change = may_apply before event sound_before turn.effects turn.sim ground_then exact turned_then prepared.tables

  -- so many frames wait as have names
  as_many : length before.state.waiting ≡ length w.crossings.entries
  as_many = length-map w.crossings.entries (λ e. (e.0, crossing_of e.1 (frame_under w.sim.state.waiting e.0)))

  -- what the ground is then, where frames wait, and where none does
  module _ (kept applied : GroundView) (kept_is : kept ≡ w.setup.ground) (applied_is : applied ≡ ground_after turn.patch.change kept) where
    applied_then : applied ≡ ground_then
    applied_then = applied_is ∙ ap (λ g. ground_after turn.patch.change g) kept_is

    pub ground_waits : ¬ (length w.crossings.entries ≡ 0) → applied ≡ record ground_then { keys = settled_where_none_waits before.state.waiting ground_then.keys }
    ground_waits some = applied_then ∙ ap (λ (keys : Keys). record ground_then { keys = keys }) (kept_on before.state.waiting ground_then.keys (λ none. some (sym as_many ∙ none)))

    pub ground_settles : (done : GroundView) → done ≡ record applied { keys = settled applied.keys } → length w.crossings.entries ≡ 0 → done ≡ record ground_then { keys = settled_where_none_waits before.state.waiting ground_then.keys }
    ground_settles done is none = is ∙ ap (λ (g : GroundView). record g { keys = settled g.keys }) applied_then ∙ ap (λ (keys : Keys). record ground_then { keys = keys }) (given_up before.state.waiting ground_then.keys (as_many ∙ none))

  -- the turn is applied
  module _ (between s : sim.SimState) (kept : between ≡ w.sim.state) (applied : IsApplied flows_of between turn.sim s)
      (ground : GroundView) (ground_is : ground ≡ record ground_then { keys = settled_where_none_waits before.state.waiting ground_then.keys }) (walks : List Walk) (none : walks ≡ []) where
    made : IsApplied flows_of w.sim.state turn.sim s
    made = subst (λ (h : sim.SimState). IsApplied flows_of h turn.sim s) kept applied

    abbrev end_world : WorldView
    end_world = record {
      state = record before.state { config = ground.config; keys = ground.keys; lists = lists_seen ground.zones s.zones; waiting = crossings_of w.crossings.entries s.waiting; next = s.next; accepted = before.state.accepted + 1 };
      zones = ground.zones;
      sim = s;
      walks = walks;
      whole = before.whole;
    }

    is_end : end_world ≡ then' before event sound_before turn.effects turn.sim ground_then exact turned_then prepared.tables s made
    is_end =
        (λ i. record end_world { state = record end_world.state { waiting = crossings_of w.crossings.entries (made.waiting i) } })
        ∙ ended before event sound_before turn.effects turn.sim ground_then exact turned_then prepared.tables s made ground walks ground_is none

    pub sound_end : IsSound end_world
    sound_end = subst (λ v. IsSound v) (sym is_end) (sound_then before event sound_before turn.effects turn.sim ground_then exact turned_then prepared.tables s made)

    pub accepted_end : (text more : List ℕ) → more ≡ text ++ accepted_lines (event_count before.state + 1) turn.effects 0 → IsAccepted now (event_of_turn event) text more end_world
    accepted_end text more is =
        subst (λ v. IsAccepted v (event_of_turn event) text more end_world) view (subst (λ v. IsAccepted before (event_of_turn event) text more v) (sym is_end)
        (accepted_then before event sound_before turn.effects turn.sim ground_then exact turned_then prepared.tables s made text more is))

-- the world as it is kept, with this ground and these chassis
abbrev pub seen_with : Inside → GroundView → sim.SimState → WorldView
seen_with w ground s = record {
  state = record (seen_of w).state { config = ground.config; keys = ground.keys; lists = lists_seen ground.zones s.zones; waiting = crossings_of w.crossings.entries s.waiting; next = s.next };
  zones = ground.zones;
  sim = s;
  walks = w.walks;
  whole = w.whole;
}
