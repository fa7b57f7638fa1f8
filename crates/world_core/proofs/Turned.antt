-- A turn that is prepared, as the laws of turns of the simulated chassis have it.
use Rattle.std.specs.Prelude.{◌≡◌, ◌⊎◌, List, [], ◌∷◌, Some, cond}
use Rattle.std.specs.Map.{keys_of}
use Rattle.std.proofs.lemmas.Bool.{cases_Bool}
use Rattle.std.proofs.lemmas.Option.{same_Some}
use Rattle.std.proofs.Common.{sym, ap, ◌∙◌, subst, inl, inr}
use Rattle.address_sets.specs.Members.{sets_of}
use Rattle.chassis_sim.specs.Changing.{AllAreDeltas, IsApplied, IsProperChange}
use Rattle.chassis_sim.specs.State as sim
use Rattle.chassis_sim.specs.State.{at_name}
use Rattle.chassis_sim.specs.declared.change.SimChange.{SimChange}
use Rattle.conn_zones.specs.Zoning.{Zoned}
use Rattle.edit_reader.specs.declared.event.Event.{Event}
use Rattle.flow_table.specs.declared.flow.Flow.{Flow}
use Rattle.net_model.specs.State.{State, finished}
use Rattle.net_model.specs.Transition as net
use Rattle.northd_core.proofs.LoweredRows.{sets_are}
use Rattle.northd_core.specs.Plans.{IsChange}
use Rattle.northd_core.specs.Lowering.{CanCompile, IsLoweredIn, Lowering}
use Rattle.ovn_base.proofs.AmongLaws.{all_among, among_cases, among_map, among_none}
use Rattle.ovn_base.specs.names.SameName.{same_name, bytes_decides}
use Rattle.nb_records.specs.Network.{Network}
use Rattle.physical_flows.proofs.ProperTables.{around_proper}
use Rattle.ovn_base.specs.declared.delta.Delta.{Delta}
use Rattle.ovn_base.specs.declared.name.Name.{Name}
use Rattle.ovn_base.specs.lists.Among.{Among}
use Rattle.ovn_base.specs.lists.Once.{EachOnce}
use Rattle.physical_flows.specs.RecordKeys.{HaveKeys}
use Rattle.physical_flows.specs.Switched.{IsKeyed}
use Rattle.row_laws.proofs.suited.RisingRows.{lowered_rows_proper}
use Rattle.sim_laws.proofs.journey_laws.Finishing.{begins}
use Rattle.sim_laws.proofs.journey_laws.Premises.{owners_live}
use Rattle.sim_laws.proofs.turn_laws.TurnedChassis.{turns, deltas}
use Rattle.sim_laws.specs.journeys.Tables.{ChassisFlow}
use Rattle.sim_laws.specs.journeys.TurnedTables as of_sim
use Rattle.sim_laws.specs.journeys.TurnedZones.{turned_with}
use Rattle.sim_laws.specs.journeys.Turning.{TellsTurn}
use Rattle.switch_engine.specs.Proper.{IsProper, IsProperFlow}
use Rattle.switch_engine.specs.declared.effect.NetEffect.{NetEffect}
use Rattle.tunnel_keys.specs.Keys.{Keys}
use Rattle.tuple_space.specs.declared.space.TupleSpace.{TupleSpace}
use Rattle.world_core.proofs.DecidedFlows.{IsExactFlow, decided_flow}
use Rattle.world_setup.proofs.HeldFlows.{flows_of}
use Rattle.world_setup.proofs.Names.{names_once}
use Rattle.world_setup.proofs.TurnEvents.{same_settled}
use Rattle.world_setup.specs.Ground.{GroundView, basis_in, ground_of}
use Rattle.world_setup.specs.Setup.{IsFlowOn, IsTurnOfTables, lowering_in}
use Rattle.world_setup.specs.Turning.{IsTurned}
use Rattle.world_setup.specs.Consistent.{IsConsistent}
use Rattle.world_core.specs.WorldView.{AreHeld}

-- what comes and goes is the difference, where it can be told which flows there are then
difference_of : (Before After : Flow → Type 0) (delta : Delta Flow) → ((f : Flow) → After f ⊎ (¬ After f)) → IsChange Before After delta → of_sim.IsFlowChange Before After delta
difference_of Before After delta decided change = record {
  come = change.come;
  go = λ f. (change.go f).0;
  rest = λ f before. elim (decided f) [ inl is ↦ inl is | inr out ↦ inr ((change.go f).1 (before, out)) ];
  come_once = change.come_once;
  go_once = change.go_once;
}

module _ (m : State) (zones later : Zoned) (turn : net.Turn) (keys : Keys) (change : SimChange TupleSpace) (now : IsConsistent m zones) (have : IsKeyed turn.next.net keys) (exact : IsExactFlow)
    (tables : IsTurnOfTables (ground_of m zones) (ground_of (turned_with turn keys m) later) change) where
  abbrev turned_state : State
  turned_state = turned_with turn keys m

  abbrev Before : Name → Flow → Type 0
  Before = ChassisFlow m zones.numbers (sets_of m.config.net)

  abbrev After : Name → Flow → Type 0
  After = ChassisFlow turned_state later.numbers (sets_of turn.next.net)

  each_once : EachOnce (keys_of change.tables)
  each_once = subst EachOnce (sym tables.tables) (names_once m.config.chassis now.at_rest.bound.chassis_sorted)

  told_there : (c : Name) → Among c (keys_of change.tables) → Among c m.config.chassis
  told_there c among = subst (λ names. Among c names) tables.tables among

  difference : (c : Name) → Among c m.config.chassis → of_sim.HasDelta (Before c) (After c) change.tables c
  difference c among =
      let has = tables.deltas c among in
      record { delta = has.delta; is = has.is; change = difference_of (Before c) (After c) has.delta (decided_flow (basis_in (ground_of turned_state later) c) have exact) has.change }

  pub tables_turn : of_sim.IsTurnOfTables flows_of m.config.chassis turn.next.chassis Before After change
  tables_turn = record {
    stay = λ c was is. difference c was;
    told = λ c among. let was = told_there c among in (was, tables.stay c was);
    told_once = each_once;
    go = λ c. (λ goes. absurd (among_none c (subst (λ names. Among c names) tables.removed goes)), λ gone. absurd (gone.1 (tables.stay c gone.0)));
    come = tables.chassis;
    added = tables.added;
  }

-- ---- the flows that come

lowered_proper : (l : Lowering) → CanCompile l → (f : Flow) → IsLoweredIn l f → IsProperFlow f
lowered_proper l can f is = lowered_rows_proper l.net l.keys (sets_of l.net) can.valid can.hold f is

-- an entry whose name no other has is found by it
found_once : {X : Type 0} (es : List (Name × X)) (e : Name × X) → EachOnce (keys_of es) → Among e es → at_name es e.0 ≡ Some e.1
found_once [] e once among = absurd (among_none e among)
found_once {X} (d ∷ es) e once among = elim (among_cases e d es among) [
  | inl is ↦ ap (λ b. cond b (Some d.1) (at_name es e.0)) ((bytes_decides e.0 d.0).1 (ap (λ (x : Name × X). x.0) is)) ∙ ap (λ (x : Name × X). Some x.1) (sym is)
  | inr later ↦ elim (cases_Bool (same_name e.0 d.0)) [
    | inl same ↦ absurd (once.0 (subst (λ n. Among n (keys_of es)) ((bytes_decides e.0 d.0).0 same) (among_map (λ (x : Name × X). x.0) e es later)))
    | inr other ↦ ap (λ b. cond b (Some d.1) (at_name es e.0)) other ∙ found_once es e once.1 later
  ]
]

-- the records of a consistent state can be compiled
compiled_then : (mid : State) (zones : Zoned) → IsConsistent (finished mid) zones → (keys : Keys) → HaveKeys mid.config.net keys → CanCompile (record { net = mid.config.net; keys = keys })
compiled_then mid zones consistent keys have = record {
  valid = consistent.at_rest.valid;
  hold = have.hold;
  live = owners_live mid.config.net keys consistent.at_rest.valid have;
}

-- ---- as it is prepared

module _ (m : State) (zones : Zoned) (event : Event) (effects : List NetEffect) (change : SimChange TupleSpace) (after : GroundView) (now : IsConsistent m zones) (exact : IsExactFlow)
    (turned : IsTurned m zones event effects change after) (tables : IsTurnOfTables (ground_of m zones) after change) where
  abbrev mid : State
  mid = turned_with turned.turn turned.keys m

  have_then : HaveKeys turned.turn.next.net turned.keys
  have_then = subst (λ keys. HaveKeys turned.turn.next.net keys) (same_settled mid.waiting turned.keys turned.unretired) turned.consistent.at_rest.keys

  tables_then : IsTurnOfTables (ground_of m zones) (ground_of mid after.zones) change
  tables_then = subst (λ g. IsTurnOfTables (ground_of m zones) g change) (sym turned.ground) tables

  pub is_change : TellsTurn flows_of m turned.turn turned.keys zones.numbers after.zones.numbers (sets_of m.config.net) (sets_of turned.turn.next.net) change
  is_change = record {
    bindings = turned.bindings;
    names = turned.names;
    frames = turned.frames;
    members = sets_are turned.turn.next.net;
    tables = tables_turn m zones after.zones turned.turn turned.keys change now (record { valid = turned.consistent.at_rest.valid; keyed = have_then }) exact tables_then;
    zones = turned.lists;
  }

  -- no chassis has two deltas
  pub tables_once : EachOnce (keys_of change.tables)
  tables_once = is_change.tables.told_once

  pub are_deltas : (s : sim.SimState) → AreHeld m zones s → AllAreDeltas s.chassis change.tables
  are_deltas s held = deltas flows_of m zones.numbers after.zones.numbers (sets_of m.config.net) (sets_of turned.turn.next.net) turned.turn turned.keys change s held is_change

  -- what comes is proper
  flow_proper : (c : Name) (f : Flow) → IsFlowOn (ground_of mid after.zones) c f → IsProperFlow f
  flow_proper c f (inl lowered) = lowered_proper (lowering_in (ground_of mid after.zones)) (compiled_then mid after.zones turned.consistent turned.keys have_then) f lowered
  flow_proper c f (inr around) = around_proper mid after.zones c have_then turned.consistent.at_rest.bound.zoned f around

  comes_proper : (t : Name × Delta Flow) → Among t change.tables → IsProper t.1.added
  comes_proper t among f added =
      let was : Among t.0 m.config.chassis = (is_change.tables.told t.0 (among_map (λ (e : Name × Delta Flow). e.0) t change.tables among)).0 in
      let has = tables_then.deltas t.0 was in
      let same : has.delta ≡ t.1 = same_Some has.delta t.1 (sym has.is ∙ found_once change.tables t tables_once among) in
      flow_proper t.0 f ((has.change.come f).0 (subst (λ (d : Delta Flow). Among f d.added) (sym same) added)).1

  pub are_proper : IsProperChange flows_of change
  are_proper = record {
    deltas = all_among (λ t. IsProper t.1.added) change.tables comes_proper;
    chassis = all_among (λ a. IsProper (flows_of a.1)) change.added (λ a among f m. flow_proper a.0 f (((tables_then.added a among).2.same f).0 m));
  }

  pub held_then : (s new : sim.SimState) → AreHeld m zones s → IsApplied flows_of s change new → AreHeld mid after.zones new
  held_then s new held made =
      turns flows_of exact m zones after.zones (sets_of m.config.net) (sets_of turned.turn.next.net) 0 turned.turn turned.keys change s new (begins m zones now.at_rest) turned.consistent.at_rest.bound held is_change made
