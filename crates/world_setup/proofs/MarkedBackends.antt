-- A backend that is marked: what that does to the state, and that the state stays consistent.
use Rattle.std.specs.Prelude.{◌≡◌, ◌≤◌, ◌<◌, ◌+◌, ◌^◌, ℕ, Bool, true, false, List, [], ◌∷◌, Option, None, Some, map, not, option_map, refl}
use Rattle.std.specs.Map.{keys_of}
use Rattle.std.proofs.Common.{arith, sym, ap, subst, ◌∙◌, inl, inr}
use Rattle.std.proofs.lemmas.Option.{none-some}
use Rattle.chassis_sim.specs.Changing.{given_name}
use Rattle.chassis_sim.specs.Settings.{AreSet, set_in_turn}
use Rattle.chassis_sim.specs.State.{same_pair}
use Rattle.chassis_sim.specs.declared.change.SimChange.{SimChange}
use Rattle.conn_table.specs.Connections.{ConnectionList}
use Rattle.conn_zones.specs.Zoning.{KnownHomes, Zoned, number_on}
use Rattle.conn_zones.specs.declared.numbers.ZoneUse.TheVariants as zone
use Rattle.edit_reader.specs.Fitting.{IsEventInGrammar}
use Rattle.edit_reader.specs.declared.event.Event.TheVariants as event_of
use Rattle.event_lines.specs.declared.refusal.Refusal.TheVariants as why
use Rattle.event_lines.specs.declared.refusal.StepFault.{StepFault}
use Rattle.event_lines.specs.declared.refusal.StepFault.TheVariants.{Refused, Memory}
use Rattle.nb_edits.proofs.EditSoundness.{edit_sound}
use Rattle.nb_edits.proofs.HealthLaws.{health_fine}
use Rattle.nb_edits.proofs.RecordLaws.{same_birth}
use Rattle.nb_edits.specs.EditLeaves as edits
use Rattle.nb_edits.specs.OpFaults.{fault_of}
use Rattle.nb_edits.specs.Plans.{IsPlanBetween}
use Rattle.nb_edits.specs.declared.plan.EditPlan.{EditPlan}
use Rattle.nb_records.specs.Editing.{lists_backend}
use Rattle.nb_records.specs.Network.{Network, birth_of, marked, record_at}
use Rattle.nb_records.specs.declared.balancer.OfflineMark.{OfflineMark}
use Rattle.nb_records.specs.declared.change.Op.{Op}
use Rattle.nb_records.specs.declared.change.Op.TheVariants as op
use Rattle.nb_records.specs.declared.kinds.Kind.{Kind}
use Rattle.nb_records.specs.declared.record.Record.{Record}
use Rattle.nb_rules.specs.Valid.{IsValid}
use Rattle.nb_rules.specs.declared.fault.SchemaFault.{SchemaFault}
use Rattle.net_model.proofs.ListLaws.{turned_keep}
use Rattle.net_model.specs.ListOwners.{homed_routers, none_emptied}
use Rattle.net_model.specs.State.{State, event_count, finished}
use Rattle.net_model.specs.Trail.{of_port, dnat_of, snat_of}
use Rattle.net_model.specs.Transition.{Turn, turned_by}
use Rattle.ovn_base.proofs.AmongLaws.{among_map, among_none}
use Rattle.ovn_base.proofs.ByNameLaws.{at_among}
use Rattle.ovn_base.specs.declared.address.Backend.{Backend}
use Rattle.ovn_base.specs.declared.address.Birth.{Birth}
use Rattle.ovn_base.specs.declared.name.Name.{Name}
use Rattle.ovn_base.specs.lists.Among.{Among}
use Rattle.ovn_base.specs.names.ByName.{at}
use Rattle.ovn_base.specs.names.SameName.{same_name}
use Rattle.physical_flows.proofs.FlowSearch.{is_some_of}
use Rattle.physical_flows.specs.Bindings.{AreBound, router_homes}
use Rattle.sim_laws.proofs.journey_laws.Finishing.{begins}
use Rattle.sim_laws.proofs.turn_laws.RouterZones.{has_lists, home_then, home_there, list_of_owner, lists_after, lists_before, router_lists, router_owner, routers_sorted}
use Rattle.sim_laws.proofs.turn_laws.TurnedLists.{list_kept, owned, turned_at_home}
use Rattle.sim_laws.specs.journeys.InState.{zones_on}
use Rattle.sim_laws.specs.journeys.TurnedZones.{IsTurnOfZones, KeepsZone}
use Rattle.sim_laws.specs.journeys.UnderWay.{IsUnderWay}
use Rattle.switch_engine.specs.declared.effect.NetEffect.{NetEffect}
use Rattle.tuple_space.specs.declared.space.TupleSpace.{TupleSpace}
use Rattle.world_setup.specs.Consistent.{IsConsistent}
use Rattle.world_setup.specs.Ground.{GroundView, ground_after, ground_of, mark_change}
use Rattle.world_setup.specs.Refusing.{cause_of_mark, refusal}
use Rattle.world_setup.specs.Turning.{AreMarkedAlone, IsPlannedMark, IsTurned, MayTurn, Tells}
use Rattle.world_setup.proofs.BuiltTables.{keyed}
use Rattle.world_setup.proofs.FreedKeys.{clock_still, counted, finished_consistent}
use Rattle.world_setup.proofs.MarkedRows.{still_have, with_marks}
use Rattle.world_setup.proofs.Names.{names_once}
use Rattle.world_setup.proofs.Refusals.{neither, no_cause}
use Rattle.world_setup.proofs.TurnEvents.{none_settled, still_named}
use Rattle.world_setup.proofs.TurnedUnits.{homes_bound}
use Rattle.world_setup.proofs.WaitingFrames.{AreKept, way_on}
use Rattle.tunnel_keys.proofs.Births.{born_later}

-- a mark changes the marks alone
pub marked_alone : (net : Network) (balancer : Name) (backend : Backend) (online : Bool) → AreMarkedAlone net (marked net balancer backend online)
marked_alone net balancer backend true = refl
marked_alone net balancer backend false = refl

-- ---- the records that it leaves

-- the operation
abbrev pub mark_of : Name → Backend → Bool → List Op
mark_of balancer backend online = op.Health balancer backend online ∷ []

-- it has no fault, so that it is planned where there is memory
pub memory_alone : (net : Network) (balancer : Name) (backend : Backend) (online : Bool) (n : ℕ) → IsValid net → (fault : StepFault) → Tells fault (option_map (λ f. why.Schema f) (fault_of net (mark_of balancer backend online) n)) → fault ≡ Memory
memory_alone net balancer backend online n valid (Refused cause) told =
    absurd (none-some cause (sym (ap (λ (o : Option SchemaFault). option_map (λ f. why.Schema f) o) (health_fine net balancer backend online n valid)) ∙ told))
memory_alone net balancer backend online n valid Memory told = refl

-- records that come with the next event are valid, their marks are of listed backends, and none is younger than the event
pub record MayCome (m : State) (next : Network) : Type 0 where
  pub valid : IsValid next
  pub marks : edits.AreListed next
  pub born : (k : Kind) (q : Name) (r : Record) → record_at next k q ≡ Some r → (birth_of r).0 ≤ event_count m + 1

listed_mark : (net : Network) (balancer : Name) (backend : Backend) (online : Bool) → lists_backend backend (at net.load_balancers balancer) ≡ true → edits.MarksListed net (op.Health balancer backend online)
listed_mark net balancer backend true listed = tt
listed_mark net balancer backend false listed = listed

not_not : (b : Bool) → not b ≡ false → b ≡ true
not_not true h = refl
not_not false h = cc

-- a backend is marked that a vip of its balancer lists
pub listed_where_allowed : (net : Network) (balancer : Name) (backend : Backend) → cause_of_mark net balancer backend ≡ None → lists_backend backend (at net.load_balancers balancer) ≡ true
listed_where_allowed net balancer backend allowed =
    not_not (lists_backend backend (at net.load_balancers balancer))
    (no_cause (not (lists_backend backend (at net.load_balancers balancer))) (why.NoSuchBackend backend) (neither _ _ allowed).1)

module _ (m : State) (zones : Zoned) (old : IsConsistent m zones) (balancer : Name) (backend : Backend) (online : Bool) (grammar : IsEventInGrammar (event_of.Health balancer backend online)) where
  mark_sound : edits.LeavesSoundRecords m.config.net (mark_of balancer backend online) (event_count m + 1)
  mark_sound =
      edit_sound m.config.net (mark_of balancer backend online) (event_count m + 1) old.at_rest.valid (grammar, tt)
      (health_fine m.config.net balancer backend online (event_count m + 1) old.at_rest.valid)

  pub mark_may_come : cause_of_mark m.config.net balancer backend ≡ None → MayCome m (marked m.config.net balancer backend online)
  mark_may_come allowed = record {
    valid = mark_sound.valid;
    marks = mark_sound.marks (listed_mark m.config.net balancer backend online (listed_where_allowed m.config.net balancer backend allowed), tt) old.marks;
    born = λ k q r is. elim (mark_sound.records k q r is) [
      | inl new ↦ omega (arith, new)
      | inr was ↦ let early = old.at_rest.born.records k q was.0 was.1 in let same = ap (λ (b : Birth). b.0) (same_birth r was.0 was.2) in omega (arith, early, same)
    ];
  }

-- ---- the state with them

module _ (m : State) (zones : Zoned) (old : IsConsistent m zones) (room : event_count m < 2 ^ 42) (marks : List OfflineMark) (come : MayCome m (with_marks m.config.net marks)) where
  abbrev turn : Turn
  turn = record { next = record m.config { net = with_marks m.config.net marks }; emptied = none_emptied }

  abbrev mid : State
  mid = turned_by turn m

  under : IsUnderWay m zones 0
  under = begins m zones old.at_rest

  bound_still : AreBound turn.next zones
  bound_still = record {
    bindings_sorted = old.at_rest.bound.bindings_sorted;
    port_there = old.at_rest.bound.port_there;
    chassis_there = old.at_rest.bound.chassis_there;
    chassis_sorted = old.at_rest.bound.chassis_sorted;
    few_chassis = old.at_rest.bound.few_chassis;
    homes = old.at_rest.bound.homes;
    zoned = old.at_rest.bound.zoned;
  }

  kept : AreKept m (counted mid)
  kept = record { hold = old.at_rest.keys.hold; datapaths = λ h among. among; ports = λ h among. among; switches = λ id early is. is; routers = λ id early none. none }

  consistent_then : IsConsistent (finished mid) zones
  consistent_then = finished_consistent mid zones (record {
    marks = come.marks;
    clock = clock_still m.clock m.accepted m.refused old.clock;
    lists = turned_keep turn m old.lists;
    at_rest = record {
      valid = come.valid;
      bound_virtual = old.at_rest.bound_virtual;
      at_home = turned_at_home m turn;
      keys = still_have m.config.net m.keys old.at_rest.keys marks;
      bound = bound_still;
      born = record {
        records = λ k q r is. let young = come.born k q r is in omega (arith, young);
        keys = born_later m.keys (event_count m) (event_count (counted mid)) (omega arith) old.at_rest.born.keys;
        none = λ h. absurd (omega (arith, h));
      };
      on_the_way = way_on m (counted mid) old.at_rest.born kept old.at_rest.on_the_way refl refl (omega arith) (λ h. omega arith);
      few = omega (arith, room);
    };
  })

  -- ---- who has a zone keeps it with its list

  port_keeps : (q c : Name) (n : ℕ) → number_on zones.numbers c (zone.Port q) ≡ Some n → KeepsZone m turn zones.numbers [] c (of_port q) n
  port_keeps q c n is =
      let home = (old.at_rest.bound.zoned.at_home c (zone.Port q)).1 (is_some_of (number_on zones.numbers c (zone.Port q)) n is) in
      let bound : at m.config.bindings q ≡ Some c = ap (λ (h : KnownHomes). at h.ports q) (sym old.at_rest.bound.homes) ∙ home in
      let among : Among q (keys_of m.config.bindings) = among_map (λ (e : Name × Name). e.0) (q, c) m.config.bindings (at_among m.config.bindings q c bound) in
      let own = owned m.lists.ports (keys_of m.config.bindings) old.at_rest.at_home.ports old.at_rest.bound.bindings_sorted q among in
      record {
        was = old.at_rest.bound.chassis_there q c bound;
        number = is;
        list = list_kept [] m.lists.ports (keys_of m.config.bindings) q own.0 among refl own.1 ∙ sym own.1;
        kept = among_none (c, n);
      }

  router_keeps : (dst : Bool) (r c : Name) (n : ℕ) → zones_on zones.numbers c (router_owner dst r) ≡ Some n → KeepsZone m turn zones.numbers [] c (router_owner dst r) n
  router_keeps dst r c n is =
      let home : at (router_homes m.config) r ≡ Some c = home_then m zones zones 0 turn under bound_still dst r c n is in
      let among : Among r (homed_routers m.config) = has_lists m.config r c home in
      let own = owned (router_lists dst m.lists) (homed_routers m.config) (lists_before dst m.config m.lists old.at_rest.at_home) (routers_sorted m zones zones 0 turn under bound_still) r among in
      record {
        was = home_there m.config r c home;
        number = is;
        list =
            list_of_owner dst mid.lists r ∙ ap (λ (l : List (Name × ConnectionList)). at l r) (lists_after dst m turn)
            ∙ list_kept [] (router_lists dst m.lists) (homed_routers m.config) r own.0 among refl own.1 ∙ sym own.1 ∙ sym (list_of_owner dst m.lists r);
        kept = among_none (c, n);
      }

  all_keep : IsTurnOfZones m turn zones.numbers zones.numbers []
  all_keep c then' (of_port q) n is = inl (port_keeps q c n is)
  all_keep c then' (dnat_of r) n is = inl (router_keeps true r c n is)
  all_keep c then' (snat_of r) n is = inl (router_keeps false r c n is)

  -- ---- the turn

  pub marks_turned : (balancer : Name) (backend : Backend) (online : Bool) → marked m.config.net balancer backend online ≡ with_marks m.config.net marks → refusal m (event_of.Health balancer backend online) ≡ None
      → (effects : List NetEffect) → effects ≡ [] → (change : SimChange TupleSpace) → change.bound ≡ [] → change.emptied ≡ [] → change.names ≡ []
      → IsTurned m zones (event_of.Health balancer backend online) effects change (record { config = record m.config { net = with_marks m.config.net marks }; keys = m.keys; zones = zones })
  marks_turned balancer backend online same allowed effects none change bound emptied names = record {
    allowed = allowed;
    turn = turn;
    keys = m.keys;
    does = (none, λ i. turned_by (record { next = record m.config { net = sym same i }; emptied = none_emptied }) m);
    ground = refl;
    consistent = consistent_then;
    unretired = none_settled m.keys old.at_rest.keys.no_retired_datapaths old.at_rest.keys.no_retired_ports;
    zones = refl;
    emptied = emptied;
    frames = refl;
    lists = subst (λ l. IsTurnOfZones m turn zones.numbers zones.numbers l) (sym emptied) all_keep;
    bindings = λ q. ap (λ l. set_in_turn same_name l q (at m.config.bindings q)) bound;
    names = λ before later called set. still_named m.keys before later (subst (λ l. AreSet same_pair (map given_name l) before.names later.names) names set) called;
  }

-- ---- in the terms in which the setup has it

module _ (g : GroundView) (n : ℕ) (balancer : Name) (backend : Backend) (online : Bool) (m : State) (may : MayTurn g n (event_of.Health balancer backend online) m) where
  net_same : m.config.net ≡ g.config.net
  net_same = ap (λ (x : GroundView). x.config.net) may.ground

  -- why it is refused
  pub mark_refusal : refusal m (event_of.Health balancer backend online) ≡ cause_of_mark g.config.net balancer backend
  mark_refusal = ap (λ (net : Network). cause_of_mark net balancer backend) net_same

  module _ (allowed : cause_of_mark g.config.net balancer backend ≡ None) (plan : EditPlan) (stands : IsPlanBetween g.config.net (marked g.config.net balancer backend online) plan) where
    abbrev marks : List OfflineMark
    marks = (marked m.config.net balancer backend online).offline

    come : MayCome m (with_marks m.config.net marks)
    come =
        subst (λ net. MayCome m net) (marked_alone m.config.net balancer backend online)
        (mark_may_come m g.zones may.consistent balancer backend online may.in_grammar (ap (λ (net : Network). cause_of_mark net balancer backend) net_same ∙ allowed))

    plan_is : plan.after ≡ with_marks m.config.net marks
    plan_is = stands.after ∙ ap (λ (net : Network). marked net balancer backend online) (sym net_same) ∙ marked_alone m.config.net balancer backend online

    mark_ground : ground_after (mark_change plan) (ground_of m g.zones) ≡ record { config = record m.config { net = with_marks m.config.net marks }; keys = m.keys; zones = g.zones }
    mark_ground = λ i. record { config = record m.config { net = plan_is i; bindings = homes_bound m g.zones may.consistent i }; keys = m.keys; zones = g.zones }

    -- it is planned
    pub mark_planned : (h : GroundView) → h ≡ g → IsPlannedMark h plan
    mark_planned h is = subst (λ x. IsPlannedMark x plan) (may.ground ∙ sym is) (record {
      keyed = keyed m.config.net m.keys may.consistent.at_rest.valid may.consistent.at_rest.keys;
      valid = subst IsValid (sym plan_is) come.valid;
      alone = subst (λ net. AreMarkedAlone m.config.net net) (sym plan_is) refl;
      once = names_once m.config.chassis may.consistent.at_rest.bound.chassis_sorted;
      homes = homes_bound m g.zones may.consistent;
    })

    pub mark_turns : (effects : List NetEffect) → effects ≡ [] → (change : SimChange TupleSpace) → change.bound ≡ [] → change.emptied ≡ [] → change.names ≡ []
        → IsTurned m g.zones (event_of.Health balancer backend online) effects change (ground_after (mark_change plan) g)
    mark_turns effects none change bound emptied names =
        subst (λ x. IsTurned m g.zones (event_of.Health balancer backend online) effects change (ground_after (mark_change plan) x)) may.ground
        (subst (λ x. IsTurned m g.zones (event_of.Health balancer backend online) effects change x) (sym mark_ground)
        (marks_turned m g.zones may.consistent may.few marks come balancer backend online (marked_alone m.config.net balancer backend online) (mark_refusal ∙ allowed) effects none change bound emptied names))
