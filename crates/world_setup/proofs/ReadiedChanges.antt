-- What turns make of the ground may be prepared: for each kind of event, in the terms in which the setup has it.
use Rattle.std.specs.Prelude.{◌≡◌, ◌<◌, ◌↔◌, ◌⊎◌, ◌+◌, ◌^◌, ℕ, List, [], ◌∷◌, Option, Some, None, IsSome, length, map, nat_le, option_map, false, true, refl}
use Rattle.std.specs.BTreeSet.{insert_key}
use Rattle.std.specs.Cmp.Lexicographic.{slice_cmp}
use Rattle.std.specs.Map.{keys_of}
use Rattle.std.specs.Ordering.{nat_cmp}
use Rattle.std.proofs.Common.{sym, ap, subst, ◌∙◌}
use Rattle.std.proofs.lemmas.Bool.{false≢true}
use Rattle.chassis_sim.specs.declared.change.SimChange.{SimChange}
use Rattle.conn_zones.specs.Rezoning.{IsHomeChange, IsRezoned}
use Rattle.edit_reader.specs.declared.event.Event.TheVariants as event_of
use Rattle.edit_reader.specs.Fitting.{IsEventInGrammar}
use Rattle.nb_edits.specs.declared.plan.EditPlan.{EditPlan}
use Rattle.nb_records.specs.Editing.{accepted}
use Rattle.nb_records.specs.Network.{Network}
use Rattle.nb_records.specs.declared.change.Op.{Op}
use Rattle.net_model.specs.Owners.{owners_only_in}
use Rattle.net_model.specs.Config.{Config, is_chassis}
use Rattle.net_model.specs.State.{State, event_count}
use Rattle.ovn_base.specs.declared.name.Name.{Name}
use Rattle.ovn_base.specs.lists.Among.{Among}
use Rattle.ovn_base.specs.lists.Once.{EachOnce}
use Rattle.ovn_base.specs.names.ByName.{at, put}
use Rattle.ovn_base.specs.names.SameName.{bytes_decides, same_name}
use Rattle.ovn_base.proofs.AmongLaws.{among_any}
use Rattle.ovn_base.proofs.ByNameLaws.{put_there}
use Rattle.physical_flows.specs.Touching.{HasLeading}
use Rattle.physical_flows.specs.Units.{ChangeOnly}
use Rattle.physical_flows.specs.declared.unit.FlowUnit.{FlowUnit}
use Rattle.switch_engine.specs.declared.effect.NetEffect.{NetEffect}
use Rattle.tunnel_keys.specs.Keys.{Keys}
use Rattle.tuple_space.specs.declared.space.TupleSpace.{TupleSpace}
use Rattle.world_setup.specs.Ground.{GroundView, ground_after, ground_of, IsChangeOf}
use Rattle.world_setup.specs.Editing.{next_net}
use Rattle.world_setup.specs.KeyLines.{key_effects, key_name}
use Rattle.world_setup.specs.Refusing.{is_virtual_port, refusal}
use Rattle.world_setup.specs.Setup.{AreTouched, HasDelta, IsTurnOfTables, lowering_in, rows_on, units_of}
use Rattle.world_setup.specs.Homecoming.{homes_by}
use Rattle.world_setup.specs.Touched.{leading_units, touched_by}
use Rattle.world_setup.specs.Turning.{IsPlannedEdit, IsTurned, LacksFor, MayTurn, Tells, fault_of_keys}
use Rattle.sim_laws.specs.journeys.TurnedZones.{coming_home, routers_coming, zones_begun}
use Rattle.world_setup.specs.Zones.{home_change}
use Rattle.world_setup.specs.declared.ground.GroundChange.{GroundChange}
use Rattle.world_setup.specs.Consistent.{IsConsistent}
use Rattle.conn_zones.specs.Zoning.{KnownHomes, Zoned, number_on}
use Rattle.conn_zones.specs.declared.numbers.ZoneUse.TheVariants.{Port}
use Rattle.northd_core.specs.Lowering.{CanCompile}
use Rattle.physical_flows.specs.Switched.{IsKeyed}
use Rattle.world_setup.proofs.BuiltTables.{can_compile, few_ports, few_routers, keyed}
use Rattle.event_lines.specs.declared.refusal.Refusal.TheVariants as why
use Rattle.event_lines.specs.declared.refusal.StepFault.{StepFault}
use Rattle.event_lines.specs.declared.refusal.StepFault.TheVariants.{Refused, Memory}
use Rattle.nb_edits.specs.OpFaults.{fault_of}
use Rattle.nb_edits.specs.Plans.{IsPlanBetween}
use Rattle.nb_rules.specs.declared.fault.SchemaFault.{SchemaFault}
use Rattle.std.proofs.lemmas.Option.{none-some}
use Rattle.tunnel_keys.specs.Causes.{IsCause}
use Rattle.tunnel_keys.specs.Edits.{IsKeyEdit}
use Rattle.tunnel_keys.specs.declared.fault.KeyFault.{KeyFault}
use Rattle.tunnel_keys.specs.declared.fault.KeyFault.TheVariants as key
use Rattle.world_setup.specs.Built.{is_built_edit}
use Rattle.world_setup.specs.KeyCauses.{datapath_keys, key_lack, port_keys}
use Rattle.world_setup.proofs.KeyLacks.{IsLack}
use Rattle.world_setup.proofs.RefusedTurns.{bind_allowed, bind_no_chassis, chassis_allowed, chassis_full, edit_faulty, edit_lacks}
use Rattle.world_setup.proofs.EditedStates.{after, edit_brings, edit_fits, edit_homes, edit_lack, edit_numbers, edit_turned, fits, have, same_beside, sound}
use Rattle.world_setup.proofs.SetupTurns.{units_once}
use Rattle.world_setup.proofs.PortHomes.{can_come, homes_after}
use Rattle.world_setup.proofs.Refusals.{chassis_new}
use Rattle.world_setup.proofs.Names.{names_once}
use Rattle.world_setup.proofs.TouchedRecords.{has_leading}
use Rattle.world_setup.proofs.TurnedHomes.{binding_turned, chassis_brings, chassis_homes, chassis_numbers, chassis_turned}
use Rattle.world_setup.proofs.TurnedUnits.{binding_units, chassis_units, edited_units}

-- tables can be made of the records and the keys
pub record AreTables (g : GroundView) : Type 0 where
  pub keyed : IsKeyed g.config.net g.keys
  pub compiled : CanCompile (lowering_in g)

tables_of_state : (m : State) (zones : Zoned) → IsConsistent m zones → AreTables (ground_of m zones)
tables_of_state m zones now = record {
  keyed = keyed m.config.net m.keys now.at_rest.valid now.at_rest.keys;
  compiled = can_compile m.config.net m.keys now.at_rest.valid now.at_rest.keys;
}

-- what `prepare` asks of a change of the ground, and of the units that it touches
pub record IsReadied (g : GroundView) (change : GroundChange) (touched : List FlowUnit) : Type 0 where
  pub fits : IsChangeOf g change
  pub once : EachOnce g.config.chassis
  pub tables : AreTables g
  pub tables_then : AreTables (ground_after change g)
  pub touched_alone : AreTouched g (ground_after change g) touched

-- the ground of these records, chassis, keys and zones
abbrev pub ground_with : Network → List Name → Keys → Zoned → GroundView
ground_with net names keys zones = record { config = record { net = net; chassis = names; bindings = zones.homes.ports }; keys = keys; zones = zones }

-- the tables' part of a turn says nothing of what is bound and named
pub tables_then : (h g : GroundView) → h ≡ g → (own change : GroundChange) → own ≡ change → (s t : SimChange TupleSpace) → t.added ≡ s.added → t.removed ≡ s.removed → t.tables ≡ s.tables
    → IsTurnOfTables h (ground_after change h) s → IsTurnOfTables g (ground_after own g) t
tables_then h g same own change is s t added removed tables turn =
    let all : IsTurnOfTables h (ground_after change h) t = record {
      removed = removed ∙ turn.removed;
      tables = ap (λ l. keys_of l) tables ∙ turn.tables;
      deltas = λ c among. subst (λ l. HasDelta h (ground_after change h) l c) (sym tables) (turn.deltas c among);
      chassis = λ c among. subst (λ l. Among c h.config.chassis ⊎ Among c (keys_of l)) (sym added) (turn.chassis c among);
      stay = turn.stay;
      added = λ e among. turn.added e (subst (λ l. Among e l) added among);
    } in
    subst (λ ch. IsTurnOfTables g (ground_after ch g) t) (sym is) (subst (λ x. IsTurnOfTables x (ground_after change x) t) same all)

-- the homes that come, in the terms in which the setup has records and chassis
module _ (g h : GroundView) (is : h ≡ g) (net other : Network) (same : other ≡ net) (names others : List Name) (equal : others ≡ names) where
  together : ◌≡◌ {A = GroundView × Network × List Name} (h, other, others) (g, net, names)
  together = λ i. (is i, same i, equal i)

  pub may_come_there : IsHomeChange g.zones.homes (coming_home g.zones.homes (homes_by g.zones.homes net names)) → IsHomeChange h.zones.homes (coming_home h.zones.homes (homes_by h.zones.homes other others))
  may_come_there may = subst (λ (t : GroundView × Network × List Name). IsHomeChange t.0.zones.homes (coming_home t.0.zones.homes (homes_by t.0.zones.homes t.1 t.2))) (sym together) may

  pub rezoned_there : (later : Zoned) → IsRezoned h.zones (coming_home h.zones.homes (homes_by h.zones.homes other others)) later → IsRezoned g.zones (coming_home g.zones.homes (homes_by g.zones.homes net names)) later
  rezoned_there later rezoned = subst (λ (t : GroundView × Network × List Name). IsRezoned t.0.zones (coming_home t.0.zones.homes (homes_by t.0.zones.homes t.1 t.2)) later) together rezoned

  pub begun_there : (later : Zoned) (emptied : List (Name × ℕ)) → emptied ≡ zones_begun later.numbers (routers_coming h.zones.homes (homes_by h.zones.homes other others))
      → emptied ≡ zones_begun later.numbers (routers_coming g.zones.homes (homes_by g.zones.homes net names))
  begun_there later emptied begun = begun ∙ ap (λ (t : GroundView × Network × List Name). zones_begun later.numbers (routers_coming t.0.zones.homes (homes_by t.0.zones.homes t.1 t.2))) together

-- ---- an edit

-- the change of the ground that an edit makes
abbrev pub edit_change : EditPlan → Keys → Zoned → GroundChange
edit_change plan keys later = record { records = Some plan; chassis = None; keys = Some keys; zones = Some later }

module _ (m : State) (zones : Zoned) (old : IsConsistent m zones) (room : event_count m < 2 ^ 42) (ops : List Op) (grammar : IsEventInGrammar (event_of.Edit ops)) (plan : EditPlan) (keys : Keys)
    (planned : IsPlannedEdit (ground_of m zones) (event_count m + 1) ops plan keys) (later : Zoned) (rezoned : IsRezoned zones (coming_home zones.homes (homes_by zones.homes (next_net m ops) m.config.chassis)) later) where
  abbrev next : Network
  next = next_net m ops

  edit_ground : ground_after (edit_change plan keys later) (ground_of m zones) ≡ record { config = record m.config { net = next }; keys = keys; zones = later }
  edit_ground = λ i. record { config = record m.config { net = planned.stands.after i; bindings = edit_homes m zones old room ops grammar plan keys planned later rezoned i }; keys = keys; zones = later }

  pub edit_tables_then : AreTables (ground_after (edit_change plan keys later) (ground_of m zones))
  edit_tables_then = subst (λ g. AreTables g) (sym edit_ground) (record {
    keyed = keyed next keys (sound m zones old room ops grammar plan keys planned).valid (have m zones old room ops grammar plan keys planned);
    compiled = can_compile next keys (sound m zones old room ops grammar plan keys planned).valid (have m zones old room ops grammar plan keys planned);
  })

  pub edit_is_readied : (units : List FlowUnit) → EachOnce units → ((u : FlowUnit) → Among u units ↔ Among u (touched_by m.config.net next ops)) → IsReadied (ground_of m zones) (edit_change plan keys later) units
  edit_is_readied units once are = record {
    fits = record {
      keys = record {
        added = owners_only_in next m.config.net;
        removed = owners_only_in m.config.net next;
        fits = fits m zones old room ops grammar plan keys planned;
        gives = (after m zones old room ops grammar plan keys planned).gives;
      };
      zones = record {
        change = coming_home zones.homes (homes_by zones.homes next m.config.chassis);
        fits = edit_brings m zones old room ops grammar plan keys planned;
        rezoned = rezoned;
      };
    };
    once = names_once m.config.chassis old.at_rest.bound.chassis_sorted;
    tables = tables_of_state m zones old;
    tables_then = edit_tables_then;
    touched_alone = record {
      once = once;
      only = λ d among. subst (λ g. ChangeOnly units (rows_on (ground_of m zones) d) (rows_on g d)) (sym edit_ground)
          (edited_units m zones old next keys later units (edit_numbers m zones old room ops grammar plan keys planned later rezoned) (sound m zones old room ops grammar plan keys planned).valid.in_order.switch_ports
          (same_beside m zones old room ops grammar plan keys planned units are) d);
    };
  }

  pub edit_is_turned : (effects : List NetEffect) → effects ≡ key_effects plan.added keys → (change : SimChange TupleSpace) → change.bound ≡ []
      → change.emptied ≡ zones_begun later.numbers (routers_coming zones.homes (homes_by zones.homes next m.config.chassis)) → change.names ≡ map (key_name keys) plan.added
      → IsTurned m zones (event_of.Edit ops) effects change (ground_after (edit_change plan keys later) (ground_of m zones))
  edit_is_turned effects named change bound emptied names =
      subst (λ g. IsTurned m zones (event_of.Edit ops) effects change g) (sym edit_ground) (edit_turned m zones old room ops grammar plan keys planned later rezoned effects named change bound emptied names)

-- why an edit is refused, in the terms in which the setup has it
module _ (g : GroundView) (n : ℕ) (ops : List Op) (m : State) (may : MayTurn g n (event_of.Edit ops) m) where
  -- the records that it leaves
  pub edit_leaves : accepted g.config.net ops n ≡ next_net m ops
  edit_leaves = λ i. accepted (sym may.ground i).config.net ops (may.number i)

  fault_same : fault_of m.config.net ops (event_count m + 1) ≡ fault_of g.config.net ops n
  fault_same = λ i. fault_of (may.ground i).config.net ops (sym may.number i)

  keys_same : m.keys ≡ g.keys
  keys_same = ap (λ (x : GroundView). x.keys) may.ground

  -- the owners that come and go by the plan
  come_same : (plan : EditPlan) → IsPlanBetween g.config.net (accepted g.config.net ops n) plan → owners_only_in (next_net m ops) m.config.net ≡ plan.added
  come_same plan stands = (λ i. owners_only_in (sym edit_leaves i) (may.ground i).config.net) ∙ sym stands.added

  go_same : (plan : EditPlan) → IsPlanBetween g.config.net (accepted g.config.net ops n) plan → owners_only_in m.config.net (next_net m ops) ≡ plan.removed
  go_same plan stands = (λ i. owners_only_in (may.ground i).config.net (sym edit_leaves i)) ∙ sym stands.removed

  pub edit_tells : (fault : StepFault) → is_built_edit ops ≡ true → Tells fault (option_map (λ f. why.Schema f) (fault_of g.config.net ops n)) → Tells fault (refusal m (event_of.Edit ops))
  edit_tells (Refused cause) built told = by (fault_of g.config.net ops n) refl told
    where
      by : (o : Option SchemaFault) → fault_of g.config.net ops n ≡ o → option_map (λ f. why.Schema f) o ≡ Some cause → refusal m (event_of.Edit ops) ≡ Some cause
      by None is h = absurd (none-some cause h)
      by (Some f) is h = edit_faulty m ops f built (fault_same ∙ is) ∙ h
  edit_tells Memory built told = tt

  pub keys_fit : (plan : EditPlan) → is_built_edit ops ≡ true → fault_of g.config.net ops n ≡ None → IsPlanBetween g.config.net (accepted g.config.net ops n) plan → (keys : Keys) → keys ≡ g.keys → IsKeyEdit keys plan.added plan.removed
  keys_fit plan built none stands keys is =
      subst (λ k. IsKeyEdit k plan.added plan.removed) (keys_same ∙ sym is)
      (subst (λ owners. IsKeyEdit m.keys owners plan.removed) (come_same plan stands)
      (subst (λ owners. IsKeyEdit m.keys (owners_only_in (next_net m ops) m.config.net) owners) (go_same plan stands)
      (edit_fits m g.zones may.consistent ops may.in_grammar built (fault_same ∙ none))))

  pub keys_tell : (plan : EditPlan) → is_built_edit ops ≡ true → fault_of g.config.net ops n ≡ None → IsPlanBetween g.config.net (accepted g.config.net ops n) plan → (keys : Keys) → keys ≡ g.keys → (fault : StepFault) → LacksFor keys plan.added plan.removed fault
      → Tells fault (refusal m (event_of.Edit ops))
  keys_tell plan built none stands keys is fault lacks = subst (λ f. Tells f (refusal m (event_of.Edit ops))) (sym lacks.fault_is) (by lacks.lack (edit_lack m g.zones may.consistent ops may.in_grammar built (fault_same ∙ none) lacks.lack cause))
    where
      cause : IsCause m.keys (owners_only_in (next_net m ops) m.config.net) (owners_only_in m.config.net (next_net m ops)) lacks.lack
      cause =
          subst (λ owners. IsCause m.keys owners (owners_only_in m.config.net (next_net m ops)) lacks.lack) (sym (come_same plan stands))
          (subst (λ owners. IsCause m.keys plan.added owners lacks.lack) (sym (go_same plan stands)) (subst (λ k. IsCause k plan.added plan.removed lacks.lack) (is ∙ sym keys_same) lacks.cause))

      by : (lack : KeyFault) → IsLack lack (key_lack m.keys m.config.net (next_net m ops)) → Tells (fault_of_keys lack) (refusal m (event_of.Edit ops))
      by key.NoDatapathKey lack = edit_lacks m ops datapath_keys built (fault_same ∙ none) lack
      by (key.NoPortKey d) lack = edit_lacks m ops (port_keys d) built (fault_same ∙ none) lack
      by key.Memory lack = tt

-- the same in the terms in which the setup has it
module _ (g : GroundView) (n : ℕ) (ops : List Op) (m : State) (may : MayTurn g n (event_of.Edit ops) m) (plan : EditPlan) (keys : Keys) (planned : IsPlannedEdit g n ops plan keys) where
  pub planned_here : IsPlannedEdit (ground_of m g.zones) (event_count m + 1) ops plan keys
  planned_here = subst (λ k. IsPlannedEdit (ground_of m g.zones) k ops plan keys) may.number (subst (λ x. IsPlannedEdit x n ops plan keys) (sym may.ground) planned)

  -- the rows can be lowered, before and after
  pub edit_compiled : CanCompile (record { net = g.config.net; keys = g.keys }) × CanCompile (record { net = plan.after; keys = keys })
  edit_compiled = (
    subst (λ (x : GroundView). CanCompile (record { net = x.config.net; keys = x.keys })) may.ground (tables_of_state m g.zones may.consistent).compiled,
    subst (λ net. CanCompile (record { net = net; keys = keys })) (sym (planned.stands.after ∙ edit_leaves g n ops m may)) (can_compile (next_net m ops) keys
        (sound m g.zones may.consistent may.few ops may.in_grammar plan keys planned_here).valid (have m g.zones may.consistent may.few ops may.in_grammar plan keys planned_here)),
  )

  -- the homes that follow from the plan are those by the records that the edit leaves
  homes_same : homes_by g.zones.homes plan.after g.config.chassis ≡ homes_by g.zones.homes (next_net m ops) m.config.chassis
  homes_same = λ i. homes_by g.zones.homes ((planned.stands.after ∙ edit_leaves g n ops m may) i) (sym may.ground i).config.chassis

  -- the gateway routers that it adds may come home
  pub edit_may_come : IsHomeChange g.zones.homes (coming_home g.zones.homes (homes_by g.zones.homes plan.after g.config.chassis))
  edit_may_come = subst (λ h. IsHomeChange g.zones.homes (coming_home g.zones.homes h)) (sym homes_same) (edit_brings m g.zones may.consistent may.few ops may.in_grammar plan keys planned_here)

  module _ (later : Zoned) (rezoned : IsRezoned g.zones (coming_home g.zones.homes (homes_by g.zones.homes plan.after g.config.chassis)) later) where
    rezoned_here : IsRezoned g.zones (coming_home g.zones.homes (homes_by g.zones.homes (next_net m ops) m.config.chassis)) later
    rezoned_here = subst (λ h. IsRezoned g.zones (coming_home g.zones.homes h) later) homes_same rezoned

    pub edit_readied : (h : GroundView) → h ≡ g → (units : List FlowUnit) → EachOnce units → ((u : FlowUnit) → Among u units ↔ Among u (touched_by g.config.net (accepted g.config.net ops n) ops)) → IsReadied h (edit_change plan keys later) units
    edit_readied h is units once are =
        subst (λ x. IsReadied x (edit_change plan keys later) units) (may.ground ∙ sym is)
        (edit_is_readied m g.zones may.consistent may.few ops may.in_grammar plan keys planned_here later rezoned_here units once
        (subst (λ net. (u : FlowUnit) → Among u units ↔ Among u (touched_by m.config.net net ops)) (edit_leaves g n ops m may)
        (subst (λ (x : GroundView). (u : FlowUnit) → Among u units ↔ Among u (touched_by x.config.net (accepted g.config.net ops n) ops)) (sym may.ground) are)))

    pub edit_turns : (effects : List NetEffect) → effects ≡ key_effects plan.added keys → (change : SimChange TupleSpace) → change.bound ≡ []
        → change.emptied ≡ zones_begun later.numbers (routers_coming g.zones.homes (homes_by g.zones.homes plan.after g.config.chassis)) → change.names ≡ map (key_name keys) plan.added
        → IsTurned m g.zones (event_of.Edit ops) effects change (ground_after (edit_change plan keys later) g)
    edit_turns effects named change bound emptied names =
        subst (λ x. IsTurned m g.zones (event_of.Edit ops) effects change (ground_after (edit_change plan keys later) x)) may.ground
        (edit_is_turned m g.zones may.consistent may.few ops may.in_grammar plan keys planned_here later rezoned_here effects named change bound
        (emptied ∙ ap (λ h. zones_begun later.numbers (routers_coming g.zones.homes h)) homes_same) names)

-- ---- a chassis comes

-- when it does, and why else it doesn't
module _ (g : GroundView) (n : ℕ) (c : Name) (m : State) (may : MayTurn g n (event_of.AddChassis c) m) (h : GroundView) (is : h ≡ g) where
  config_same : m.config ≡ h.config
  config_same = ap (λ (x : GroundView). x.config) (may.ground ∙ sym is)

  pub chassis_may_come : is_chassis h.config c ≡ false → nat_le 64 (length h.config.chassis) ≡ false → refusal m (event_of.AddChassis c) ≡ None
  chassis_may_come new few = chassis_allowed m c (ap (λ (x : Config). is_chassis x c) config_same ∙ new) (ap (λ (x : Config). nat_le 64 (length x.chassis)) config_same ∙ few)

  pub chassis_too_many : is_chassis h.config c ≡ false → nat_le 64 (length h.config.chassis) ≡ true → refusal m (event_of.AddChassis c) ≡ Some why.LimitChassis
  chassis_too_many new full = chassis_full m c (ap (λ (x : Config). is_chassis x c) config_same ∙ new) (ap (λ (x : Config). nat_le 64 (length x.chassis)) config_same ∙ full)

-- the change of the ground that it makes
abbrev pub chassis_change : List Name → Zoned → GroundChange
chassis_change names later = record { records = None; chassis = Some names; keys = None; zones = Some later }

module _ (g : GroundView) (n : ℕ) (c : Name) (m : State) (may : MayTurn g n (event_of.AddChassis c) m) where
  abbrev longer : List Name
  longer = insert_key (slice_cmp nat_cmp) m.config.chassis c

  -- it isn't there yet
  pub chassis_absent : refusal m (event_of.AddChassis c) ≡ None → ¬ Among c g.config.chassis
  chassis_absent allowed among =
      let there : Among c m.config.chassis = subst (λ (x : GroundView). Among c x.config.chassis) (sym may.ground) among in
      false≢true (sym (chassis_new m c allowed).0 ∙ among_any (λ d. same_name d c) c m.config.chassis there ((bytes_decides c c).1 refl))

  module _ (names : List Name) (are : names ≡ insert_key (slice_cmp nat_cmp) g.config.chassis c) where
    names_same : names ≡ longer
    names_same = are ∙ ap (λ (x : GroundView). insert_key (slice_cmp nat_cmp) x.config.chassis c) (sym may.ground)

    homes_same_then : homes_by g.zones.homes g.config.net names ≡ homes_by g.zones.homes m.config.net longer
    homes_same_then = λ i. homes_by g.zones.homes (sym may.ground i).config.net (names_same i)

    -- the gateway routers that wait for it may come home
    pub chassis_may_bring : IsHomeChange g.zones.homes (coming_home g.zones.homes (homes_by g.zones.homes g.config.net names))
    chassis_may_bring = subst (λ h. IsHomeChange g.zones.homes (coming_home g.zones.homes h)) (sym homes_same_then) (chassis_brings m g.zones may.consistent c)

    module _ (allowed : refusal m (event_of.AddChassis c) ≡ None) (later : Zoned) (rezoned : IsRezoned g.zones (coming_home g.zones.homes (homes_by g.zones.homes g.config.net names)) later) where
      rezoned_then : IsRezoned g.zones (coming_home g.zones.homes (homes_by g.zones.homes m.config.net longer)) later
      rezoned_then = subst (λ h. IsRezoned g.zones (coming_home g.zones.homes h) later) homes_same_then rezoned

      chassis_ground : ground_after (chassis_change names later) (ground_of m g.zones) ≡ record { config = record m.config { chassis = longer }; keys = m.keys; zones = later }
      chassis_ground = λ i. record { config = record m.config { chassis = names_same i; bindings = chassis_homes m g.zones may.consistent c later rezoned_then i }; keys = m.keys; zones = later }

      chassis_is_readied : (units : List FlowUnit) → EachOnce units → HasLeading units m.config.net → IsReadied (ground_of m g.zones) (chassis_change names later) units
      chassis_is_readied units once leading = record {
        fits = record {
          keys = tt;
          zones = record { change = coming_home g.zones.homes (homes_by g.zones.homes m.config.net longer); fits = chassis_brings m g.zones may.consistent c; rezoned = rezoned_then };
        };
        once = names_once m.config.chassis may.consistent.at_rest.bound.chassis_sorted;
        tables = tables_of_state m g.zones may.consistent;
        tables_then = record { keyed = (tables_of_state m g.zones may.consistent).keyed; compiled = (tables_of_state m g.zones may.consistent).compiled };
        touched_alone = record {
          once = once;
          only = λ d among. subst (λ x. ChangeOnly units (rows_on (ground_of m g.zones) d) (rows_on x d)) (sym chassis_ground)
              (chassis_units m g.zones may.consistent c later units (chassis_numbers m g.zones may.consistent c later rezoned_then)
              (λ there. chassis_absent allowed (subst (λ (x : GroundView). Among c x.config.chassis) may.ground there)) leading d);
        };
      }

      pub chassis_readied : (h : GroundView) → h ≡ g → (units : List FlowUnit) → EachOnce units → ((u : FlowUnit) → Among u units ↔ Among u (leading_units g.config.net g.config.net)) → IsReadied h (chassis_change names later) units
      chassis_readied h is units once all =
          subst (λ x. IsReadied x (chassis_change names later) units) (may.ground ∙ sym is)
          (chassis_is_readied units once (has_leading m.config.net may.consistent.at_rest.valid units
          (subst (λ (x : GroundView). (u : FlowUnit) → Among u units ↔ Among u (leading_units x.config.net x.config.net)) (sym may.ground) all)))

      pub chassis_turns : (effects : List NetEffect) → effects ≡ [] → (change : SimChange TupleSpace) → change.bound ≡ [] → change.names ≡ []
          → change.emptied ≡ zones_begun later.numbers (routers_coming g.zones.homes (homes_by g.zones.homes g.config.net names)) → IsTurned m g.zones (event_of.AddChassis c) effects change (ground_after (chassis_change names later) g)
      chassis_turns effects none change bound called emptied =
          subst (λ x. IsTurned m g.zones (event_of.AddChassis c) effects change (ground_after (chassis_change names later) x)) may.ground
          (subst (λ x. IsTurned m g.zones (event_of.AddChassis c) effects change x) (sym chassis_ground)
          (chassis_turned m g.zones may.consistent c later rezoned_then may.few allowed effects none change bound called
          (emptied ∙ ap (λ h. zones_begun later.numbers (routers_coming g.zones.homes h)) homes_same_then)))

-- ---- a port is bound

-- when it is, and why else it isn't
module _ (g : GroundView) (n : ℕ) (p c : Name) (m : State) (may : MayTurn g n (event_of.Bind p c) m) (h : GroundView) (is : h ≡ g) where
  bound_config : m.config ≡ h.config
  bound_config = ap (λ (x : GroundView). x.config) (may.ground ∙ sym is)

  pub port_may_be_bound : is_virtual_port (at h.config.net.switch_ports p) ≡ true → is_chassis h.config c ≡ true → refusal m (event_of.Bind p c) ≡ None
  port_may_be_bound port there = bind_allowed m p c (ap (λ (x : Config). is_virtual_port (at x.net.switch_ports p)) bound_config ∙ port) (ap (λ (x : Config). is_chassis x c) bound_config ∙ there)

  pub chassis_is_absent : is_virtual_port (at h.config.net.switch_ports p) ≡ true → is_chassis h.config c ≡ false → refusal m (event_of.Bind p c) ≡ Some (why.NoSuch c)
  chassis_is_absent port there = bind_no_chassis m p c (ap (λ (x : Config). is_virtual_port (at x.net.switch_ports p)) bound_config ∙ port) (ap (λ (x : Config). is_chassis x c) bound_config ∙ there)

module _ (g : GroundView) (n : ℕ) (p c : Name) (m : State) (may : MayTurn g n (event_of.Bind p c) m) (allowed : refusal m (event_of.Bind p c) ≡ None) where
  abbrev zone_change : Zoned → GroundChange
  zone_change zones = record { records = None; chassis = None; keys = None; zones = Some zones }

  pub binding_can_come : IsHomeChange g.zones.homes (home_change p c)
  binding_can_come = can_come m.config g.zones may.consistent.at_rest.bound p c (few_ports m.config.net may.consistent.at_rest.valid) (few_routers m.config.net may.consistent.at_rest.valid)

  module _ (after : Zoned) (rezoned : IsRezoned g.zones (home_change p c) after) where
    binding_is_readied : IsReadied (ground_of m g.zones) (zone_change after) (units_of (at m.config.net.switch_ports p) p)
    binding_is_readied = record {
      fits = record { keys = tt; zones = record { change = home_change p c; fits = binding_can_come; rezoned = rezoned } };
      once = names_once m.config.chassis may.consistent.at_rest.bound.chassis_sorted;
      tables = tables_of_state m g.zones may.consistent;
      tables_then = record { keyed = (tables_of_state m g.zones may.consistent).keyed; compiled = (tables_of_state m g.zones may.consistent).compiled };
      touched_alone = record { once = units_once (at m.config.net.switch_ports p) p; only = λ d among. binding_units m g.zones may.consistent p c allowed after rezoned d };
    }

    pub binding_readied : (h : GroundView) → h ≡ g → IsReadied h (zone_change after) (units_of (at h.config.net.switch_ports p) p)
    binding_readied h is = subst (λ x. IsReadied x (zone_change after) (units_of (at x.config.net.switch_ports p) p)) (may.ground ∙ sym is) binding_is_readied

    -- the port has a number there
    pub binding_numbered : ¬ (number_on after.numbers c (Port p) ≡ None)
    binding_numbered none =
        let ports : after.homes.ports ≡ put m.config.bindings p c = ap (λ (h : KnownHomes). h.ports) (homes_after m.config g.zones may.consistent.at_rest.bound p c after rezoned) in
        false≢true (subst IsSome none ((rezoned.zoned.at_home c (Port p)).0 (ap (λ l. at l p) ports ∙ put_there m.config.bindings p c)))

    pub binding_turns : (z : ℕ) → number_on after.numbers c (Port p) ≡ Some z → (effects : List NetEffect) → effects ≡ [] → (change : SimChange TupleSpace) → change.bound ≡ (p, Some c) ∷ [] → change.names ≡ [] → change.emptied ≡ (c, z) ∷ []
        → IsTurned m g.zones (event_of.Bind p c) effects change (ground_after (zone_change after) g)
    binding_turns z numbered effects none change bound called emptied =
        subst (λ x. IsTurned m g.zones (event_of.Bind p c) effects change (ground_after (zone_change after) x)) may.ground
        (binding_turned m g.zones may.consistent may.few effects none change p c allowed after rezoned z numbered bound called emptied)
