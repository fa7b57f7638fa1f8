-- A planned edit: what it does to the state, and that the state stays consistent.
use Rattle.std.specs.Prelude.{◌≡◌, ◌<◌, ◌+◌, ◌^◌, ◌↔◌, ℕ, List, [], None, Some, IsSome, map, true, refl}
use Rattle.std.proofs.Common.{arith, sym, ap, subst, ◌∙◌, inl, inr}
use Rattle.std.proofs.lemmas.Option.{same_Some}
use Rattle.chassis_sim.specs.Settings.{set_in_turn}
use Rattle.chassis_sim.specs.declared.change.SimChange.{SimChange}
use Rattle.conn_zones.specs.Rezoning.{IsHomeChange, IsRezoned}
use Rattle.conn_zones.specs.Zoning.{KnownHomes, Zoned}
use Rattle.edit_reader.specs.Fitting.{IsEventInGrammar}
use Rattle.edit_reader.specs.declared.event.Event.TheVariants as event_of
use Rattle.nb_edits.proofs.RecordLaws.{same_birth}
use Rattle.nb_edits.specs.EditLeaves as edits
use Rattle.nb_edits.specs.OpFaults.{fault_of}
use Rattle.nb_edits.proofs.EditSoundness.{edit_sound}
use Rattle.nb_edits.proofs.KeyEdits.{key_edit}
use Rattle.nb_records.specs.Network.{Network}
use Rattle.nb_records.specs.Switches.{is_virtual_kind}
use Rattle.nb_records.specs.declared.switch.SwitchPort.{SwitchPort}
use Rattle.nb_records.specs.declared.change.Op.{Op}
use Rattle.nb_edits.specs.declared.plan.EditPlan.{EditPlan}
use Rattle.net_model.proofs.ListLaws.{turned_keep}
use Rattle.net_model.specs.Owners.{owners_only_in}
use Rattle.net_model.specs.State.{State, event_count, finished}
use Rattle.net_model.specs.Transition.{still_bound}
use Rattle.ovn_base.specs.declared.address.Birth.{Birth}
use Rattle.ovn_base.specs.declared.name.Name.{Name}
use Rattle.ovn_base.specs.lists.Among.{Among}
use Rattle.ovn_base.specs.names.ByName.{at}
use Rattle.ovn_base.specs.names.SameName.{same_name}
use Rattle.ovn_base.proofs.ByNameLaws.{among_at}
use Rattle.physical_flows.proofs.FlowSearch.{is_some_of, some_of}
use Rattle.physical_flows.specs.Touching.{IsSameBeside}
use Rattle.physical_flows.specs.RecordKeys.{HaveKeys}
use Rattle.physical_flows.specs.declared.unit.FlowUnit.{FlowUnit}
use Rattle.physical_flows.specs.declared.unit.FlowUnit.TheVariants as unit
use Rattle.world_setup.specs.Consistent.{IsConsistent}
use Rattle.net_model.specs.Transition.{edit, identity_at, is_still_there}
use Rattle.physical_flows.specs.Bindings.{AreBound}
use Rattle.sim_laws.specs.journeys.TurnedZones.{IsTurnOfZones, OnlyComeHome, coming_home, routers_coming, zones_begun}
use Rattle.sim_laws.specs.journeys.UnderWay.{BoundAreVirtual, IsUnderWay}
use Rattle.sim_laws.proofs.journey_laws.Finishing.{begins}
use Rattle.sim_laws.proofs.turn_laws.ComingHome.{comes_home}
use Rattle.sim_laws.proofs.turn_laws.KeepingTurns.{edits_keep}
use Rattle.sim_laws.proofs.turn_laws.TurnedLists.{turned_at_home}
use Rattle.world_setup.proofs.BuiltTables.{on_switch}
use Rattle.world_setup.proofs.ComingHomes.{begun_by_homes, bound_home, homes_after, may_come_home, number_same, rezoned_by_homes}
use Rattle.world_setup.proofs.TurnedUnits.{PortsKeep}
use Rattle.sim_laws.specs.Sound.{AreBorn}
use Rattle.switch_engine.specs.declared.effect.NetEffect.{NetEffect}
use Rattle.tunnel_keys.proofs.Births.{born_later}
use Rattle.tunnel_keys.specs.Causes.{HasKeys, IsCause}
use Rattle.tunnel_keys.specs.Edits.{GivesKeys, IsAfter, IsKeyEdit}
use Rattle.tunnel_keys.specs.Keys.{Keys, settled}
use Rattle.tunnel_keys.specs.declared.fault.KeyFault.{KeyFault}
use Rattle.tuple_space.specs.declared.space.TupleSpace.{TupleSpace}
use Rattle.world_setup.specs.Built.{is_built_edit}
use Rattle.world_setup.specs.Editing.{edited, next_net, Edits}
use Rattle.world_setup.specs.KeyCauses.{key_lack}
use Rattle.world_setup.specs.Ground.{ground_of}
use Rattle.world_setup.specs.Homecoming.{homes_by}
use Rattle.world_setup.specs.KeyLines.{key_effects, key_name}
use Rattle.world_setup.specs.Refusing.{refusal}
use Rattle.world_setup.specs.Touched.{touched_by}
use Rattle.world_setup.specs.Turning.{IsPlannedEdit, IsTurned}
use Rattle.world_setup.proofs.EditedKeys.{HasRecordsFrom, edited_born, edited_have, keys_of_records, port_number_stays, switch_number_stays}
use Rattle.world_setup.proofs.EditedNames.{AreNamesOf, names_listed, names_set}
use Rattle.world_setup.proofs.EditedMarks.{edits_mark_listed}
use Rattle.world_setup.proofs.StayingOwners.{bindings_stay, none_gone, still_there}
use Rattle.world_setup.proofs.StayingRecords.{ports_stay, router_ports_stay, routers_stay, switches_stay}
use Rattle.world_setup.proofs.TouchedRecords.{port_kept, port_with_switch, router_port_touched, switch_kept, to_router_touched}
use Rattle.world_setup.proofs.EditedWaiting.{edit_kept}
use Rattle.world_setup.proofs.FreedKeys.{clock_still, counted, finished_consistent}
use Rattle.world_setup.proofs.KeyLacks.{IsLack, datapaths_after, enough_keys, lack_is}
use Rattle.world_setup.proofs.NewKeys.{given_beside}
use Rattle.world_setup.proofs.RefusedTurns.{edit_allowed}
use Rattle.world_setup.proofs.WaitingFrames.{AreKept, frames_same, way_on}

-- ---- what an edit leaves that is built and has no fault

module _ (m : State) (zones : Zoned) (old : IsConsistent m zones) (ops : List Op) (grammar : IsEventInGrammar (event_of.Edit ops)) (built : is_built_edit ops ≡ true) (faultless : fault_of m.config.net ops (event_count m + 1) ≡ None) where
  abbrev before : Network
  before = m.config.net

  abbrev leaves : Network
  leaves = next_net m ops

  pub edit_sound_then : edits.LeavesSoundRecords before ops (event_count m + 1)
  edit_sound_then = edit_sound before ops (event_count m + 1) old.at_rest.valid grammar.each faultless

  pub edit_marks_then : edits.AreListed leaves
  edit_marks_then = edit_sound_then.marks (edits_mark_listed before ops (event_count m + 1) grammar.edits) old.marks

  pub edit_records_from : HasRecordsFrom before leaves
  edit_records_from = record {
    switches = switches_stay before ops (event_count m + 1) old.at_rest.valid grammar.each faultless built;
    ports = ports_stay before ops (event_count m + 1) old.at_rest.valid grammar.each faultless built;
    routers = routers_stay before ops (event_count m + 1) old.at_rest.valid grammar.each faultless built;
    router_ports = router_ports_stay before ops (event_count m + 1) old.at_rest.valid grammar.each faultless built;
    before = old.at_rest.valid;
    after = edit_sound_then.valid;
  }

  pub edit_owns : edits.AreKeysOf before (event_count m + 1) m.keys
  edit_owns = keys_of_records before m.keys old.at_rest.keys old.at_rest.valid.in_order (event_count m) (event_count m + 1) (omega arith) old.at_rest.born.keys

  pub edit_fits : IsKeyEdit m.keys (owners_only_in leaves before) (owners_only_in before leaves)
  edit_fits = key_edit before leaves (event_count m + 1) m.keys old.at_rest.valid edit_sound_then.valid edit_sound_then.owners edit_owns

  -- which keys are lacking
  pub edit_lack : (fault : KeyFault) → IsCause m.keys (owners_only_in leaves before) (owners_only_in before leaves) fault → IsLack fault (key_lack m.keys before leaves)
  edit_lack fault cause = lack_is before leaves m.keys (datapaths_after before leaves (event_count m + 1) m.keys edit_owns edit_sound_then.valid) fault cause

  pub edit_enough : HasKeys m.keys (owners_only_in leaves before) (owners_only_in before leaves) → key_lack m.keys before leaves ≡ None
  edit_enough enough = enough_keys before leaves m.keys (datapaths_after before leaves (event_count m + 1) m.keys edit_owns edit_sound_then.valid) enough

-- ---- a planned edit

module _ (m : State) (zones : Zoned) (old : IsConsistent m zones) (room : event_count m < 2 ^ 42) (ops : List Op) (grammar : IsEventInGrammar (event_of.Edit ops)) (plan : EditPlan) (keys : Keys)
    (planned : IsPlannedEdit (ground_of m zones) (event_count m + 1) ops plan keys) where
  abbrev net : Network
  net = m.config.net

  abbrev next : Network
  next = next_net m ops

  -- ---- records

  pub sound : edits.LeavesSoundRecords net ops (event_count m + 1)
  sound = edit_sound_then m zones old ops grammar planned.built planned.faultless

  pub next_marks : edits.AreListed next
  next_marks = edit_marks_then m zones old ops grammar planned.built planned.faultless

  pub records_from : HasRecordsFrom net next
  records_from = edit_records_from m zones old ops grammar planned.built planned.faultless

  -- ---- keys

  pub fits : IsKeyEdit m.keys (owners_only_in next net) (owners_only_in net next)
  fits = edit_fits m zones old ops grammar planned.built planned.faultless

  pub after : IsAfter m.keys (owners_only_in next net) (owners_only_in net next) keys
  after = subst (λ owners. IsAfter m.keys owners (owners_only_in net next) keys) planned.stands.added (subst (λ owners. IsAfter m.keys plan.added owners keys) planned.stands.removed planned.after)

  none : owners_only_in net next ≡ []
  none = none_gone net ops (event_count m + 1) old.at_rest.valid grammar.each planned.faultless planned.built

  pub gives : GivesKeys m.keys (owners_only_in next net) [] keys
  gives = subst (λ owners. GivesKeys m.keys (owners_only_in next net) owners keys) none after.gives

  pub have : HaveKeys next keys
  have = edited_have net next m.keys keys old.at_rest.keys after.hold gives records_from

  -- no key is retired
  pub unretired : settled keys ≡ keys
  unretired = λ i. record keys { retired_datapaths = sym have.no_retired_datapaths i; retired_ports = sym have.no_retired_ports i }

  -- ---- the state

  abbrev pub mid : State
  mid = edited m next keys

  bindings_are : still_bound net next m.config.bindings ≡ m.config.bindings
  bindings_are =
      bindings_stay net ops (event_count m + 1) old.at_rest.valid grammar.each planned.faultless planned.built m.config.bindings
      (λ e among. old.at_rest.bound.port_there e.0 e.1 (among_at e.0 e.1 m.config.bindings old.at_rest.bound.bindings_sorted among))

  pub mid_ground : (after : Zoned) → ground_of mid after ≡ record { config = record m.config { net = next }; keys = keys; zones = after }
  mid_ground after = λ i. record { config = record m.config { net = next; bindings = bindings_are i }; keys = keys; zones = after }

  pub edits_so : (effects : List NetEffect) → effects ≡ key_effects plan.added keys → Edits m ops effects mid
  edits_so effects named = record {
    keys = keys;
    rekeys = record { hold = after.hold; given = after.gives };
    effects_are = named ∙ ap (λ owners. key_effects owners keys) planned.stands.added;
    state = refl;
  }

  pub kept : AreKept m mid
  kept = edit_kept m mid (owners_only_in next net) next keys (event_count m + 1) old.at_rest.keys.hold after.hold gives (omega arith) records_from sound.owners refl refl

  -- no record is younger than the event
  born_then : AreBorn (counted mid)
  born_then = record {
    records = λ k q r is. elim (sound.records k q r is) [
      | inl new ↦ omega (arith, new)
      | inr was ↦ let early = old.at_rest.born.records k q was.0 was.1 in let same = ap (λ (b : Birth). b.0) (same_birth r was.0 was.2) in omega (arith, early, same)
    ];
    keys = born_later keys (event_count m + 1) (event_count (counted mid)) (omega arith) (edited_born net next m.keys keys old.at_rest.keys after.hold gives records_from (event_count m) (event_count m + 1) (omega arith) old.at_rest.born.keys sound.owners);
    none = λ h. absurd (omega (arith, h));
  }

  port_stays : (q : Name) → IsSome (at net.switch_ports q) → IsSome (at next.switch_ports q)
  port_stays q h =
      let port = some_of (at net.switch_ports q) h in
      let stays = records_from.ports q port.0 port.1 in
      is_some_of (at next.switch_ports q) stays.0 stays.1

  -- each port that is bound was so before, and keeps its kind
  still_virtual : BoundAreVirtual (counted mid).config
  still_virtual q chassis port bound is =
      let was : at m.config.bindings q ≡ Some chassis = ap (λ l. at l q) (sym bindings_are) ∙ bound in
      let had = some_of (at net.switch_ports q) (old.at_rest.bound.port_there q chassis was) in
      let stays = records_from.ports q had.0 had.1 in
      let same : port ≡ stays.0 = same_Some port stays.0 (sym is ∙ stays.1) in
      ap is_virtual_kind (ap (λ (p : SwitchPort). p.kind) same ∙ stays.4) ∙ old.at_rest.bound_virtual q chassis had.0 was had.1

  kept_then : AreKept m (counted mid)
  kept_then = edit_kept m (counted mid) (owners_only_in next net) next keys (event_count m + 1) old.at_rest.keys.hold after.hold gives (omega arith) records_from sound.owners refl refl

  -- ---- who comes home

  -- each bound port stays
  still : (q c : Name) → at m.config.bindings q ≡ Some c → is_still_there next (identity_at net q) ≡ true
  still q c bound =
      let port = some_of (at net.switch_ports q) (old.at_rest.bound.port_there q c bound) in
      still_there net ops (event_count m + 1) old.at_rest.valid grammar.each planned.faultless planned.built q port.0 port.1

  under : IsUnderWay m zones 0
  under = begins m zones old.at_rest

  only_come : OnlyComeHome m (edit m.config next)
  only_come = edits_keep m zones 0 next under sound.valid still (routers_stay net ops (event_count m + 1) old.at_rest.valid grammar.each planned.faultless planned.built)

  -- gateway routers that the edit adds may come home
  pub edit_brings : IsHomeChange zones.homes (coming_home zones.homes (homes_by zones.homes next m.config.chassis))
  edit_brings = may_come_home m.config zones old.at_rest.bound next sound.valid m.config.chassis port_stays only_come.routers

  module _ (later : Zoned) (rezoned : IsRezoned zones (coming_home zones.homes (homes_by zones.homes next m.config.chassis)) later) where
    pub edit_homes : later.homes.ports ≡ m.config.bindings
    edit_homes = ap (λ (h : KnownHomes). h.ports) (homes_after m.config zones old.at_rest.bound next sound.valid m.config.chassis port_stays only_come.routers later rezoned)

    pub edit_numbers : PortsKeep m zones old later
    edit_numbers q d = number_same m.config zones old.at_rest.bound next sound.valid m.config.chassis port_stays only_come.routers later rezoned q d

    rezoned_then : IsRezoned zones (coming_home zones.homes later.homes) later
    rezoned_then = rezoned_by_homes m.config zones old.at_rest.bound next sound.valid m.config.chassis port_stays only_come.routers later rezoned

    bound_then : AreBound mid.config later
    bound_then =
        subst (λ (b : List (Name × Name)). AreBound (record m.config { net = next; bindings = b }) later) (sym bindings_are)
        (bound_home m.config zones old.at_rest.bound next sound.valid m.config.chassis port_stays only_come.routers later rezoned (λ c h. h) old.at_rest.bound.chassis_sorted old.at_rest.bound.few_chassis)

    pub consistent_then : IsConsistent (finished mid) later
    consistent_then = finished_consistent mid later (record {
      marks = next_marks;
      clock = clock_still m.clock m.accepted m.refused old.clock;
      lists = turned_keep (edit m.config next) m old.lists;
      at_rest = record {
        valid = sound.valid;
        bound_virtual = still_virtual;
        at_home = turned_at_home m (edit m.config next);
        keys = have;
        bound = bound_then;
        born = born_then;
        on_the_way = way_on m (counted mid) old.at_rest.born kept_then old.at_rest.on_the_way refl refl (omega arith) (λ h. omega arith);
        few = omega (arith, room);
      };
    })

    begun_then : (emptied : List (Name × ℕ)) → emptied ≡ zones_begun later.numbers (routers_coming zones.homes (homes_by zones.homes next m.config.chassis)) → emptied ≡ zones_begun later.numbers (routers_coming zones.homes later.homes)
    begun_then emptied is = begun_by_homes m.config zones old.at_rest.bound next sound.valid m.config.chassis port_stays only_come.routers later rezoned emptied is

    lists_then : (emptied : List (Name × ℕ)) → emptied ≡ zones_begun later.numbers (routers_coming zones.homes later.homes) → IsTurnOfZones m (edit m.config next) zones.numbers later.numbers emptied
    lists_then emptied begun = subst (λ l. IsTurnOfZones m (edit m.config next) zones.numbers later.numbers l) (sym begun) (comes_home m zones later 0 (edit m.config next) under bound_then only_come rezoned_then)

  -- ---- nothing is refused

  enough : HasKeys m.keys (owners_only_in next net) (owners_only_in net next)
  enough = subst (λ owners. HasKeys m.keys owners (owners_only_in net next)) planned.stands.added (subst (λ owners. HasKeys m.keys plan.added owners) planned.stands.removed planned.enough)

  pub allowed : refusal m (event_of.Edit ops) ≡ None
  allowed = edit_allowed m ops planned.built planned.faultless (edit_enough m zones old ops grammar planned.built planned.faultless enough)

  -- ---- units

  module _ (units : List FlowUnit) (are : (u : FlowUnit) → Among u units ↔ Among u (touched_by net next ops)) where
    same_switch : (a : Name) → (¬ Among (unit.Switch a) units) → at next.switches a ≡ at net.switches a
    same_switch a out = switch_kept net ops (event_count m + 1) old.at_rest.valid grammar.each planned.faultless a (λ t. out ((are (unit.Switch a)).1 t))

    same_port : (q : Name) → (¬ Among (unit.Port q) units) → at next.switch_ports q ≡ at net.switch_ports q
    same_port q out = port_kept net ops (event_count m + 1) old.at_rest.valid grammar.each planned.faultless q (λ t. out ((are (unit.Port q)).1 t))

    pub same_beside : IsSameBeside units net next m.keys keys
    same_beside = record {
      switches = same_switch;
      datapaths = λ a switch out is. switch_number_stays net next m.keys keys old.at_rest.keys after.hold gives records_from a switch is;
      ports = same_port;
      numbers = λ q port out is. port_number_stays net next m.keys keys old.at_rest.keys after.hold gives records_from port.switch q port.birth (inr (port, is, refl, refl));
      beneath = λ q port out is.
          let on = some_of (at net.switches port.switch) (on_switch net old.at_rest.valid q port is) in
          switch_number_stays net next m.keys keys old.at_rest.keys after.hold gives records_from port.switch on.0 on.1;
      on = λ q port in' is. (are (unit.Switch port.switch)).1 (port_with_switch net next ops q port ((are (unit.Port q)).0 in') is);
      router_ports = λ p port is. (are (unit.RouterPort p)).1 (router_port_touched net next ops p port is);
      to_routers = λ q port is leads. (are (unit.Port q)).1 (to_router_touched net next ops old.at_rest.valid sound.valid q port is leads);
    }

  -- ---- the turn

  are_names : (given : List (ℕ × ℕ × Name)) → given ≡ map (key_name keys) plan.added → AreNamesOf keys (owners_only_in next net) given
  are_names given is =
      subst (λ l. AreNamesOf keys (owners_only_in next net) l) (sym (is ∙ ap (λ owners. map (key_name keys) owners) planned.stands.added))
      (names_listed m.keys keys (owners_only_in next net) (given_beside m.keys (owners_only_in next net) keys gives) (key_name keys) (λ a birth. refl) (λ d q birth. refl))

  pub edit_turned : (later : Zoned) → IsRezoned zones (coming_home zones.homes (homes_by zones.homes next m.config.chassis)) later → (effects : List NetEffect) → effects ≡ key_effects plan.added keys
      → (change : SimChange TupleSpace) → change.bound ≡ [] → change.emptied ≡ zones_begun later.numbers (routers_coming zones.homes (homes_by zones.homes next m.config.chassis)) → change.names ≡ map (key_name keys) plan.added
      → IsTurned m zones (event_of.Edit ops) effects change (record { config = record m.config { net = next }; keys = keys; zones = later })
  edit_turned later rezoned effects named change bound emptied names = record {
    allowed = allowed;
    turn = edit m.config next;
    keys = keys;
    does = edits_so effects named;
    ground = mid_ground later;
    consistent = consistent_then later rezoned;
    unretired = unretired;
    zones = rezoned_then later rezoned;
    emptied = begun_then later rezoned change.emptied emptied;
    frames = frames_same m mid old.at_rest.born kept old.at_rest.keys.hold m.waiting old.at_rest.on_the_way.crossings.may;
    lists = lists_then later rezoned change.emptied (begun_then later rezoned change.emptied emptied);
    bindings = λ q. ap (λ l. set_in_turn same_name l q (at m.config.bindings q)) bound ∙ ap (λ l. at l q) (sym bindings_are);
    names = λ before later' called set.
        names_set next m.keys keys (owners_only_in next net) change.names before later' old.at_rest.keys.hold have (given_beside m.keys (owners_only_in next net) keys gives) (are_names change.names names) set called;
  }
