-- What a chassis that comes, and a port that is bound, make of the state and of the simulated chassis.
use Rattle.std.specs.Prelude.{◌≡◌, ◌<◌, ◌^◌, ℕ, List, [], ◌∷◌, map, Some, None, refl}
use Rattle.std.specs.BTreeSet.{insert_key}
use Rattle.std.specs.Cmp.Lexicographic.{slice_cmp}
use Rattle.std.specs.Ordering.{nat_cmp}
use Rattle.std.proofs.Common.{arith, sym, ap, subst, ◌∙◌}
use Rattle.chassis_sim.specs.Changing.{given_name}
use Rattle.chassis_sim.specs.Settings.{AreSet, set_in_turn}
use Rattle.chassis_sim.specs.State.{same_pair}
use Rattle.chassis_sim.specs.declared.change.SimChange.{SimChange}
use Rattle.conn_zones.specs.Rezoning.{IsHomeChange, IsRezoned}
use Rattle.conn_zones.specs.Zoning.{KnownHomes, Zoned}
use Rattle.edit_reader.specs.declared.event.Event.TheVariants as event_of
use Rattle.net_model.specs.State.{State, event_count}
use Rattle.net_model.specs.Transition.{add_chassis, bind}
use Rattle.ovn_base.specs.declared.name.Name.{Name}
use Rattle.ovn_base.specs.names.ByName.{at, put}
use Rattle.ovn_base.specs.names.SameName.{same_name}
use Rattle.world_setup.specs.Consistent.{IsConsistent}
use Rattle.conn_zones.specs.Zoning.{number_on}
use Rattle.conn_zones.specs.declared.numbers.ZoneUse.TheVariants.{Port}
use Rattle.physical_flows.specs.Bindings.{AreBound}
use Rattle.sim_laws.specs.journeys.TurnedZones.{IsTurnOfZones, OnlyComeHome, coming_home, routers_coming, zone_numbered, zones_begun}
use Rattle.sim_laws.specs.journeys.UnderWay.{IsUnderWay}
use Rattle.sim_laws.proofs.journey_laws.Finishing.{begins}
use Rattle.sim_laws.proofs.turn_laws.BoundPorts.{binds_so}
use Rattle.sim_laws.proofs.turn_laws.ComingHome.{comes_home}
use Rattle.sim_laws.proofs.turn_laws.KeepingTurns.{chassis_keep, name_kept}
use Rattle.switch_engine.specs.declared.effect.NetEffect.{NetEffect}
use Rattle.tuple_space.specs.declared.space.TupleSpace.{TupleSpace}
use Rattle.world_setup.specs.Homecoming.{homes_by}
use Rattle.world_setup.specs.Refusing.{refusal}
use Rattle.world_setup.specs.Turning.{IsTurned}
use Rattle.world_setup.specs.Zones.{home_change}
use Rattle.world_setup.proofs.ComingHomes.{begun_by_homes, bound_home, homes_after, may_come_home, number_same, rezoned_by_homes}
use Rattle.world_setup.proofs.ConsistentTurns.{chassis_comes, port_bound}
use Rattle.world_setup.proofs.NamesInOrder.{names_few, names_sorted}
use Rattle.world_setup.proofs.PortHomes as ports
use Rattle.world_setup.proofs.Refusals.{among_chassis, chassis_new, is_known, port_there, port_virtual}
use Rattle.world_setup.proofs.TurnEvents as told
use Rattle.world_setup.proofs.TurnEvents.{none_settled, still_named}
use Rattle.world_setup.proofs.TurnedUnits.{PortsKeep}

module _ (m : State) (zones : Zoned) (old : IsConsistent m zones) where
  under : IsUnderWay m zones 0
  under = begins m zones old.at_rest

  -- ---- a chassis comes

  module _ (c : Name) where
    abbrev longer : List Name
    longer = insert_key (slice_cmp nat_cmp) m.config.chassis c

    only_come : OnlyComeHome m (add_chassis m.config c)
    only_come = chassis_keep m zones 0 c under

    -- the gateway routers that wait for it may come home
    pub chassis_brings : IsHomeChange zones.homes (coming_home zones.homes (homes_by zones.homes m.config.net longer))
    chassis_brings = may_come_home m.config zones old.at_rest.bound m.config.net old.at_rest.valid longer (λ q h. h) only_come.routers

    module _ (after : Zoned) (rezoned : IsRezoned zones (coming_home zones.homes (homes_by zones.homes m.config.net longer)) after) where
      pub chassis_homes : after.homes.ports ≡ m.config.bindings
      chassis_homes = ap (λ (h : KnownHomes). h.ports) (homes_after m.config zones old.at_rest.bound m.config.net old.at_rest.valid longer (λ q h. h) only_come.routers after rezoned)

      pub chassis_numbers : PortsKeep m zones old after
      chassis_numbers q d = number_same m.config zones old.at_rest.bound m.config.net old.at_rest.valid longer (λ q h. h) only_come.routers after rezoned q d

      rezoned_then : IsRezoned zones (coming_home zones.homes after.homes) after
      rezoned_then = rezoned_by_homes m.config zones old.at_rest.bound m.config.net old.at_rest.valid longer (λ q h. h) only_come.routers after rezoned

      bound_then : refusal m (event_of.AddChassis c) ≡ None → AreBound (add_chassis m.config c).next after
      bound_then allowed =
          let few = (chassis_new m c allowed).1 in
          let more = names_few m.config.chassis c in
          bound_home m.config zones old.at_rest.bound m.config.net old.at_rest.valid longer (λ q h. h) only_come.routers after rezoned (λ d h. name_kept m.config.chassis c d h)
          (names_sorted m.config.chassis c old.at_rest.bound.chassis_sorted) (omega (arith, few, more))

      pub chassis_turned : event_count m < 2 ^ 42 → refusal m (event_of.AddChassis c) ≡ None → (effects : List NetEffect) → effects ≡ [] → (change : SimChange TupleSpace) → change.bound ≡ [] → change.names ≡ []
          → change.emptied ≡ zones_begun after.numbers (routers_coming zones.homes (homes_by zones.homes m.config.net longer))
          → IsTurned m zones (event_of.AddChassis c) effects change (record { config = record m.config { chassis = longer }; keys = m.keys; zones = after })
      chassis_turned room allowed effects none change bound names emptied =
          let begun = begun_by_homes m.config zones old.at_rest.bound m.config.net old.at_rest.valid longer (λ q h. h) only_come.routers after rezoned change.emptied emptied in
          record {
            allowed = allowed;
            turn = add_chassis m.config c;
            keys = m.keys;
            does = (none, refl);
            ground = refl;
            consistent = chassis_comes m zones old room c after (bound_then allowed);
            unretired = none_settled m.keys old.at_rest.keys.no_retired_datapaths old.at_rest.keys.no_retired_ports;
            zones = rezoned_then;
            emptied = begun;
            frames = refl;
            lists = subst (λ l. IsTurnOfZones m (add_chassis m.config c) zones.numbers after.numbers l) (sym begun) (comes_home m zones after 0 (add_chassis m.config c) under (bound_then allowed) only_come rezoned_then);
            bindings = λ q. ap (λ l. set_in_turn same_name l q (at m.config.bindings q)) bound;
            names = λ before later called set. still_named m.keys before later (subst (λ l. AreSet same_pair (map given_name l) before.names later.names) names set) called;
          }

  -- ---- a port is bound

  pub binding_turned : event_count m < 2 ^ 42 → (effects : List NetEffect) → effects ≡ [] → (change : SimChange TupleSpace) → (p c : Name) → refusal m (event_of.Bind p c) ≡ None → (after : Zoned) → IsRezoned zones (home_change p c) after → (z : ℕ) → number_on after.numbers c (Port p) ≡ Some z → change.bound ≡ (p, Some c) ∷ [] → change.names ≡ [] → change.emptied ≡ (c, z) ∷ []
      → IsTurned m zones (event_of.Bind p c) effects change (record { config = record m.config { bindings = after.homes.ports }; keys = m.keys; zones = after })
  binding_turned room effects none change p c allowed after rezoned z numbered bound names emptied =
      let there = port_there m p c allowed in
      let known = among_chassis m.config.chassis c (is_known m p c allowed) in
      let homes : after.homes.ports ≡ put m.config.bindings p c = ap (λ (h : KnownHomes). h.ports) (ports.homes_after m.config zones old.at_rest.bound p c after rezoned) in
      record {
        allowed = allowed;
        turn = bind m.config p c;
        keys = m.keys;
        does = (none, refl);
        ground = λ i. record { config = record m.config { bindings = sym homes i }; keys = m.keys; zones = after };
        consistent = port_bound m zones old room p c after there (port_virtual m p c allowed) known rezoned;
        unretired = none_settled m.keys old.at_rest.keys.no_retired_datapaths old.at_rest.keys.no_retired_ports;
        zones = rezoned;
        emptied = emptied ∙ ap (zone_numbered c) (sym numbered);
        frames = refl;
        lists = subst (λ l. IsTurnOfZones m (bind m.config p c) zones.numbers after.numbers l) (sym emptied) (binds_so m zones after 0 p c z under (port_bound m zones old room p c after there (port_virtual m p c allowed) known rezoned).at_rest.bound rezoned numbered);
        bindings = λ q. ap (λ l. set_in_turn same_name l q (at m.config.bindings q)) bound ∙ told.bound_then m.config.bindings p c q;
        names = λ before later called set. still_named m.keys before later (subst (λ l. AreSet same_pair (map given_name l) before.names later.names) names set) called;
      }
