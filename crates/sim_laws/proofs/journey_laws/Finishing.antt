-- An event begins and is over: it is counted, and where nothing waits no key is retired.
use Rattle.std.specs.Prelude.{◌≡◌, ◌≤◌, ◌<◌, ◌+◌, ◌*◌, ◌^◌, ℕ, List, [], ◌∷◌, map, refl}
use Rattle.std.proofs.Common.{sym, ap, ◌∙◌, subst, arith, inl, inr}
use Rattle.chassis_sim.specs.State.{SimState}
use Rattle.conn_zones.specs.Zoning.{Zoned, GivenNumbers}
use Rattle.flow_table.specs.declared.flow.Flow.{Flow}
use Rattle.match_cubes.specs.declared.sets.Sets.{Sets}
use Rattle.net_model.specs.State.{State, event_count, settled_where_none_waits}
use Rattle.net_model.specs.declared.crossing.Crossing.{Crossing}
use Rattle.ovn_base.proofs.AmongLaws.{among_none}
use Rattle.ovn_base.specs.declared.name.Name.{Name}
use Rattle.ovn_base.specs.lists.Among.{Among}
use Rattle.physical_flows.specs.ChassisFlows.{AreExactly, basis_at}
use Rattle.physical_flows.specs.RecordKeys.{HaveKeys}
use Rattle.physical_flows.specs.Stages.{Basis}
use Rattle.tunnel_keys.proofs.Births.{born_later, settled_born}
use Rattle.tunnel_keys.proofs.Invariant.{settled_hold}
use Rattle.tunnel_keys.specs.Keys.{Keys, settled}
use Rattle.sim_laws.proofs.journey_laws.RetiredRows.{around_stays, row_stays}
use Rattle.sim_laws.specs.Held.{frame_of_crossing}
use Rattle.sim_laws.specs.Sound.{AreBorn, MayWait}
use Rattle.sim_laws.specs.journeys.AtRest.{IsAtRest, BeginsLaw, FinishesLaw}
use Rattle.sim_laws.specs.journeys.Holding.{HoldsNetwork}
use Rattle.sim_laws.specs.journeys.Tables.{ChassisFlow}
use Rattle.sim_laws.specs.journeys.UnderWay.{IsUnderWay}

-- the state with other keys, and one event more
abbrev counted : State → Keys → State
counted m keys = record m { accepted = m.accepted + 1; keys = keys }

births_then : (m : State) → AreBorn m → AreBorn (counted m m.keys)
births_then m b = record {
  records = λ k q r h. let old = b.records k q r h in omega (arith, old);
  keys = born_later m.keys (event_count m) (event_count (counted m m.keys)) (omega arith) b.keys;
  none = λ z. absurd (omega (arith, z));
}

may_then : (m : State) (x : Crossing) → MayWait m x → MayWait (counted m m.keys) x
may_then m x w = record {
  whole = w.whole;
  datapath_key = w.datapath_key;
  in_key = w.in_key;
  aim_key = w.aim_key;
  in_live = w.in_live;
  aim_live = w.aim_live;
  no_router = w.no_router;
  no_return = w.no_return;
}

-- ---- where no key is retired any more

flows_settle : (m : State) (numbers : GivenNumbers) (sets : Sets) (c : Name) (flows : List Flow) → AreExactly (ChassisFlow m numbers sets c) flows → AreExactly (ChassisFlow (counted m (settled m.keys)) numbers sets c) flows
flows_settle m numbers sets c flows t = record { same = λ f. (λ among. settles f ((t.same f).0 among), λ r. (t.same f).1 (unsettles f r)); once = t.once }
  where
    b : Basis
    b = basis_at m numbers c

    settles : (f : Flow) → ChassisFlow m numbers sets c f → ChassisFlow (counted m (settled m.keys)) numbers sets c f
    settles f (inl row) = inl (row_stays m.keys [] [] m.config.net sets f row)
    settles f (inr r) = inr (around_stays b [] [] f r)

    unsettles : (f : Flow) → ChassisFlow (counted m (settled m.keys)) numbers sets c f → ChassisFlow m numbers sets c f
    unsettles f (inl row) = inl (row_stays (settled m.keys) m.keys.retired_datapaths m.keys.retired_ports m.config.net sets f row)
    unsettles f (inr r) = inr (around_stays (basis_at (counted m (settled m.keys)) numbers c) m.keys.retired_datapaths m.keys.retired_ports f r)

-- ---- the event is over

module _ (m : State) (zones : Zoned) (sets : Sets) (more : ℕ) (s : SimState) (u : IsUnderWay m zones more) (few : more ≤ 2 ^ 64) (events : event_count m < 2 ^ 42) (h : HoldsNetwork m zones.numbers sets s) where
  abbrev Over : Keys → Type 0
  Over keys = IsAtRest (counted m keys) zones × HoldsNetwork (counted m keys) zones.numbers sets s

  few_sent : m.next ≤ 1 + 2 ^ 64 * event_count (counted m m.keys)
  few_sent = let sent = u.few_sent in omega (arith, sent, few)

  -- where something waits, the keys stay
  kept : Over m.keys
  kept = (
    record {
      valid = u.valid;
      keys = u.keys;
      bound = u.bound;
      bound_virtual = u.bound_virtual;
      at_home = u.at_home;
      born = births_then m u.born;
      on_the_way = record {
        crossings = record { in_order = u.crossings.in_order; below = u.crossings.below; may = λ n x w. may_then m x (u.crossings.may n x w) };
        few = few_sent;
        none = λ z. absurd (omega (arith, z));
      };
      few = omega (arith, events);
    },
    record {
      bindings = h.bindings;
      names = record { datapaths = h.names.datapaths; ports = h.names.ports };
      held = h.held;
      members = h.members;
      tables = h.tables;
      zoned = h.zoned;
      zones = h.zones;
      waiting = h.waiting;
      next = h.next;
    },
  )

  keys_settled : HaveKeys m.config.net (settled m.keys)
  keys_settled = record {
    hold = settled_hold m.keys u.keys.hold;
    datapath_has = u.keys.datapath_has;
    router_has = u.keys.router_has;
    datapath_of = u.keys.datapath_of;
    port_has = u.keys.port_has;
    router_port_has = u.keys.router_port_has;
    port_of = u.keys.port_of;
    datapath_range = u.keys.datapath_range;
    port_range = u.keys.port_range;
    no_retired_datapaths = refl;
    no_retired_ports = refl;
  }

  none_waits : m.waiting ≡ [] → (n : ℕ) (x : Crossing) → Among (n, x) m.waiting → ⊥
  none_waits e n x w = among_none (n, x) (subst (λ ws. Among (n, x) ws) e w)

  -- where nothing waits, none is retired
  none_retired : m.waiting ≡ [] → Over (settled m.keys)
  none_retired e =
      let b = births_then m u.born in (
        record {
          valid = u.valid;
          keys = keys_settled;
          bound = u.bound;
          bound_virtual = u.bound_virtual;
          at_home = u.at_home;
          born = record { records = b.records; keys = settled_born m.keys (event_count (counted m m.keys)) b.keys; none = b.none };
          on_the_way = record {
            crossings = record { in_order = u.crossings.in_order; below = u.crossings.below; may = λ n x w. absurd (none_waits e n x w) };
            few = few_sent;
            none = λ z. absurd (omega (arith, z));
          };
          few = omega (arith, events);
        },
        record {
          bindings = h.bindings;
          names = record { datapaths = h.names.datapaths; ports = h.names.ports };
          held = h.held;
          members = h.members;
          tables = λ c flows is. flows_settle m zones.numbers sets c flows (h.tables c flows is);
          zoned = h.zoned;
          zones = h.zones;
          waiting = h.waiting ∙ ap (λ ws. map (frame_of_crossing m.keys) ws) e ∙ sym (ap (λ ws. map (frame_of_crossing (settled m.keys)) ws) e);
          next = h.next;
        },
      )

  pub over : (waiting : List (ℕ × Crossing)) → m.waiting ≡ waiting → Over (settled_where_none_waits waiting m.keys)
  over [] e = none_retired e
  over (w ∷ ws) e = kept

pub finishes : FinishesLaw
finishes m zones sets more s u few events h = over m zones sets more s u few events h m.waiting refl

pub begins : BeginsLaw
begins m zones r = record {
  valid = r.valid;
  keys = r.keys;
  bound = r.bound;
  bound_virtual = r.bound_virtual;
  at_home = r.at_home;
  born = r.born;
  crossings = r.on_the_way.crossings;
  few = r.few;
  few_sent = let few = r.on_the_way.few in omega (arith, few);
}
