-- With all packets of an event journeys tell of the records; what holds of the crossings that waited before, and of those of which such ends
-- tell, holds of those that wait afterwards.
use Rattle.std.specs.Prelude.{◌≡◌, ◌+◌, ℕ, zero, suc, Bool, true, false, cond, List, [], ◌∷◌, Option, Some, None, refl}
use Rattle.std.specs.BTreeMap.{is_at}
use Rattle.std.specs.List.{AllByRecursion}
use Rattle.std.specs.Option.{option_and_then}
use Rattle.std.specs.Ordering.{nat_cmp}
use Rattle.std.proofs.Common.{subst, inl}
use Rattle.chassis_sim.proofs.UnderlayLaws as underlay
use Rattle.inet_packet.specs.declared.packet.Packet.{Packet}
use Rattle.nb_records.specs.declared.switch.SwitchPort.{SwitchPort}
use Rattle.net_model.proofs.VisitLeads.{visit_later, arrival_later}
use Rattle.net_model.specs.Config.{is_chassis}
use Rattle.net_model.specs.Journey.{Journey, numbered_from, without_ends, go, waiting_at, takes_off, kept_or_not, arrive_at, comes_as, comes, drain_from, drain, drain_all, Traffic, enter_one, arrive_one, lose_one, arrive_all, enter_and_arrive, enter_by, enter_on, enter_at, travel, scene_at, scenes_of, places_of, begin_journey, journey_of, Travels}
use Rattle.net_model.specs.State.{State}
use Rattle.net_model.specs.Trail.{Trail, End, leaves, is_dropped, crosses, picks_backend, picks_port, is_lost, crossings_in, choices_in}
use Rattle.net_model.specs.Visit.{visit}
use Rattle.net_model.specs.declared.crossing.Crossing.{Crossing}
use Rattle.ovn_base.proofs.AmongLaws.{any_among}
use Rattle.ovn_base.specs.declared.limits.TheConstants.{MAX_ARRIVALS}
use Rattle.ovn_base.specs.declared.name.Name.{Name}
use Rattle.ovn_base.specs.lists.Among.{Among}
use Rattle.ovn_base.specs.names.ByName.{at}
use Rattle.ovn_base.specs.names.SameName.{same_name, bytes_decides}
use Rattle.switch_engine.proofs.Lists.{all_append}
use Rattle.sim_laws.proofs.told.Found.{value_at}
use Rattle.sim_laws.proofs.told.Told.{HasChassis, IsTold, loses, TellsSo, tell_tells}
use Rattle.sim_laws.proofs.told.Visiting.{visit_tells, arrival_tells}

module _ (m : State) (Waits : ℕ × Crossing → Type 0) (told_waits : (n : ℕ) (chassis : Name) (x : Crossing) → IsTold m.config (crosses chassis x) → Waits (n, x)) where
  -- ---- journeys

  abbrev TellsOf : Trail → Type 0
  TellsOf t = TellsSo m.config t

  pub record Tells (j : Journey) : Type 0 where
    pub ends : AllByRecursion (IsTold m.config) j.trail.ends
    pub waiting : AllByRecursion Waits j.waiting

  -- where all choices were legal
  abbrev pub TellsWell : Journey → Type 0
  TellsWell j = j.trail.legal ≡ true → Tells j

  crossings_wait : (n : ℕ) (ends : List End) → AllByRecursion (IsTold m.config) ends → AllByRecursion Waits (numbered_from n (crossings_in ends))
  crossings_wait n [] told = tt
  crossings_wait n (leaves q packet ∷ ends) told = crossings_wait n ends told.1
  crossings_wait n (is_dropped a q cause ∷ ends) told = crossings_wait n ends told.1
  crossings_wait n (crosses chassis x ∷ ends) told = (told_waits n chassis x told.0, crossings_wait (n + 1) ends told.1)
  crossings_wait n (picks_backend datapath vip backend ∷ ends) told = crossings_wait n ends told.1
  crossings_wait n (picks_port router port ∷ ends) told = crossings_wait n ends told.1
  crossings_wait n (is_lost k ∷ ends) told = crossings_wait n ends told.1

  -- ---- one packet

  go_tells : (way : Trail → Trail) → ((t : Trail) → (way t).legal ≡ true → t.legal ≡ true) → ((t : Trail) → TellsOf t → TellsOf (way t)) → (j : Journey) → TellsWell j → TellsWell (go way j)
  go_tells way before tells j h legal =
      let old = h (before (without_ends j.trail) legal) in
      let more : List End = (way (without_ends j.trail)).ends in
      let told : AllByRecursion (IsTold m.config) more = tells (without_ends j.trail) (λ l. tt) legal in
      record {
        ends = all_append (IsTold m.config) j.trail.ends more old.ends told;
        waiting = all_append Waits j.waiting (numbered_from j.next (crossings_in more)) old.waiting (crossings_wait j.next more told);
      }

  takes_off_tells : (n : ℕ) (j : Journey) → TellsWell j → TellsWell (takes_off n j)
  takes_off_tells n j h legal = record { ends = (h legal).ends; waiting = underlay.all_left Waits (is_at (nat_cmp n)) j.waiting (h legal).waiting }

  kept_tells : (keep : Bool) (n : ℕ) (j : Journey) → TellsWell j → TellsWell (kept_or_not keep n j)
  kept_tells true n j h = h
  kept_tells false n j h = takes_off_tells n j h

  -- ---- the scene on each chassis

  there_is : (chassis : Name) → is_chassis m.config chassis ≡ true → HasChassis m.config chassis
  there_is chassis is =
      let n = any_among (λ (n : Name). same_name n chassis) m.config.chassis is in
      inl (subst (λ (x : Name). Among x m.config.chassis) ((bytes_decides n.0 chassis).0 n.2) n.1)

  arrive_before : (chassis : Name) (n : ℕ) (x : Crossing) (t : Trail) → (arrive_at (scenes_of m chassis) n x t).legal ≡ true → t.legal ≡ true
  arrive_before chassis n x t = by (is_chassis m.config chassis)
    where
      by : (b : Bool) → (arrive_at (cond b (Some (scene_at m chassis)) None) n x t).legal ≡ true → t.legal ≡ true
      by true = (arrival_later (scene_at m chassis) n x t).legal
      by false = λ l. l

  arrive_tells : (chassis : Name) (n : ℕ) (x : Crossing) (t : Trail) → TellsOf t → TellsOf (arrive_at (scenes_of m chassis) n x t)
  arrive_tells chassis n x t h = by (is_chassis m.config chassis) refl
    where
      by : (b : Bool) → is_chassis m.config chassis ≡ b → TellsOf (arrive_at (cond b (Some (scene_at m chassis)) None) n x t)
      by true is = arrival_tells (scene_at m chassis) (there_is chassis is) n x t h
      by false is = tell_tells m.config (is_lost n) t (loses n) h

  comes_as_tells : (n : ℕ) (keep : Bool) (o : Option Crossing) (j : Journey) → TellsWell j → TellsWell (comes_as (scenes_of m) n keep o j)
  comes_as_tells n keep None j h = h
  comes_as_tells n keep (Some x) j h = go_tells (arrive_at (scenes_of m x.home) n x) (arrive_before x.home n x) (arrive_tells x.home n x) (kept_or_not keep n j) (kept_tells keep n j h)

  comes_tells : (n : ℕ) (keep : Bool) (j : Journey) → TellsWell j → TellsWell (comes (scenes_of m) n keep j)
  comes_tells n keep j h = comes_as_tells n keep (waiting_at j.waiting n) j h

  -- ---- many

  drain_tells : (k : ℕ) (j : Journey) → TellsWell j → TellsWell (drain k (scenes_of m) j)
  drain_tells zero j h = h
  drain_tells (suc k) j h = by (drain k (scenes_of m)) (drain_tells k) j.waiting
    where
      by : (others : Journey → Journey) → ((i : Journey) → TellsWell i → TellsWell (others i)) → (waiting : List (ℕ × Crossing)) → TellsWell (drain_from others (scenes_of m) waiting j)
      by others tells [] = h
      by others tells (w ∷ waiting) = tells (comes (scenes_of m) w.0 false j) (comes_tells w.0 false j h)

  drain_all_tells : (j : Journey) → TellsWell j → TellsWell (drain_all (scenes_of m) j)
  drain_all_tells j h = drain_tells MAX_ARRIVALS j h

  -- ---- what an event asks

  enter_by_tells : (chassis port : Name) → HasChassis m.config chassis → (o : Option SwitchPort) → at m.config.net.switch_ports port ≡ o → (p : Packet) (j : Journey) → TellsWell j → TellsWell (enter_by (scene_at m chassis) o p j)
  enter_by_tells chassis port is_there None is p j h = h
  enter_by_tells chassis port is_there (Some i) is p j h =
      go_tells (λ t. visit (scene_at m chassis) i t p) (λ t. (visit_later (scene_at m chassis) i t p).legal) (λ t g. visit_tells (scene_at m chassis) is_there i (value_at m.config.net.switch_ports port i is) t p g) j h

  enter_scene_tells : (chassis port : Name) (p : Packet) (j : Journey) → TellsWell j → TellsWell (enter_on (scenes_of m chassis) port p j)
  enter_scene_tells chassis port p j h = by (is_chassis m.config chassis) refl
    where
      by : (b : Bool) → is_chassis m.config chassis ≡ b → TellsWell (enter_on (cond b (Some (scene_at m chassis)) None) port p j)
      by true is = enter_by_tells chassis port (there_is chassis is) (at m.config.net.switch_ports port) refl p j h
      by false is = h

  enter_at_tells : (port : Name) (p : Packet) (j : Journey) → TellsWell j → TellsWell (enter_at (places_of m) port p j)
  enter_at_tells port p j h = by (at m.config.bindings port)
    where
      by : (o : Option Name) → TellsWell (enter_on (option_and_then (scenes_of m) o) port p j)
      by None = h
      by (Some chassis) = enter_scene_tells chassis port p j h

  travel_tells : (traffic : Traffic) (j : Journey) → TellsWell j → TellsWell (travel (places_of m) traffic j)
  travel_tells (enter_one port p) j h = enter_at_tells port p j h
  travel_tells (arrive_one n keep) j h = comes_tells n keep j h
  travel_tells (lose_one n) j h = takes_off_tells n j h
  travel_tells arrive_all j h = drain_all_tells j h
  travel_tells (enter_and_arrive port p) j h = drain_all_tells (enter_at (places_of m) port p j) (enter_at_tells port p j h)

  -- where the crossings of the state wait so
  pub travels_tell : (traffic : Traffic) (ends : List End) (after : State) → AllByRecursion Waits m.waiting → Travels m traffic ends after → Tells (journey_of m traffic ends)
  travels_tell traffic ends after wait travels = travel_tells traffic (begin_journey m (choices_in ends)) (λ l. record { ends = tt; waiting = wait }) travels.legal
