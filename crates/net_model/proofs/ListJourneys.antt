-- Journeys keep connection lists.
use Rattle.std.specs.Prelude.{◌≡◌, ℕ, zero, suc, Bool, true, false, List, [], ◌∷◌, Option, Some, None, cond, refl}
use Rattle.std.proofs.Common.{sym, subst}
use Rattle.std.specs.Option.{option_and_then}
use Rattle.inet_packet.specs.declared.packet.Packet.{Packet}
use Rattle.nb_records.specs.declared.switch.SwitchPort.{SwitchPort}
use Rattle.ovn_base.specs.declared.limits.TheConstants.{MAX_ARRIVALS}
use Rattle.ovn_base.specs.declared.name.Name.{Name}
use Rattle.ovn_base.specs.names.ByName.{at}
use Rattle.net_model.proofs.ListLaws.{leads_keep}
use Rattle.net_model.proofs.VisitLeads.{visit_leads, arrival_leads}
use Rattle.net_model.specs.Config.{is_chassis}
use Rattle.net_model.specs.Entry.{Scene}
use Rattle.net_model.specs.Journey.{Journey, Scenes, without_ends, waiting_at, arrive_at, comes_as, comes, drain_from, drain, drain_all, Traffic, enter_one, arrive_one, lose_one, arrive_all, enter_and_arrive, Places, enter_by, enter_on, enter_at, travel, scene_at, scenes_of, places_of, begin_journey, Travels}
use Rattle.net_model.specs.Leads.{Leads}
use Rattle.net_model.specs.ListsAt.{AreListsAt}
use Rattle.net_model.specs.State.{State}
use Rattle.net_model.specs.Trail.{Trail, End, choices_in}
use Rattle.net_model.specs.Visit.{visit}
use Rattle.net_model.specs.declared.crossing.Crossing.{Crossing}

-- the scene, if there is one, is at this time
abbrev IsThen : ℕ → Option Scene → Type 0
IsThen now None = Unit {0}
IsThen now (Some scene) = scene.now ≡ now

-- so are all
abbrev AreThen : ℕ → Scenes → Type 0
AreThen now scenes = (chassis : Name) → IsThen now (scenes chassis)

abbrev Keep : ℕ → Journey → Journey → Type 0
Keep now i j = AreListsAt now i.trail.lists → AreListsAt now j.trail.lists

-- a way at the time keeps lists
way_keeps : (now then : ℕ) → then ≡ now → (t u : Trail) → Leads then t u → AreListsAt now t.lists → AreListsAt now u.lists
way_keeps now then same t u leads = leads_keep (subst (λ n. Leads n t u) same leads)

module _ (now : ℕ) (scenes : Scenes) (are : AreThen now scenes) where
  arrived_keep : (o : Option Scene) → IsThen now o → (n : ℕ) (x : Crossing) (t : Trail) → AreListsAt now t.lists → AreListsAt now (arrive_at o n x t).lists
  arrived_keep None is n x t h = h
  arrived_keep (Some scene) is n x t h = way_keeps now scene.now is t (arrive_at (Some scene) n x t) (arrival_leads scene n x t) h

  came_keep : (n : ℕ) (keep : Bool) (o : Option Crossing) (j : Journey) → Keep now j (comes_as scenes n keep o j)
  came_keep n keep None j h = h
  came_keep n true (Some x) j h = arrived_keep (scenes x.home) (are x.home) n x (without_ends j.trail) h
  came_keep n false (Some x) j h = arrived_keep (scenes x.home) (are x.home) n x (without_ends j.trail) h

  comes_keep : (n : ℕ) (keep : Bool) (j : Journey) → Keep now j (comes scenes n keep j)
  comes_keep n keep j = came_keep n keep (waiting_at j.waiting n) j

  drain_keep : (k : ℕ) (j : Journey) → Keep now j (drain k scenes j)
  drain_keep zero j h = h
  drain_keep (suc k) j h = by (drain k scenes) (drain_keep k) j.waiting h
    where
      by : (others : Journey → Journey) → ((i : Journey) → Keep now i (others i)) → (waiting : List (ℕ × Crossing)) → Keep now j (drain_from others scenes waiting j)
      by others later [] h = h
      by others later (w ∷ waiting) h = later (comes scenes w.0 false j) (comes_keep w.0 false j h)

  drain_all_keep : (j : Journey) → Keep now j (drain_all scenes j)
  drain_all_keep j = drain_keep MAX_ARRIVALS j

enter_by_keep : (now : ℕ) (scene : Scene) → scene.now ≡ now → (o : Option SwitchPort) (p : Packet) (j : Journey) → Keep now j (enter_by scene o p j)
enter_by_keep now scene is None p j h = h
enter_by_keep now scene is (Some i) p j h = way_keeps now scene.now is (without_ends j.trail) (visit scene i (without_ends j.trail) p) (visit_leads scene i (without_ends j.trail) p) h

enter_on_keep : (now : ℕ) (o : Option Scene) → IsThen now o → (port : Name) (p : Packet) (j : Journey) → Keep now j (enter_on o port p j)
enter_on_keep now None is port p j h = h
enter_on_keep now (Some scene) is port p j h = enter_by_keep now scene is (at scene.config.net.switch_ports port) p j h

scene_then : (now : ℕ) (scenes : Scenes) → AreThen now scenes → (o : Option Name) → IsThen now (option_and_then scenes o)
scene_then now scenes are None = tt
scene_then now scenes are (Some chassis) = are chassis

enter_at_keep : (now : ℕ) (places : Places) → AreThen now places.scenes → (port : Name) (p : Packet) (j : Journey) → Keep now j (enter_at places port p j)
enter_at_keep now places are port p j = enter_on_keep now (option_and_then places.scenes (at places.bindings port)) (scene_then now places.scenes are (at places.bindings port)) port p j

travel_keep : (now : ℕ) (places : Places) → AreThen now places.scenes → (traffic : Traffic) (j : Journey) → Keep now j (travel places traffic j)
travel_keep now places are (enter_one port p) j h = enter_at_keep now places are port p j h
travel_keep now places are (arrive_one n keep) j h = comes_keep now places.scenes are n keep j h
travel_keep now places are (lose_one n) j h = h
travel_keep now places are arrive_all j h = drain_all_keep now places.scenes are j h
travel_keep now places are (enter_and_arrive port p) j h = drain_all_keep now places.scenes are (enter_at places port p j) (enter_at_keep now places are port p j h)

scenes_then : (m : State) → AreThen m.clock (scenes_of m)
scenes_then m chassis = by (is_chassis m.config chassis)
  where
    by : (b : Bool) → IsThen m.clock (cond b (Some (scene_at m chassis)) None)
    by true = refl
    by false = tt

pub travels_keep : (m : State) (traffic : Traffic) (ends : List End) (after : State) → Travels m traffic ends after → AreListsAt m.clock m.lists → AreListsAt after.clock after.lists
travels_keep m traffic ends after travels h =
    subst (λ (n : State). AreListsAt n.clock n.lists) (sym travels.state)
    (travel_keep m.clock (places_of m) (scenes_then m) traffic (begin_journey m (choices_in ends)) h)
