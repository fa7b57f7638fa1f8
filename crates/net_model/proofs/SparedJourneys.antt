-- Journeys leave the choices that they don't need, and so choices determine them.
use Rattle.std.specs.Prelude.{◌≡◌, ◌++◌, ℕ, zero, suc, Bool, true, false, List, [], ◌∷◌, Option, Some, None, refl}
use Rattle.std.proofs.Common.{sym, ap, ◌∙◌}
use Rattle.std.specs.Option.{option_and_then}
use Rattle.conn_table.specs.Picks.{Choice}
use Rattle.inet_packet.specs.declared.packet.Packet.{Packet}
use Rattle.nb_records.specs.Routers.{switch_side, router_side}
use Rattle.nb_records.specs.declared.switch.SwitchPort.{SwitchPort}
use Rattle.ovn_base.specs.declared.limits.TheConstants.{MAX_ARRIVALS, MAX_HOPS}
use Rattle.ovn_base.specs.declared.name.Name.{Name}
use Rattle.ovn_base.specs.names.ByName.{at}
use Rattle.net_model.proofs.RouterSpares.{into_router_spares}
use Rattle.net_model.proofs.SpareLaws.{with_more, TrailSpares, WaySpares, OnwardSpares, finally_spares}
use Rattle.net_model.proofs.SwitchSpares.{enter_spares, leave_spares, copies_spare, send_to_spares}
use Rattle.net_model.specs.Arrival.{is_switch, port_reached, members_reached, reach_port, reach, reach_if, arrival}
use Rattle.net_model.specs.Entry.{Scene, Onward, enter}
use Rattle.net_model.specs.Journey.{Journey, Scenes, without_ends, joined_by, go, goes_in, waiting_at, takes_off, kept_or_not, arrive_at, comes_as, comes, drain_from, drain, drain_all, Traffic, enter_one, arrive_one, lose_one, arrive_all, enter_and_arrive, Places, enter_by, enter_on, enter_at, travel, places_of, begin_journey, journey_of, ended_journey, Travels}
use Rattle.net_model.specs.State.{State}
use Rattle.net_model.specs.Targets.{members, target_of}
use Rattle.net_model.specs.Trail.{Trail, End, choices_in}
use Rattle.net_model.specs.Visit.{switch_named, send_on, into_switch, passing, passing_on, visit}
use Rattle.net_model.specs.declared.crossing.Aim.{Aim}
use Rattle.net_model.specs.declared.crossing.Aim.TheVariants.{ToPort, ToGroup}
use Rattle.net_model.specs.declared.crossing.Crossing.{Crossing}

-- ---- visits and arrivals

into_switch_spares : (onward : Onward) (s : Scene) → OnwardSpares onward → (i : SwitchPort) → WaySpares (into_switch onward s i)
into_switch_spares onward s spares i more t p = finally_spares (enter s i) (send_on onward s i) (enter_spares s i) sent more t p
  where
    sent : WaySpares (send_on onward s i)
    sent more u q = send_to_spares onward s spares (target_of s.config.net i q) (record { switch = switch_named s.config.net i.switch; port = i }) more u q

passing_spares : (left : ℕ) (s : Scene) → OnwardSpares (passing left s)
passing_spares zero s spot None more t p = λ legal. (legal, refl)
passing_spares (suc left) s spot None more t p = λ legal. (legal, refl)
passing_spares zero s spot (Some partner) more t p = λ legal. (legal, refl)
passing_spares (suc left) s spot (Some (switch_side q)) more t p = into_switch_spares (passing left s) s (passing_spares left s) q more t p
passing_spares (suc left) s spot (Some (router_side r)) more t p = into_router_spares (passing left s) s (passing_spares left s) r more t p

visit_spares : (s : Scene) (i : SwitchPort) → WaySpares (visit s i)
visit_spares s i more t p = into_switch_spares (passing_on s) s (passing_spares MAX_HOPS s) i more t p

reach_port_spares : (s : Scene) (n : ℕ) (x : Crossing) (o : Option SwitchPort) (more : List Choice) (t : Trail) → TrailSpares more t (reach_port s n x o t) (reach_port s n x o (with_more more t))
reach_port_spares s n x None more t = λ legal. (legal, refl)
reach_port_spares s n x (Some q) more t = leave_spares (passing_on s) s (passing_spares MAX_HOPS s) x.in_port q more t x.packet

reach_spares : (s : Scene) (n : ℕ) (x : Crossing) (aim : Aim) (more : List Choice) (t : Trail) → TrailSpares more t (reach s n x aim t) (reach s n x aim (with_more more t))
reach_spares s n x (ToPort id) more t = reach_port_spares s n x (port_reached s id (at s.config.net.switch_ports id.name)) more t
reach_spares s n x (ToGroup g) more t = copies_spare (passing_on s) s (passing_spares MAX_HOPS s) x.in_port (members_reached s x.in_port (members s.config.net x.datapath.name g)) more t x.packet

reach_if_spares : (b : Bool) (s : Scene) (n : ℕ) (x : Crossing) (more : List Choice) (t : Trail) → TrailSpares more t (reach_if b s n x t) (reach_if b s n x (with_more more t))
reach_if_spares true s n x more t = reach_spares s n x x.aim more t
reach_if_spares false s n x more t = λ legal. (legal, refl)

arrive_spares : (o : Option Scene) (n : ℕ) (x : Crossing) (more : List Choice) (t : Trail) → TrailSpares more t (arrive_at o n x t) (arrive_at o n x (with_more more t))
arrive_spares None n x more t = λ legal. (legal, refl)
arrive_spares (Some s) n x more t = reach_if_spares (is_switch s.config.net x.datapath) s n x more t

-- ---- journeys

-- these choices stand behind those that are left
abbrev journey_with_more : List Choice → Journey → Journey
journey_with_more more j = record j { trail = with_more more j.trail }

-- where the journey is legal it was so before, and with more choices behind the others it is the same and leaves those
abbrev Spares : (Journey → Journey) → Type 0
Spares f = (more : List Choice) (j : Journey) → (f j).trail.legal ≡ true → (j.trail.legal ≡ true) × (f (journey_with_more more j) ≡ journey_with_more more (f j))

both_spare : (f g : Journey → Journey) → Spares f → Spares g → Spares (λ j. g (f j))
both_spare f g h k more j = λ legal.
    let rest = k more (f j) legal in
    let first = h more j rest.0 in
    (first.0, ap g first.1 ∙ rest.1)

go_spares : (way : Trail → Trail) → ((more : List Choice) (t : Trail) → TrailSpares more t (way t) (way (with_more more t))) → Spares (go way)
go_spares way h more j = λ legal. let one = h more (without_ends j.trail) legal in (one.0, ap (λ (u : Trail). joined_by (journey_with_more more j) u) one.1)

goes_in_spares : (scene : Scene) (i : SwitchPort) (p : Packet) → Spares (goes_in scene i p)
goes_in_spares scene i p more j = go_spares (λ t. visit scene i t p) (λ more t. visit_spares scene i more t p) more j

comes_as_spares : (scenes : Scenes) (n : ℕ) (keep : Bool) (o : Option Crossing) → Spares (comes_as scenes n keep o)
comes_as_spares scenes n keep None more j = λ legal. (legal, refl)
comes_as_spares scenes n true (Some x) more j = go_spares (arrive_at (scenes x.home) n x) (arrive_spares (scenes x.home) n x) more j
comes_as_spares scenes n false (Some x) more j = go_spares (arrive_at (scenes x.home) n x) (arrive_spares (scenes x.home) n x) more (takes_off n j)

comes_spares : (scenes : Scenes) (n : ℕ) (keep : Bool) → Spares (comes scenes n keep)
comes_spares scenes n keep more j = comes_as_spares scenes n keep (waiting_at j.waiting n) more j

drain_spares : (k : ℕ) (scenes : Scenes) → Spares (drain k scenes)
drain_spares zero scenes more j = λ legal. (legal, refl)
drain_spares (suc k) scenes more j = by (drain k scenes) (drain_spares k scenes) j.waiting
  where
    by : (others : Journey → Journey) → Spares others → (waiting : List (ℕ × Crossing)) → (drain_from others scenes waiting j).trail.legal ≡ true
        → (j.trail.legal ≡ true) × (drain_from others scenes waiting (journey_with_more more j) ≡ journey_with_more more (drain_from others scenes waiting j))
    by others spare [] = λ legal. (legal, refl)
    by others spare (w ∷ waiting) = both_spare (comes scenes w.0 false) others (comes_spares scenes w.0 false) spare more j

drain_all_spares : (scenes : Scenes) → Spares (drain_all scenes)
drain_all_spares scenes = drain_spares MAX_ARRIVALS scenes

enter_by_spares : (scene : Scene) (o : Option SwitchPort) (p : Packet) → Spares (enter_by scene o p)
enter_by_spares scene None p more j = λ legal. (legal, refl)
enter_by_spares scene (Some i) p more j = goes_in_spares scene i p more j

enter_on_spares : (o : Option Scene) (port : Name) (p : Packet) → Spares (enter_on o port p)
enter_on_spares None port p more j = λ legal. (legal, refl)
enter_on_spares (Some scene) port p more j = enter_by_spares scene (at scene.config.net.switch_ports port) p more j

enter_at_spares : (places : Places) (port : Name) (p : Packet) → Spares (enter_at places port p)
enter_at_spares places port p more j = enter_on_spares (option_and_then places.scenes (at places.bindings port)) port p more j

travel_spares : (places : Places) (traffic : Traffic) → Spares (travel places traffic)
travel_spares places (enter_one port p) more j = enter_at_spares places port p more j
travel_spares places (arrive_one n keep) more j = comes_spares places.scenes n keep more j
travel_spares places (lose_one n) more j = λ legal. (legal, refl)
travel_spares places arrive_all more j = drain_all_spares places.scenes more j
travel_spares places (enter_and_arrive port p) more j = both_spare (enter_at places port p) (drain_all places.scenes) (enter_at_spares places port p) (drain_all_spares places.scenes) more j

-- ---- determined

-- with more choices behind its own the journey has the same ends, leads to the same state, and leaves those
module _ (m : State) (traffic : Traffic) (ends : List End) (after : State) (g : Travels m traffic ends after) (more : List Choice) where
  longer : Journey
  longer = travel (places_of m) traffic (begin_journey m (choices_in ends ++ more))

  longer_is : longer ≡ journey_with_more more (journey_of m traffic ends)
  unfolding longer
  longer_is = (travel_spares (places_of m) traffic more (begin_journey m (choices_in ends)) g.legal).1

  same_ends : ends ≡ longer.trail.ends
  same_ends = g.ends_are ∙ ap (λ (j : Journey). j.trail.ends) (sym longer_is)

  same_state : after ≡ ended_journey m longer
  same_state = g.state ∙ ap (λ (j : Journey). ended_journey m j) (sym longer_is)

  same_left : more ≡ longer.trail.choices
  same_left = ap (λ (cs : List Choice). cs ++ more) (sym g.used) ∙ ap (λ (j : Journey). j.trail.choices) (sym longer_is)

-- the same packets with the same choices have the same ends, lead to the same state, and leave the same choices
pub same_travels : (m : State) (traffic : Traffic) (es fs : List End) (a b : State) (left more : List Choice) → Travels m traffic es a → Travels m traffic fs b
    → choices_in es ++ left ≡ choices_in fs ++ more → (es ≡ fs) × (a ≡ b) × (left ≡ more)
unfolding longer
same_travels m traffic es fs a b left more g h same =
    let one : longer m traffic es a g left ≡ longer m traffic fs b h more = ap (λ (cs : List Choice). travel (places_of m) traffic (begin_journey m cs)) same in (
      same_ends m traffic es a g left ∙ ap (λ (j : Journey). j.trail.ends) one ∙ sym (same_ends m traffic fs b h more),
      same_state m traffic es a g left ∙ ap (λ (j : Journey). ended_journey m j) one ∙ sym (same_state m traffic fs b h more),
      same_left m traffic es a g left ∙ ap (λ (j : Journey). j.trail.choices) one ∙ sym (same_left m traffic fs b h more),
    )
