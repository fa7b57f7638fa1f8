-- What is told of one event after another, where each packet meets one verdict: what the rules say stands apart, and all else computes.
use Rattle.std.specs.Prelude.{◌≡◌, ℕ, ◌+◌, true, false, List, [], ◌∷◌, Some, None, flat_map}
use Rattle.std.specs.Option.{option_and_then}
use Rattle.std.proofs.Common.{refl, ap, ◌∙◌}
use Rattle.inet_packet.specs.declared.packet.Packet.{Packet}
use Rattle.match_language.specs.declared.field.Direction.TheVariants.{FromLport, ToLport}
use Rattle.nb_records.specs.Editing.{accepted}
use Rattle.nb_records.specs.declared.change.Op.{Op}
use Rattle.nb_records.specs.declared.switch.SwitchPort.{SwitchPort}
use Rattle.ovn_base.specs.declared.name.Name.{Name}
use Rattle.ovn_base.specs.names.ByName.{at}
use Rattle.tunnel_keys.specs.declared.owner.Identity.{Identity}
use Rattle.net_model.specs.declared.crossing.Aim.TheVariants.{ToPort}
use Rattle.net_model.specs.declared.crossing.Crossing.{Crossing}
use Rattle.net_model.specs.Arrival.{is_switch, port_reached, reach_if, reach_port, arrival}
use Rattle.net_model.specs.Entry.{Scene, admission, security_in, sight_in, secure_in, judge_in}
use Rattle.net_model.specs.Exit.{exit_denial, sight_out, secure_out, judge_out, give_out}
use Rattle.net_model.specs.Journey.{Journey, enter_one, arrive_one, waiting_at, takes_off, arrive_at, comes_as, scenes_of, without_ends, joined_by, go, scene_at, enter_by, enter_on, begin_journey, ended_journey}
use Rattle.net_model.specs.State.{State, finished, clocked, event_count}
use Rattle.net_model.specs.Tracking.{Passage, pass}
use Rattle.net_model.specs.Trail.{Trail, spot_of, then, finally, unless}
use Rattle.net_model.specs.Transition.{turned_by, bind, unbind, add_chassis, remove_chassis, edit, mark_backend}
use Rattle.net_model.specs.Verdict.{Verdict, verdict_of}
use Rattle.net_model.specs.Visit.{passing_on, send_on, visit}
use Rattle.model_rows.specs.Play.{RowEvent, edited, bound, unbound, chassis_added, chassis_removed, marked, passed, went, RowLine, Told, told, wanted, choices_in_line, tell_and, all_told}

-- ---- a packet enters

module _ (s : Scene) (i : SwitchPort) (t : Trail) (p : Packet) (v : Verdict) where
  abbrev pub passage_by : Passage
  passage_by = record { net = s.config.net; now = s.now; way = FromLport; port = i; verdict = v }

  abbrev pub visit_with : Trail
  visit_with = finally (pass passage_by t p) (send_on (passing_on s) s i)

  pub enters_with : admission i p ≡ None → security_in i p ≡ None → verdict_of s.config.net i.switch FromLport (sight_in i p) ≡ v → visit s i t p ≡ visit_with
  enters_with admitted secure says =
      ap (λ c. finally (then (unless c (spot_of i) t p) (secure_in s i)) (send_on (passing_on s) s i)) admitted
      ∙ ap (λ c. finally (then (unless c (spot_of i) t p) (judge_in s i)) (send_on (passing_on s) s i)) secure
      ∙ ap (λ w. finally (pass (record { net = s.config.net; now = s.now; way = FromLport; port = i; verdict = w }) t p) (send_on (passing_on s) s i)) says

-- ---- a packet arrives at a port

abbrev pub crossing : Identity → Identity → Identity → Name → Packet → Crossing
crossing switch came id home p = record { datapath = switch; in_port = came; aim = ToPort id; home = home; packet = p }

module _ (s : Scene) (n : ℕ) (switch came id : Identity) (home : Name) (q : SwitchPort) (t : Trail) (p : Packet) (v : Verdict) where
  abbrev pub arrival_with : Trail
  arrival_with =
      finally (then (pass (record { net = s.config.net; now = s.now; way = ToLport; port = q; verdict = v }) t p) (secure_out q)) (give_out (passing_on s) s.config.net q q.kind)

  pub arrives_with : is_switch s.config.net switch ≡ true → port_reached s id (at s.config.net.switch_ports id.name) ≡ Some q → exit_denial q ≡ None
      → verdict_of s.config.net q.switch ToLport (sight_out came q p) ≡ v → arrival s n (crossing switch came id home p) t ≡ arrival_with
  arrives_with there reached enabled says =
      ap (λ b. reach_if b s n (crossing switch came id home p) t) there
      ∙ ap (λ o. reach_port s n (crossing switch came id home p) o t) reached
      ∙ ap (λ c. finally (then (unless c (spot_of q) t p) (judge_out s came q)) (give_out (passing_on s) s.config.net q q.kind)) enabled
      ∙ ap (λ w. finally (then (pass (record { net = s.config.net; now = s.now; way = ToLport; port = q; verdict = w }) t p) (secure_out q)) (give_out (passing_on s) s.config.net q q.kind)) says

-- ---- events

abbrev pub began : State → List RowLine → Journey
began m lines = begin_journey m (flat_map choices_in_line lines)

abbrev pub trail_at : State → List RowLine → Trail
trail_at m lines = without_ends (began m lines).trail

-- the events that move no packet, one after another
abbrev pub quiet_after : List RowEvent → State → State
quiet_after [] m = m
quiet_after (edited ops ∷ events) m = quiet_after events (finished (turned_by (edit m.config (accepted m.config.net ops (event_count m + 1))) m))
quiet_after (bound port chassis ∷ events) m = quiet_after events (finished (turned_by (bind m.config port chassis) m))
quiet_after (unbound port ∷ events) m = quiet_after events (finished (turned_by (unbind m.config port) m))
quiet_after (chassis_added chassis ∷ events) m = quiet_after events (finished (turned_by (add_chassis m.config chassis) m))
quiet_after (chassis_removed chassis ∷ events) m = quiet_after events (finished (turned_by (remove_chassis m.config chassis) m))
quiet_after (marked balancer backend online ∷ events) m = quiet_after events (finished (turned_by (mark_backend m.config balancer backend online) m))
quiet_after (passed seconds ∷ events) m = quiet_after events (finished (clocked seconds m))
quiet_after (went traffic lines ∷ events) m = m

-- what is told of the events from the state on
pub record Tells (events : List RowEvent) (m : State) (ws : List Told) : Type 0 where
  pub told_so : all_told events m ≡ ws

pub ends : (m : State) → Tells [] m []
unfolding all_told
ends m = record { told_so = refl }

pub binds : {rest : List RowEvent} {ws : List Told} (m : State) (port chassis : Name) → Tells rest (quiet_after (bound port chassis ∷ []) m) ws → Tells (bound port chassis ∷ rest) m ws
unfolding all_told
binds m port chassis h = record { told_so = h.told_so }

pub unbinds : {rest : List RowEvent} {ws : List Told} (m : State) (port : Name) → Tells rest (quiet_after (unbound port ∷ []) m) ws → Tells (unbound port ∷ rest) m ws
unfolding all_told
unbinds m port h = record { told_so = h.told_so }

pub chassis_comes : {rest : List RowEvent} {ws : List Told} (m : State) (chassis : Name) → Tells rest (quiet_after (chassis_added chassis ∷ []) m) ws → Tells (chassis_added chassis ∷ rest) m ws
unfolding all_told
chassis_comes m chassis h = record { told_so = h.told_so }

pub chassis_goes : {rest : List RowEvent} {ws : List Told} (m : State) (chassis : Name) → Tells rest (quiet_after (chassis_removed chassis ∷ []) m) ws → Tells (chassis_removed chassis ∷ rest) m ws
unfolding all_told
chassis_goes m chassis h = record { told_so = h.told_so }

pub edits : {rest : List RowEvent} {ws : List Told} (m : State) (ops : List Op) → Tells rest (quiet_after (edited ops ∷ []) m) ws → Tells (edited ops ∷ rest) m ws
unfolding all_told
edits m ops h = record { told_so = h.told_so }

pub passes : {rest : List RowEvent} {ws : List Told} (m : State) (seconds : ℕ) → Tells rest (quiet_after (passed seconds ∷ []) m) ws → Tells (passed seconds ∷ rest) m ws
unfolding all_told
passes m seconds h = record { told_so = h.told_so }

abbrev pub journey_in : State → List RowLine → SwitchPort → Name → Packet → Verdict → Journey
journey_in m lines i here p v = joined_by (began m lines) (visit_with (scene_at m here) i (trail_at m lines) p v)

-- the packet enters at port i, which is bound to `here`, and the rules say v
pub enters : {port : Name} {rest : List RowEvent} {ws : List Told} (m : State) (lines : List RowLine) (i : SwitchPort) (here : Name) (p : Packet) (v : Verdict)
    → at m.config.bindings port ≡ Some here → scenes_of m here ≡ Some (scene_at m here) → at m.config.net.switch_ports port ≡ Some i → admission i p ≡ None → security_in i p ≡ None
    → verdict_of m.config.net i.switch FromLport (sight_in i p) ≡ v → told (journey_in m lines i here p v) ≡ wanted lines
    → Tells rest (finished (ended_journey m (journey_in m lines i here p v))) ws
    → Tells (went (enter_one port p) lines ∷ rest) m (wanted lines ∷ ws)
unfolding all_told
enters {port} {rest} m lines i here p v is_bound is_home is_i admitted secure says tells others =
    record {
      told_so = ap (λ x. tell_and (all_told rest) m (enter_on (option_and_then (scenes_of m) x) port p (began m lines))) is_bound
          ∙ ap (λ x. tell_and (all_told rest) m (enter_on x port p (began m lines))) is_home
          ∙ ap (λ x. tell_and (all_told rest) m (enter_by (scene_at m here) x p (began m lines))) is_i
          ∙ ap (λ t. tell_and (all_told rest) m (joined_by (began m lines) t)) (enters_with (scene_at m here) i (trail_at m lines) p v admitted secure says)
          ∙ (λ k. tells k ∷ others.told_so k);
    }

abbrev pub left : State → List RowLine → ℕ → Journey
left m lines n = takes_off n (began m lines)

abbrev pub journey_out : State → List RowLine → ℕ → Identity → Identity → Identity → Name → SwitchPort → Packet → Verdict → Journey
journey_out m lines n switch came id home q p v = joined_by (left m lines n) (arrival_with (scene_at m home) n switch came id home q (without_ends (left m lines n).trail) p v)

-- the crossing to q arrives on the chassis `home`, and the rules say v
pub arrives : {rest : List RowEvent} {ws : List Told} (m : State) (lines : List RowLine) (n : ℕ) (switch came id : Identity) (home : Name) (q : SwitchPort) (p : Packet) (v : Verdict)
    → waiting_at m.waiting n ≡ Some (crossing switch came id home p) → scenes_of m home ≡ Some (scene_at m home) → is_switch m.config.net switch ≡ true
    → port_reached (scene_at m home) id (at m.config.net.switch_ports id.name) ≡ Some q → exit_denial q ≡ None
    → verdict_of m.config.net q.switch ToLport (sight_out came q p) ≡ v → told (journey_out m lines n switch came id home q p v) ≡ wanted lines
    → Tells rest (finished (ended_journey m (journey_out m lines n switch came id home q p v))) ws
    → Tells (went (arrive_one n false) lines ∷ rest) m (wanted lines ∷ ws)
unfolding all_told
arrives {rest} m lines n switch came id home q p v waits is_home there reached enabled says tells others =
    record {
      told_so = ap (λ x. tell_and (all_told rest) m (comes_as (scenes_of m) n false x (began m lines))) waits
          ∙ ap (λ o. tell_and (all_told rest) m (go (arrive_at o n (crossing switch came id home p)) (left m lines n))) is_home
          ∙ ap (λ t. tell_and (all_told rest) m (joined_by (left m lines n) t)) (arrives_with (scene_at m home) n switch came id home q (without_ends (left m lines n).trail) p v there reached enabled says)
          ∙ (λ k. tells k ∷ others.told_so k);
    }
