-- The actions of the stages of state do what the model says of a packet that passes a port.
use Rattle.std.specs.Prelude.{◌≡◌, ◌&&◌, ℕ, Bool, true, false, List, [], ◌∷◌, filter, Option, Some, None, cond, ⊤}
use Rattle.std.specs.Option.{option_and_then}
use Rattle.std.proofs.Common.{refl, ap, ◌∙◌, subst}
use Rattle.conn_table.specs.Connections.{ConnectionList, entry_of, answered}
use Rattle.conn_table.specs.Picks.{is_free_backend}
use Rattle.conn_table.specs.Tracking.{Seen, forward, reply, invalid, new, seen, seen_tuple, seen_as_forward, seen_as_reply}
use Rattle.conn_table.specs.Tuples.{tuple_of, is_echo_reply}
use Rattle.conn_table.specs.declared.connection.Entry.{Entry}
use Rattle.conn_table.specs.declared.tuple.Tuple.{Tuple}
use Rattle.flow_table.specs.declared.flow.Cause.{Cause}
use Rattle.flow_table.specs.declared.flow.Cause.TheVariants as cause
use Rattle.flow_table.specs.declared.flow.ZoneOf.TheVariants as zone
use Rattle.inet_packet.specs.declared.packet.Packet.{Packet}
use Rattle.match_language.specs.declared.field.Direction.{Direction}
use Rattle.match_language.specs.declared.field.Direction.TheVariants.{FromLport, ToLport}
use Rattle.nb_records.specs.Network.{Network, is_online}
use Rattle.nb_records.specs.Switches.{is_stateful}
use Rattle.nb_records.specs.declared.switch.SwitchPort.{SwitchPort}
use Rattle.logical_flows.specs.declared.action.Action.{Action}
use Rattle.logical_flows.specs.declared.action.Action.TheVariants as a
use Rattle.logical_flows.specs.declared.stage.Stage.{Stage}
use Rattle.net_model.specs.Balancing.{Service, service_for, pick_backend}
use Rattle.net_model.specs.Tracking.{Passage, desk_of, is_tracked, is_stateless, denial, begin, begin_to, take, take_new, take_forward, take_reply, track_unless, pass_if}
use Rattle.net_model.specs.Trail.{Trail, of_port, list_of, spot_of, Point, goes, stops, then, unless}
use Rattle.net_model.specs.Verdict.{Verdict}
use Rattle.row_laws.specs.Copies.{Words, not_sought}
use Rattle.row_laws.specs.Passages.{PassesAs, PassLaw, finding_of, is_seen_blocked, seen_at, carried_out, free_backends, state_stage}
use Rattle.row_laws.specs.StageActions.{unless_dropped, invalid_cause, reply_actions, forward_actions, new_actions, found_actions, state_actions, begin_with, begin_in}

-- ---- seeing

-- where the packet is new, this is the tuple that it may begin a connection with
abbrev IfNew : Seen → Option Tuple → Type 0
IfNew (new tuple) o = o ≡ Some tuple
IfNew _ o = ⊤

new_tuple : (list : ConnectionList) (p : Packet) → IfNew (seen list p) (tuple_of p)
new_tuple list p = by (tuple_of p)
  where
    by_echo : (t : Tuple) (b : Bool) → IfNew (cond b invalid (new t)) (Some t)
    by_echo t true = tt
    by_echo t false = refl

    by_answered : (t : Tuple) (o : Option Entry) → IfNew (seen_as_reply t o) (Some t)
    by_answered t (Some e) = tt
    by_answered t None = by_echo t (is_echo_reply t.protocol)

    by_entry : (t : Tuple) (o : Option Entry) → IfNew (seen_as_forward list t o) (Some t)
    by_entry t (Some e) = tt
    by_entry t None = by_answered t (answered list t)

    by : (o : Option Tuple) → IfNew (seen_tuple list o) o
    by (Some t) = by_entry t (entry_of list t)
    by None = tt

-- ---- pieces

-- nothing more to do after a piece of the way
pub then_goes : (x : Point) → then x (λ t p. goes t p) ≡ x
then_goes (goes t p) = refl
then_goes (stops t) = refl

-- to choose among some of those that are online is to choose among the online ones that are so
pub both_filters : {X : Type 0} → (one other : X → Bool) (xs : List X) → filter one (filter other xs) ≡ filter (λ x. other x && one x) xs
both_filters {X} one other [] = refl
both_filters {X} one other (x ∷ xs) = by (both_filters one other xs) (other x)
  where
    rest : List X
    rest = filter (λ y. other y && one y) xs

    by : filter one (filter other xs) ≡ rest → (b : Bool) → filter one (cond b (x ∷ filter other xs) (filter other xs)) ≡ cond (b && one x) (x ∷ rest) rest
    by same true = ap (λ ys. cond (one x) (x ∷ ys) ys) same
    by same false = same

module _ (g : Passage) (t : Trail) (p : Packet) (s : Stage) where
  pub unless_done : (seen_as : Seen) (o : Option Cause) → carried_out g seen_as None t p (unless_dropped s o) ≡ unless o (spot_of g.port) t p
  unless_done seen_as None = refl
  unless_done seen_as (Some why) = refl

  reply_done : (e : Entry) (b : Bool) → carried_out g (reply e) None t p (reply_actions s b) ≡ take_reply b g e t p
  reply_done e true = refl
  reply_done e false = refl

  forward_done : (e : Entry) (o : Option Cause) → carried_out g (forward e) None t p (forward_actions s o) ≡ take_forward o g e t p
  forward_done e None = refl
  forward_done e (Some why) = refl

  cause_same : (b : Bool) (v : Verdict) → invalid_cause b v ≡ cond b (Some cause.Invalid) (denial v)
  cause_same true v = refl
  cause_same false v = refl

  new_done : (begins : Action) (tuple : Tuple) → carried_out g (new tuple) None t p (begins ∷ unless_dropped s None) ≡ begin g.way g tuple t p
      → (o : Option Cause) → carried_out g (new tuple) None t p (new_actions s begins o) ≡ take_new o g tuple t p
  new_done begins tuple same None = same
  new_done begins tuple same (Some why) = refl

  taken : (begins : Action) (w : Words) → w.verdict ≡ g.verdict → (x : Seen) → w.blocked ≡ is_seen_blocked x
      → ((tuple : Tuple) → x ≡ new tuple → carried_out g (new tuple) None t p (begins ∷ unless_dropped s None) ≡ begin g.way g tuple t p)
      → carried_out g x None t p (found_actions s (is_stateful g.net g.port.switch) begins w (finding_of x)) ≡ take g x t p
  taken begins w v invalid b same =
      ap (λ o. carried_out g invalid None t p (unless_dropped s o)) (ap (invalid_cause (is_stateful g.net g.port.switch)) v ∙ cause_same (is_stateful g.net g.port.switch) g.verdict)
      ∙ unless_done invalid (cond (is_stateful g.net g.port.switch) (Some cause.Invalid) (denial g.verdict))
  taken begins w v (reply e) b same = ap (λ c. carried_out g (reply e) None t p (reply_actions s c)) b ∙ reply_done e e.blocked
  taken begins w v (forward e) b same = ap (λ c. carried_out g (forward e) None t p (forward_actions s (denial c))) v ∙ forward_done e (denial g.verdict)
  taken begins w v (new tuple) b same =
      ap (λ c. carried_out g (new tuple) None t p (new_actions s begins (denial c))) v ∙ new_done begins tuple (same tuple refl) (denial g.verdict)

-- ---- any packet

module _ (g : Passage) (t : Trail) (p : Packet) (s : Stage) (begins : Action) where
  -- a packet that is tracked, under a verdict that is stateless or not
  tracked_done : (x : Seen)
      → carried_out g x None t p (found_actions s (is_stateful g.net g.port.switch) begins (record { tracked = true; verdict = g.verdict; finding = finding_of x; blocked = is_seen_blocked x }) (finding_of x)) ≡ take g x t p
      → (b : Bool)
      → carried_out g x None t p (cond b (unless_dropped s None) (found_actions s (is_stateful g.net g.port.switch) begins (record { tracked = true; verdict = g.verdict; finding = finding_of x; blocked = is_seen_blocked x }) (finding_of x)))
      ≡ cond b (goes t p) (take g x t p)
  tracked_done x same true = refl
  tracked_done x same false = same

  track_same : (b : Bool) → cond b (goes t p) (take g (seen_at g t p) t p) ≡ track_unless b g t p
  track_same true = refl
  track_same false = refl

  passed : ((tuple : Tuple) → seen_at g t p ≡ new tuple → carried_out g (new tuple) None t p (begins ∷ unless_dropped s None) ≡ begin g.way g tuple t p)
      → (b : Bool)
      → carried_out g (seen_at g t p) None t p (state_actions s (is_stateful g.net g.port.switch) begins (record {
        tracked = b;
        verdict = g.verdict;
        finding = cond b (finding_of (seen_at g t p)) not_sought;
        blocked = b && is_seen_blocked (seen_at g t p);
      }))
      ≡ pass_if b g t p
  passed same true =
      tracked_done (seen_at g t p) (taken g t p s begins (record { tracked = true; verdict = g.verdict; finding = finding_of (seen_at g t p); blocked = is_seen_blocked (seen_at g t p) }) refl (seen_at g t p) refl same) (is_stateless g.verdict)
      ∙ track_same (is_stateless g.verdict)
  passed same false = unless_done g t p s (seen_at g t p) (denial g.verdict)

-- ---- beginning a connection

module _ (net : Network) (now : ℕ) (port : SwitchPort) (v : Verdict) (t : Trail) (p : Packet) where
  abbrev going_in : Passage
  going_in = record { net = net; now = now; way = FromLport; port = port; verdict = v }

  abbrev going_out : Passage
  going_out = record { net = net; now = now; way = ToLport; port = port; verdict = v }

  service_done : (tuple : Tuple) (o : Option Service)
      → carried_out going_in (new tuple) None t p (begin_with net o ∷ unless_dropped (state_stage FromLport) None) ≡ begin_to going_in tuple o t p
  service_done tuple None = then_goes (begin_to going_in tuple None t p)
  service_done tuple (Some service) =
      then_goes (pick_backend (desk_of going_in) tuple service.vip.at (free_backends going_in t tuple (filter (is_online net service.balancer) service.vip.backends)) t p)
      ∙ ap (λ backends. pick_backend (desk_of going_in) tuple service.vip.at backends t p)
      (both_filters (is_free_backend (list_of t.lists (of_port port.name)) tuple) (is_online net service.balancer) service.vip.backends)

  -- it begins to the service of its own tuple
  in_done : (tuple : Tuple) → seen_at going_in t p ≡ new tuple
      → carried_out going_in (new tuple) None t p (begin_in net port.switch p ∷ unless_dropped (state_stage FromLport) None) ≡ begin FromLport going_in tuple t p
  in_done tuple is =
      ap (λ (o : Option Tuple). carried_out going_in (new tuple) None t p (begin_with net (option_and_then (service_for net port.switch) o) ∷ unless_dropped (state_stage FromLport) None))
      (subst (λ x. IfNew x (tuple_of p)) is (new_tuple (list_of t.lists (of_port port.name)) p))
      ∙ service_done tuple (service_for net port.switch tuple)

  out_done : (tuple : Tuple)
      → carried_out going_out (new tuple) None t p (a.Commit zone.Out ∷ unless_dropped (state_stage ToLport) None) ≡ begin ToLport going_out tuple t p
  out_done tuple = then_goes (begin_to going_out tuple None t p)

-- ---- the law

of_way : (net : Network) (now : ℕ) (way : Direction) (port : SwitchPort) (v : Verdict) → PassesAs (record { net = net; now = now; way = way; port = port; verdict = v })
of_way net now FromLport port v t sight =
    passed (going_in net now port v t sight.packet) t sight.packet (state_stage FromLport) (begin_in net port.switch sight.packet)
    (in_done net now port v t sight.packet) (is_tracked net port sight.packet)
of_way net now ToLport port v t sight =
    passed (going_out net now port v t sight.packet) t sight.packet (state_stage ToLport) (a.Commit zone.Out)
    (λ tuple is. out_done net now port v t sight.packet tuple) (is_tracked net port sight.packet)

pub passes : PassLaw
passes g = of_way g.net g.now g.way g.port g.verdict
