-- That the actions of the stages of state are what the model says of a packet that passes a port.
use Rattle.std.specs.Prelude.{◌≡◌, ◌&&◌, Bool, true, false, List, [], ◌∷◌, filter, Option, Some, None, cond}
use Rattle.conn_table.specs.Connections.{touched, blocked_as}
use Rattle.conn_table.specs.Picks.{is_free_backend}
use Rattle.conn_table.specs.Tracking.{Seen, forward, reply, invalid, new, seen}
use Rattle.conn_table.specs.Tuples.{reversed}
use Rattle.conn_table.specs.declared.connection.Entry.{Entry}
use Rattle.conn_table.specs.declared.tuple.Tuple.{Tuple}
use Rattle.inet_packet.specs.declared.packet.Packet.{Packet}
use Rattle.match_language.specs.declared.field.Direction.{Direction}
use Rattle.match_language.specs.declared.field.Direction.TheVariants.{FromLport, ToLport}
use Rattle.ovn_base.specs.declared.address.Backend.{Backend}
use Rattle.logical_flows.specs.declared.action.Action.{Action}
use Rattle.logical_flows.specs.declared.action.Action.TheVariants as a
use Rattle.logical_flows.specs.declared.stage.Stage.{Stage}
use Rattle.logical_flows.specs.declared.stage.Stage.TheVariants as stage
use Rattle.net_model.specs.Balancing.{commit_or_drop, pick_backend}
use Rattle.net_model.specs.Sights.{Sight}
use Rattle.net_model.specs.Tracking.{Passage, desk_of, is_tracked, pass, refresh, translated_onward, translated_back}
use Rattle.net_model.specs.Trail.{Trail, of_port, list_of, spot_of, drop_for, Point, goes, stops, then}
use Rattle.row_laws.specs.Copies.{Words, Finding, not_sought, found_new, found_forward, found_reply, found_invalid}
use Rattle.row_laws.specs.StageActions.{actions_at}

-- ---- what earlier stages find out

abbrev pub finding_of : Seen → Finding
finding_of (new tuple) = found_new
finding_of (forward e) = found_forward
finding_of (reply e) = found_reply
finding_of invalid = found_invalid

abbrev pub is_seen_blocked : Seen → Bool
is_seen_blocked (forward e) = e.blocked
is_seen_blocked (reply e) = e.blocked
is_seen_blocked _ = false

-- what the port's connections say of the packet
abbrev pub seen_at : Passage → Trail → Packet → Seen
seen_at g t p = seen (list_of t.lists (of_port g.port.name)) p

abbrev pub words_of : Passage → Trail → Packet → Words
words_of g t p =
    let tracked = is_tracked g.net g.port p in
    record {
      tracked = tracked;
      verdict = g.verdict;
      finding = cond tracked (finding_of (seen_at g t p)) not_sought;
      blocked = tracked && is_seen_blocked (seen_at g t p);
    }

-- ---- what actions do

-- one change of the remembered entry after another
abbrev pub and_then_change : (Entry → Entry) → Option (Entry → Entry) → Option (Entry → Entry)
and_then_change later None = Some later
and_then_change later (Some f) = Some (λ e. later (f e))

-- the remembered entry is changed in the port's list
abbrev pub with_entry : Passage → Seen → (Entry → Entry) → Trail → Trail
with_entry g (forward e) f t = refresh (of_port g.port.name) f e t
with_entry g (reply e) f t = refresh (of_port g.port.name) f e t
with_entry g _ f t = t

abbrev pub with_change : Passage → Seen → Option (Entry → Entry) → Trail → Trail
with_change g s (Some f) t = with_entry g s f t
with_change g s None t = t

abbrev pub translated_as_seen : Seen → Packet → Packet
translated_as_seen (forward e) p = translated_onward e p
translated_as_seen (reply e) p = translated_back e p
translated_as_seen _ p = p

-- only a packet that is new begins a connection
abbrev pub begun : Seen → Trail → Packet → (Tuple → Point) → Point
begun (new tuple) t p begins = begins tuple
begun _ t p begins = goes t p

abbrev pub free_backends : Passage → Trail → Tuple → List Backend → List Backend
free_backends g t tuple backends = filter (is_free_backend (list_of t.lists (of_port g.port.name)) tuple) backends

-- Each action does its part, on the port's connections and the packet. Changes of the remembered entry gather, and are written at the end.
abbrev pub carried_out : Passage → Seen → Option (Entry → Entry) → Trail → Packet → List Action → Point
carried_out g s f t p [] = goes (with_change g s f t) p
carried_out g s f t p (a.Block ∷ more) = carried_out g s (and_then_change (blocked_as true) f) t p more
carried_out g s f t p (a.Unblock ∷ more) = carried_out g s (and_then_change (blocked_as false) f) t p more
carried_out g s f t p (a.Touch ∷ more) = carried_out g s (and_then_change (touched g.now) f) t p more
carried_out g s f t p (a.Translate ∷ more) = carried_out g s f t (translated_as_seen s p) more
carried_out g s f t p (a.Commit zone ∷ more) =
    then (begun s t p (λ tuple. commit_or_drop (desk_of g) tuple (reversed tuple) t p)) (λ u q. carried_out g s f u q more)
carried_out g s f t p (a.Balance zone vip backends ∷ more) =
    then (begun s t p (λ tuple. pick_backend (desk_of g) tuple vip (free_backends g t tuple backends) t p)) (λ u q. carried_out g s f u q more)
carried_out g s f t p (a.Drop why ∷ more) = stops (drop_for why (spot_of g.port) (with_change g s f t))
carried_out g s f t p (_ ∷ more) = carried_out g s f t p more

-- ---- the law

abbrev pub state_stage : Direction → Stage
state_stage FromLport = stage.SwitchStateIn
state_stage ToLport = stage.SwitchStateOut

-- what the network tells of the stage of state, carried out, is what the model says of the packet as it passes the port
abbrev pub PassesAs : Passage → Type 0
PassesAs g =
    (t : Trail) (sight : Sight)
    → carried_out g (seen_at g t sight.packet) None t sight.packet
    (actions_at (state_stage g.way) g.net (record { port = g.port; sight = sight; words = words_of g t sight.packet }))
    ≡ pass g t sight.packet

-- The stages of state let a packet pass a port as the model says.
abbrev pub PassLaw : Type 0
PassLaw = (g : Passage) → PassesAs g
