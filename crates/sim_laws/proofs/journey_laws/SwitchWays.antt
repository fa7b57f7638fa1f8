-- The pieces of a packet's way through a switch write no list but that of the port, and nothing crosses on them.
use Rattle.std.specs.Prelude.{◌≡◌, ℕ, Bool, true, false, List, [], ◌∷◌, Option, Some, None, Result, Ok, Err}
use Rattle.std.specs.List.{list_any}
use Rattle.std.proofs.Common.{sym, subst}
use Rattle.conn_table.specs.Connections.{ConnectionList, committed, changed, touched, blocked_as}
use Rattle.conn_table.specs.Picks.{towards, Chosen, choose_backend}
use Rattle.conn_table.specs.Tracking.{Seen, forward, reply, invalid, new, seen}
use Rattle.conn_table.specs.Tuples.{reversed, with_tuple}
use Rattle.conn_table.specs.declared.connection.CommitFault.{CommitFault}
use Rattle.conn_table.specs.declared.connection.Entry.{Entry}
use Rattle.conn_table.specs.declared.tuple.Tuple.{Tuple}
use Rattle.flow_table.specs.declared.flow.Cause.{Cause}
use Rattle.flow_table.specs.declared.flow.Cause.TheVariants as cause
use Rattle.inet_packet.specs.declared.packet.Packet.{Packet}
use Rattle.match_language.specs.declared.field.Direction.{Direction}
use Rattle.match_language.specs.declared.field.Direction.TheVariants.{FromLport, ToLport}
use Rattle.nb_records.specs.Network.{same_backend}
use Rattle.nb_records.specs.Switches.{is_virtual}
use Rattle.nb_records.specs.declared.switch.PortKind.{PortKind}
use Rattle.nb_records.specs.declared.switch.SwitchPort.{SwitchPort}
use Rattle.net_model.specs.Balancing.{Desk, commit_cause, after_commit, commit_or_drop, Service, service_for, legal_backends, send_to_backend, pick_backend}
use Rattle.net_model.specs.Config.{Config}
use Rattle.net_model.specs.Entry.{Scene, Onward, admission, security_in, passage_in, judge_in, secure_in, enter}
use Rattle.net_model.specs.Exit.{exit_denial, passage_out, security_out, secure_out, judge_out, exit, give_out, leave}
use Rattle.net_model.specs.Tracking.{refresh, Passage, desk_of, is_tracked, denial, begin_to, begin, take_new, take_forward, take_reply, invalid_denial, take, is_stateless, track_unless, pass_if, pass}
use Rattle.net_model.specs.Trail.{Trail, of_port, list_of, leaves, is_dropped, picks_backend, after_choice, tell, spot_of, unless, Point}
use Rattle.ovn_base.specs.declared.address.Backend.{Backend}
use Rattle.ovn_base.specs.declared.name.Name.{Name}
use Rattle.ovn_base.specs.names.ByName.{at}
use Rattle.tunnel_keys.specs.declared.owner.Identity.{Identity}
use Rattle.sim_laws.proofs.journey_laws.Ways.{IsHere, WayOn, PointOn, stays, both, told, written, chosen, point_on, then_on, finally_on, unless_on}
use Rattle.sim_laws.proofs.passes.Members.{virtual_is}

module _ (c : Config) (here : Name) (n : ℕ) where
  -- ---- a connection begins

  pub commit_on : (d : Desk) → IsHere c here d.owner → (from back : Tuple) (t : Trail) (p : Packet) → PointOn c here n t (commit_or_drop d from back t p)
  commit_on d home from back t p = by (committed (list_of t.lists d.owner) from back d.now)
    where
      by : (r : Result ConnectionList CommitFault) → PointOn c here n t (after_commit d r t p)
      by (Ok list) = written c here n d.owner list t home
      by (Err why) = told c here n (is_dropped d.spot.datapath d.spot.port (commit_cause why)) t tt

  pub pick_on : (d : Desk) → IsHere c here d.owner → (tuple : Tuple) (vip : Backend) (bs : List Backend) (t : Trail) (p : Packet) → PointOn c here n t (pick_backend d tuple vip bs t p)
  pick_on d home tuple vip [] t p = told c here n (is_dropped d.spot.datapath d.spot.port cause.NoLiveBackend) t tt
  pick_on d home tuple vip (b ∷ bs) t p =
      let choice : Chosen Backend = choose_backend (λ x. list_any (same_backend x) (b ∷ bs)) vip t.choices in
      let first : Trail = after_choice choice t in
      let second : Trail = tell (picks_backend d.spot.datapath vip choice.what) first in
      point_on c here n t second (send_to_backend d tuple vip choice t p) (both c here n [] [] t first second (chosen c here n choice t) (told c here n (picks_backend d.spot.datapath vip choice.what) first tt))
      (commit_on d home tuple (reversed (towards choice.what tuple)) second (with_tuple (towards choice.what tuple) p))

  -- ---- a packet passes a port

  module _ (g : Passage) (home : at c.bindings g.port.name ≡ Some here) where
    abbrev On : Trail → Point → Type 0
    On t a = PointOn c here n t a

    refreshed : (change : Entry → Entry) (e : Entry) (t : Trail) → WayOn c here n [] t (refresh (of_port g.port.name) change e t)
    refreshed change e t = written c here n (of_port g.port.name) (changed change e.forward (list_of t.lists (of_port g.port.name))) t home

    begin_to_on : (tuple : Tuple) (o : Option Service) (t : Trail) (p : Packet) → On t (begin_to g tuple o t p)
    begin_to_on tuple (Some s) t p = pick_on (desk_of g) home tuple s.vip.at (legal_backends g.net (list_of t.lists (desk_of g).owner) tuple s) t p
    begin_to_on tuple None t p = commit_on (desk_of g) home tuple (reversed tuple) t p

    begin_on : (way : Direction) (tuple : Tuple) (t : Trail) (p : Packet) → On t (begin way g tuple t p)
    begin_on FromLport tuple t p = begin_to_on tuple (service_for g.net g.port.switch tuple) t p
    begin_on ToLport tuple t p = begin_to_on tuple None t p

    dropped : (why : Cause) (t : Trail) → WayOn c here n [] t (tell (is_dropped g.port.switch g.port.name why) t)
    dropped why t = told c here n (is_dropped g.port.switch g.port.name why) t tt

    new_on : (why : Option Cause) (tuple : Tuple) (t : Trail) (p : Packet) → On t (take_new why g tuple t p)
    new_on (Some why) tuple t p = dropped why t
    new_on None tuple t p = begin_on g.way tuple t p

    forward_on : (why : Option Cause) (e : Entry) (t : Trail) (p : Packet) → On t (take_forward why g e t p)
    forward_on (Some why) e t p = let first : Trail = refresh (of_port g.port.name) (blocked_as true) e t in both c here n [] [] t first (tell (is_dropped g.port.switch g.port.name why) first) (refreshed (blocked_as true) e t) (dropped why first)
    forward_on None e t p = refreshed (λ old. touched g.now (blocked_as false old)) e t

    reply_on : (b : Bool) (e : Entry) (t : Trail) (p : Packet) → On t (take_reply b g e t p)
    reply_on true e t p = dropped cause.Blocked t
    reply_on false e t p = refreshed (touched g.now) e t

    take_on : (x : Seen) (t : Trail) (p : Packet) → On t (take g x t p)
    take_on invalid t p = unless_on c here n (invalid_denial g) (spot_of g.port) t p
    take_on (reply e) t p = reply_on e.blocked e t p
    take_on (forward e) t p = forward_on (denial g.verdict) e t p
    take_on (new tuple) t p = new_on (denial g.verdict) tuple t p

    track_on : (b : Bool) (t : Trail) (p : Packet) → On t (track_unless b g t p)
    track_on true t p = stays c here n t
    track_on false t p = take_on (seen (list_of t.lists (of_port g.port.name)) p) t p

    pass_if_on : (b : Bool) (t : Trail) (p : Packet) → On t (pass_if b g t p)
    pass_if_on true t p = track_on (is_stateless g.verdict) t p
    pass_if_on false t p = unless_on c here n (denial g.verdict) (spot_of g.port) t p

    pub pass_on : (t : Trail) (p : Packet) → On t (pass g t p)
    pass_on t p = pass_if_on (is_tracked g.net g.port p) t p

-- ---- into a switch, and out of it

module _ (s : Scene) (n : ℕ) where
  pub enter_on : (i : SwitchPort) → at s.config.bindings i.name ≡ Some s.here → (t : Trail) (p : Packet) → PointOn s.config s.here n t (enter s i t p)
  enter_on i home t p =
      then_on s.config s.here n t (unless (admission i p) (spot_of i) t p) (secure_in s i) (unless_on s.config s.here n (admission i p) (spot_of i) t p) secured
    where
      judged : (t : Trail) (p : Packet) → PointOn s.config s.here n t (judge_in s i t p)
      judged t p = pass_on s.config s.here n (passage_in s i p) home t p

      secured : (t : Trail) (p : Packet) → PointOn s.config s.here n t (secure_in s i t p)
      secured t p = then_on s.config s.here n t (unless (security_in i p) (spot_of i) t p) (judge_in s i) (unless_on s.config s.here n (security_in i p) (spot_of i) t p) judged

  exit_on : (came : Identity) (o : SwitchPort) → at s.config.bindings o.name ≡ Some s.here → (t : Trail) (p : Packet) → PointOn s.config s.here n t (exit s came o t p)
  exit_on came o home t p =
      then_on s.config s.here n t (unless (exit_denial o) (spot_of o) t p) (judge_out s came o) (unless_on s.config s.here n (exit_denial o) (spot_of o) t p) judged
    where
      judged : (t : Trail) (p : Packet) → PointOn s.config s.here n t (judge_out s came o t p)
      judged t p =
          then_on s.config s.here n t (pass (passage_out s came o p) t p) (secure_out o) (pass_on s.config s.here n (passage_out s came o p) home t p)
          (λ u q. unless_on s.config s.here n (security_out o q) (spot_of o) u q)

  -- a packet leaves by a virtual port that is bound here
  pub leave_on : (onward : Onward) (came : Identity) (o : SwitchPort) → is_virtual o ≡ true → at s.config.bindings o.name ≡ Some s.here → (t : Trail) (p : Packet) → WayOn s.config s.here n [] t (leave onward s came o t p)
  leave_on onward came o virtual home t p = finally_on s.config s.here n t (exit s came o t p) (give_out onward s.config.net o o.kind) (exit_on came o home t p) given
    where
      given : (u : Trail) (q : Packet) → WayOn s.config s.here n [] u (give_out onward s.config.net o o.kind u q)
      given u q = subst (λ (k : PortKind). WayOn s.config s.here n [] u (give_out onward s.config.net o k u q)) (sym (virtual_is o.kind virtual)) (told s.config s.here n (leaves o.name q) u tt)
