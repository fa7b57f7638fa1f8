-- The pieces of the way through a switch leave the choices that they don't need.
use Rattle.std.specs.Prelude.{◌≡◌, ◌++◌, ℕ, Bool, true, false, List, [], ◌∷◌, Option, Some, None, Result, Ok, Err, refl}
use Rattle.std.proofs.lemmas.Bool.{false≢true}
use Rattle.std.specs.Cmp.{first_so, second_so}
use Rattle.std.specs.List.{list_any}
use Rattle.conn_table.specs.Connections.{ConnectionList, committed}
use Rattle.conn_table.specs.Picks.{Choice, to_backend, to_port, Chosen, choose_backend, towards}
use Rattle.conn_table.specs.Tracking.{Seen, forward, reply, invalid, new, seen}
use Rattle.conn_table.specs.Tuples.{reversed, with_tuple}
use Rattle.conn_table.specs.declared.connection.CommitFault.{CommitFault}
use Rattle.conn_table.specs.declared.connection.Entry.{Entry}
use Rattle.conn_table.specs.declared.tuple.Tuple.{Tuple}
use Rattle.flow_table.specs.declared.flow.Cause.{Cause}
use Rattle.inet_packet.specs.Rewrites.{with_arp_reply}
use Rattle.inet_packet.specs.declared.packet.Packet.{Packet}
use Rattle.match_language.specs.declared.field.Direction.{Direction}
use Rattle.match_language.specs.declared.field.Direction.TheVariants.{FromLport, ToLport}
use Rattle.nb_records.specs.Network.{Network, same_backend}
use Rattle.nb_records.specs.Routers.{partner_of_switch_port}
use Rattle.nb_records.specs.declared.switch.PortKind.{PortKind}
use Rattle.nb_records.specs.declared.switch.PortKind.TheVariants as port_kind
use Rattle.nb_records.specs.declared.switch.SwitchPort.{SwitchPort}
use Rattle.ovn_base.specs.declared.address.Backend.{Backend}
use Rattle.ovn_base.specs.declared.name.Name.{Name}
use Rattle.ovn_base.specs.names.SameName.{same_name}
use Rattle.tunnel_keys.specs.declared.owner.Identity.{Identity}
use Rattle.net_model.proofs.SpareLaws.{with_more, TrailSpares, PointSpares, PieceSpares, WaySpares, OnwardSpares, then_spares, finally_spares, on_spares, unless_spares}
use Rattle.net_model.specs.Balancing.{Desk, after_commit, commit_or_drop, Service, service_for, legal_backends, send_to_backend, pick_backend, balance}
use Rattle.net_model.specs.Config.{Home, nowhere, on, everywhere, home_of, port_identity}
use Rattle.net_model.specs.Entry.{Scene, Onward, admission, security_in, passage_in, judge_in, secure_in, enter}
use Rattle.net_model.specs.Exit.{exit_denial, passage_out, security_out, secure_out, judge_out, exit, give_out, leave}
use Rattle.net_model.specs.Spread.{SentFrom, crossing_to, send_here, send_over, send_home, other_homes, cross_to_each, local_members, copy_to_each, spread, send_to}
use Rattle.net_model.specs.Targets.{Target, answer_from, to_one, to_group, to_nobody, members, is_other}
use Rattle.net_model.specs.Tracking.{carry_onward, carry_back, Passage, desk_of, is_tracked, denial, begin_to, begin, take_new, take_forward, take_reply, invalid_denial, take, is_stateless, track_unless, pass_if, pass}
use Rattle.net_model.specs.Trail.{Trail, ListOwner, of_port, list_of, spot_of, crosses, picks_backend, tell, after_choice, unless}
use Rattle.net_model.specs.declared.crossing.Aim.TheVariants.{ToGroup}
use Rattle.net_model.specs.declared.crossing.Group.{Group}

-- ---- entries

pub commit_spares : (d : Desk) (from back : Tuple) → PieceSpares (commit_or_drop d from back)
commit_spares d from back more t p = by (committed (list_of t.lists d.owner) from back d.now)
  where
    by : (r : Result ConnectionList CommitFault) → PointSpares more t (after_commit d r t p) (after_commit d r (with_more more t) p)
    by (Ok list) = λ legal. (legal, refl)
    by (Err why) = λ legal. (legal, refl)

pub onward_spares : (now : ℕ) (owner : ListOwner) (e : Entry) → PieceSpares (carry_onward now owner e)
onward_spares now owner e more t p = λ legal. (legal, refl)

pub back_spares : (now : ℕ) (owner : ListOwner) (e : Entry) → PieceSpares (carry_back now owner e)
back_spares now owner e more t p = λ legal. (legal, refl)

-- ---- balancers

-- the trail with these choices, once the pick is told
abbrev picked : Desk → Backend → Chosen Backend → Trail → Trail
picked d vip c t = tell (picks_backend d.spot.datapath vip c.what) (after_choice c t)

send_spares : (d : Desk) (tuple : Tuple) (vip : Backend) (is_legal : Backend → Bool) (more : List Choice) (t : Trail) (p : Packet)
    → PointSpares more t (send_to_backend d tuple vip (choose_backend is_legal vip t.choices) t p) (send_to_backend d tuple vip (choose_backend is_legal vip (t.choices ++ more)) (with_more more t) p)
send_spares d tuple vip is_legal more t p = by t.choices
  where
    -- all choices were legal, and so was this one
    legal_then : (c : Chosen Backend) (u : Trail) → PointSpares more (picked d vip c u) (send_to_backend d tuple vip c u p) (commit_or_drop d tuple (reversed (towards c.what tuple)) (with_more more (picked d vip c u)) (with_tuple (towards c.what tuple) p))
    legal_then c u = commit_spares d tuple (reversed (towards c.what tuple)) more (picked d vip c u) (with_tuple (towards c.what tuple) p)

    by : (cs : List Choice) → PointSpares more t (send_to_backend d tuple vip (choose_backend is_legal vip cs) (record t { choices = cs }) p) (send_to_backend d tuple vip (choose_backend is_legal vip (cs ++ more)) (record t { choices = cs ++ more }) p)
    by [] = λ legal. absurd (false≢true (second_so t.legal false (legal_then (choose_backend is_legal vip []) (record t { choices = [] }) legal).0))
    by (to_backend b ∷ cs) = λ legal.
        let h = legal_then (choose_backend is_legal vip (to_backend b ∷ cs)) (record t { choices = to_backend b ∷ cs }) legal in
        (first_so t.legal (is_legal b) h.0, h.1)
    by (to_port n ∷ cs) = λ legal. absurd (false≢true (second_so t.legal false (legal_then (choose_backend is_legal vip (to_port n ∷ cs)) (record t { choices = to_port n ∷ cs }) legal).0))

pick_spares : (d : Desk) (tuple : Tuple) (vip : Backend) (bs : List Backend) → PieceSpares (pick_backend d tuple vip bs)
pick_spares d tuple vip [] more t p = λ legal. (legal, refl)
pick_spares d tuple vip (b ∷ bs) more t p = send_spares d tuple vip (λ c. list_any (same_backend c) (b ∷ bs)) more t p

pub balance_spares : (net : Network) (d : Desk) (tuple : Tuple) (s : Service) → PieceSpares (balance net d tuple s)
balance_spares net d tuple s more t p = pick_spares d tuple s.vip.at (legal_backends net (list_of t.lists d.owner) tuple s) more t p

-- ---- tracking

begin_to_spares : (g : Passage) (tuple : Tuple) (o : Option Service) → PieceSpares (begin_to g tuple o)
begin_to_spares g tuple (Some s) more t p = balance_spares g.net (desk_of g) tuple s more t p
begin_to_spares g tuple None more t p = commit_spares (desk_of g) tuple (reversed tuple) more t p

begin_spares : (way : Direction) (g : Passage) (tuple : Tuple) → PieceSpares (begin way g tuple)
begin_spares FromLport g tuple more t p = begin_to_spares g tuple (service_for g.net g.port.switch tuple) more t p
begin_spares ToLport g tuple more t p = begin_to_spares g tuple None more t p

new_spares : (why : Option Cause) (g : Passage) (tuple : Tuple) → PieceSpares (take_new why g tuple)
new_spares (Some why) g tuple more t p = λ legal. (legal, refl)
new_spares None g tuple more t p = begin_spares g.way g tuple more t p

forward_spares : (why : Option Cause) (g : Passage) (e : Entry) → PieceSpares (take_forward why g e)
forward_spares (Some why) g e more t p = λ legal. (legal, refl)
forward_spares None g e more t p = λ legal. (legal, refl)

reply_spares : (blocked : Bool) (g : Passage) (e : Entry) → PieceSpares (take_reply blocked g e)
reply_spares true g e more t p = λ legal. (legal, refl)
reply_spares false g e more t p = back_spares g.now (of_port g.port.name) e more t p

take_spares : (g : Passage) (sight : Seen) → PieceSpares (take g sight)
take_spares g invalid more t p = unless_spares (invalid_denial g) (spot_of g.port) more t p
take_spares g (reply e) more t p = reply_spares e.blocked g e more t p
take_spares g (forward e) more t p = forward_spares (denial g.verdict) g e more t p
take_spares g (new tuple) more t p = new_spares (denial g.verdict) g tuple more t p

track_spares : (b : Bool) (g : Passage) → PieceSpares (track_unless b g)
track_spares true g more t p = λ legal. (legal, refl)
track_spares false g more t p = take_spares g (seen (list_of t.lists (of_port g.port.name)) p) more t p

pass_if_spares : (b : Bool) (g : Passage) → PieceSpares (pass_if b g)
pass_if_spares true g more t p = track_spares (is_stateless g.verdict) g more t p
pass_if_spares false g more t p = unless_spares (denial g.verdict) (spot_of g.port) more t p

pass_spares : (g : Passage) → PieceSpares (pass g)
pass_spares g more t p = pass_if_spares (is_tracked g.net g.port p) g more t p

-- ---- entering

judge_in_spares : (s : Scene) (i : SwitchPort) → PieceSpares (judge_in s i)
judge_in_spares s i more t p = pass_spares (passage_in s i p) more t p

secure_in_spares : (s : Scene) (i : SwitchPort) → PieceSpares (secure_in s i)
secure_in_spares s i more t p = then_spares (unless (security_in i p) (spot_of i)) (judge_in s i) (unless_spares (security_in i p) (spot_of i)) (judge_in_spares s i) more t p

pub enter_spares : (s : Scene) (i : SwitchPort) → PieceSpares (enter s i)
enter_spares s i more t p = then_spares (unless (admission i p) (spot_of i)) (secure_in s i) (unless_spares (admission i p) (spot_of i)) (secure_in_spares s i) more t p

-- ---- leaving

secure_out_spares : (o : SwitchPort) → PieceSpares (secure_out o)
secure_out_spares o more t p = unless_spares (security_out o p) (spot_of o) more t p

judge_out_spares : (s : Scene) (came : Identity) (o : SwitchPort) → PieceSpares (judge_out s came o)
judge_out_spares s came o more t p = then_spares (pass (passage_out s came o p)) (secure_out o) (pass_spares (passage_out s came o p)) (secure_out_spares o) more t p

exit_spares : (s : Scene) (came : Identity) (o : SwitchPort) → PieceSpares (exit s came o)
exit_spares s came o more t p = then_spares (unless (exit_denial o) (spot_of o)) (judge_out s came o) (unless_spares (exit_denial o) (spot_of o)) (judge_out_spares s came o) more t p

module _ (onward : Onward) (s : Scene) (spares : OnwardSpares onward) where
  give_spares : (o : SwitchPort) (k : PortKind) → WaySpares (give_out onward s.config.net o k)
  give_spares o port_kind.Virtual more t p = λ legal. (legal, refl)
  give_spares o port_kind.Router more t p = spares (spot_of o) (partner_of_switch_port s.config.net o) more t p

  pub leave_spares : (came : Identity) (o : SwitchPort) → WaySpares (leave onward s came o)
  leave_spares came o more t p = finally_spares (exit s came o) (give_out onward s.config.net o o.kind) (exit_spares s came o) (give_spares o o.kind) more t p

  -- ---- spreading

  here_spares : (b : Bool) (from : SentFrom) (o : SwitchPort) → WaySpares (send_here b onward s from o)
  here_spares true from o more t p = leave_spares (port_identity from.port) o more t p
  here_spares false from o more t p = λ legal. (legal, refl)

  over_spares : (b : Bool) (from : SentFrom) (o : SwitchPort) (home : Name) → WaySpares (send_over b onward s from o home)
  over_spares true from o home more t p = here_spares (is_other from.port o) from o more t p
  over_spares false from o home more t p = λ legal. (legal, refl)

  home_spares : (h : Home) (from : SentFrom) (o : SwitchPort) → WaySpares (send_home h onward s from o)
  home_spares nowhere from o more t p = λ legal. (legal, refl)
  home_spares (on home) from o more t p = over_spares (same_name home s.here) from o home more t p
  home_spares everywhere from o more t p = here_spares (is_other from.port o) from o more t p

  cross_spares : (from : SentFrom) (g : Group) (p : Packet) (homes : List Name) (more : List Choice) (t : Trail) → TrailSpares more t (cross_to_each s.here from g p homes t) (cross_to_each s.here from g p homes (with_more more t))
  cross_spares from g p [] more t = λ legal. (legal, refl)
  cross_spares from g p (home ∷ homes) more t = cross_spares from g p homes more (tell (crosses s.here (crossing_to from (ToGroup g) home p)) t)

  pub copies_spare : (came : Identity) (qs : List SwitchPort) → WaySpares (copy_to_each (leave onward s came) qs)
  copies_spare came [] more t p = λ legal. (legal, refl)
  copies_spare came (q ∷ qs) more t p =
      on_spares (λ u. copy_to_each (leave onward s came) qs u p) more t (leave onward s came q t p) (leave onward s came q (with_more more t) p) (λ u. copies_spare came qs more u p) (leave_spares came q more t p)

  spread_spares : (from : SentFrom) (g : Group) (qs : List SwitchPort) → WaySpares (spread onward s from g qs)
  spread_spares from g qs more t p =
      let homes : List Name = other_homes s.config s.here qs in
      let locals : List SwitchPort = local_members s from.port qs in
      on_spares (λ u. copy_to_each (leave onward s (port_identity from.port)) locals u p) more t (cross_to_each s.here from g p homes t) (cross_to_each s.here from g p homes (with_more more t)) (λ u. copies_spare (port_identity from.port) locals more u p)
      (cross_spares from g p homes more t)

  pub send_to_spares : (target : Target) (from : SentFrom) → WaySpares (send_to target onward s from)
  send_to_spares (answer_from mac ip) from more t p = leave_spares (port_identity from.port) from.port more t (with_arp_reply mac ip p)
  send_to_spares (to_one o) from more t p = home_spares (home_of s.config o) from o more t p
  send_to_spares (to_group g) from more t p = spread_spares from g (members s.config.net from.port.switch g) more t p
  send_to_spares to_nobody from more t p = λ legal. (legal, refl)
