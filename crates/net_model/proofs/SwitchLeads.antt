-- The pieces of the way through a switch lead on.
use Rattle.std.specs.Prelude.{◌≡◌, ℕ, Bool, true, false, List, [], ◌∷◌, Option, Some, None, option_map, cond, Result, Ok, Err, refl}
use Rattle.std.proofs.Common.{arith}
use Rattle.std.proofs.lemmas.Bool.{false≢true}
use Rattle.std.specs.List.{find}
use Rattle.conn_table.specs.Connections.{ConnectionList, committed, IsPair, touched, blocked_as}
use Rattle.conn_table.specs.Picks.{towards, Chosen, choose_backend}
use Rattle.conn_table.specs.Tracking.{Seen, forward, reply, invalid, new, seen}
use Rattle.conn_table.specs.Tuples.{reversed, reversed_protocol, with_tuple, HasItsPorts}
use Rattle.conn_table.specs.declared.connection.CommitFault.{CommitFault}
use Rattle.conn_table.specs.declared.connection.Entry.{Entry}
use Rattle.conn_table.specs.declared.tuple.Protocol.{Protocol}
use Rattle.conn_table.specs.declared.tuple.Protocol.TheVariants as protocol
use Rattle.conn_table.specs.declared.tuple.Tuple.{Tuple}
use Rattle.flow_table.specs.declared.flow.Cause.{Cause}
use Rattle.flow_table.specs.declared.flow.Cause.TheVariants as cause
use Rattle.inet_packet.specs.Rewrites.{with_arp_reply}
use Rattle.inet_packet.specs.declared.packet.Packet.{Packet}
use Rattle.match_language.specs.declared.field.Direction.{Direction}
use Rattle.match_language.specs.declared.field.Direction.TheVariants.{FromLport, ToLport}
use Rattle.nb_records.specs.Network.{Network, same_backend}
use Rattle.nb_records.specs.Routers.{partner_of_switch_port}
use Rattle.nb_records.specs.Switches.{or_else, first_answer, balancers_of}
use Rattle.nb_records.specs.declared.balancer.BalancerProtocol.{BalancerProtocol}
use Rattle.nb_records.specs.declared.balancer.BalancerProtocol.TheVariants as balanced
use Rattle.nb_records.specs.declared.balancer.LoadBalancer.{LoadBalancer}
use Rattle.nb_records.specs.declared.balancer.Vip.{Vip}
use Rattle.nb_records.specs.declared.switch.PortKind.{PortKind}
use Rattle.nb_records.specs.declared.switch.PortKind.TheVariants as port_kind
use Rattle.nb_records.specs.declared.switch.SwitchPort.{SwitchPort}
use Rattle.ovn_base.specs.declared.address.Backend.{Backend}
use Rattle.ovn_base.specs.declared.name.Name.{Name}
use Rattle.ovn_base.specs.names.SameName.{same_name}
use Rattle.std.specs.List.{list_any}
use Rattle.tunnel_keys.specs.declared.owner.Identity.{Identity}
use Rattle.net_model.proofs.LeadLaws.{leads_on, point_on, then_leads, finally_leads, drop_end, unless_leads}
use Rattle.net_model.proofs.SeenLaws.{IsNewTuple, Found, found_seen, addresses_pair, server_pair}
use Rattle.net_model.specs.Balancing.{Desk, commit_cause, after_commit, commit_or_drop, serves_protocol, is_to_vip, Service, service_in, service_for, legal_backends, send_to_backend, pick_backend, balance}
use Rattle.net_model.specs.Config.{Home, nowhere, on, everywhere, home_of, port_identity}
use Rattle.net_model.specs.Entry.{Scene, Onward, admission, security_in, passage_in, judge_in, secure_in, enter}
use Rattle.net_model.specs.Exit.{exit_denial, passage_out, security_out, secure_out, judge_out, exit, give_out, leave}
use Rattle.net_model.specs.Leads.{Leads, stays, tells, commits, refreshes, chooses, KeepsTuples, UsesBy, PointLeads, PieceLeads, WayLeads, OnwardLeads}
use Rattle.net_model.specs.Spread.{SentFrom, crossing_to, send_here, send_over, send_home, other_homes, cross_to_each, local_members, copy_to_each, spread, send_to}
use Rattle.net_model.specs.Targets.{Target, answer_from, to_one, to_group, to_nobody, members, is_other}
use Rattle.net_model.specs.Tracking.{carry_onward, carry_back, Passage, desk_of, is_tracked, denial, begin_to, begin, take_new, take_forward, take_reply, invalid_denial, take, is_stateless, track_unless, pass_if, pass}
use Rattle.net_model.specs.Trail.{Trail, ListOwner, of_port, list_of, spot_of, leaves, crosses, picks_backend, after_choice, tell, unless}
use Rattle.net_model.specs.declared.crossing.Aim.TheVariants.{ToPort, ToGroup}
use Rattle.net_model.specs.declared.crossing.Group.{Group}

-- ---- entries

touched_keeps : (now : ℕ) → KeepsTuples (touched now)
touched_keeps now e = (refl, refl)

touched_by : (now : ℕ) → UsesBy now (touched now)
touched_by now e h = omega arith

pub commit_leads : (d : Desk) (from back : Tuple) (t : Trail) (p : Packet) → IsNewTuple (list_of t.lists d.owner) from → IsPair from back → PointLeads d.now t (commit_or_drop d from back t p)
commit_leads d from back t p h pair = by (committed (list_of t.lists d.owner) from back d.now) refl
  where
    by : (r : Result ConnectionList CommitFault) → committed (list_of t.lists d.owner) from back d.now ≡ r → PointLeads d.now t (after_commit d r t p)
    by (Ok list) e = commits d.owner from back list h.fresh pair e stays
    by (Err why) e = tells (drop_end (commit_cause why) d.spot) stays

pub onward_leads : (now : ℕ) (owner : ListOwner) (e : Entry) → PieceLeads now (carry_onward now owner e)
onward_leads now owner e t p = refreshes owner (touched now) e (touched_keeps now) (touched_by now) stays

pub back_leads : (now : ℕ) (owner : ListOwner) (e : Entry) → PieceLeads now (carry_back now owner e)
back_leads now owner e t p = refreshes owner (touched now) e (touched_keeps now) (touched_by now) stays

-- ---- balancers

-- whatever ports: a connection to a virtual address is one of TCP or of UDP
abbrev pub FreePorts : Tuple → Type 0
FreePorts t = (a b : ℕ) → HasItsPorts (reversed_protocol t.protocol) a b

abbrev pub FreePortsIf : Tuple → Option Service → Type 0
FreePortsIf t None = Unit {0}
FreePortsIf t (Some s) = FreePorts t

served_ports : (b : BalancerProtocol) (q : Protocol) → serves_protocol b q ≡ true → (x y : ℕ) → HasItsPorts (reversed_protocol q) x y
served_ports balanced.Tcp protocol.Tcp h x y = tt
served_ports balanced.Udp protocol.Udp h x y = tt
served_ports balanced.Tcp protocol.Udp h x y = tt
served_ports balanced.Udp protocol.Tcp h x y = tt
served_ports balanced.Tcp protocol.EchoRequest h x y = absurd (false≢true h)
served_ports balanced.Tcp protocol.EchoReply h x y = absurd (false≢true h)
served_ports balanced.Tcp (protocol.Other n) h x y = absurd (false≢true h)
served_ports balanced.Udp protocol.EchoRequest h x y = absurd (false≢true h)
served_ports balanced.Udp protocol.EchoReply h x y = absurd (false≢true h)
served_ports balanced.Udp (protocol.Other n) h x y = absurd (false≢true h)

service_ports : (t : Tuple) (b : LoadBalancer) → FreePortsIf t (service_in t b)
service_ports t b = by (serves_protocol b.protocol t.protocol) refl
  where
    found : (o : Option Vip) → serves_protocol b.protocol t.protocol ≡ true → FreePortsIf t (option_map (λ (v : Vip). record { balancer = b.name; vip = v }) o)
    found None h = tt
    found (Some v) h = served_ports b.protocol t.protocol h

    by : (c : Bool) → serves_protocol b.protocol t.protocol ≡ c → FreePortsIf t (cond c (option_map (λ (v : Vip). record { balancer = b.name; vip = v }) (find (is_to_vip t) b.vips)) None)
    by true h = found (find (is_to_vip t) b.vips) h
    by false h = tt

services_ports : (t : Tuple) (bs : List LoadBalancer) → FreePortsIf t (first_answer (service_in t) bs)
services_ports t [] = tt
services_ports t (b ∷ bs) = by (service_in t b) (service_ports t b) (services_ports t bs)
  where
    by : (o : Option Service) → FreePortsIf t o → FreePortsIf t (first_answer (service_in t) bs) → FreePortsIf t (or_else o (first_answer (service_in t) bs))
    by None h more = more
    by (Some s) h more = h

pub service_for_ports : (net : Network) (datapath : Name) (t : Tuple) → FreePortsIf t (service_for net datapath t)
service_for_ports net datapath t = services_ports t (balancers_of net datapath)

-- the trail once the pick is told
abbrev picked : Desk → Backend → Chosen Backend → Trail → Trail
picked d vip c t = tell (picks_backend d.spot.datapath vip c.what) (after_choice c t)

send_leads : (d : Desk) (tuple : Tuple) (vip : Backend) (c : Chosen Backend) (t : Trail) (p : Packet) → IsNewTuple (list_of t.lists d.owner) tuple → FreePorts tuple → PointLeads d.now t (send_to_backend d tuple vip c t p)
send_leads d tuple vip c t p h free =
    let pair = server_pair tuple c.what.ip c.what.port h free in
    point_on (send_to_backend d tuple vip c t p) (tells (picks_backend d.spot.datapath vip c.what) (chooses c.legal c.left stays))
    (commit_leads d tuple (reversed (towards c.what tuple)) (picked d vip c t) (with_tuple (towards c.what tuple) p) h pair)

pick_leads : (d : Desk) (tuple : Tuple) (vip : Backend) (bs : List Backend) (t : Trail) (p : Packet) → IsNewTuple (list_of t.lists d.owner) tuple → FreePorts tuple → PointLeads d.now t (pick_backend d tuple vip bs t p)
pick_leads d tuple vip [] t p h free = tells (drop_end cause.NoLiveBackend d.spot) stays
pick_leads d tuple vip (b ∷ bs) t p h free = send_leads d tuple vip (choose_backend (λ c. list_any (same_backend c) (b ∷ bs)) vip t.choices) t p h free

pub balance_leads : (net : Network) (d : Desk) (tuple : Tuple) (s : Service) (t : Trail) (p : Packet) → IsNewTuple (list_of t.lists d.owner) tuple → FreePorts tuple → PointLeads d.now t (balance net d tuple s t p)
balance_leads net d tuple s t p h free = pick_leads d tuple s.vip.at (legal_backends net (list_of t.lists d.owner) tuple s) t p h free

-- ---- tracking

begin_to_leads : (g : Passage) (tuple : Tuple) (o : Option Service) (t : Trail) (p : Packet) → IsNewTuple (list_of t.lists (desk_of g).owner) tuple → FreePortsIf tuple o → PointLeads g.now t (begin_to g tuple o t p)
begin_to_leads g tuple (Some s) t p h free = balance_leads g.net (desk_of g) tuple s t p h free
begin_to_leads g tuple None t p h free = commit_leads (desk_of g) tuple (reversed tuple) t p h (addresses_pair tuple tuple.src tuple.dst h)

begin_leads : (way : Direction) (g : Passage) (tuple : Tuple) (t : Trail) (p : Packet) → IsNewTuple (list_of t.lists (desk_of g).owner) tuple → PointLeads g.now t (begin way g tuple t p)
begin_leads FromLport g tuple t p h = begin_to_leads g tuple (service_for g.net g.port.switch tuple) t p h (service_for_ports g.net g.port.switch tuple)
begin_leads ToLport g tuple t p h = begin_to_leads g tuple None t p h tt

new_leads : (why : Option Cause) (g : Passage) (tuple : Tuple) (t : Trail) (p : Packet) → IsNewTuple (list_of t.lists (desk_of g).owner) tuple → PointLeads g.now t (take_new why g tuple t p)
new_leads (Some why) g tuple t p h = tells (drop_end why (spot_of g.port)) stays
new_leads None g tuple t p h = begin_leads g.way g tuple t p h

forward_leads : (why : Option Cause) (g : Passage) (e : Entry) → PieceLeads g.now (take_forward why g e)
forward_leads (Some why) g e t p = tells (drop_end why (spot_of g.port)) (refreshes (of_port g.port.name) (blocked_as true) e (λ x. (refl, refl)) (λ x h. h) stays)
forward_leads None g e t p = refreshes (of_port g.port.name) (λ old. touched g.now (blocked_as false old)) e (λ x. (refl, refl)) (λ x h. touched_by g.now x h) stays

reply_leads : (blocked : Bool) (g : Passage) (e : Entry) → PieceLeads g.now (take_reply blocked g e)
reply_leads true g e t p = tells (drop_end cause.Blocked (spot_of g.port)) stays
reply_leads false g e t p = back_leads g.now (of_port g.port.name) e t p

take_leads : (g : Passage) (sight : Seen) (t : Trail) (p : Packet) → Found (list_of t.lists (of_port g.port.name)) sight → PointLeads g.now t (take g sight t p)
take_leads g invalid t p h = unless_leads g.now (invalid_denial g) (spot_of g.port) t p
take_leads g (reply e) t p h = reply_leads e.blocked g e t p
take_leads g (forward e) t p h = forward_leads (denial g.verdict) g e t p
take_leads g (new tuple) t p h = new_leads (denial g.verdict) g tuple t p h

track_leads : (b : Bool) (g : Passage) → PieceLeads g.now (track_unless b g)
track_leads true g t p = stays
track_leads false g t p = let list = list_of t.lists (of_port g.port.name) in take_leads g (seen list p) t p (found_seen list p)

pass_if_leads : (b : Bool) (g : Passage) → PieceLeads g.now (pass_if b g)
pass_if_leads true g t p = track_leads (is_stateless g.verdict) g t p
pass_if_leads false g t p = unless_leads g.now (denial g.verdict) (spot_of g.port) t p

pub pass_leads : (g : Passage) → PieceLeads g.now (pass g)
pass_leads g t p = pass_if_leads (is_tracked g.net g.port p) g t p

-- ---- entering

judge_in_leads : (s : Scene) (i : SwitchPort) → PieceLeads s.now (judge_in s i)
judge_in_leads s i t p = pass_leads (passage_in s i p) t p

secure_in_leads : (s : Scene) (i : SwitchPort) → PieceLeads s.now (secure_in s i)
secure_in_leads s i t p = then_leads s.now t (unless (security_in i p) (spot_of i) t p) (judge_in s i) (unless_leads s.now (security_in i p) (spot_of i) t p) (judge_in_leads s i)

pub enter_leads : (s : Scene) (i : SwitchPort) → PieceLeads s.now (enter s i)
enter_leads s i t p = then_leads s.now t (unless (admission i p) (spot_of i) t p) (secure_in s i) (unless_leads s.now (admission i p) (spot_of i) t p) (secure_in_leads s i)

-- ---- leaving

secure_out_leads : (now : ℕ) (o : SwitchPort) → PieceLeads now (secure_out o)
secure_out_leads now o t p = unless_leads now (security_out o p) (spot_of o) t p

judge_out_leads : (s : Scene) (came : Identity) (o : SwitchPort) → PieceLeads s.now (judge_out s came o)
judge_out_leads s came o t p = then_leads s.now t (pass (passage_out s came o p) t p) (secure_out o) (pass_leads (passage_out s came o p) t p) (secure_out_leads s.now o)

exit_leads : (s : Scene) (came : Identity) (o : SwitchPort) → PieceLeads s.now (exit s came o)
exit_leads s came o t p = then_leads s.now t (unless (exit_denial o) (spot_of o) t p) (judge_out s came o) (unless_leads s.now (exit_denial o) (spot_of o) t p) (judge_out_leads s came o)

module _ (onward : Onward) (s : Scene) (leads : OnwardLeads s.now onward) where
  give_leads : (o : SwitchPort) (k : PortKind) → WayLeads s.now (give_out onward s.config.net o k)
  give_leads o port_kind.Virtual t p = tells (leaves o.name p) stays
  give_leads o port_kind.Router t p = leads (spot_of o) (partner_of_switch_port s.config.net o) t p

  pub leave_leads : (came : Identity) (o : SwitchPort) → WayLeads s.now (leave onward s came o)
  leave_leads came o t p = finally_leads s.now t (exit s came o t p) (give_out onward s.config.net o o.kind) (exit_leads s came o t p) (give_leads o o.kind)

  -- ---- spreading

  here_leads : (b : Bool) (from : SentFrom) (o : SwitchPort) → WayLeads s.now (send_here b onward s from o)
  here_leads true from o t p = leave_leads (port_identity from.port) o t p
  here_leads false from o t p = tells (drop_end cause.Loopback (spot_of o)) stays

  over_leads : (b : Bool) (from : SentFrom) (o : SwitchPort) (home : Name) → WayLeads s.now (send_over b onward s from o home)
  over_leads true from o home t p = here_leads (is_other from.port o) from o t p
  over_leads false from o home t p = tells (crosses s.here (crossing_to from (ToPort (port_identity o)) home p)) stays

  home_leads : (h : Home) (from : SentFrom) (o : SwitchPort) → WayLeads s.now (send_home h onward s from o)
  home_leads nowhere from o t p = tells (drop_end cause.Unbound (spot_of o)) stays
  home_leads (on home) from o t p = over_leads (same_name home s.here) from o home t p
  home_leads everywhere from o t p = here_leads (is_other from.port o) from o t p

  cross_leads : (from : SentFrom) (g : Group) (p : Packet) (homes : List Name) (t : Trail) → Leads s.now t (cross_to_each s.here from g p homes t)
  cross_leads from g p [] t = stays
  cross_leads from g p (home ∷ homes) t =
      let e = crosses s.here (crossing_to from (ToGroup g) home p) in
      leads_on (tells e stays) (cross_leads from g p homes (tell e t))

  pub copies_lead : (came : Identity) (qs : List SwitchPort) → WayLeads s.now (copy_to_each (leave onward s came) qs)
  copies_lead came [] t p = stays
  copies_lead came (q ∷ qs) t p = leads_on (leave_leads came q t p) (copies_lead came qs (leave onward s came q t p) p)

  spread_leads : (from : SentFrom) (g : Group) (qs : List SwitchPort) → WayLeads s.now (spread onward s from g qs)
  spread_leads from g qs t p =
      leads_on (cross_leads from g p (other_homes s.config s.here qs) t)
      (copies_lead (port_identity from.port) (local_members s from.port qs) (cross_to_each s.here from g p (other_homes s.config s.here qs) t) p)

  pub send_to_leads : (target : Target) (from : SentFrom) → WayLeads s.now (send_to target onward s from)
  send_to_leads (answer_from mac ip) from t p = leave_leads (port_identity from.port) from.port t (with_arp_reply mac ip p)
  send_to_leads (to_one o) from t p = home_leads (home_of s.config o) from o t p
  send_to_leads (to_group g) from t p = spread_leads from g (members s.config.net from.port.switch g) t p
  send_to_leads to_nobody from t p = tells (drop_end cause.UnknownAddress (spot_of from.port)) stays
