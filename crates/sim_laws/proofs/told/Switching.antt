-- The pieces of the way through a switch tell of its records.
use Rattle.std.specs.Prelude.{◌≡◌, ◌&&◌, not, Bool, true, false, List, [], ◌∷◌, Option, Some, None, refl}
use Rattle.std.specs.List.{list_any}
use Rattle.std.proofs.Common.{sym, ap, ◌∙◌, inl}
use Rattle.conn_table.specs.Connections.{blocked_as}
use Rattle.conn_table.specs.Tracking.{Seen, forward, reply, invalid, new, seen}
use Rattle.conn_table.specs.Tuples.{reversed}
use Rattle.conn_table.specs.declared.connection.Entry.{Entry}
use Rattle.conn_table.specs.declared.tuple.Tuple.{Tuple}
use Rattle.flow_table.specs.declared.flow.Cause.{Cause}
use Rattle.flow_table.specs.declared.flow.Cause.TheVariants as cause
use Rattle.inet_packet.specs.Rewrites.{with_arp_reply}
use Rattle.inet_packet.specs.declared.packet.Packet.{Packet}
use Rattle.match_language.specs.declared.field.Direction.{Direction}
use Rattle.match_language.specs.declared.field.Direction.TheVariants.{FromLport, ToLport}
use Rattle.nb_records.specs.Network.{Network}
use Rattle.nb_records.specs.Routers.{partner_of_switch_port}
use Rattle.nb_records.specs.declared.switch.PortKind.{PortKind}
use Rattle.nb_records.specs.declared.switch.PortKind.TheVariants as port_kind
use Rattle.nb_records.specs.declared.switch.SwitchPort.{SwitchPort}
use Rattle.net_model.specs.Balancing.{Service, service_for}
use Rattle.net_model.specs.Config.{Home, nowhere, on, everywhere, home_of, is_on, is_here, port_identity}
use Rattle.net_model.specs.Entry.{Scene, Onward, admission, security_in, passage_in, judge_in, secure_in, enter}
use Rattle.net_model.specs.Exit.{exit_denial, passage_out, security_out, secure_out, judge_out, exit, give_out, leave}
use Rattle.net_model.specs.Spread.{SentFrom, crossing_to, send_here, send_over, send_home, other_homes, cross_to_each, local_members, copy_to_each, spread, send_to}
use Rattle.net_model.specs.Targets.{Target, answer_from, to_one, to_group, to_nobody, members, is_other}
use Rattle.net_model.specs.Tracking.{refresh, Passage, desk_of, is_tracked, denial, begin_to, begin, take_new, take_forward, take_reply, invalid_denial, take, is_stateless, track_unless, pass_if, pass}
use Rattle.net_model.specs.Trail.{Trail, of_port, list_of, spot_of, leaves, crosses, tell, unless}
use Rattle.net_model.specs.declared.crossing.Aim.TheVariants.{ToPort, ToGroup}
use Rattle.net_model.specs.declared.crossing.Group.{Group}
use Rattle.ovn_base.proofs.AmongLaws.{filter_among}
use Rattle.ovn_base.specs.declared.name.Name.{Name}
use Rattle.ovn_base.specs.lists.Among.{Among, here, there}
use Rattle.ovn_base.specs.names.SameName.{same_name}
use Rattle.tunnel_keys.specs.declared.owner.Identity.{Identity}
use Rattle.sim_laws.proofs.told.Found.{members_there, HasTarget, behind_there, home_there}
use Rattle.sim_laws.proofs.told.Picked.{commit_tells, balance_tells}
use Rattle.sim_laws.proofs.told.Told.{HasPort, HasSpot, in_switch, HasChassis, leaves_by, crosses_to, TellsSo, PieceTells, WayTells, OnwardTells, tell_tells, drop_tells, unless_tells, then_tells, finally_tells}

module _ (s : Scene) where
  abbrev spotted : (q : SwitchPort) → HasPort s.config.net q → HasSpot s.config.net (spot_of q)
  spotted q has = in_switch q has

  -- ---- tracking

  module _ (g : Passage) (has : HasPort s.config.net g.port) (same : g.net ≡ s.config.net) where
    begin_to_tells : (tuple : Tuple) (o : Option Service) → service_for g.net g.port.switch tuple ≡ o → PieceTells s.config (begin_to g tuple o)
    begin_to_tells tuple (Some service) is t p h =
        balance_tells s.config g.net (desk_of g) tuple service (spotted g.port has) (ap (λ (n : Network). service_for n g.port.switch tuple) (sym same) ∙ is) t p h
    begin_to_tells tuple None is t p h = commit_tells s.config (desk_of g) tuple (reversed tuple) (spotted g.port has) t p h

    begin_without : (tuple : Tuple) → PieceTells s.config (begin_to g tuple None)
    begin_without tuple t p h = commit_tells s.config (desk_of g) tuple (reversed tuple) (spotted g.port has) t p h

    begin_tells : (way : Direction) (tuple : Tuple) → PieceTells s.config (begin way g tuple)
    begin_tells FromLport tuple t p h = begin_to_tells tuple (service_for g.net g.port.switch tuple) refl t p h
    begin_tells ToLport tuple t p h = begin_without tuple t p h

    new_tells : (why : Option Cause) (tuple : Tuple) → PieceTells s.config (take_new why g tuple)
    new_tells (Some why) tuple t p h = drop_tells s.config why (spot_of g.port) t (spotted g.port has) h
    new_tells None tuple t p h = begin_tells g.way tuple t p h

    forward_tells : (why : Option Cause) (e : Entry) → PieceTells s.config (take_forward why g e)
    forward_tells (Some why) e t p h = drop_tells s.config why (spot_of g.port) (refresh (of_port g.port.name) (blocked_as true) e t) (spotted g.port has) h
    forward_tells None e t p h = h

    reply_tells : (blocked : Bool) (e : Entry) → PieceTells s.config (take_reply blocked g e)
    reply_tells true e t p h = drop_tells s.config cause.Blocked (spot_of g.port) t (spotted g.port has) h
    reply_tells false e t p h = h

    take_tells : (sight : Seen) → PieceTells s.config (take g sight)
    take_tells invalid t p h = unless_tells s.config (invalid_denial g) (spot_of g.port) (spotted g.port has) t p h
    take_tells (reply e) t p h = reply_tells e.blocked e t p h
    take_tells (forward e) t p h = forward_tells (denial g.verdict) e t p h
    take_tells (new tuple) t p h = new_tells (denial g.verdict) tuple t p h

    track_tells : (b : Bool) → PieceTells s.config (track_unless b g)
    track_tells true t p h = h
    track_tells false t p h = take_tells (seen (list_of t.lists (of_port g.port.name)) p) t p h

    pass_if_tells : (b : Bool) → PieceTells s.config (pass_if b g)
    pass_if_tells true t p h = track_tells (is_stateless g.verdict) t p h
    pass_if_tells false t p h = unless_tells s.config (denial g.verdict) (spot_of g.port) (spotted g.port has) t p h

    pass_tells : PieceTells s.config (pass g)
    pass_tells t p h = pass_if_tells (is_tracked g.net g.port p) t p h

  -- ---- entering

  module _ (i : SwitchPort) (has : HasPort s.config.net i) where
    judge_in_tells : PieceTells s.config (judge_in s i)
    judge_in_tells t p h = pass_tells (passage_in s i p) has refl t p h

    secure_in_tells : PieceTells s.config (secure_in s i)
    secure_in_tells t p h = then_tells s.config (unless (security_in i p) (spot_of i) t p) (judge_in s i) (unless_tells s.config (security_in i p) (spot_of i) (spotted i has) t p h) judge_in_tells

    pub enter_tells : PieceTells s.config (enter s i)
    enter_tells t p h = then_tells s.config (unless (admission i p) (spot_of i) t p) (secure_in s i) (unless_tells s.config (admission i p) (spot_of i) (spotted i has) t p h) secure_in_tells

  -- ---- leaving

  module _ (came : Identity) (o : SwitchPort) (has : HasPort s.config.net o) where
    secure_out_tells : PieceTells s.config (secure_out o)
    secure_out_tells t p h = unless_tells s.config (security_out o p) (spot_of o) (spotted o has) t p h

    judge_out_tells : PieceTells s.config (judge_out s came o)
    judge_out_tells t p h = then_tells s.config (pass (passage_out s came o p) t p) (secure_out o) (pass_tells (passage_out s came o p) has refl t p h) secure_out_tells

    exit_tells : PieceTells s.config (exit s came o)
    exit_tells t p h = then_tells s.config (unless (exit_denial o) (spot_of o) t p) (judge_out s came o) (unless_tells s.config (exit_denial o) (spot_of o) (spotted o has) t p h) judge_out_tells

  module _ (onward : Onward) (tells : OnwardTells s.config onward) where
    give_tells : (o : SwitchPort) → HasPort s.config.net o → (k : PortKind) → WayTells s.config (give_out onward s.config.net o k)
    give_tells o has port_kind.Virtual t p h = tell_tells s.config (leaves o.name p) t (leaves_by o p has) h
    give_tells o has port_kind.Router t p h = tells (spot_of o) (partner_of_switch_port s.config.net o) (spotted o has) (behind_there s.config.net o) t p h

    pub leave_tells : (came : Identity) (o : SwitchPort) → HasPort s.config.net o → WayTells s.config (leave onward s came o)
    leave_tells came o has t p h = finally_tells s.config (exit s came o t p) (give_out onward s.config.net o o.kind) (exit_tells came o has t p h) (give_tells o has o.kind)

    -- a copy leaves by each of the ports
    pub copies_tell : (came : Identity) (qs : List SwitchPort) → ((q : SwitchPort) → Among q qs → HasPort s.config.net q) → WayTells s.config (copy_to_each (leave onward s came) qs)
    copies_tell came [] has t p h = h
    copies_tell came (q ∷ qs) has t p h = copies_tell came qs (λ o m. has o (there m)) (leave onward s came q t p) p (leave_tells came q (has q here) t p h)

    -- ---- spreading

    module _ (chassis : HasChassis s.config s.here) (from : SentFrom) (came : HasPort s.config.net from.port) where
      here_tells : (b : Bool) (o : SwitchPort) → HasPort s.config.net o → WayTells s.config (send_here b onward s from o)
      here_tells true o has t p h = leave_tells (port_identity from.port) o has t p h
      here_tells false o has t p h = drop_tells s.config cause.Loopback (spot_of o) t (spotted o has) h

      over_tells : (b : Bool) (o : SwitchPort) (home : Name) → HasPort s.config.net o → HasChassis s.config home → WayTells s.config (send_over b onward s from o home)
      over_tells true o home has has_home t p h = here_tells (is_other from.port o) o has t p h
      over_tells false o home has has_home t p h =
          tell_tells s.config (crosses s.here (crossing_to from (ToPort (port_identity o)) home p)) t (crosses_to s.here home from (ToPort (port_identity o)) p chassis has_home (o, has, refl)) h

      home_tells : (a : Home) (o : SwitchPort) → HasPort s.config.net o → home_of s.config o ≡ a → WayTells s.config (send_home a onward s from o)
      home_tells nowhere o has is t p h = drop_tells s.config cause.Unbound (spot_of o) t (spotted o has) h
      home_tells (on home) o has is t p h = over_tells (same_name home s.here) o home has (home_there s.config home o is) t p h
      home_tells everywhere o has is t p h = here_tells (is_other from.port o) o has t p h

      cross_tells : (g : Group) (p : Packet) (homes : List Name) → ((home : Name) → Among home homes → HasChassis s.config home) → (t : Trail) → TellsSo s.config t → TellsSo s.config (cross_to_each s.here from g p homes t)
      cross_tells g p [] each t h = h
      cross_tells g p (home ∷ homes) each t h =
          let e = crosses s.here (crossing_to from (ToGroup g) home p) in
          cross_tells g p homes (λ a m. each a (there m)) (tell e t) (tell_tells s.config e t (crosses_to s.here home from (ToGroup g) p chassis (each home here) tt) h)

      spread_tells : (g : Group) (qs : List SwitchPort) → ((q : SwitchPort) → Among q qs → HasPort s.config.net q) → WayTells s.config (spread onward s from g qs)
      spread_tells g qs has t p h =
          let homes = other_homes s.config s.here qs in
          let member : (q : SwitchPort) → Among q (local_members s from.port qs) → HasPort s.config.net q = λ q m. has q (filter_among (λ (o : SwitchPort). is_other from.port o && is_here s.here (home_of s.config o)) q qs m).0 in
          let other : (home : Name) → Among home homes → HasChassis s.config home = λ home m. inl (filter_among (λ (a : Name). not (same_name a s.here) && list_any (λ q. is_on a (home_of s.config q)) qs) home s.config.chassis m).0 in
          copies_tell (port_identity from.port) (local_members s from.port qs) member (cross_to_each s.here from g p homes t) p (cross_tells g p homes other t h)

      pub send_to_tells : (target : Target) → HasTarget s.config.net target → WayTells s.config (send_to target onward s from)
      send_to_tells (answer_from mac ip) has t p h = leave_tells (port_identity from.port) from.port came t (with_arp_reply mac ip p) h
      send_to_tells (to_one o) has t p h = home_tells (home_of s.config o) o has refl t p h
      send_to_tells (to_group g) has t p h = spread_tells g (members s.config.net from.port.switch g) (members_there s.config.net from.port.switch g) t p h
      send_to_tells to_nobody has t p h = drop_tells s.config cause.UnknownAddress (spot_of from.port) t (spotted from.port came) h
