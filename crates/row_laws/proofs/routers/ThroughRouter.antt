-- A packet goes through the stages of a router that translates nothing as the model says.
use Rattle.std.specs.Prelude.{◌≡◌, ◌==◌, ◌&&◌, ◌||◌, [], ◌∷◌, nat_le, Bool, true, false, not, List, Option, Some, None, cond}
use Rattle.std.proofs.Common.{refl, sym, ap, ◌∙◌}
use Rattle.std.proofs.lemmas.Bool.{and_parts, false≢true}
use Rattle.conn_table.specs.Tuples.{tuple_of}
use Rattle.flow_table.specs.declared.flow.Cause.{Cause}
use Rattle.flow_table.specs.declared.flow.Cause.TheVariants as cause
use Rattle.inet_packet.specs.Fields as field
use Rattle.inet_packet.specs.Rewrites.{over_ip4, with_ip4, ip4_as_reply, ip4_dec_ttl}
use Rattle.inet_packet.specs.declared.packet.Body.{Body}
use Rattle.inet_packet.specs.declared.packet.Body.TheVariants as body
use Rattle.inet_packet.specs.declared.packet.Packet.{Packet}
use Rattle.inet_packet.specs.declared.regs.Reg.TheVariants as reg
use Rattle.nb_records.specs.Neighbours.{neighbour_of}
use Rattle.nb_records.specs.Network.{Network}
use Rattle.nb_records.specs.Routers.{is_own_ip}
use Rattle.nb_records.specs.Ways.{NextHop, Way}
use Rattle.nb_records.specs.declared.router.RouterPort.{RouterPort}
use Rattle.nb_rules.specs.Valid.{IsValid}
use Rattle.ovn_base.specs.declared.address.Ip4.{Ip4}
use Rattle.ovn_base.specs.declared.address.Mac.{Mac}
use Rattle.logical_flows.specs.declared.action.Action.{Action}
use Rattle.logical_flows.specs.declared.action.Action.TheVariants as a
use Rattle.logical_flows.specs.declared.stage.Stage.TheVariants as stage
use Rattle.net_model.specs.Entry.{Scene, Onward}
use Rattle.net_model.specs.Forwarding.{leave_router, to_neighbour, over_hop, route_on, own_address, take_in}
use Rattle.net_model.specs.Headers.{carries_ip4, carries_arp, ip_of, src_of, dst_of, asked_ip, is_bad_ip}
use Rattle.net_model.specs.RouterInput.{Intake, answers_with, becomes, passes_on, refuses, answers_asked, arp_answer, is_for_port, is_echo_request, intake}
use Rattle.net_model.specs.Trail.{Trail, spot_in_router, unless, finally}
use Rattle.row_laws.proofs.routers.BestWays.{best_way_law}
use Rattle.row_laws.proofs.routers.InputTerms.{echo_ip4}
use Rattle.row_laws.specs.Copies.{not_sought}
use Rattle.row_laws.specs.StageActions.{unless_dropped}
use Rattle.row_laws.specs.routers.RouterActions.{best_way, route_actions, intake_actions, neighbour_actions}
use Rattle.row_laws.specs.routers.RouterCopies.{RouterCopy, router_port_identity}
use Rattle.row_laws.specs.routers.RouterThrough.{Reaching, comes_to, with_packet, with_out, with_next, done_by, through_router, router_exit_stages, entering, at_exit, left_by, IsIntake, ThroughLaw}

-- a hop less to live leaves the destination
dst_stays : (b : Body) → ip_of (field.ip4_dst (over_ip4 ip4_dec_ttl b)) ≡ ip_of (field.ip4_dst b)
dst_stays (body.Ip4 i) = refl
dst_stays (body.Arp x) = refl
dst_stays (body.Other n) = refl

-- the next hop is set, whichever way it is told
next_at : (net : Network) (more : List Action) (t : Trail) (c : RouterCopy) (next : Ip4) (b : Bool) → (b ≡ true → next ≡ dst_of c.sight.packet)
    → done_by net (cond b a.NextDst (a.Set reg.Next next.0) ∷ more) t c ≡ done_by net more t (with_next next c)
next_at net more t c next true h = ap (λ ip. done_by net more t (with_next ip c)) (sym (h refl))
next_at net more t c next false h = refl

-- ---- what becomes of a packet

module _ (net : Network) (i : RouterPort) (p : Packet) where
  intake_if : (b : Bool) (x y : Intake) → (b ≡ true → IsIntake i p x) → (b ≡ false → IsIntake i p y) → IsIntake i p (cond b x y)
  intake_if true x y h k = h refl
  intake_if false x y h k = k refl

  asked_so : (b : Bool) → answers_asked net i (cond b (Some (ip_of (field.arp_tpa p.body))) None) ≡ true → cond b (Some (ip_of (field.arp_tpa p.body))) None ≡ Some (ip_of (field.arp_tpa p.body))
  asked_so true h = refl
  asked_so false h = absurd (false≢true h)

  abbrev or_passes : Intake
  or_passes = cond (not (carries_ip4 p)) (refuses cause.NotIp4) passes_on

  abbrev or_ends : Intake
  or_ends = cond (carries_ip4 p && nat_le (field.ip_ttl p.body) 1) (refuses cause.Ttl) or_passes

  abbrev or_becomes : Intake
  or_becomes = cond (is_echo_request (tuple_of p) && is_own_ip net i.router (dst_of p)) (becomes (with_ip4 ip4_as_reply p)) or_ends

  abbrev or_bad : Intake
  or_bad = cond (carries_ip4 p && (is_bad_ip (src_of p) || is_bad_ip (dst_of p))) (refuses cause.BadIp) or_becomes

  abbrev or_arp : Intake
  or_arp = cond (carries_arp p) (refuses cause.Arp) or_bad

  abbrev or_answers : Intake
  or_answers = cond (answers_asked net i (asked_ip p)) (answers_with (arp_answer i p)) or_arp

  pub intake_is : IsIntake i p (intake net i p)
  intake_is =
      intake_if (not (is_for_port i p)) (refuses cause.NotForRouter) or_answers (λ h. tt) (λ h.
      intake_if (answers_asked net i (asked_ip p)) (answers_with (arp_answer i p)) or_arp (λ k. (asked_so (carries_arp p && (field.arp_op p.body == 1)) k, refl)) (λ k.
      intake_if (carries_arp p) (refuses cause.Arp) or_bad (λ l. tt) (λ l.
      intake_if (carries_ip4 p && (is_bad_ip (src_of p) || is_bad_ip (dst_of p))) (refuses cause.BadIp) or_becomes (λ m. tt) (λ m.
      intake_if (is_echo_request (tuple_of p) && is_own_ip net i.router (dst_of p)) (becomes (with_ip4 ip4_as_reply p)) or_ends (λ n. let echo = (and_parts (is_echo_request (tuple_of p)) _ n).0 in (echo, echo_ip4 p.body echo, refl)) (λ n.
      intake_if (carries_ip4 p && nat_le (field.ip_ttl p.body) 1) (refuses cause.Ttl) or_passes (λ o. tt) (λ o.
      intake_if (not (carries_ip4 p)) (refuses cause.NotIp4) passes_on (λ q. tt) (λ q. is_so (carries_ip4 p) q)))))))
    where
      is_so : (b : Bool) → not b ≡ false → b ≡ true
      is_so true h = refl
      is_so false h = absurd (false≢true (sym h))

module _ (s : Scene) (valid : IsValid s.config.net) (onward : Onward) (i : RouterPort) (t : Trail) where
  abbrev net : Network
  net = s.config.net

  -- ---- from a stage on

  abbrev out_of : Reaching → Trail
  out_of r = left_by onward net (through_router net router_exit_stages (at_exit r))

  abbrev from_neighbour : Reaching → Trail
  from_neighbour r = out_of (through_router net (stage.RouterNeighbour ∷ []) r)

  abbrev from_route : Reaching → Trail
  from_route r = out_of (through_router net (stage.RouterRoute ∷ stage.RouterNeighbour ∷ []) r)

  abbrev from_input : Reaching → Trail
  from_input r = out_of (through_router net (stage.RouterUndo ∷ stage.RouterDnat ∷ stage.RouterOwn ∷ stage.RouterRoute ∷ stage.RouterNeighbour ∷ []) r)

  abbrev from_admit : Reaching → Trail
  from_admit r = out_of (through_router net (stage.RouterInput ∷ stage.RouterUndo ∷ stage.RouterDnat ∷ stage.RouterOwn ∷ stage.RouterRoute ∷ stage.RouterNeighbour ∷ []) r)

  -- ---- routes

  -- a packet that is to be routed: the router's own answer, or not
  abbrev to_route : Bool → Packet → RouterCopy
  to_route own q = record (entering i q) { words = record { own = own; next = ip_of 0; finding = not_sought } }

  -- and one that is to leave by the port
  abbrev to_leave : Bool → RouterPort → Ip4 → Packet → RouterCopy
  to_leave own out next q = record {
    port = i;
    out = Some out;
    sight = record { packet = record (with_ip4 ip4_dec_ttl q) { src = out.mac }; in_port = router_port_identity i; out_port = Some (router_port_identity out) };
    words = record { own = own; next = next; finding = not_sought };
  }

  sent : (own : Bool) (out : RouterPort) (next : Ip4) (q : Packet) (o : Option Mac) → out_of (done_by net (neighbour_actions o) t (to_leave own out next q)) ≡ to_neighbour onward s false i out o t q
  sent own out next q None = refl
  sent own out next q (Some mac) = refl

  routed : (own : Bool) (q : Packet) → from_route (comes_to 13 t (to_route own q)) ≡ route_on onward s false i t q
  routed own q = by (best_way net i.router (dst_of q)) refl
    where
      by : (o : Option Way) → best_way net i.router (dst_of q) ≡ o → from_neighbour (done_by net (route_actions o) t (to_route own q)) ≡ route_on onward s false i t q
      by None none = ap (λ (h : Option NextHop). over_hop onward s false i h t q) (sym ((best_way_law net valid i.router (dst_of q)).1 none))
      by (Some w) found =
          let k = (best_way_law net valid i.router (dst_of q)).0 w found in
          let spent : RouterCopy = with_packet (with_ip4 ip4_dec_ttl q) (to_route own q) in
          let out : RouterPort = w.hop.port in
          ap from_neighbour (next_at net (a.SetOut out.name ∷ a.EthSrc out.mac ∷ a.Set reg.Loopback 1 ∷ a.Go 14 ∷ []) t spent w.hop.next w.is_network (λ h. k.next h ∙ sym (dst_stays q.body)))
          ∙ ap (λ (o : Option RouterPort). from_neighbour (done_by net (a.EthSrc out.mac ∷ a.Set reg.Loopback 1 ∷ a.Go 14 ∷ []) t (with_out o (with_next w.hop.next spent)))) k.there
          ∙ sent own out w.hop.next q (neighbour_of net out w.hop.next)
          ∙ ap (λ (h : Option NextHop). over_hop onward s false i h t q) (sym k.route)

  -- ---- the stages before

  module _ (p : Packet) where
    not_own : (o : Option Cause) → from_route (done_by net (unless_dropped stage.RouterOwn o) t (entering i p)) ≡ finally (unless o (spot_in_router i) t p) (route_on onward s false i)
    not_own None = routed false p
    not_own (Some why) = refl

    taken : (x : Intake) → IsIntake i p x → from_input (done_by net (intake_actions i p x) t (entering i p)) ≡ take_in x onward s false i t p
    taken (refuses why) is = refl
    taken (answers_with q) is = ap (leave_router onward net i t) (sym is.1)
    taken (becomes q) is = routed true (with_ip4 ip4_as_reply p) ∙ ap (route_on onward s false i t) (sym is.2)
    taken passes_on is = not_own (own_address net i p)

    admitted : (b : Bool) → is_for_port i p ≡ b → from_admit (done_by net (unless_dropped stage.RouterAdmit (cond (not b) (Some cause.NotForRouter) None)) t (entering i p)) ≡ take_in (intake net i p) onward s false i t p
    admitted true is = taken (intake net i p) (intake_is net i p)
    admitted false is = ap (λ b. take_in (cond (not b) (refuses cause.NotForRouter) (or_answers net i p)) onward s false i t p) (sym is)

pub through_router_law : ThroughLaw
through_router_law s valid i off onward t p = admitted s valid onward i t p (is_for_port i p) refl ∙ ap (λ b. take_in (intake s.config.net i p) onward s b i t p) (sym off)
