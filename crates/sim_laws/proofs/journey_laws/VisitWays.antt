-- What a packet leaves on its way through switches and routers: crossings that may wait, and no list but those of ports that are bound to the chassis,
-- and of gateway routers that are at home there.
-- It goes on where the router is at home here, and crosses to the chassis of others.
use Rattle.std.specs.Prelude.{◌≡◌, ◌&&◌, ℕ, zero, suc, Bool, true, false, List, [], ◌∷◌, ◌++◌, map, Option, Some, None, option_map, refl}
use Rattle.std.proofs.Common.{sym, ap, ◌∙◌, subst, inl, inr}
use Rattle.std.proofs.lemmas.Bool.{and_parts, false_from_ne_true, false≢true}
use Rattle.std.proofs.lemmas.Option.{same_Some}
use Rattle.flow_table.specs.declared.flow.Cause.{Cause}
use Rattle.flow_table.specs.declared.flow.Cause.TheVariants as cause
use Rattle.inet_packet.specs.Rewrites.{with_arp_reply}
use Rattle.inet_packet.specs.Whole.{IsWhole}
use Rattle.inet_packet.specs.declared.packet.Packet.{Packet}
use Rattle.nb_records.specs.Neighbours.{neighbour_of}
use Rattle.nb_records.specs.Network.{Network}
use Rattle.nb_records.specs.Routers.{Partner, switch_side, router_side, partner_of_switch_port, partner_of_router_port}
use Rattle.nb_records.specs.Switches.{is_virtual}
use Rattle.nb_records.specs.Ways.{Way}
use Rattle.nb_records.specs.declared.router.RouterPort.{RouterPort}
use Rattle.nb_records.specs.declared.switch.PortKind.{PortKind}
use Rattle.nb_records.specs.declared.switch.SwitchPort.{SwitchPort}
use Rattle.nb_rules.specs.Valid.{IsValid}
use Rattle.net_model.specs.Config.{Home, nowhere, on, everywhere, home_if, home_by_kind, home_of, home_of_router, home_of_router_port, is_here, port_identity}
use Rattle.net_model.specs.Entry.{Scene, Onward, admission, security_in, passage_in, judge_in, secure_in, enter}
use Rattle.net_model.specs.Exit.{exit_denial, passage_out, security_out, secure_out, judge_out, exit, give_out, leave}
use Rattle.net_model.specs.Forwarding.{is_translating, where_translating, leave_router, to_neighbour, over_hop, route_on, come_in, take_in, routed, into_router}
use Rattle.net_model.specs.Headers.{dst_of}
use Rattle.net_model.specs.Journey.{scene_at}
use Rattle.net_model.specs.RouterInput.{Intake, answers_with, becomes, passes_on, refuses, intake}
use Rattle.net_model.specs.Snat.{snat}
use Rattle.net_model.specs.Spread.{SentFrom, crossing_to, send_here, send_over, send_home, other_homes, cross_to_each, local_members, copy_to_each, spread, send_to}
use Rattle.net_model.specs.State.{State}
use Rattle.net_model.specs.Targets.{Target, answer_from, to_one, to_group, to_nobody, members, is_other, target_of}
use Rattle.net_model.specs.Tracking.{Passage, denial, is_tracked, pass, pass_if}
use Rattle.net_model.specs.Trail.{Trail, Spot, spot_of, spot_in_router, Point, goes, stops, finally, unless, crosses, is_dropped, tell}
use Rattle.net_model.specs.Visit.{send_on, into_switch, passing, passing_on, visit}
use Rattle.net_model.specs.declared.crossing.Aim.TheVariants.{ToPort, ToGroup}
use Rattle.net_model.specs.declared.crossing.Crossing.{Crossing}
use Rattle.net_model.specs.declared.crossing.Group.{Group}
use Rattle.ovn_base.proofs.AmongLaws.{among_append, among_cases, among_none, filter_among, map_among}
use Rattle.ovn_base.specs.declared.address.Mac.{Mac}
use Rattle.ovn_base.specs.declared.limits.TheConstants.{MAX_HOPS}
use Rattle.ovn_base.specs.declared.name.Name.{Name}
use Rattle.ovn_base.specs.lists.Among.{Among, here, there}
use Rattle.ovn_base.specs.names.ByName.{at}
use Rattle.ovn_base.specs.names.SameName.{bytes_decides, same_name}
use Rattle.physical_flows.specs.Bindings.{router_homes}
use Rattle.physical_flows.specs.RecordKeys.{HaveKeys}
use Rattle.row_laws.proofs.records.SwitchPorts.{IsEnabled, enabled_is, router_kind}
use Rattle.row_laws.proofs.routers.BestWays.{best_way_law}
use Rattle.row_laws.specs.routers.RouterActions.{best_way}
use Rattle.sim_laws.proofs.Homes.{translating_home}
use Rattle.sim_laws.proofs.journey_laws.AimedTargets.{Aims, aims}
use Rattle.sim_laws.proofs.journey_laws.NatWays.{come_in_on, snat_on, where_on}
use Rattle.sim_laws.proofs.journey_laws.SendingWays.{OnWay, bound_here, cross_on}
use Rattle.sim_laws.proofs.journey_laws.SentCrossings.{from, member_enabled, to_all, to_port_but}
use Rattle.sim_laws.proofs.journey_laws.SwitchWays.{enter_on, leave_on}
use Rattle.sim_laws.proofs.journey_laws.Ways.{PointOn, stays, both, told, then_on, unless_on}
use Rattle.sim_laws.proofs.passes.Members.{virtual_is}
use Rattle.sim_laws.proofs.router_passes.Partners.{partner_here, partner_there}
use Rattle.tunnel_keys.specs.declared.owner.Identity.{Identity}
use Rattle.sim_laws.specs.Sound.{MayWait}
use Rattle.sim_laws.specs.routers.Patches.{LeadsTo}

module _ (m : State) (valid : IsValid m.config.net) (have : HaveKeys m.config.net m.keys) (chassis : Name) (n : ℕ) where
  abbrev net : Network
  net = m.config.net

  abbrev s : Scene
  s = scene_at m chassis

  abbrev On : List Crossing → Trail → Trail → Type 0
  On xs t u = OnWay s n xs t u

  abbrev Through : Trail → Point → Type 0
  Through t a = PointOn m.config chassis n t a

  -- a way on which crossings are left that may wait, where their packets are whole
  pub record Leaves (t u : Trail) : Type 0 where
    pub crossings : List Crossing
    pub way : On crossings t u
    pub may : (x : Crossing) → Among x crossings → IsWhole x.packet → MayWait m x

  pub none_left : (t u : Trail) → On [] t u → Leaves t u
  none_left t u way = record { crossings = []; way = way; may = λ x among whole. absurd (among_none x among) }

  dropped : (why : Cause) (spot : Spot) (t : Trail) → Leaves t (tell (is_dropped spot.datapath spot.port why) t)
  dropped why spot t = none_left t (tell (is_dropped spot.datapath spot.port why) t) (told m.config chassis n (is_dropped spot.datapath spot.port why) t tt)

  both_left : (t u v : Trail) → Leaves t u → Leaves u v → Leaves t v
  both_left t u v a b = record {
    crossings = a.crossings ++ b.crossings;
    way = both m.config chassis n a.crossings b.crossings t u v a.way b.way;
    may = λ x among whole. elim (among_append x a.crossings b.crossings among) [
      | inl first ↦ a.may x first whole
      | inr later ↦ b.may x later whole
    ];
  }

  finally_left : (t : Trail) (a : Point) (f : Trail → Packet → Trail) → Through t a → ((u : Trail) (q : Packet) → Leaves u (f u q)) → Leaves t (finally a f)
  finally_left t (goes u q) f h k = both_left t u (f u q) (none_left t u h) (k u q)
  finally_left t (stops u) f h k = none_left t u h

  -- what goes on at the partner of a port leaves such crossings
  abbrev GoesSo : Onward → Type 0
  GoesSo onward = (spot : Spot) (partner : Option Partner) → LeadsTo s spot partner → (t : Trail) (p : Packet) → Leaves t (onward spot partner t p)

  -- ---- by a port that leads to a router the packet passes untracked

  passes_through : (g : Passage) → is_virtual g.port ≡ false → (t : Trail) (p : Packet) → Through t (pass g t p)
  passes_through g leads t p =
      subst (λ (b : Bool). Through t (pass_if b g t p)) (sym (false_from_ne_true (is_tracked g.net g.port p) (λ h. false≢true (sym leads ∙ (and_parts (is_virtual g.port) _ h).0))))
      (unless_on m.config chassis n (denial g.verdict) (spot_of g.port) t p)

  module _ (o : SwitchPort) (leads : is_virtual o ≡ false) where
    enters_through : (t : Trail) (p : Packet) → Through t (enter s o t p)
    enters_through t p =
        then_on m.config chassis n t (unless (admission o p) (spot_of o) t p) (secure_in s o) (unless_on m.config chassis n (admission o p) (spot_of o) t p)
        (λ u q. then_on m.config chassis n u (unless (security_in o q) (spot_of o) u q) (judge_in s o) (unless_on m.config chassis n (security_in o q) (spot_of o) u q) (λ v r. passes_through (passage_in s o r) leads v r))

    exits_through : (came : Identity) (t : Trail) (p : Packet) → Through t (exit s came o t p)
    exits_through came t p =
        then_on m.config chassis n t (unless (exit_denial o) (spot_of o) t p) (judge_out s came o) (unless_on m.config chassis n (exit_denial o) (spot_of o) t p)
        (λ u q. then_on m.config chassis n u (pass (passage_out s came o q) u q) (secure_out o) (passes_through (passage_out s came o q) leads u q) (λ v r. unless_on m.config chassis n (security_out o r) (spot_of o) v r))

  -- ---- what leaves a switch, or is sent in it

  module _ (onward : Onward) (so : GoesSo onward) where
    leave_left : (came : Identity) (o : SwitchPort) → at net.switch_ports o.name ≡ Some o → is_here chassis (home_of m.config o) ≡ true → (t : Trail) (p : Packet) → Leaves t (leave onward s came o t p)
    leave_left came o o_there at_home t p = by (is_virtual o) refl
      where
        by : (b : Bool) → is_virtual o ≡ b → Leaves t (leave onward s came o t p)
        by true virtual = none_left t (leave onward s came o t p) (leave_on s n onward came o virtual (bound_here s n o virtual at_home) t p)
        by false leads =
            finally_left t (exit s came o t p) (give_out onward net o o.kind) (exits_through o leads came t p)
            (λ u q. subst (λ (k : PortKind). Leaves u (give_out onward net o k u q)) (sym (router_kind o.kind leads))
            (so (spot_of o) (partner_of_switch_port net o) (LeadsTo.to_router o o_there leads at_home refl refl) u q))

    copies_left : (came : Identity) (qs : List SwitchPort) → ((q : SwitchPort) → Among q qs → (at net.switch_ports q.name ≡ Some q) × (is_here chassis (home_of m.config q) ≡ true)) → (t : Trail) (p : Packet)
        → Leaves t (copy_to_each (leave onward s came) qs t p)
    copies_left came [] each t p = none_left t t (stays m.config chassis n t)
    copies_left came (q ∷ qs) each t p =
        let first : Trail = leave onward s came q t p in
        let own = each q here in
        both_left t first (copy_to_each (leave onward s came) qs first p) (leave_left came q own.0 own.1 t p) (copies_left came qs (λ r among. each r (there among)) first p)

    module _ (i : SwitchPort) (i_there : at net.switch_ports i.name ≡ Some i) (at_home : is_here chassis (home_of m.config i) ≡ true) where
      abbrev sender : SentFrom
      sender = from m valid have i i_there

      -- a port that is at home elsewhere isn't the port of entry
      other_port : (o : SwitchPort) → at net.switch_ports o.name ≡ Some o → is_here chassis (home_of m.config o) ≡ false → ¬ (o.name ≡ i.name)
      other_port o o_there away same =
          let one : o ≡ i = same_Some o i (sym o_there ∙ ap (λ a. at net.switch_ports a) same ∙ i_there) in
          false≢true (sym away ∙ ap (λ (q : SwitchPort). is_here chassis (home_of m.config q)) one ∙ at_home)

      module _ (p : Packet) where
        one_left : (o : SwitchPort) → IsEnabled net valid i.switch o → (t : Trail) → Leaves t (send_home (home_of m.config o) onward s sender o t p)
        one_left o e t = by (home_of m.config o) refl
          where
            here_left : is_here chassis (home_of m.config o) ≡ true → (b : Bool) → Leaves t (send_here b onward s sender o t p)
            here_left own true = leave_left (port_identity i) o e.there own t p
            here_left own false = dropped cause.Loopback (spot_of o) t

            over_left : (home : Name) → home_of m.config o ≡ on home → (b : Bool) → same_name home chassis ≡ b → Leaves t (send_over b onward s sender o home t p)
            over_left home lives true own = here_left (ap (is_here chassis) lives ∙ own) (is_other i o)
            over_left home lives false apart =
                let x = crossing_to sender (ToPort (port_identity o)) home p in
                record {
                  crossings = x ∷ [];
                  way = told m.config chassis n (crosses chassis x) t refl;
                  may = λ y among whole. elim (among_cases y x [] among) [
                    | inl same ↦
                        subst (MayWait m) (sym same)
                        (to_port_but m valid have i i_there o e home p (subst (λ (z : Crossing). IsWhole z.packet) same whole) (other_port o e.there (ap (is_here chassis) lives ∙ apart)))
                    | inr later ↦ absurd (among_none y later)
                  ];
                }

            by : (h : Home) → home_of m.config o ≡ h → Leaves t (send_home h onward s sender o t p)
            by nowhere lives = dropped cause.Unbound (spot_of o) t
            by (on home) lives = over_left home lives (same_name home chassis) refl
            by everywhere lives = here_left (ap (is_here chassis) lives) (is_other i o)

        group_left : (g : Group) (t : Trail) → Leaves t (spread onward s sender g (members net i.switch g) t p)
        group_left g t =
            let qs = members net i.switch g in
            let homes = other_homes m.config chassis qs in
            let first : Trail = cross_to_each chassis sender g p homes t in
            let test : SwitchPort → Bool = λ q. is_other i q && is_here chassis (home_of m.config q) in
            both_left t first (spread onward s sender g qs t p) (record {
              crossings = map (λ home. crossing_to sender (ToGroup g) home p) homes;
              way = cross_on s n sender p g homes t;
              may = λ x among whole.
                  let y = map_among (λ home. crossing_to sender (ToGroup g) home p) x homes among in
                  subst (MayWait m) (sym y.2) (to_all m valid have i i_there g y.0 p (subst (λ (z : Crossing). IsWhole z.packet) y.2 whole));
            })
            (copies_left (port_identity i) (local_members s i qs) (λ q among.
            let both' = filter_among test q qs among in
            ((member_enabled net valid i.switch g q both'.0).there, (and_parts (is_other i q) (is_here chassis (home_of m.config q)) both'.1).1)) first p)

        send_left : (target : Target) → Aims net i p target → (t : Trail) → Leaves t (send_to target onward s sender t p)
        send_left (answer_from mac ip) aim t = leave_left (port_identity i) i i_there at_home t (with_arp_reply mac ip p)
        send_left (to_one o) aim t = one_left o (enabled_is net valid i.switch o aim) t
        send_left (to_group g) aim t = group_left g t
        send_left to_nobody aim t = dropped cause.UnknownAddress (spot_of i) t

    -- ---- from one datapath into the next

    into_switch_left : (q : SwitchPort) → at net.switch_ports q.name ≡ Some q → is_virtual q ≡ false → is_here chassis (home_of m.config q) ≡ true → (t : Trail) (p : Packet) → Leaves t (into_switch onward s q t p)
    into_switch_left q q_there leads at_home t p =
        finally_left t (enter s q t p) (send_on onward s q) (enters_through q leads t p) (λ u r. send_left q q_there at_home r (target_of net q r) (aims net q r) u)

    -- a list of a router is here where the router translates
    abbrev Homed : Bool → RouterPort → Type 0
    Homed b r = b ≡ true → at (router_homes m.config) r.router ≡ Some chassis

    out_left : (out : RouterPort) → at net.router_ports out.name ≡ Some out → is_here chassis (home_of_router_port m.config out) ≡ true → (t : Trail) (p : Packet) → Leaves t (leave_router onward net out t p)
    out_left out out_there at_home t p = so (spot_in_router out) (partner_of_router_port net out) (LeadsTo.of_router out out_there at_home refl refl) t p

    route_left : (r : RouterPort) → is_here chassis (home_of_router_port m.config r) ≡ true → (b : Bool) → Homed b r → (t : Trail) (p : Packet) → Leaves t (route_on onward s b r t p)
    route_left r at_home b homed t p = by (best_way net r.router (dst_of p)) refl
      where
        by_neighbour : (out : RouterPort) → at net.router_ports out.name ≡ Some out → out.router ≡ r.router → (mac : Option Mac) → Leaves t (to_neighbour onward s b r out mac t p)
        by_neighbour out out_there same None = dropped cause.NoNeighbour (spot_in_router r) t
        by_neighbour out out_there same (Some mac) =
            let piece : Trail → Packet → Point = snat net s.now (spot_in_router out) out.router in
            finally_left t (where_translating b piece t (routed out mac p)) (leave_router onward net out)
            (where_on m.config chassis n b piece (λ k u q. snat_on m.config chassis n net s.now (spot_in_router out) out.router (ap (λ a. at (router_homes m.config) a) same ∙ homed k) u q) t (routed out mac p))
            (λ u q. out_left out out_there (ap (λ a. is_here chassis (home_if (home_of_router m.config) (at net.routers a))) same ∙ at_home) u q)

        by : (w : Option Way) → best_way net r.router (dst_of p) ≡ w → Leaves t (over_hop onward s b r (option_map (λ (x : Way). x.hop) w) t p)
        by None none = dropped cause.NoRoute (spot_in_router r) t
        by (Some w) found = let own = (best_way_law net valid r.router (dst_of p)).0 w found in by_neighbour w.hop.port own.there own.on (neighbour_of net w.hop.port w.hop.next)

    module _ (r : RouterPort) (r_there : at net.router_ports r.name ≡ Some r) (at_home : is_here chassis (home_of_router_port m.config r) ≡ true) where
      taken_left : (b : Bool) → Homed b r → (t : Trail) (p : Packet) (x : Intake) → Leaves t (take_in x onward s b r t p)
      taken_left b homed t p (refuses why) = dropped why (spot_in_router r) t
      taken_left b homed t p (answers_with q) = out_left r r_there at_home t q
      taken_left b homed t p (becomes q) = route_left r at_home false (λ off. absurd (false≢true off)) t q
      taken_left b homed t p passes_on = finally_left t (come_in s b r t p) (route_on onward s b r) (come_in_on s n r b homed t p) (λ u q. route_left r at_home b homed u q)

      into_router_left : (t : Trail) (p : Packet) → Leaves t (into_router onward s r t p)
      into_router_left t p = taken_left (is_translating net r) (λ k. translating_home m.config valid.in_order.routers chassis r at_home k) t p (intake net r p)

  -- whatever passes are left
  passing_left : (left : ℕ) → GoesSo (passing left s)
  passing_left zero spot None leads t p = dropped cause.NoPeer spot t
  passing_left zero spot (Some x) leads t p = dropped cause.HopLimit spot t
  passing_left (suc left) spot None leads t p = dropped cause.NoPeer spot t
  passing_left (suc left) spot (Some (switch_side q)) leads t p =
      let own = partner_there s valid spot (switch_side q) leads in
      into_switch_left (passing left s) (passing_left left) q own.0 own.1 (partner_here s valid spot (switch_side q) leads) t p
  passing_left (suc left) spot (Some (router_side r)) leads t p =
      into_router_left (passing left s) (passing_left left) r (partner_there s valid spot (router_side r) leads) (partner_here s valid spot (router_side r) leads) t p

  -- what leaves a switch, by one port or by several
  module _ (came : Identity) where
    pub leaving_left : (o : SwitchPort) → at net.switch_ports o.name ≡ Some o → is_here chassis (home_of m.config o) ≡ true → (t : Trail) (p : Packet) → Leaves t (leave (passing_on s) s came o t p)
    leaving_left o o_there at_home t p = leave_left (passing_on s) (passing_left MAX_HOPS) came o o_there at_home t p

    pub copying_left : (qs : List SwitchPort) → ((q : SwitchPort) → Among q qs → (at net.switch_ports q.name ≡ Some q) × (is_here chassis (home_of m.config q) ≡ true)) → (t : Trail) (p : Packet)
        → Leaves t (copy_to_each (leave (passing_on s) s came) qs t p)
    copying_left qs each t p = copies_left (passing_on s) (passing_left MAX_HOPS) came qs each t p

  -- a visit
  module _ (i : SwitchPort) (i_there : at net.switch_ports i.name ≡ Some i) (virtual : is_virtual i ≡ true) (home : at m.config.bindings i.name ≡ Some chassis) where
    at_home : is_here chassis (home_of m.config i) ≡ true
    at_home = ap (is_here chassis) (ap (home_by_kind m.config i) (virtual_is i.kind virtual) ∙ ap (home_if on) home) ∙ (bytes_decides chassis chassis).1 refl

    pub visit_left : (t : Trail) (p : Packet) → Leaves t (visit s i t p)
    visit_left t p =
        finally_left t (enter s i t p) (send_on (passing_on s) s i) (enter_on s n i home t p)
        (λ u q. send_left (passing_on s) (passing_left MAX_HOPS) i i_there at_home q (target_of net i q) (aims net i q) u)
