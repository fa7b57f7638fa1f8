-- What a way finds in the records is there: ports, partners, next hops, targets and homes.
use Rattle.std.specs.Prelude.{◌≡◌, ◌&&◌, ◌++◌, Bool, true, false, cond, List, [], ◌∷◌, Option, Some, None, option_map, refl}
use Rattle.std.specs.List.{filter, find, filter_map}
use Rattle.std.specs.Map.{values_of}
use Rattle.std.specs.Option.{option_and_then}
use Rattle.std.proofs.Common.{sym, ◌∙◌, subst, inl, inr}
use Rattle.std.proofs.lemmas.Option.{none-some, same_Some}
use Rattle.inet_packet.specs.declared.packet.Packet.{Packet}
use Rattle.nb_records.specs.Network.{Network}
use Rattle.nb_records.specs.Routers.{contains, router_ports_of, router_side, switch_port_before, peer_by, switch_side_or, partner_of_router_port, partner_of_switch_port}
use Rattle.nb_records.specs.Switches.{is_given, is_virtual, has_mac, mac_of_ip, first_answer, switch_ports_of, enabled_ports, router_port_behind, takes_unknown}
use Rattle.nb_records.specs.Ways.{best_of, best_by, NextHop, Way, is_better_way, ways_of_port, network_ways, by_route, route_way, routes_of, route_of}
use Rattle.nb_records.specs.declared.router.Route.{Route}
use Rattle.nb_records.specs.declared.router.Router.{Router}
use Rattle.nb_records.specs.declared.router.RouterPort.{RouterPort}
use Rattle.nb_records.specs.declared.switch.PortKind.{PortKind}
use Rattle.nb_records.specs.declared.switch.PortKind.TheVariants as port_kind
use Rattle.nb_records.specs.declared.switch.SwitchPort.{SwitchPort}
use Rattle.net_model.specs.Config.{Config, Home, nowhere, on, home_if, is_chassis, chassis_home, home_of_router, home_of_router_port, home_by_kind, home_of}
use Rattle.net_model.specs.Headers.{asked_ip}
use Rattle.net_model.specs.Targets.{Target, answer_from, to_one, to_group, to_nobody, members, is_other, answer_target, asked_of_all, answers_behind, router_target, flood_target, known_target, group_if, unknown_target, target_of}
use Rattle.net_model.specs.Trail.{given_or}
use Rattle.net_model.specs.declared.crossing.Group.{Group}
use Rattle.net_model.specs.declared.crossing.Group.TheVariants.{Flood, Unknown}
use Rattle.ovn_base.proofs.AmongLaws.{among_append, filter_among, map_among, flat_map_among, filter_map_among, among_map, any_among, among_same}
use Rattle.ovn_base.proofs.ByNameLaws.{at_among}
use Rattle.ovn_base.specs.addresses.EtherAddress.{is_multicast_mac}
use Rattle.ovn_base.specs.declared.address.Cidr.{Cidr}
use Rattle.ovn_base.specs.declared.address.Ip4.{Ip4}
use Rattle.ovn_base.specs.declared.address.Mac.{Mac}
use Rattle.ovn_base.specs.declared.name.Name.{Name}
use Rattle.ovn_base.specs.lists.Among.{Among, there}
use Rattle.ovn_base.specs.names.ByName.{at}
use Rattle.ovn_base.specs.names.SameName.{same_name, bytes_decides}
use Rattle.row_laws.proofs.records.Searches.{found_by}
use Rattle.sim_laws.proofs.told.Told.{HasPort, HasRouterPort, HasPartner, HasChassis}

-- ---- lists

-- what stands at a name is one of the values
pub value_at : {X : Type 0} (es : List (Name × X)) (q : Name) (x : X) → at es q ≡ Some x → Among x (values_of es)
value_at {X} es q x h = among_map (λ (e : Name × X). e.1) (q, x) es (at_among es q x h)

module _ {X : Type 0} (beats : X → X → Bool) where
  -- the best is one of them
  pub best_among : (xs : List X) (x : X) → best_by beats xs ≡ Some x → Among x xs
  best_among [] x h = absurd (none-some x h)
  best_among (y ∷ ys) x h = by (best_by beats ys) (best_among ys) (same_Some (best_of beats y (best_by beats ys)) x h)
    where
      better : (z : X) (b : Bool) → Among z ys → cond b z y ≡ x → Among x (y ∷ ys)
      better z true m e = there (subst (λ (w : X). Among w ys) e m)
      better z false m e = among_same x y ys (sym e)

      by : (o : Option X) → ((z : X) → o ≡ Some z → Among z ys) → best_of beats y o ≡ x → Among x (y ∷ ys)
      by None rest e = among_same x y ys (sym e)
      by (Some z) rest e = better z (beats z y) (rest z refl) e

-- ---- ports of switches

module _ (net : Network) where
  pub enabled_there : (switch : Name) (q : SwitchPort) → Among q (enabled_ports net switch) → HasPort net q
  enabled_there switch q m =
      let one = (filter_among (λ (o : SwitchPort). o.enabled) q (switch_ports_of net switch) m).0 in
      (filter_among (λ (o : SwitchPort). same_name o.switch switch) q (values_of net.switch_ports) one).0

  pub members_there : (switch : Name) (g : Group) (q : SwitchPort) → Among q (members net switch g) → HasPort net q
  members_there switch Flood q m = enabled_there switch q m
  members_there switch Unknown q m = enabled_there switch q (filter_among (λ (o : SwitchPort). takes_unknown o.addresses) q (enabled_ports net switch) m).0

  -- ---- targets

  abbrev pub HasTarget : Target → Type 0
  HasTarget (answer_from mac ip) = Unit {0}
  HasTarget (to_one q) = HasPort net q
  HasTarget (to_group g) = Unit {0}
  HasTarget to_nobody = Unit {0}

  abbrev HasTargetIf : Option Target → Type 0
  HasTargetIf None = Unit {0}
  HasTargetIf (Some target) = HasTarget target

  given_there : (o : Option Target) (target : Target) → HasTargetIf o → HasTarget target → HasTarget (given_or o target)
  given_there None target h k = k
  given_there (Some one) target h k = h

  one_there : (test : SwitchPort → Bool) (switch : Name) → HasTargetIf (option_map to_one (find test (enabled_ports net switch)))
  one_there test switch = by (find test (enabled_ports net switch)) refl
    where
      by : (o : Option SwitchPort) → find test (enabled_ports net switch) ≡ o → HasTargetIf (option_map to_one o)
      by None is = tt
      by (Some q) is = enabled_there switch q (found_by test (enabled_ports net switch) q is).0

  answer_there : (i : SwitchPort) (o : Option Ip4) → HasTargetIf (answer_target net i o)
  answer_there i None = tt
  answer_there i (Some ip) = by (first_answer (mac_of_ip ip) (filter (λ (q : SwitchPort). is_virtual q && is_other i q) (enabled_ports net i.switch)))
    where
      by : (o : Option Mac) → HasTargetIf (option_map (λ (mac : Mac). answer_from mac ip) o)
      by None = tt
      by (Some mac) = tt

  router_there : (switch : Name) (o : Option Ip4) → HasTargetIf (router_target net switch o)
  router_there switch None = tt
  router_there switch (Some ip) = one_there (answers_behind net ip) switch

  flood_there : (p : Packet) → HasTargetIf (flood_target p)
  flood_there p = by (is_multicast_mac p.dst)
    where
      by : (b : Bool) → HasTargetIf (cond b (Some (to_group Flood)) None)
      by true = tt
      by false = tt

  unknown_there : (switch : Name) → HasTargetIf (unknown_target net switch)
  unknown_there switch = by (members net switch Unknown)
    where
      by : (qs : List SwitchPort) → HasTargetIf (group_if Unknown qs)
      by [] = tt
      by (q ∷ qs) = tt

  pub target_there : (i : SwitchPort) (p : Packet) → HasTarget (target_of net i p)
  target_there i p =
      given_there (answer_target net i (asked_ip p)) _ (answer_there i (asked_ip p))
      (given_there (router_target net i.switch (asked_of_all p)) _ (router_there i.switch (asked_of_all p))
      (given_there (flood_target p) _ (flood_there p)
      (given_there (known_target net i.switch p.dst) _ (one_there (has_mac net p.dst) i.switch) (given_there (unknown_target net i.switch) to_nobody (unknown_there i.switch) tt))))

  -- ---- partners

  pub behind_there : (q : SwitchPort) → HasPartner net (partner_of_switch_port net q)
  behind_there q = by q.router_port
    where
      found : (o : Option RouterPort) (name : Name) → at net.router_ports name ≡ o → HasPartner net (option_map router_side o)
      found None name is = tt
      found (Some r) name is = value_at net.router_ports name r is

      by : (o : Option Name) → HasPartner net (option_map router_side (option_and_then (at net.router_ports) o))
      by None = tt
      by (Some name) = found (at net.router_ports name) name refl

  peer_there : (name : Name) (peer : Option Name) (r : RouterPort) → peer_by net name peer ≡ Some r → HasRouterPort net r
  peer_there name (Some peer) r is = value_at net.router_ports peer r is
  peer_there name None r is = (found_by (λ (p : RouterPort). is_given name p.peer) (values_of net.router_ports) r is).0

  pub partner_there : (r : RouterPort) → HasPartner net (partner_of_router_port net r)
  partner_there r = by (switch_port_before net r) refl
    where
      peer : (o : Option RouterPort) → peer_by net r.name r.peer ≡ o → HasPartner net (option_map router_side o)
      peer None is = tt
      peer (Some p) is = peer_there r.name r.peer p is

      by : (o : Option SwitchPort) → switch_port_before net r ≡ o → HasPartner net (switch_side_or (peer_by net r.name r.peer) o)
      by None is = peer (peer_by net r.name r.peer) refl
      by (Some q) is = (found_by (λ (p : SwitchPort). is_given r.name p.router_port) (values_of net.switch_ports) q is).0

  -- ---- next hops

  abbrev LeavesThere : Way → Type 0
  LeavesThere w = HasRouterPort net w.hop.port

  network_there : (router : Name) (dst : Ip4) (w : Way) → Among w (network_ways net router dst) → LeavesThere w
  network_there router dst w m =
      let p = flat_map_among (ways_of_port dst) w (router_ports_of net router) m in
      let n = map_among (λ (n : Cidr). record { length = n.len; is_network = true; hop = record { port = p.0; next = dst } }) w (filter (λ (n : Cidr). contains n dst) p.0.networks) p.2 in
      let own = (filter_among (λ (o : RouterPort). same_name o.router router) p.0 (values_of net.router_ports) p.1).0 in
      subst (λ (v : Way). LeavesThere v) (sym n.2) own

  route_there : (dst : Ip4) (route : Route) (w : Way) → route_way net dst route ≡ Some w → LeavesThere w
  route_there dst route w h = by (contains route.prefix dst) h
    where
      over : (o : Option Way) → best_by is_better_way (network_ways net route.router route.nexthop) ≡ o → option_map (by_route route) o ≡ Some w → LeavesThere w
      over None is e = absurd (none-some w e)
      over (Some v) is e =
          let own : LeavesThere v = network_there route.router route.nexthop v (best_among is_better_way (network_ways net route.router route.nexthop) v is) in
          subst (λ (u : Way). LeavesThere u) (same_Some (by_route route v) w e) own

      by : (b : Bool) → cond b (option_map (by_route route) (best_by is_better_way (network_ways net route.router route.nexthop))) None ≡ Some w → LeavesThere w
      by true e = over (best_by is_better_way (network_ways net route.router route.nexthop)) refl e
      by false e = absurd (none-some w e)

  way_there : (router : Name) (dst : Ip4) (w : Way) → Among w (network_ways net router dst ++ filter_map (route_way net dst) (routes_of net router)) → LeavesThere w
  way_there router dst w m = elim (among_append w (network_ways net router dst) (filter_map (route_way net dst) (routes_of net router)) m) [
    | inl a ↦ network_there router dst w a
    | inr b ↦ let r = filter_map_among (route_way net dst) w (routes_of net router) b in route_there dst r.0 w r.2
  ]

  abbrev pub HasHop : Option NextHop → Type 0
  HasHop None = Unit {0}
  HasHop (Some hop) = HasRouterPort net hop.port

  pub hop_there : (router : Name) (dst : Ip4) → HasHop (route_of net router dst)
  hop_there router dst = by (best_by is_better_way ways) refl
    where
      ways : List Way
      ways = network_ways net router dst ++ filter_map (route_way net dst) (routes_of net router)

      by : (o : Option Way) → best_by is_better_way ways ≡ o → HasHop (option_map (λ w. w.hop) o)
      by None is = tt
      by (Some w) is = way_there router dst w (best_among is_better_way ways w is)

-- ---- homes

module _ (c : Config) (home : Name) where
  abbrev IsHomeIf : Home → Type 0
  IsHomeIf h = h ≡ on home → HasChassis c home

  chassis_there : (o : Option Name) → IsHomeIf (chassis_home c o)
  chassis_there None e = cc
  chassis_there (Some chassis) e = by (is_chassis c chassis) refl e
    where
      by : (b : Bool) → is_chassis c chassis ≡ b → cond b (on chassis) nowhere ≡ on home → HasChassis c home
      by true is h =
          let n = any_among (λ (n : Name). same_name n chassis) c.chassis is in
          let same : chassis ≡ home = cc in
          inl (subst (λ (x : Name). Among x c.chassis) ((bytes_decides n.0 chassis).0 n.2 ∙ same) n.1)
      by false is h = cc

  router_home : (o : Option Router) → IsHomeIf (home_if (home_of_router c) o)
  router_home None e = cc
  router_home (Some router) e = chassis_there router.chassis e

  router_port_home : (o : Option RouterPort) → IsHomeIf (home_if (home_of_router_port c) o)
  router_port_home None e = cc
  router_port_home (Some r) e = router_home (at c.net.routers r.router) e

  bound_home : (q : Name) (o : Option Name) → at c.bindings q ≡ o → IsHomeIf (home_if on o)
  bound_home q None is e = cc
  bound_home q (Some chassis) is e =
      let same : chassis ≡ home = cc in
      inr (subst (λ (x : Name). Among x (values_of c.bindings)) same (value_at c.bindings q chassis is))

  -- where a port is at home on one chassis
  pub home_there : (q : SwitchPort) → home_of c q ≡ on home → HasChassis c home
  home_there q e = by q.kind e
    where
      by : (k : PortKind) → IsHomeIf (home_by_kind c q k)
      by port_kind.Virtual h = bound_home q.name (at c.bindings q.name) refl h
      by port_kind.Router h = router_port_home (router_port_behind c.net q) h
