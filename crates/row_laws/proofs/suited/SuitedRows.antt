-- The matches of the rows of valid records are ones of which the values stand with their fields.
use Rattle.std.specs.Prelude.{◌≡◌, ◌++◌, ◌&&◌, Bool, true, false, not, cond, List, [], ◌∷◌, map, flat_map, Option, Some, None}
use Rattle.std.specs.List.{AllByRecursion}
use Rattle.std.specs.Option.{option_and_then}
use Rattle.std.proofs.Common.{refl, sym, subst}
use Rattle.ovn_base.proofs.AmongLaws.{among_all, among_left, among_right, among_map, map_among}
use Rattle.ovn_base.proofs.ByNameLaws.{at_among}
use Rattle.ovn_base.specs.declared.address.Backend.{Backend}
use Rattle.ovn_base.specs.declared.address.Cidr.{Cidr}
use Rattle.ovn_base.specs.declared.address.Ip4.{Ip4}
use Rattle.ovn_base.specs.declared.address.Mac.{Mac}
use Rattle.ovn_base.specs.declared.name.Name.{Name}
use Rattle.ovn_base.specs.lists.Among.{Among}
use Rattle.ovn_base.specs.names.ByName.{at}
use Rattle.flow_table.specs.declared.flow.Cause.TheVariants as cause
use Rattle.flow_table.specs.declared.flow.ZoneOf.{ZoneOf}
use Rattle.flow_table.specs.declared.flow.ZoneOf.TheVariants as zone
use Rattle.match_language.specs.declared.expr.Expr.{Expr}
use Rattle.match_language.specs.declared.expr.Expr.TheVariants as e
use Rattle.match_language.specs.declared.expr.Value.TheVariants as v
use Rattle.match_language.specs.declared.field.Field.TheVariants as f
use Rattle.match_language.specs.declared.field.Predicate.TheVariants as p
use Rattle.match_cubes.proofs.SuitedLaws.{fits_suited}
use Rattle.nb_records.specs.Grammar.{IsIp4, IsCidr, IsVip, IsSecurityEntry, IsInGrammar, IsAcl, IsRoute, IsNat, IsRouterPort, IsLoadBalancer}
use Rattle.nb_records.specs.Network.{Network, records_of}
use Rattle.nb_records.specs.Routers.{translates_sources, translates_destinations}
use Rattle.nb_records.specs.Ways.{best_by, is_better_way, network_ways}
use Rattle.nb_records.specs.Switches.{is_virtual, is_named, has_some, router_port_behind, macs_of, mac_of_ip}
use Rattle.nb_records.specs.declared.balancer.LoadBalancer.{LoadBalancer}
use Rattle.nb_records.specs.declared.balancer.Vip.{Vip}
use Rattle.nb_records.specs.declared.record.Record.{Record}
use Rattle.nb_records.specs.declared.record.Record.TheVariants as row
use Rattle.nb_records.specs.declared.router.Nat.{Nat}
use Rattle.nb_records.specs.declared.router.Route.{Route}
use Rattle.nb_records.specs.declared.router.RouterPort.{RouterPort}
use Rattle.nb_records.specs.declared.rule.Acl.{Acl}
use Rattle.nb_records.specs.declared.switch.SecurityEntry.{SecurityEntry}
use Rattle.nb_records.specs.declared.switch.SwitchPort.{SwitchPort}
use Rattle.nb_rules.specs.Valid.{IsValid}
use Rattle.inet_packet.specs.declared.regs.Reg.TheVariants as reg
use Rattle.logical_flows.specs.declared.action.Action.TheVariants as a
use Rattle.logical_flows.specs.declared.flow.LFlow.{LFlow}
use Rattle.logical_flows.specs.declared.stage.Stage.{Stage}
use Rattle.logical_flows.specs.declared.stage.Stage.TheVariants as stage
use Rattle.stage_rows.specs.BalancerRows as balancing
use Rattle.stage_rows.specs.Facts.{own_ips, answered_ips, answered_if, port_ips}
use Rattle.stage_rows.specs.NatRows.{nat_dnat, nat_snat}
use Rattle.stage_rows.specs.RouterRows as router
use Rattle.stage_rows.specs.RuleRows.{rule_row}
use Rattle.stage_rows.specs.Rows.{on_some, when, field_is, mac_is, ip_is, ip_in, ip_in_some, in_is, out_is, asks_for, all_of, whole_number, prefix_value, reg_is, match_row, tracked_row, drop_row, pass_row, base_row, go_on}
use Rattle.stage_rows.specs.StateRows.{state_rows}
use Rattle.stage_rows.specs.SwitchRows as switch
use Rattle.stage_rows.specs.Units.{switch_port_rows, router_port_rows, rule_rows, route_rows, neighbour_rows, nat_rows, balancer_rows, switch_rows, router_rows, is_from_lport, is_to_lport}
use Rattle.row_laws.proofs.records.AnsweredIps.{answered_ok, network_ok}
use Rattle.row_laws.proofs.records.SwitchPorts.{ip_ok}
use Rattle.row_laws.proofs.records.ValidPorts.{in_grammar}
use Rattle.row_laws.proofs.suited.EachRow as rows
use Rattle.row_laws.proofs.suited.EachRow.{each_row}
use Rattle.row_laws.proofs.suited.SuitedTerms as terms
use Rattle.row_laws.proofs.suited.SuitedTerms.{suited, AreSuited, suited_all, suited_more, suited_either, suited_is, suited_with, suited_number}
use Rattle.row_laws.specs.CanLower.{SuitedLaw}

abbrev IsSuited : LFlow → Type 0
IsSuited r = suited r.matching ≡ true

abbrev Are : List LFlow → Type 0
Are rs = AllByRecursion IsSuited rs

-- ---- rows of no term

bare : suited (all_of []) ≡ true
bare = suited_all [] tt

-- ---- a switch's port

module _ (net : Network) (valid : IsValid net) (name : Name) (q : SwitchPort) (found : at net.switch_ports name ≡ Some q) where
  sender : (x : SecurityEntry) → AreSuited (switch.sent_by q x)
  sender x = (terms.suited_in q.name, (terms.suited_src x.mac, tt))

  receiver : (x : SecurityEntry) → AreSuited (switch.got_by q x)
  receiver x = (terms.suited_out q.name, (terms.suited_dst x.mac, tt))

  dhcp_ok : AreSuited switch.dhcp_request
  dhcp_ok = (suited_number f.Ip4Src 0 refl, (suited_number f.Ip4Dst 0xffff_ffff refl, (suited_number f.UdpSrc 68 refl, (suited_number f.UdpDst 67 refl, tt))))

  groups_ok : suited (ip_in_some f.Ip4Dst switch.group_ips) ≡ true
  groups_ok = suited_with f.Ip4Dst (map prefix_value switch.group_ips) refl

  abbrev AreTerms : List (List Expr) → Type 0
  AreTerms tss = AllByRecursion AreSuited tss

  from_each : (x : SecurityEntry) (is : List Cidr) → AllByRecursion IsCidr is → AreTerms (flat_map (switch.may_send_from x) is ++ switch.dhcp_request ∷ [])
  from_each x [] h = (dhcp_ok, tt)
  from_each x (i ∷ is) h = ((terms.suited_src_in i h.0, tt), ((terms.suited_sha x.mac, (terms.suited_spa_in i h.0, tt)), from_each x is h.1))

  may_send_by : (x : SecurityEntry) → IsSecurityEntry x → (b : Bool) → AreTerms (cond b (flat_map (switch.may_send_from x) x.ips ++ switch.dhcp_request ∷ []) (switch.may_send_any x))
  may_send_by x h true = from_each x x.ips h
  may_send_by x h false = ((suited_is p.Ip4, tt), ((terms.suited_sha x.mac, tt), tt))

  to_each : (is : List Cidr) → AllByRecursion IsCidr is → AreTerms (map (λ i. ip_in f.Ip4Dst i ∷ []) is ++ (ip_in_some f.Ip4Dst switch.group_ips ∷ []) ∷ [])
  to_each [] h = ((groups_ok, tt), tt)
  to_each (i ∷ is) h = ((terms.suited_dst_in i h.0, tt), to_each is h.1)

  may_get_by : (x : SecurityEntry) → IsSecurityEntry x → (b : Bool) → AreTerms (cond b (map (λ i. ip_in f.Ip4Dst i ∷ []) x.ips ++ (ip_in_some f.Ip4Dst switch.group_ips ∷ []) ∷ []) ([] ∷ []))
  may_get_by x h true = to_each x.ips h
  may_get_by x h false = (tt, tt)

  entry_ok : (x : SecurityEntry) → Among x q.port_security → IsSecurityEntry x
  entry_ok x m = among_all IsSecurityEntry x q.port_security (in_grammar net valid name q found).port_security m

  security_in : (x : SecurityEntry) → Among x q.port_security → Are (switch.entry_port_security q x)
  security_in x m =
      let sends : List Expr → LFlow = λ ts. pass_row stage.SwitchPortSecurity 90 (switch.sent_by q x ++ ts) in
      let drops : List Expr = switch.sent_by q x ++ e.Any (e.Is p.Ip4 ∷ e.Is p.Arp ∷ []) ∷ [] in
      rows.both IsSuited (map sends (switch.may_send x)) (drop_row stage.SwitchPortSecurity 85 drops cause.PortSecurity ∷ pass_row stage.SwitchPortSecurity 80 (switch.sent_by q x) ∷ [])
      (rows.each IsSuited sends (switch.may_send x) (λ ts n. suited_all (switch.sent_by q x ++ ts) (suited_more (switch.sent_by q x) ts (sender x) (among_all AreSuited ts (switch.may_send x) (may_send_by x (entry_ok x m) (has_some x.ips)) n))))
      (suited_all drops (suited_more (switch.sent_by q x) (e.Any (e.Is p.Ip4 ∷ e.Is p.Arp ∷ []) ∷ []) (sender x) (suited_either (e.Is p.Ip4) (e.Is p.Arp) (suited_is p.Ip4) (suited_is p.Arp), tt)), (suited_all (switch.sent_by q x) (sender x), tt))

  security_out : (x : SecurityEntry) → Among x q.port_security → Are (switch.entry_security_out q x)
  security_out x m =
      let gets : List Expr → LFlow = λ ts. pass_row stage.SwitchSecurityOut 80 (switch.got_by q x ++ ts) in
      let drops : List Expr = switch.got_by q x ++ e.Is p.Ip4 ∷ [] in
      rows.both IsSuited (map gets (switch.may_get x)) (drop_row stage.SwitchSecurityOut 75 drops cause.PortSecurity ∷ pass_row stage.SwitchSecurityOut 70 (switch.got_by q x) ∷ [])
      (rows.each IsSuited gets (switch.may_get x) (λ ts n. suited_all (switch.got_by q x ++ ts) (suited_more (switch.got_by q x) ts (receiver x) (among_all AreSuited ts (switch.may_get x) (may_get_by x (entry_ok x m) (has_some x.ips)) n))))
      (suited_all drops (suited_more (switch.got_by q x) (e.Is p.Ip4 ∷ []) (receiver x) (suited_is p.Ip4, tt)), (suited_all (switch.got_by q x) (receiver x), tt))

  answered_small : (o : Option RouterPort) (n : Option Name) → o ≡ option_and_then (at net.router_ports) n → (ip : Ip4) → Among ip (answered_if net o) → IsIp4 ip
  answered_small None n e' ip m = elim m [ ]
  answered_small (Some x) (Some n) e' ip m = answered_ok net valid n x (sym e') ip m
  answered_small (Some x) None e' ip m = absurd cc

  arp_ok : (ip : Ip4) → Among ip (port_ips q) → (mac : Mac) → Are (switch.address_arp q ip mac)
  arp_ok ip m mac =
      let asks = terms.suited_asks ip (ip_ok net valid name q found ip m) in
      (suited_all (in_is q.name ∷ asks_for ip) (terms.suited_in q.name, asks), (suited_all (asks_for ip) asks, tt))

  port_suited : (s : Stage) → Are (switch_port_rows s net q)
  port_suited stage.SwitchAdmit = rows.if_so IsSuited (not q.enabled) (drop_row stage.SwitchAdmit 120 (in_is q.name ∷ []) cause.Disabled ∷ []) (terms.suited_in q.name, tt)
  port_suited stage.SwitchPortSecurity =
      let last : List LFlow = drop_row stage.SwitchPortSecurity 70 (in_is q.name ∷ []) cause.PortSecurity ∷ [] in
      rows.both IsSuited (flat_map (switch.entry_port_security q) q.port_security) (when (has_some q.port_security) last) (rows.each_list IsSuited (switch.entry_port_security q) q.port_security security_in) (rows.if_so IsSuited (has_some q.port_security) last (terms.suited_in q.name, tt))
  port_suited stage.SwitchTrack =
      rows.if_so IsSuited (switch.tracks_port net q) (switch.port_track_row q ∷ []) (suited_all (switch.tracks (in_is q.name)) (terms.suited_in q.name, (suited_is p.Ip4, (terms.suited_unicast, tt))), tt)
  port_suited stage.SwitchArp =
      rows.if_so IsSuited (is_virtual q && q.enabled) (flat_map (λ ip. on_some (mac_of_ip ip q) (switch.address_arp q ip)) (port_ips q))
      (rows.each_list IsSuited (λ ip. on_some (mac_of_ip ip q) (switch.address_arp q ip)) (port_ips q) (λ ip m. rows.if_some IsSuited (mac_of_ip ip q) (switch.address_arp q ip) (λ mac is. arp_ok ip m mac)))
  port_suited stage.SwitchLookup =
      let answered : List LFlow = map (switch.answered_lookup q) (answered_if net (router_port_behind net q)) in
      let known : List LFlow = map (switch.address_lookup q) (macs_of net q) in
      rows.if_so IsSuited q.enabled (when (not (is_virtual q)) answered ++ known) (rows.both IsSuited (when (not (is_virtual q)) answered) known
      (rows.if_so IsSuited (not (is_virtual q)) answered (rows.each IsSuited (switch.answered_lookup q) (answered_if net (router_port_behind net q)) (λ ip m.
      suited_all (e.Is p.EthMcast ∷ asks_for ip) (suited_is p.EthMcast, terms.suited_asks ip (answered_small (router_port_behind net q) q.router_port refl ip m)))))
      (rows.each IsSuited (switch.address_lookup q) (macs_of net q) (λ mac m. terms.suited_dst mac)))
  port_suited stage.SwitchTrackOut =
      rows.both IsSuited (switch.port_disabled_out q) (when (switch.tracks_port net q) (switch.port_track_out_row q ∷ [])) (rows.if_so IsSuited (not q.enabled) (drop_row stage.SwitchTrackOut 120 (out_is q.name ∷ []) cause.Disabled ∷ []) (terms.suited_out q.name, tt))
      (rows.if_so IsSuited (switch.tracks_port net q) (switch.port_track_out_row q ∷ []) (suited_all (switch.tracks (out_is q.name)) (terms.suited_out q.name, (suited_is p.Ip4, (terms.suited_unicast, tt))), tt))
  port_suited stage.SwitchSecurityOut =
      rows.both IsSuited (flat_map (switch.entry_security_out q) q.port_security) (when (has_some q.port_security) (switch.around_security_out q)) (rows.each_list IsSuited (switch.entry_security_out q) q.port_security security_out)
      (rows.if_so IsSuited (has_some q.port_security) (switch.around_security_out q) (suited_all (out_is q.name ∷ e.Is p.EthMcast ∷ []) (terms.suited_out q.name, (suited_is p.EthMcast, tt)), (terms.suited_out q.name, tt)))
  port_suited _ = tt

-- ---- a router's port

module _ (net : Network) (valid : IsValid net) (name : Name) (q : RouterPort) (found : at net.router_ports name ≡ Some q) where
  own_small : (ip : Ip4) → Among ip (own_ips q) → IsIp4 ip
  own_small ip m = let n = map_among (λ (n : Cidr). n.addr) ip q.networks m in subst IsIp4 (sym n.2) (network_ok net valid name q found n.0 n.1)

  router_port_ok : IsRouterPort q
  router_port_ok =
      let r = row.RouterPort q in
      let own = among_map (λ (e : Name × RouterPort). row.RouterPort e.1) (name, q) net.router_ports (at_among net.router_ports name q found) in
      among_all IsInGrammar r (records_of net) valid.in_grammar (among_left r _ _ (among_left r _ _ (among_left r _ _ (among_left r _ _ (among_left r _ _ (among_left r _ _ (among_left r _ _ (among_left r _ _ (among_right r _ _ own)))))))))

  router_port_suited : (s : Stage) → Are (router_port_rows s net q)
  router_port_suited stage.RouterAdmit = (
    suited_all (in_is q.name ∷ mac_is f.EthDst q.mac ∷ []) (terms.suited_in q.name, (terms.suited_dst q.mac, tt)),
    (suited_all (in_is q.name ∷ e.Is p.EthMcast ∷ e.Is p.Arp ∷ []) (terms.suited_in q.name, (suited_is p.EthMcast, (suited_is p.Arp, tt))), tt),
  )
  router_port_suited stage.RouterInput =
      rows.both IsSuited (map (router.answered_input q) (answered_ips net q)) (map router.echo_input (own_ips q))
      (rows.each IsSuited (router.answered_input q) (answered_ips net q) (λ ip m. suited_all (in_is q.name ∷ asks_for ip) (terms.suited_in q.name, terms.suited_asks ip (answered_ok net valid name q found ip m))))
      (rows.each IsSuited router.echo_input (own_ips q) (λ ip m. suited_all (ip_is f.Ip4Dst ip ∷ field_is f.Icmp4Type 8 ∷ field_is f.Icmp4Code 0 ∷ []) (terms.suited_ip_dst ip (own_small ip m), (suited_number f.Icmp4Type 8 refl, (suited_number f.Icmp4Code 0 refl, tt)))))
  router_port_suited stage.RouterOwn = rows.each IsSuited router.own_row (own_ips q) (λ ip m. terms.suited_ip_dst ip (own_small ip m))
  router_port_suited stage.RouterRoute = rows.each IsSuited (router.network_row q) q.networks (λ n m. terms.suited_dst_in n (among_all IsCidr n q.networks router_port_ok.networks.each m))
  router_port_suited _ = tt

-- ---- rules, routes, NAT, balancers

module _ (net : Network) (valid : IsValid net) where
  grammar : (x : Record) → Among x (records_of net) → IsInGrammar x
  grammar x m = among_all IsInGrammar x (records_of net) valid.in_grammar m

  rule_ok : (name : Name) (x : Acl) → at net.acls name ≡ Some x → IsAcl x
  rule_ok name x is =
      let r = row.Acl x in
      grammar r (among_left r _ _ (among_left r _ _ (among_left r _ _ (among_left r _ _ (among_right r _ _ (among_map (λ (e : Name × Acl). row.Acl e.1) (name, x) net.acls (at_among net.acls name x is)))))))

  pub route_ok : (name : Name) (x : Route) → at net.routes name ≡ Some x → IsRoute x
  route_ok name x is =
      let r = row.Route x in
      grammar r (among_left r _ _ (among_left r _ _ (among_left r _ _ (among_right r _ _ (among_map (λ (e : Name × Route). row.Route e.1) (name, x) net.routes (at_among net.routes name x is))))))

  nat_ok : (name : Name) (x : Nat) → at net.nats name ≡ Some x → IsNat x
  nat_ok name x is =
      let r = row.Nat x in
      grammar r (among_left r _ _ (among_left r _ _ (among_right r _ _ (among_map (λ (e : Name × Nat). row.Nat e.1) (name, x) net.nats (at_among net.nats name x is)))))

  balancer_ok : (name : Name) (x : LoadBalancer) → at net.load_balancers name ≡ Some x → IsLoadBalancer x
  balancer_ok name x is =
      let r = row.LoadBalancer x in
      grammar r (among_left r _ _ (among_right r _ _ (among_map (λ (e : Name × LoadBalancer). row.LoadBalancer e.1) (name, x) net.load_balancers (at_among net.load_balancers name x is))))

  rule_suited : (s : Stage) (x : Acl) → IsAcl x → Are (rule_rows s x)
  rule_suited stage.SwitchAclIn x h = rows.if_so IsSuited (is_from_lport x.direction) (rule_row x ∷ []) (fits_suited _ _ x.matching h.matching, tt)
  rule_suited stage.SwitchAclOut x h = rows.if_so IsSuited (is_to_lport x.direction) (rule_row x ∷ []) (fits_suited _ _ x.matching h.matching, tt)
  rule_suited _ x h = tt

  route_suited : (s : Stage) (x : Route) → IsRoute x → Are (route_rows s net x)
  route_suited stage.RouterRoute x h = rows.if_some IsSuited (best_by is_better_way (network_ways net x.router x.nexthop)) (λ w. router.route_row x w ∷ []) (λ w is. (terms.suited_dst_in x.prefix h.prefix, tt))
  route_suited _ x h = tt

  nat_suited : (s : Stage) (x : Nat) → IsNat x → Are (nat_rows s x)
  nat_suited stage.RouterDnat x h = rows.if_so IsSuited (translates_destinations x.kind) (nat_dnat x) (terms.suited_ip_dst x.external_ip h.external_ip, tt)
  nat_suited stage.RouterSnat x h = rows.if_so IsSuited (translates_sources x.kind) (nat_snat x) (terms.suited_src_in x.logical_ip h.logical_ip, (terms.suited_src_in x.logical_ip h.logical_ip, tt))
  nat_suited _ x h = tt

  vip_suited : (x : LoadBalancer) → IsLoadBalancer x → (v : Vip) → Among v x.vips → suited (all_of (balancing.to_vip x.protocol v.at)) ≡ true
  vip_suited x h v m = suited_all (balancing.to_vip x.protocol v.at) (terms.suited_vip x.protocol v.at (among_all IsVip v x.vips h.vips.each m).0)

  balancer_suited : (s : Stage) (online : Backend → Bool) (d : Name) (x : LoadBalancer) → IsLoadBalancer x → Are (balancer_rows s online d x)
  balancer_suited stage.SwitchStateIn online d x h = rows.if_so IsSuited (is_named d x.switches) (balancing.switch_vips online x) (rows.each IsSuited (balancing.switch_vip_row online x.protocol) x.vips (vip_suited x h))
  balancer_suited stage.RouterDnat online d x h = rows.if_so IsSuited (is_named d x.routers) (balancing.router_vips online x) (rows.each IsSuited (balancing.router_vip_row online x.protocol) x.vips (vip_suited x h))
  balancer_suited _ online d x h = tt

-- ---- what switches and routers have beside their ports

neighbour_suited : (s : Stage) (port : Name) (ip : Ip4) (mac : Mac) → Are (neighbour_rows s port ip mac)
neighbour_suited stage.RouterNeighbour port ip mac = (terms.suited_out port, tt)
neighbour_suited _ port ip mac = tt

state_suited : (stateful : Bool) (s : Stage) (z : ZoneOf) → Are (state_rows stateful s z)
state_suited true s z = (bare, (bare, (bare, (bare, (bare, (bare, (bare, (bare, (bare, (bare, (bare, (bare, (bare, (bare, tt))))))))))))))
state_suited false s z = (bare, (bare, (bare, (bare, (bare, (bare, (bare, (bare, (bare, (bare, (bare, (bare, (bare, (bare, (bare, tt)))))))))))))))

switch_suited : (s : Stage) (stateful takes : Bool) → Are (switch_rows s stateful takes)
switch_suited stage.SwitchAdmit stateful takes = (suited_with f.EthSrc (v.Number switch.group_bit switch.group_bit ∷ []) refl, (suited_number f.EthType 0x8100 refl, (bare, tt)))
switch_suited stage.SwitchPortSecurity stateful takes = (bare, tt)
switch_suited stage.SwitchTrack stateful takes = (bare, tt)
switch_suited stage.SwitchAclIn stateful takes = (bare, tt)
switch_suited stage.SwitchStateIn stateful takes = state_suited stateful stage.SwitchStateIn zone.In
switch_suited stage.SwitchArp stateful takes = (bare, tt)
switch_suited stage.SwitchLookup stateful takes = (suited_is p.EthMcast, (bare, tt))
switch_suited stage.SwitchTrackOut stateful takes = (bare, tt)
switch_suited stage.SwitchAclOut stateful takes = (bare, tt)
switch_suited stage.SwitchStateOut stateful takes = state_suited stateful stage.SwitchStateOut zone.Out
switch_suited stage.SwitchSecurityOut stateful takes = (bare, tt)
switch_suited _ stateful takes = tt

router_suited : (s : Stage) (translating : Bool) → Are (router_rows s translating)
router_suited stage.RouterAdmit translating = (bare, tt)
router_suited stage.RouterInput translating = (
  suited_is p.Arp,
  (
    suited_either (ip_in_some f.Ip4Src router.unroutable) (ip_in_some f.Ip4Dst router.unroutable) (suited_with f.Ip4Src (map prefix_value router.unroutable) refl) (suited_with f.Ip4Dst (map prefix_value router.unroutable) refl),
    (suited_with f.IpTtl (map (whole_number f.IpTtl) (0 ∷ 1 ∷ [])) refl, (suited_is p.Ip4, (bare, tt))),
  ),
)
router_suited stage.RouterUndo translating =
    let first : List LFlow = match_row stage.RouterUndo 100 (e.Is p.Ip4 ∷ []) (a.Undo ∷ a.Find zone.Dnat ∷ go_on stage.RouterUndo ∷ []) ∷ [] in
    rows.both IsSuited (when translating first) (base_row stage.RouterUndo ∷ []) (rows.if_so IsSuited translating first (suited_is p.Ip4, tt)) (bare, tt)
router_suited stage.RouterDnat translating = (bare, (bare, (bare, tt)))
router_suited stage.RouterOwn translating = (bare, tt)
router_suited stage.RouterRoute translating = (bare, tt)
router_suited stage.RouterNeighbour translating = (bare, tt)
router_suited stage.RouterFind translating =
    let first : List LFlow = tracked_row stage.RouterFind 100 (reg_is reg.Own 0 ∷ []) (e.Is p.Ip4 ∷ []) (a.Find zone.Snat ∷ go_on stage.RouterFind ∷ []) ∷ [] in
    rows.both IsSuited (when translating first) (base_row stage.RouterFind ∷ []) (rows.if_so IsSuited translating first (suited_is p.Ip4, tt)) (bare, tt)
router_suited stage.RouterSnat translating = (bare, (bare, tt))
router_suited _ translating = tt

-- ---- all units

pub rows_suited : SuitedLaw
rows_suited net valid r d pair = each_row IsSuited net (record {
  port = λ name q is s. port_suited net valid name q is s;
  router_port = λ name q is s. router_port_suited net valid name q is s;
  rule = λ name x is s. rule_suited net valid s x (rule_ok net valid name x is);
  route = λ name x is s. route_suited net valid s x (route_ok net valid name x is);
  neighbour = λ s port ip mac. neighbour_suited s port ip mac;
  nat = λ name x is s. nat_suited net valid s x (nat_ok net valid name x is);
  balancer = λ name x is s online d. balancer_suited net valid s online d x (balancer_ok net valid name x is);
  switch = λ s stateful takes. switch_suited s stateful takes;
  router = λ s translating. router_suited s translating;
}) r d pair
