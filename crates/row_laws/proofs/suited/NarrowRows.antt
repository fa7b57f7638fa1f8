-- No match of a row of valid records is too wide: a rule's is as wide as it was checked to be, and that of any other has at most eight cubes.
use Rattle.std.specs.Prelude.{◌≡◌, ◌≤◌, Bool, true, false, [], ◌∷◌, Option, Some, None, option_map, unwrap_or}
use Rattle.std.proofs.Common.{refl, ◌∙◌, subst, arith}
use Rattle.ovn_base.proofs.AmongLaws.{among_all}
use Rattle.ovn_base.proofs.ByNameLaws.{at_among}
use Rattle.ovn_base.specs.declared.address.Backend.{Backend}
use Rattle.ovn_base.specs.declared.address.Ip4.{Ip4}
use Rattle.ovn_base.specs.declared.address.Mac.{Mac}
use Rattle.ovn_base.specs.declared.limits.TheConstants.{MAX_WIDTH}
use Rattle.ovn_base.specs.declared.name.Name.{Name}
use Rattle.ovn_base.specs.names.ByName.{at}
use Rattle.flow_table.specs.declared.flow.ZoneOf.{ZoneOf}
use Rattle.flow_table.specs.declared.flow.ZoneOf.TheVariants as zone
use Rattle.match_language.specs.declared.field.Field.TheVariants as f
use Rattle.match_language.specs.declared.field.Predicate.TheVariants as p
use Rattle.match_cubes.specs.Points.{Members}
use Rattle.match_cubes.specs.Width.{width_of}
use Rattle.nb_records.specs.Network.{Network}
use Rattle.nb_records.specs.Routers.{translates_sources, translates_destinations}
use Rattle.nb_records.specs.Switches.{is_named}
use Rattle.nb_records.specs.Ways.{best_by, is_better_way, network_ways}
use Rattle.nb_records.specs.declared.balancer.BalancerProtocol.{BalancerProtocol}
use Rattle.nb_records.specs.declared.balancer.BalancerProtocol.TheVariants as protocol
use Rattle.nb_records.specs.declared.balancer.LoadBalancer.{LoadBalancer}
use Rattle.nb_records.specs.declared.router.Nat.{Nat}
use Rattle.nb_records.specs.declared.router.Route.{Route}
use Rattle.nb_records.specs.declared.rule.Acl.{Acl}
use Rattle.nb_records.specs.declared.rule.AddressSet.{AddressSet}
use Rattle.nb_records.specs.declared.rule.PortGroup.{PortGroup}
use Rattle.nb_rules.specs.Widths.{members_in, rule_width}
use Rattle.logical_flows.specs.declared.stage.Stage.{Stage}
use Rattle.logical_flows.specs.declared.stage.Stage.TheVariants as stage
use Rattle.net_model.specs.Sights.{roster_of, entries_in, names_in}
use Rattle.stage_rows.specs.BalancerRows as balancing
use Rattle.stage_rows.specs.NatRows.{nat_dnat, nat_snat}
use Rattle.stage_rows.specs.RouterRows as router
use Rattle.stage_rows.specs.RuleRows.{rule_row}
use Rattle.stage_rows.specs.Rows.{field_is, field_among, ip_in_some, all_of}
use Rattle.stage_rows.specs.StateRows.{state_rows}
use Rattle.stage_rows.specs.SwitchRows as switch
use Rattle.stage_rows.specs.Units.{rule_rows, route_rows, neighbour_rows, nat_rows, balancer_rows, switch_rows, router_rows, is_from_lport, is_to_lport}
use Rattle.row_laws.proofs.records.ValidPorts.{whole}
use Rattle.row_laws.proofs.suited.EachRow as rows
use Rattle.row_laws.proofs.suited.EachRow.{OfEachKind, each_row}
use Rattle.row_laws.proofs.suited.NarrowPorts as ports
use Rattle.row_laws.proofs.suited.NarrowPorts.{HasNarrow, IsNarrow, Are, port_narrow, router_port_narrow}
use Rattle.row_laws.proofs.suited.NarrowTerms as terms
use Rattle.row_laws.specs.CanLower.{NarrowLaw}
use Rattle.row_laws.specs.Numbers.{AreSameMembers}

module _ (s : Members) where
  bare : IsNarrow s (all_of [])
  bare = ports.bare s

  -- ---- rules, routes, NAT, balancers

  rule_narrow : (x : Acl) → IsNarrow s x.matching → (st : Stage) → Are s (rule_rows st x)
  rule_narrow x h stage.SwitchAclIn = rows.if_so (HasNarrow s) (is_from_lport x.direction) (rule_row x ∷ []) (h, tt)
  rule_narrow x h stage.SwitchAclOut = rows.if_so (HasNarrow s) (is_to_lport x.direction) (rule_row x ∷ []) (h, tt)
  rule_narrow x h _ = tt

  route_narrow : (net : Network) (x : Route) (st : Stage) → Are s (route_rows st net x)
  route_narrow net x stage.RouterRoute = rows.if_some (HasNarrow s) (best_by is_better_way (network_ways net x.router x.nexthop)) (λ w. router.route_row x w ∷ []) (λ w is. (ports.to_prefix s x.prefix, tt))
  route_narrow net x _ = tt

  nat_narrow : (x : Nat) (st : Stage) → Are s (nat_rows st x)
  nat_narrow x stage.RouterDnat = rows.if_so (HasNarrow s) (translates_destinations x.kind) (nat_dnat x) (ports.to_ip s x.external_ip, tt)
  nat_narrow x stage.RouterSnat = rows.if_so (HasNarrow s) (translates_sources x.kind) (nat_snat x) (ports.from_prefix s x.logical_ip, (ports.from_prefix s x.logical_ip, tt))
  nat_narrow x _ = tt

  vip_narrow : (kind : BalancerProtocol) (to : Backend) → IsNarrow s (all_of (balancing.to_vip kind to))
  vip_narrow protocol.Tcp to = ports.narrow s (balancing.to_vip protocol.Tcp to) (terms.one_is s p.Tcp refl, (terms.one_ip s f.Ip4Dst to.ip, (terms.one_field s f.TcpDst to.port, tt)))
  vip_narrow protocol.Udp to = ports.narrow s (balancing.to_vip protocol.Udp to) (terms.one_is s p.Udp refl, (terms.one_ip s f.Ip4Dst to.ip, (terms.one_field s f.UdpDst to.port, tt)))

  balancer_narrow : (x : LoadBalancer) (st : Stage) (online : Backend → Bool) (d : Name) → Are s (balancer_rows st online d x)
  balancer_narrow x stage.SwitchStateIn online d =
      rows.if_so (HasNarrow s) (is_named d x.switches) (balancing.switch_vips online x) (rows.each (HasNarrow s) (balancing.switch_vip_row online x.protocol) x.vips (λ v m. vip_narrow x.protocol v.at))
  balancer_narrow x stage.RouterDnat online d =
      rows.if_so (HasNarrow s) (is_named d x.routers) (balancing.router_vips online x) (rows.each (HasNarrow s) (balancing.router_vip_row online x.protocol) x.vips (λ v m. vip_narrow x.protocol v.at))
  balancer_narrow x _ online d = tt

  -- ---- what switches and routers have beside their ports

  neighbour_narrow : (st : Stage) (port : Name) (ip : Ip4) (mac : Mac) → Are s (neighbour_rows st port ip mac)
  neighbour_narrow stage.RouterNeighbour port ip mac = (ports.out_one s port, tt)
  neighbour_narrow _ port ip mac = tt

  state_narrow : (stateful : Bool) (st : Stage) (z : ZoneOf) → Are s (state_rows stateful st z)
  state_narrow true st z = (bare, (bare, (bare, (bare, (bare, (bare, (bare, (bare, (bare, (bare, (bare, (bare, (bare, (bare, tt))))))))))))))
  state_narrow false st z = (bare, (bare, (bare, (bare, (bare, (bare, (bare, (bare, (bare, (bare, (bare, (bare, (bare, (bare, (bare, tt)))))))))))))))

  vlan_narrow : IsNarrow s (field_is f.EthType 0x8100)
  vlan_narrow = ports.narrow s (field_is f.EthType 0x8100 ∷ []) (terms.one_field s f.EthType 0x8100, tt)

  switch_narrow : (st : Stage) (stateful takes : Bool) → Are s (switch_rows st stateful takes)
  switch_narrow stage.SwitchAdmit stateful takes = (ports.narrow s (switch.from_group ∷ []) (terms.one_number s f.EthSrc switch.group_bit switch.group_bit, tt), (vlan_narrow, (bare, tt)))
  switch_narrow stage.SwitchPortSecurity stateful takes = (bare, tt)
  switch_narrow stage.SwitchTrack stateful takes = (bare, tt)
  switch_narrow stage.SwitchAclIn stateful takes = (bare, tt)
  switch_narrow stage.SwitchStateIn stateful takes = state_narrow stateful stage.SwitchStateIn zone.In
  switch_narrow stage.SwitchArp stateful takes = (bare, tt)
  switch_narrow stage.SwitchLookup stateful takes = (ports.is_narrow s p.EthMcast refl, (bare, tt))
  switch_narrow stage.SwitchTrackOut stateful takes = (bare, tt)
  switch_narrow stage.SwitchAclOut stateful takes = (bare, tt)
  switch_narrow stage.SwitchStateOut stateful takes = state_narrow stateful stage.SwitchStateOut zone.Out
  switch_narrow stage.SwitchSecurityOut stateful takes = (bare, tt)
  switch_narrow _ stateful takes = tt

  -- sources in four prefixes, and destinations in the same four
  unroutable_narrow : IsNarrow s router.from_or_to_unroutable
  unroutable_narrow =
      omega (arith, terms.width_either s (ip_in_some f.Ip4Src router.unroutable) (ip_in_some f.Ip4Dst router.unroutable), terms.width_prefixes s f.Ip4Src router.unroutable, terms.width_prefixes s f.Ip4Dst router.unroutable)

  ttl_narrow : IsNarrow s (field_among f.IpTtl (0 ∷ 1 ∷ []))
  ttl_narrow = omega (arith, terms.width_two s f.IpTtl 0 1)

  router_narrow : (st : Stage) (translating : Bool) → Are s (router_rows st translating)
  router_narrow stage.RouterAdmit translating = (bare, tt)
  router_narrow stage.RouterInput translating = (ports.is_narrow s p.Arp refl, (unroutable_narrow, (ttl_narrow, (ports.is_narrow s p.Ip4 refl, (bare, tt)))))
  router_narrow stage.RouterUndo true = (ports.is_narrow s p.Ip4 refl, (bare, tt))
  router_narrow stage.RouterUndo false = (bare, tt)
  router_narrow stage.RouterDnat translating = (bare, (bare, (bare, tt)))
  router_narrow stage.RouterOwn translating = (bare, tt)
  router_narrow stage.RouterRoute translating = (bare, tt)
  router_narrow stage.RouterNeighbour translating = (bare, tt)
  router_narrow stage.RouterFind true = (ports.is_narrow s p.Ip4 refl, (bare, tt))
  router_narrow stage.RouterFind false = (bare, tt)
  router_narrow stage.RouterSnat translating = (bare, (bare, tt))
  router_narrow _ translating = tt

-- ---- names of sets and groups stand for the same by the records as they were checked

entries_same : (o : Option AddressSet) → unwrap_or (option_map (λ (x : AddressSet). x.addresses) o) [] ≡ entries_in o
entries_same None = refl
entries_same (Some x) = refl

ports_same : (o : Option PortGroup) → unwrap_or (option_map (λ (x : PortGroup). x.ports) o) [] ≡ names_in o
ports_same None = refl
ports_same (Some x) = refl

members_same : (net : Network) (s : Members) → AreSameMembers (roster_of net).members s → members_in net ≡ s
members_same net s h = λ i. record {
  entries = λ name. (entries_same (at net.address_sets name) ∙ h.entries name) i;
  ports = λ name. (ports_same (at net.port_groups name) ∙ h.ports name) i;
}

pub rows_narrow : NarrowLaw
rows_narrow net valid r d pair s same = each_row (HasNarrow s) net (record {
  port = λ name q is st. port_narrow s q net st;
  router_port = λ name q is st. router_port_narrow s net q st;
  rule = λ name x is st. rule_narrow s x (subst (λ (k : Members). width_of k x.matching ≤ MAX_WIDTH) (members_same net s same)
      (among_all (λ (e : Name × Acl). rule_width net e.1 ≤ MAX_WIDTH) (name, x) net.acls (whole net valid).widths (at_among net.acls name x is))) st;
  route = λ name x is st. route_narrow s net x st;
  neighbour = λ st port ip mac. neighbour_narrow s st port ip mac;
  nat = λ name x is st. nat_narrow s x st;
  balancer = λ name x is st online d. balancer_narrow s x st online d;
  switch = λ st stateful takes. switch_narrow s st stateful takes;
  router = λ st translating. router_narrow s st translating;
}) r d pair
