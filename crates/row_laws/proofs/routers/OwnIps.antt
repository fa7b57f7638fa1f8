-- The ports of a router, their own addresses, and packets that are for an address.
use Rattle.std.specs.Prelude.{◌≡◌, true, Some}
use Rattle.std.specs.Map.{values_of}
use Rattle.std.proofs.Common.{refl, sym, ap, ◌∙◌, subst}
use Rattle.std.proofs.lemmas.Bool.{and_parts, and_from}
use Rattle.ovn_base.proofs.AmongLaws.{among_map, map_among, among_filter, filter_among, among_any, any_among}
use Rattle.ovn_base.proofs.ByNameLaws.{at_among, among_at}
use Rattle.ovn_base.specs.declared.address.Cidr.{Cidr}
use Rattle.ovn_base.specs.declared.address.Ip4.{Ip4}
use Rattle.ovn_base.specs.declared.name.Name.{Name}
use Rattle.ovn_base.specs.lists.Among.{Among}
use Rattle.ovn_base.specs.names.ByName.{at}
use Rattle.ovn_base.specs.names.SameName.{same_name, bytes_decides}
use Rattle.match_cubes.specs.Suited.{HasFieldsInRange}
use Rattle.match_language.specs.declared.field.Field.TheVariants as f
use Rattle.nb_records.specs.Grammar.{IsIp4}
use Rattle.nb_records.specs.Network.{Network}
use Rattle.nb_records.specs.Routers.{router_ports_of, has_own_ip, is_own_ip}
use Rattle.nb_records.specs.Switches.{same_ip}
use Rattle.nb_records.specs.declared.router.RouterPort.{RouterPort}
use Rattle.nb_rules.specs.Valid.{IsValid}
use Rattle.stage_rows.specs.Facts.{own_ips}
use Rattle.stage_rows.specs.Rows.{ip_is}
use Rattle.net_model.specs.Headers.{carries_ip4, dst_of}
use Rattle.net_model.specs.Sights.{Sight, Roster, holds_at}
use Rattle.row_laws.proofs.records.ValidPorts.{one_ip, own_ip}
use Rattle.row_laws.proofs.routers.TakenAtRouter.{own_place}
use Rattle.row_laws.proofs.terms.PacketTerms.{says_ip_dst}
use Rattle.row_laws.proofs.terms.Terms.{small}

-- ---- the ports of a router

module _ (net : Network) (d : Name) where
  pub in_ports : (q : Name) (port : RouterPort) → at net.router_ports q ≡ Some port → port.router ≡ d → Among port (router_ports_of net d)
  in_ports q port is on =
      among_filter (λ (x : RouterPort). same_name x.router d) port (values_of net.router_ports) (among_map (λ (e : Name × RouterPort). e.1) (q, port) net.router_ports (at_among net.router_ports q port is)) ((bytes_decides port.router d).1 on)

  pub ports_in : IsValid net → (port : RouterPort) → Among port (router_ports_of net d) → (at net.router_ports port.name ≡ Some port) × (port.router ≡ d)
  ports_in valid port m =
      let one = filter_among (λ (x : RouterPort). same_name x.router d) port (values_of net.router_ports) m in
      let e = map_among (λ (e : Name × RouterPort). e.1) port net.router_ports one.0 in
      let is = among_at e.0.0 e.0.1 net.router_ports valid.in_order.router_ports e.1 in
      (own_place net valid e.0.0 port (is ∙ ap (λ x. Some x) (sym e.2)), (bytes_decides port.router d).0 one.1)

  -- ---- own addresses

  -- an address of a port of the router is one of the router's
  pub is_own : (q : Name) (port : RouterPort) → at net.router_ports q ≡ Some port → port.router ≡ d → (ip : Ip4) → Among ip (own_ips port) → is_own_ip net d ip ≡ true
  is_own q port is on ip m =
      let n = map_among (λ (n : Cidr). n.addr) ip port.networks m in
      among_any (has_own_ip ip) port (router_ports_of net d) (in_ports q port is on) (among_any (λ (n : Cidr). same_ip ip n.addr) n.0 port.networks n.1 (ap (same_ip ip) (sym n.2) ∙ own_ip ip))

  -- and the other way round
  pub whose_own : IsValid net → (ip : Ip4) → is_own_ip net d ip ≡ true → (port : RouterPort) × (at net.router_ports port.name ≡ Some port) × (port.router ≡ d) × Among ip (own_ips port)
  whose_own valid ip h =
      let p = any_among (has_own_ip ip) (router_ports_of net d) h in
      let there = ports_in valid p.0 p.1 in
      let n = any_among (λ (n : Cidr). same_ip ip n.addr) p.0.networks p.2 in
      (p.0, there.0, there.1, subst (λ (x : Ip4). Among x (own_ips p.0)) (sym (one_ip ip n.0.addr n.2)) (among_map (λ (n : Cidr). n.addr) n.0 p.0.networks n.1))

-- ---- packets for an address

module _ (who : Roster) (s : Sight) (range : HasFieldsInRange s.packet) where
  pub for_from : (ip : Ip4) → IsIp4 ip → holds_at who s (ip_is f.Ip4Dst ip) ≡ true → dst_of s.packet ≡ ip
  for_from ip small' h = one_ip (dst_of s.packet) ip (and_parts (carries_ip4 s.packet) _ (sym (says_ip_dst who s range ip small') ∙ h)).1

  pub for_to : carries_ip4 s.packet ≡ true → holds_at who s (ip_is f.Ip4Dst (dst_of s.packet)) ≡ true
  for_to ip4 = says_ip_dst who s range (dst_of s.packet) (small who s range f.Ip4Dst refl 32 refl) ∙ and_from (carries_ip4 s.packet) _ ip4 (own_ip (dst_of s.packet))
