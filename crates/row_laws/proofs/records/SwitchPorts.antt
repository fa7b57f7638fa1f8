-- The enabled ports of a switch, and the IPv4 addresses that ports hold.
use Rattle.std.specs.Prelude.{◌≡◌, Bool, true, false, cond, Option, Some, None, refl}
use Rattle.std.specs.List.{list_any}
use Rattle.std.specs.Map.{values_of}
use Rattle.std.specs.Option.{option_and_then}
use Rattle.std.proofs.Common.{sym, ap, ◌∙◌, subst}
use Rattle.std.proofs.lemmas.Bool.{false≢true}
use Rattle.std.proofs.lemmas.Option.{none-some}
use Rattle.ovn_base.proofs.AmongLaws.{among_all, among_map, map_among, among_filter, filter_among, among_flat_map, flat_map_among, among_any, any_among}
use Rattle.ovn_base.proofs.ByNameLaws.{at_among, among_at}
use Rattle.ovn_base.specs.declared.address.Ip4.{Ip4}
use Rattle.ovn_base.specs.declared.address.Mac.{Mac}
use Rattle.ovn_base.specs.declared.name.Name.{Name}
use Rattle.ovn_base.specs.lists.Among.{Among}
use Rattle.ovn_base.specs.names.ByName.{at}
use Rattle.ovn_base.specs.names.SameName.{same_name, bytes_decides}
use Rattle.nb_records.specs.Grammar.{IsIp4, IsPortAddress, HasItsRouterPort}
use Rattle.nb_records.specs.Network.{Network}
use Rattle.nb_records.specs.Routers.{answers_if}
use Rattle.nb_records.specs.Switches.{is_virtual, is_virtual_kind, same_ip, ips_in_entry, mac_in_entry, mac_of_ip, enabled_ports, switch_ports_of, router_port_behind}
use Rattle.nb_records.specs.declared.switch.PortAddress.{PortAddress}
use Rattle.nb_records.specs.declared.switch.PortAddress.TheVariants as address
use Rattle.nb_records.specs.declared.switch.PortKind.{PortKind}
use Rattle.nb_records.specs.declared.switch.PortKind.TheVariants as port_kind
use Rattle.nb_records.specs.declared.switch.SwitchPort.{SwitchPort}
use Rattle.nb_rules.specs.Holders.{has_entry_ip, holds_by_kind, holds_ip}
use Rattle.nb_rules.specs.Valid.{IsValid}
use Rattle.stage_rows.specs.Facts.{port_ips}
use Rattle.row_laws.proofs.records.Searches.{answered_by}
use Rattle.row_laws.proofs.records.ValidPorts.{one_ip, own_ip, own_place, in_grammar}

-- ---- enabled ports

module _ (net : Network) (valid : IsValid net) (d : Name) where
  pub in_enabled : (q : Name) (port : SwitchPort) → at net.switch_ports q ≡ Some port → port.switch ≡ d → port.enabled ≡ true → Among port (enabled_ports net d)
  in_enabled q port is on h =
      among_filter (λ (x : SwitchPort). x.enabled) port (switch_ports_of net d)
      (among_filter (λ (x : SwitchPort). same_name x.switch d) port (values_of net.switch_ports) (among_map (λ (e : Name × SwitchPort). e.1) (q, port) net.switch_ports (at_among net.switch_ports q port is)) ((bytes_decides port.switch d).1 on)) h

  -- a port is one of the records, on the switch and enabled
  pub record IsEnabled (port : SwitchPort) : Type 0 where
    pub there : at net.switch_ports port.name ≡ Some port
    pub on : port.switch ≡ d
    pub enabled : port.enabled ≡ true

  pub enabled_is : (port : SwitchPort) → Among port (enabled_ports net d) → IsEnabled port
  enabled_is port m =
      let one = filter_among (λ (x : SwitchPort). x.enabled) port (switch_ports_of net d) m in
      let two = filter_among (λ (x : SwitchPort). same_name x.switch d) port (values_of net.switch_ports) one.0 in
      let e = map_among (λ (e : Name × SwitchPort). e.1) port net.switch_ports two.0 in
      let is = among_at e.0.0 e.0.1 net.switch_ports valid.in_order.switch_ports e.1 in
      record { there = own_place net valid e.0.0 port (is ∙ ap (λ x. Some x) (sym e.2)); on = (bytes_decides port.switch d).0 two.1; enabled = one.1 }

-- ---- kinds

pub virtual_kind : (k : PortKind) → is_virtual_kind k ≡ true → k ≡ port_kind.Virtual
virtual_kind port_kind.Virtual h = refl
virtual_kind port_kind.Router h = absurd (false≢true h)

pub router_kind : (k : PortKind) → is_virtual_kind k ≡ false → k ≡ port_kind.Router
router_kind port_kind.Virtual h = absurd (false≢true (sym h))
router_kind port_kind.Router h = refl

-- ---- the IPv4 addresses of entries

entry_ok : (x : PortAddress) → IsPortAddress x → (ip : Ip4) → Among ip (ips_in_entry x) → IsIp4 ip
entry_ok (address.Ether mac ips) h ip m = among_all IsIp4 ip ips h m
entry_ok address.Unknown h ip m = elim m [ ]
entry_ok address.Router h ip m = elim m [ ]

entry_has : (ip : Ip4) (x : PortAddress) (mac : Mac) → mac_in_entry ip x ≡ Some mac → Among ip (ips_in_entry x)
entry_has ip (address.Ether own ips) mac h = by (list_any (same_ip ip) ips) refl h
  where
    by : (b : Bool) → list_any (same_ip ip) ips ≡ b → cond b (Some own) None ≡ Some mac → Among ip ips
    by true is e = let x = any_among (same_ip ip) ips is in subst (λ (y : Ip4). Among y ips) (sym (one_ip ip x.0 x.2)) x.1
    by false is e = absurd (none-some mac e)
entry_has ip address.Unknown mac h = absurd (none-some mac h)
entry_has ip address.Router mac h = absurd (none-some mac h)

-- ---- the addresses of a virtual port

-- an address with which a port holds an Ethernet address is one of its entries
pub listed_ip : (q : SwitchPort) (ip : Ip4) (mac : Mac) → mac_of_ip ip q ≡ Some mac → Among ip (port_ips q)
listed_ip q ip mac h =
    let x = answered_by (mac_in_entry ip) q.addresses mac h in
    among_flat_map ips_in_entry x.0 ip q.addresses x.1 (entry_has ip x.0 mac x.2)

-- and a virtual port holds those of its entries
pub virtual_holds : (net : Network) (q : SwitchPort) (ip : Ip4) → is_virtual q ≡ true → Among ip (port_ips q) → holds_ip net ip q ≡ true
virtual_holds net q ip virtual m =
    let x = flat_map_among ips_in_entry ip q.addresses m in
    ap (holds_by_kind net ip q) (virtual_kind q.kind virtual) ∙ among_any (has_entry_ip ip) x.0 q.addresses x.1 (among_any (same_ip ip) ip (ips_in_entry x.0) x.2 (own_ip ip))

module _ (net : Network) (valid : IsValid net) (q : Name) (port : SwitchPort) (found : at net.switch_ports q ≡ Some port) where
  pub ip_ok : (ip : Ip4) → Among ip (port_ips port) → IsIp4 ip
  ip_ok ip m =
      let x = flat_map_among ips_in_entry ip port.addresses m in
      entry_ok x.0 (among_all IsPortAddress x.0 port.addresses (in_grammar net valid q port found).addresses x.1) ip x.2

  -- a port behind which a router port answers is one to a router, and holds the address
  nothing_behind : (k : PortKind) (name : Option Name) → HasItsRouterPort k name → is_virtual_kind k ≡ true → name ≡ None
  nothing_behind port_kind.Virtual None h e = refl
  nothing_behind port_kind.Virtual (Some n) h e = absurd h
  nothing_behind port_kind.Router name h e = absurd (false≢true e)

  pub answering_is : (ip : Ip4) → answers_if net ip (router_port_behind net port) ≡ true → is_virtual port ≡ false
  answering_is ip h = by (is_virtual port) refl
    where
      by : (b : Bool) → is_virtual port ≡ b → b ≡ false
      by false is = refl
      by true is =
          let none = nothing_behind port.kind port.router_port (in_grammar net valid q port found).router_port is in
          absurd (false≢true (sym (ap (λ (o : Option Name). answers_if net ip (option_and_then (at net.router_ports) o)) none) ∙ h))

  pub answering_holds : (ip : Ip4) → answers_if net ip (router_port_behind net port) ≡ true → holds_ip net ip port ≡ true
  answering_holds ip h = ap (holds_by_kind net ip port) (router_kind port.kind (answering_is ip h)) ∙ h
