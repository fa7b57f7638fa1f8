-- The matches of the rows of ports are narrow, whatever the members are for which names of sets and groups stand.
use Rattle.std.specs.Prelude.{◌≡◌, ◌&&◌, ◌++◌, Bool, true, false, not, cond, List, [], ◌∷◌, map, flat_map}
use Rattle.std.specs.List.{AllByRecursion}
use Rattle.std.proofs.Common.{refl, arith}
use Rattle.ovn_base.proofs.AmongLaws.{among_all}
use Rattle.ovn_base.specs.declared.address.Cidr.{Cidr}
use Rattle.ovn_base.specs.declared.address.Ip4.{Ip4}
use Rattle.ovn_base.specs.declared.address.Mac.{Mac}
use Rattle.ovn_base.specs.declared.name.Name.{Name}
use Rattle.flow_table.specs.declared.flow.Cause.TheVariants as cause
use Rattle.match_language.specs.declared.expr.Expr.{Expr}
use Rattle.match_language.specs.declared.expr.Expr.TheVariants as e
use Rattle.match_language.specs.declared.field.Field.TheVariants as f
use Rattle.match_language.specs.declared.field.Predicate.{Predicate}
use Rattle.match_language.specs.declared.field.Predicate.TheVariants as p
use Rattle.match_cubes.specs.Inwards.{asks_all}
use Rattle.match_cubes.specs.Points.{Members}
use Rattle.nb_records.specs.Network.{Network}
use Rattle.nb_records.specs.Switches.{is_virtual, has_some, router_port_behind, macs_of, mac_of_ip}
use Rattle.nb_records.specs.declared.router.RouterPort.{RouterPort}
use Rattle.nb_records.specs.declared.switch.SecurityEntry.{SecurityEntry}
use Rattle.nb_records.specs.declared.switch.SwitchPort.{SwitchPort}
use Rattle.logical_flows.specs.declared.flow.LFlow.{LFlow}
use Rattle.logical_flows.specs.declared.stage.Stage.{Stage}
use Rattle.logical_flows.specs.declared.stage.Stage.TheVariants as stage
use Rattle.stage_rows.specs.Facts.{own_ips, answered_ips, answered_if, port_ips}
use Rattle.stage_rows.specs.RouterRows as router
use Rattle.stage_rows.specs.Rows.{on_some, when, field_is, mac_is, ip_is, ip_in, ip_in_some, in_is, out_is, asks_for, all_of, drop_row, pass_row}
use Rattle.stage_rows.specs.SwitchRows as switch
use Rattle.stage_rows.specs.Units.{switch_port_rows, router_port_rows}
use Rattle.row_laws.proofs.suited.EachRow as rows
use Rattle.row_laws.proofs.suited.EachRow.{OfEachKind, each_row}
use Rattle.row_laws.proofs.suited.NarrowTerms as terms

module _ (s : Members) where
  abbrev pub IsNarrow : Expr → Type 0
  IsNarrow x = terms.IsNarrow s x

  abbrev pub HasNarrow : LFlow → Type 0
  HasNarrow r = IsNarrow r.matching

  abbrev pub Are : List LFlow → Type 0
  Are rs = AllByRecursion HasNarrow rs

  abbrev AreOne : List Expr → Type 0
  AreOne xs = terms.AreOne s xs

  pub narrow : (xs : List Expr) → AreOne xs → IsNarrow (all_of xs)
  narrow xs h = terms.narrow s xs h

  pub bare : IsNarrow (all_of [])
  bare = narrow [] tt

  in_one : (q : Name) → IsNarrow (in_is q)
  in_one q = narrow (in_is q ∷ []) (terms.one_in s q, tt)

  pub out_one : (q : Name) → IsNarrow (out_is q)
  out_one q = narrow (out_is q ∷ []) (terms.one_out s q, tt)

  pub is_narrow : (q : Predicate) → asks_all q ≡ true → IsNarrow (e.Is q)
  is_narrow q h = narrow (e.Is q ∷ []) (terms.one_is s q h, tt)

  pub to_ip : (ip : Ip4) → IsNarrow (ip_is f.Ip4Dst ip)
  to_ip ip = narrow (ip_is f.Ip4Dst ip ∷ []) (terms.one_ip s f.Ip4Dst ip, tt)

  pub to_prefix : (n : Cidr) → IsNarrow (ip_in f.Ip4Dst n)
  to_prefix n = narrow (ip_in f.Ip4Dst n ∷ []) (terms.one_prefix s f.Ip4Dst n, tt)

  pub from_prefix : (n : Cidr) → IsNarrow (ip_in f.Ip4Src n)
  from_prefix n = narrow (ip_in f.Ip4Src n ∷ []) (terms.one_prefix s f.Ip4Src n, tt)

  -- ---- a switch's port

  module _ (q : SwitchPort) where
    abbrev AreTerms : List (List Expr) → Type 0
    AreTerms tss = AllByRecursion AreOne tss

    sender : (x : SecurityEntry) (ts : List Expr) → AreOne ts → AreOne (switch.sent_by q x ++ ts)
    sender x ts h = (terms.one_in s q.name, (terms.one_mac s f.EthSrc x.mac, h))

    receiver : (x : SecurityEntry) (ts : List Expr) → AreOne ts → AreOne (switch.got_by q x ++ ts)
    receiver x ts h = (terms.one_out s q.name, (terms.one_mac s f.EthDst x.mac, h))

    dhcp_one : AreOne switch.dhcp_request
    dhcp_one = (terms.one_field s f.Ip4Src 0, (terms.one_field s f.Ip4Dst 0xffff_ffff, (terms.one_field s f.UdpSrc 68, (terms.one_field s f.UdpDst 67, tt))))

    sha_one : (x : SecurityEntry) → terms.IsOne s (mac_is f.ArpSha x.mac)
    sha_one x = terms.one_mac s f.ArpSha x.mac

    from_each : (x : SecurityEntry) (is : List Cidr) → AreTerms (flat_map (switch.may_send_from x) is ++ switch.dhcp_request ∷ [])
    from_each x [] = (dhcp_one, tt)
    from_each x (i ∷ is) = ((terms.one_prefix s f.Ip4Src i, tt), ((sha_one x, (terms.one_prefix s f.ArpSpa i, tt)), from_each x is))

    may_send_by : (x : SecurityEntry) (b : Bool) → AreTerms (cond b (flat_map (switch.may_send_from x) x.ips ++ switch.dhcp_request ∷ []) (switch.may_send_any x))
    may_send_by x true = from_each x x.ips
    may_send_by x false = ((terms.one_is s p.Ip4 refl, tt), ((sha_one x, tt), tt))

    -- what goes to the entry, to one of its addresses or to a group
    abbrev AreGot : SecurityEntry → List (List Expr) → Type 0
    AreGot x tss = AllByRecursion (λ ts. IsNarrow (all_of (switch.got_by q x ++ ts))) tss

    groups_narrow : IsNarrow (ip_in_some f.Ip4Dst switch.group_ips)
    groups_narrow = omega (arith, terms.width_prefixes s f.Ip4Dst switch.group_ips)

    to_each : (x : SecurityEntry) (is : List Cidr) → AreGot x (map (λ i. ip_in f.Ip4Dst i ∷ []) is ++ (ip_in_some f.Ip4Dst switch.group_ips ∷ []) ∷ [])
    to_each x [] = (terms.narrow_by_last s (switch.got_by q x) (ip_in_some f.Ip4Dst switch.group_ips) (receiver x [] tt) groups_narrow, tt)
    to_each x (i ∷ is) = (narrow (switch.got_by q x ++ ip_in f.Ip4Dst i ∷ []) (receiver x (ip_in f.Ip4Dst i ∷ []) (terms.one_prefix s f.Ip4Dst i, tt)), to_each x is)

    may_get_by : (x : SecurityEntry) (b : Bool) → AreGot x (cond b (map (λ i. ip_in f.Ip4Dst i ∷ []) x.ips ++ (ip_in_some f.Ip4Dst switch.group_ips ∷ []) ∷ []) ([] ∷ []))
    may_get_by x true = to_each x x.ips
    may_get_by x false = (narrow (switch.got_by q x) (receiver x [] tt), tt)

    ip_or_arp : IsNarrow (e.Any (e.Is p.Ip4 ∷ e.Is p.Arp ∷ []))
    ip_or_arp = omega (arith, terms.width_either s (e.Is p.Ip4) (e.Is p.Arp), terms.one_is s p.Ip4 refl, terms.one_is s p.Arp refl)

    security_in : (x : SecurityEntry) → Are (switch.entry_port_security q x)
    security_in x =
        let sends : List Expr → LFlow = λ ts. pass_row stage.SwitchPortSecurity 90 (switch.sent_by q x ++ ts) in
        let others : Expr = e.Any (e.Is p.Ip4 ∷ e.Is p.Arp ∷ []) in
        rows.both HasNarrow (map sends (switch.may_send x)) (drop_row stage.SwitchPortSecurity 85 (switch.sent_by q x ++ others ∷ []) cause.PortSecurity ∷ pass_row stage.SwitchPortSecurity 80 (switch.sent_by q x) ∷ [])
        (rows.each HasNarrow sends (switch.may_send x) (λ ts n. narrow (switch.sent_by q x ++ ts) (sender x ts (among_all AreOne ts (switch.may_send x) (may_send_by x (has_some x.ips)) n))))
        (terms.narrow_by_last s (switch.sent_by q x) others (sender x [] tt) ip_or_arp, (narrow (switch.sent_by q x) (sender x [] tt), tt))

    security_out : (x : SecurityEntry) → Are (switch.entry_security_out q x)
    security_out x =
        let gets : List Expr → LFlow = λ ts. pass_row stage.SwitchSecurityOut 80 (switch.got_by q x ++ ts) in
        rows.both HasNarrow (map gets (switch.may_get x)) (drop_row stage.SwitchSecurityOut 75 (switch.got_by q x ++ e.Is p.Ip4 ∷ []) cause.PortSecurity ∷ pass_row stage.SwitchSecurityOut 70 (switch.got_by q x) ∷ [])
        (rows.each HasNarrow gets (switch.may_get x) (λ ts n. among_all (λ ts. IsNarrow (all_of (switch.got_by q x ++ ts))) ts (switch.may_get x) (may_get_by x (has_some x.ips)) n))
        (narrow (switch.got_by q x ++ e.Is p.Ip4 ∷ []) (receiver x (e.Is p.Ip4 ∷ []) (terms.one_is s p.Ip4 refl, tt)), (narrow (switch.got_by q x) (receiver x [] tt), tt))

    tracked : (port : Expr) → terms.IsOne s port → IsNarrow (all_of (switch.tracks port))
    tracked port h = narrow (switch.tracks port) (h, (terms.one_is s p.Ip4 refl, (terms.one_unicast s, tt)))

    arp_narrow : (ip : Ip4) (mac : Mac) → Are (switch.address_arp q ip mac)
    arp_narrow ip mac = (narrow (in_is q.name ∷ asks_for ip) (terms.one_in s q.name, terms.one_asks s ip), (narrow (asks_for ip) (terms.one_asks s ip), tt))

    pub port_narrow : (net : Network) (st : Stage) → Are (switch_port_rows st net q)
    port_narrow net stage.SwitchAdmit = rows.if_so HasNarrow (not q.enabled) (drop_row stage.SwitchAdmit 120 (in_is q.name ∷ []) cause.Disabled ∷ []) (in_one q.name, tt)
    port_narrow net stage.SwitchPortSecurity =
        let last : List LFlow = drop_row stage.SwitchPortSecurity 70 (in_is q.name ∷ []) cause.PortSecurity ∷ [] in
        rows.both HasNarrow (flat_map (switch.entry_port_security q) q.port_security) (when (has_some q.port_security) last) (rows.each_list HasNarrow (switch.entry_port_security q) q.port_security (λ x m. security_in x))
        (rows.if_so HasNarrow (has_some q.port_security) last (in_one q.name, tt))
    port_narrow net stage.SwitchTrack = rows.if_so HasNarrow (switch.tracks_port net q) (switch.port_track_row q ∷ []) (tracked (in_is q.name) (terms.one_in s q.name), tt)
    port_narrow net stage.SwitchArp =
        rows.if_so HasNarrow (is_virtual q && q.enabled) (flat_map (λ ip. on_some (mac_of_ip ip q) (switch.address_arp q ip)) (port_ips q))
        (rows.each_list HasNarrow (λ ip. on_some (mac_of_ip ip q) (switch.address_arp q ip)) (port_ips q) (λ ip m. rows.if_some HasNarrow (mac_of_ip ip q) (switch.address_arp q ip) (λ mac is. arp_narrow ip mac)))
    port_narrow net stage.SwitchLookup =
        let ips : List Ip4 = answered_if net (router_port_behind net q) in
        let answered : List LFlow = map (switch.answered_lookup q) ips in
        let known : List LFlow = map (switch.address_lookup q) (macs_of net q) in
        rows.if_so HasNarrow q.enabled (when (not (is_virtual q)) answered ++ known) (rows.both HasNarrow (when (not (is_virtual q)) answered) known
        (rows.if_so HasNarrow (not (is_virtual q)) answered (rows.each HasNarrow (switch.answered_lookup q) ips (λ ip m. narrow (e.Is p.EthMcast ∷ asks_for ip) (terms.one_is s p.EthMcast refl, terms.one_asks s ip))))
        (rows.each HasNarrow (switch.address_lookup q) (macs_of net q) (λ mac m. narrow (mac_is f.EthDst mac ∷ []) (terms.one_mac s f.EthDst mac, tt))))
    port_narrow net stage.SwitchTrackOut =
        rows.both HasNarrow (switch.port_disabled_out q) (when (switch.tracks_port net q) (switch.port_track_out_row q ∷ []))
        (rows.if_so HasNarrow (not q.enabled) (drop_row stage.SwitchTrackOut 120 (out_is q.name ∷ []) cause.Disabled ∷ []) (out_one q.name, tt))
        (rows.if_so HasNarrow (switch.tracks_port net q) (switch.port_track_out_row q ∷ []) (tracked (out_is q.name) (terms.one_out s q.name), tt))
    port_narrow net stage.SwitchSecurityOut =
        rows.both HasNarrow (flat_map (switch.entry_security_out q) q.port_security) (when (has_some q.port_security) (switch.around_security_out q)) (rows.each_list HasNarrow (switch.entry_security_out q) q.port_security (λ x m. security_out x))
        (rows.if_so HasNarrow (has_some q.port_security) (switch.around_security_out q) (narrow (out_is q.name ∷ e.Is p.EthMcast ∷ []) (terms.one_out s q.name, (terms.one_is s p.EthMcast refl, tt)), (out_one q.name, tt)))
    port_narrow net _ = tt

  -- ---- a router's port

  echo_narrow : (ip : Ip4) → IsNarrow (all_of (ip_is f.Ip4Dst ip ∷ field_is f.Icmp4Type 8 ∷ field_is f.Icmp4Code 0 ∷ []))
  echo_narrow ip = narrow (ip_is f.Ip4Dst ip ∷ field_is f.Icmp4Type 8 ∷ field_is f.Icmp4Code 0 ∷ []) (terms.one_ip s f.Ip4Dst ip, (terms.one_field s f.Icmp4Type 8, (terms.one_field s f.Icmp4Code 0, tt)))

  pub router_port_narrow : (net : Network) (q : RouterPort) (st : Stage) → Are (router_port_rows st net q)
  router_port_narrow net q stage.RouterAdmit = (
    narrow (in_is q.name ∷ mac_is f.EthDst q.mac ∷ []) (terms.one_in s q.name, (terms.one_mac s f.EthDst q.mac, tt)),
    (narrow (in_is q.name ∷ e.Is p.EthMcast ∷ e.Is p.Arp ∷ []) (terms.one_in s q.name, (terms.one_is s p.EthMcast refl, (terms.one_is s p.Arp refl, tt))), tt),
  )
  router_port_narrow net q stage.RouterInput =
      rows.both HasNarrow (map (router.answered_input q) (answered_ips net q)) (map router.echo_input (own_ips q))
      (rows.each HasNarrow (router.answered_input q) (answered_ips net q) (λ ip m. narrow (in_is q.name ∷ asks_for ip) (terms.one_in s q.name, terms.one_asks s ip)))
      (rows.each HasNarrow router.echo_input (own_ips q) (λ ip m. echo_narrow ip))
  router_port_narrow net q stage.RouterOwn = rows.each HasNarrow router.own_row (own_ips q) (λ ip m. to_ip ip)
  router_port_narrow net q stage.RouterRoute = rows.each HasNarrow (router.network_row q) q.networks (λ n m. to_prefix n)
  router_port_narrow net q _ = tt
