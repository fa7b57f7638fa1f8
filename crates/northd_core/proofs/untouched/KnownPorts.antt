-- The rows of a switch's port name that port alone, and no set and no group.
use Rattle.std.specs.Prelude.{◌≡◌, ◌&&◌, ◌++◌, Bool, true, not, cond, List, [], ◌∷◌, map, flat_map}
use Rattle.std.specs.List.{AllByRecursion, list_all}
use Rattle.std.proofs.Common.{refl}
use Rattle.std.proofs.lemmas.Bool.{and_from}
use Rattle.ovn_base.proofs.AmongLaws.{among_all}
use Rattle.ovn_base.specs.declared.address.Cidr.{Cidr}
use Rattle.ovn_base.specs.declared.address.Ip4.{Ip4}
use Rattle.ovn_base.specs.declared.address.Mac.{Mac}
use Rattle.ovn_base.specs.declared.name.Name.{Name}
use Rattle.flow_table.specs.declared.flow.Cause.TheVariants as cause
use Rattle.match_language.specs.declared.expr.Expr.{Expr}
use Rattle.match_language.specs.declared.expr.Expr.TheVariants as e
use Rattle.match_language.specs.declared.field.Field.TheVariants as f
use Rattle.match_language.specs.declared.field.Predicate.TheVariants as p
use Rattle.nb_records.specs.Network.{Network}
use Rattle.nb_records.specs.Switches.{is_virtual, has_some, router_port_behind, macs_of, mac_of_ip}
use Rattle.nb_records.specs.declared.switch.SecurityEntry.{SecurityEntry}
use Rattle.nb_records.specs.declared.switch.SwitchPort.{SwitchPort}
use Rattle.logical_flows.specs.declared.flow.LFlow.{LFlow}
use Rattle.logical_flows.specs.declared.stage.Stage.{Stage}
use Rattle.logical_flows.specs.declared.stage.Stage.TheVariants as stage
use Rattle.stage_rows.specs.Facts.{answered_if, port_ips}
use Rattle.stage_rows.specs.Rows.{on_some, when, all_of, mac_is, ip_in, ip_in_some, in_is, out_is, asks_for, prefix_value, drop_row, pass_row}
use Rattle.stage_rows.specs.SwitchRows as switch
use Rattle.stage_rows.specs.Units.{switch_port_rows}
use Rattle.row_laws.proofs.suited.EachRow as rows
use Rattle.northd_core.proofs.untouched.KnownRows as named
use Rattle.northd_core.proofs.untouched.KnownTerms as terms

module _ (known : Name → Bool) where
  abbrev NamesKnown : LFlow → Type 0
  NamesKnown r = named.NamesKnown known r

  abbrev Are : List LFlow → Type 0
  Are rs = AllByRecursion NamesKnown rs

  abbrev AreKnown : List Expr → Type 0
  AreKnown xs = terms.AreKnown known xs

  abbrev AreTerms : List (List Expr) → Type 0
  AreTerms tss = AllByRecursion AreKnown tss

  -- ---- terms of port security

  dhcp_known : AreKnown switch.dhcp_request
  dhcp_known = (terms.known_field known f.Ip4Src 0, (terms.known_field known f.Ip4Dst 0xffff_ffff, (terms.known_field known f.UdpSrc 68, (terms.known_field known f.UdpDst 67, tt))))

  mac_known : (x : SecurityEntry) → terms.IsKnown known (mac_is f.ArpSha x.mac)
  mac_known x = terms.known_field known f.ArpSha x.mac.number

  from_each : (x : SecurityEntry) (is : List Cidr) → AreTerms (flat_map (switch.may_send_from x) is ++ switch.dhcp_request ∷ [])
  from_each x [] = (dhcp_known, tt)
  from_each x (i ∷ is) = ((terms.known_prefix known f.Ip4Src i, tt), ((mac_known x, (terms.known_prefix known f.ArpSpa i, tt)), from_each x is))

  may_send_by : (x : SecurityEntry) (b : Bool) → AreTerms (cond b (flat_map (switch.may_send_from x) x.ips ++ switch.dhcp_request ∷ []) (switch.may_send_any x))
  may_send_by x true = from_each x x.ips
  may_send_by x _ = ((terms.known_is known p.Ip4, tt), ((mac_known x, tt), tt))

  groups_known : terms.IsKnown known (ip_in_some f.Ip4Dst switch.group_ips)
  groups_known = terms.known_with known f.Ip4Dst (map prefix_value switch.group_ips) refl

  to_each : (is : List Cidr) → AreTerms (map (λ i. ip_in f.Ip4Dst i ∷ []) is ++ (ip_in_some f.Ip4Dst switch.group_ips ∷ []) ∷ [])
  to_each [] = ((groups_known, tt), tt)
  to_each (i ∷ is) = ((terms.known_prefix known f.Ip4Dst i, tt), to_each is)

  may_get_by : (x : SecurityEntry) (b : Bool) → AreTerms (cond b (map (λ i. ip_in f.Ip4Dst i ∷ []) x.ips ++ (ip_in_some f.Ip4Dst switch.group_ips ∷ []) ∷ []) ([] ∷ []))
  may_get_by x true = to_each x.ips
  may_get_by x _ = (tt, tt)

  ip_or_arp : terms.IsKnown known (e.Any (e.Is p.Ip4 ∷ e.Is p.Arp ∷ []))
  ip_or_arp = terms.known_either known (e.Is p.Ip4) (e.Is p.Arp) (terms.known_is known p.Ip4) (terms.known_is known p.Arp)

  -- ---- a port that is known

  module _ (q : SwitchPort) (own : known q.name ≡ true) where
    came : terms.IsKnown known (in_is q.name)
    came = terms.known_in known q.name own

    goes : terms.IsKnown known (out_is q.name)
    goes = terms.known_out known q.name own

    sender : (x : SecurityEntry) (ts : List Expr) → AreKnown ts → AreKnown (switch.sent_by q x ++ ts)
    sender x ts h = (came, (terms.known_field known f.EthSrc x.mac.number, h))

    receiver : (x : SecurityEntry) (ts : List Expr) → AreKnown ts → AreKnown (switch.got_by q x ++ ts)
    receiver x ts h = (goes, (terms.known_field known f.EthDst x.mac.number, h))

    security_in : (x : SecurityEntry) → Are (switch.entry_port_security q x)
    security_in x =
        let sends : List Expr → LFlow = λ ts. pass_row stage.SwitchPortSecurity 90 (switch.sent_by q x ++ ts) in
        let drops : List Expr = switch.sent_by q x ++ e.Any (e.Is p.Ip4 ∷ e.Is p.Arp ∷ []) ∷ [] in
        rows.both NamesKnown (map sends (switch.may_send x)) (drop_row stage.SwitchPortSecurity 85 drops cause.PortSecurity ∷ pass_row stage.SwitchPortSecurity 80 (switch.sent_by q x) ∷ [])
        (rows.each NamesKnown sends (switch.may_send x) (λ ts n. (terms.known_all known (switch.sent_by q x ++ ts) (sender x ts (among_all AreKnown ts (switch.may_send x) (may_send_by x (has_some x.ips)) n)), refl)))
        ((terms.known_all known drops (sender x (e.Any (e.Is p.Ip4 ∷ e.Is p.Arp ∷ []) ∷ []) (ip_or_arp, tt)), refl), ((terms.known_all known (switch.sent_by q x) (sender x [] tt), refl), tt))

    security_out : (x : SecurityEntry) → Are (switch.entry_security_out q x)
    security_out x =
        let gets : List Expr → LFlow = λ ts. pass_row stage.SwitchSecurityOut 80 (switch.got_by q x ++ ts) in
        let drops : List Expr = switch.got_by q x ++ e.Is p.Ip4 ∷ [] in
        rows.both NamesKnown (map gets (switch.may_get x)) (drop_row stage.SwitchSecurityOut 75 drops cause.PortSecurity ∷ pass_row stage.SwitchSecurityOut 70 (switch.got_by q x) ∷ [])
        (rows.each NamesKnown gets (switch.may_get x) (λ ts n. (terms.known_all known (switch.got_by q x ++ ts) (receiver x ts (among_all AreKnown ts (switch.may_get x) (may_get_by x (has_some x.ips)) n)), refl)))
        ((terms.known_all known drops (receiver x (e.Is p.Ip4 ∷ []) (terms.known_is known p.Ip4, tt)), refl), ((terms.known_all known (switch.got_by q x) (receiver x [] tt), refl), tt))

    tracked : (port : Expr) → terms.IsKnown known port → terms.IsKnown known (all_of (switch.tracks port))
    tracked port h = terms.known_all known (switch.tracks port) (h, (terms.known_is known p.Ip4, (terms.known_unicast known, tt)))

    arp_known : (ip : Ip4) (mac : Mac) → Are (switch.address_arp q ip mac)
    arp_known ip mac = ((terms.known_all known (in_is q.name ∷ asks_for ip) (came, terms.known_asks known ip), refl), ((terms.known_all known (asks_for ip) (terms.known_asks known ip), refl), tt))

    sends_there : list_all (named.sends_known known) (switch.goes_to_port q) ≡ true
    sends_there = and_from (known q.name) true own refl

    answered_known : (ip : Ip4) → NamesKnown (switch.answered_lookup q ip)
    answered_known ip = (terms.known_all known (e.Is p.EthMcast ∷ asks_for ip) (terms.known_is known p.EthMcast, terms.known_asks known ip), sends_there)

    address_known : (mac : Mac) → NamesKnown (switch.address_lookup q mac)
    address_known mac = (terms.known_field known f.EthDst mac.number, sends_there)

    -- the rows of a known port name it alone
    pub port_known : (net : Network) (s : Stage) → Are (switch_port_rows s net q)
    port_known net stage.SwitchAdmit = rows.if_so NamesKnown (not q.enabled) (drop_row stage.SwitchAdmit 120 (in_is q.name ∷ []) cause.Disabled ∷ []) ((came, refl), tt)
    port_known net stage.SwitchPortSecurity =
        let last : List LFlow = drop_row stage.SwitchPortSecurity 70 (in_is q.name ∷ []) cause.PortSecurity ∷ [] in
        rows.both NamesKnown (flat_map (switch.entry_port_security q) q.port_security) (when (has_some q.port_security) last) (rows.each_list NamesKnown (switch.entry_port_security q) q.port_security (λ x m. security_in x))
        (rows.if_so NamesKnown (has_some q.port_security) last ((came, refl), tt))
    port_known net stage.SwitchTrack = rows.if_so NamesKnown (switch.tracks_port net q) (switch.port_track_row q ∷ []) ((tracked (in_is q.name) came, refl), tt)
    port_known net stage.SwitchArp =
        rows.if_so NamesKnown (is_virtual q && q.enabled) (flat_map (λ ip. on_some (mac_of_ip ip q) (switch.address_arp q ip)) (port_ips q))
        (rows.each_list NamesKnown (λ ip. on_some (mac_of_ip ip q) (switch.address_arp q ip)) (port_ips q) (λ ip m. rows.if_some NamesKnown (mac_of_ip ip q) (switch.address_arp q ip) (λ mac is. arp_known ip mac)))
    port_known net stage.SwitchLookup =
        let ips : List Ip4 = answered_if net (router_port_behind net q) in
        let answered : List LFlow = map (switch.answered_lookup q) ips in
        let addressed : List LFlow = map (switch.address_lookup q) (macs_of net q) in
        rows.if_so NamesKnown q.enabled (when (not (is_virtual q)) answered ++ addressed) (rows.both NamesKnown (when (not (is_virtual q)) answered) addressed
        (rows.if_so NamesKnown (not (is_virtual q)) answered (rows.each NamesKnown (switch.answered_lookup q) ips (λ ip m. answered_known ip)))
        (rows.each NamesKnown (switch.address_lookup q) (macs_of net q) (λ mac m. address_known mac)))
    port_known net stage.SwitchTrackOut =
        rows.both NamesKnown (switch.port_disabled_out q) (when (switch.tracks_port net q) (switch.port_track_out_row q ∷ []))
        (rows.if_so NamesKnown (not q.enabled) (drop_row stage.SwitchTrackOut 120 (out_is q.name ∷ []) cause.Disabled ∷ []) ((goes, refl), tt))
        (rows.if_so NamesKnown (switch.tracks_port net q) (switch.port_track_out_row q ∷ []) ((tracked (out_is q.name) goes, refl), tt))
    port_known net stage.SwitchSecurityOut =
        rows.both NamesKnown (flat_map (switch.entry_security_out q) q.port_security) (when (has_some q.port_security) (switch.around_security_out q)) (rows.each_list NamesKnown (switch.entry_security_out q) q.port_security (λ x m. security_out x))
        (rows.if_so NamesKnown (has_some q.port_security) (switch.around_security_out q)
        ((terms.known_all known (out_is q.name ∷ e.Is p.EthMcast ∷ []) (goes, (terms.known_is known p.EthMcast, tt)), refl), ((goes, refl), tt)))
    port_known net _ = tt
