-- Each port that an action of a row names is a port of the records, and so has a live key.
use Rattle.std.specs.Prelude.{◌≡◌, ◌&&◌, ◌++◌, Bool, true, false, not, List, [], ◌∷◌, map, flat_map, Some, IsSome}
use Rattle.std.specs.List.{AllByRecursion, list_all}
use Rattle.std.specs.Map.{values_of}
use Rattle.std.proofs.Common.{refl, sym, subst}
use Rattle.std.proofs.lemmas.Bool.{false≢true, and_parts}
use Rattle.ovn_base.proofs.AmongLaws.{among_all, among_left, among_right, among_map, map_among, filter_among, flat_map_among}
use Rattle.ovn_base.proofs.ByNameLaws.{at_among}
use Rattle.ovn_base.specs.declared.address.Backend.{Backend}
use Rattle.ovn_base.specs.declared.address.Ip4.{Ip4}
use Rattle.ovn_base.specs.declared.address.Mac.{Mac}
use Rattle.ovn_base.specs.declared.name.Name.{Name}
use Rattle.ovn_base.specs.lists.Among.{Among}
use Rattle.ovn_base.specs.names.ByName.{at}
use Rattle.ovn_base.specs.names.SameName.{same_name}
use Rattle.flow_table.specs.declared.flow.Cause.TheVariants as cause
use Rattle.flow_table.specs.declared.flow.ZoneOf.{ZoneOf}
use Rattle.flow_table.specs.declared.flow.ZoneOf.TheVariants as zone
use Rattle.inet_packet.specs.declared.regs.Reg.TheVariants as reg
use Rattle.match_language.specs.declared.expr.Expr.{Expr}
use Rattle.nb_records.specs.Network.{Network}
use Rattle.nb_records.specs.Routers.{router_ports_of, translates_sources, translates_destinations}
use Rattle.nb_records.specs.Switches.{is_virtual, is_named, has_some, router_port_behind, macs_of, mac_of_ip}
use Rattle.nb_records.specs.Ways.{Way, best_by, is_better_way, ways_of_port, network_ways}
use Rattle.nb_records.specs.declared.balancer.LoadBalancer.{LoadBalancer}
use Rattle.nb_records.specs.declared.router.Nat.{Nat}
use Rattle.nb_records.specs.declared.router.Route.{Route}
use Rattle.nb_records.specs.declared.router.RouterPort.{RouterPort}
use Rattle.nb_records.specs.declared.rule.Acl.{Acl}
use Rattle.nb_records.specs.declared.switch.SecurityEntry.{SecurityEntry}
use Rattle.nb_records.specs.declared.switch.SwitchPort.{SwitchPort}
use Rattle.nb_rules.specs.Valid.{IsValid}
use Rattle.logical_flows.specs.declared.action.Action.{Action}
use Rattle.logical_flows.specs.declared.action.Action.TheVariants as a
use Rattle.logical_flows.specs.declared.flow.LFlow.{LFlow}
use Rattle.logical_flows.specs.declared.stage.Stage.{Stage}
use Rattle.logical_flows.specs.declared.stage.Stage.TheVariants as stage
use Rattle.flow_lowering.specs.LoweredFlows.{NamesLivePort}
use Rattle.stage_rows.specs.BalancerRows as balancing
use Rattle.stage_rows.specs.Facts.{own_ips, answered_ips, answered_if, port_ips}
use Rattle.stage_rows.specs.NatRows.{nat_dnat, nat_snat}
use Rattle.stage_rows.specs.RouterRows as router
use Rattle.stage_rows.specs.RuleRows.{rule_row}
use Rattle.stage_rows.specs.Rows.{on_some, when, in_is, drop_row, pass_row}
use Rattle.stage_rows.specs.StateRows.{state_rows}
use Rattle.stage_rows.specs.SwitchRows as switch
use Rattle.stage_rows.specs.Units.{switch_port_rows, router_port_rows, rule_rows, route_rows, neighbour_rows, nat_rows, balancer_rows, switch_rows, router_rows, is_from_lport, is_to_lport}
use Rattle.tunnel_keys.proofs.HeldKeys.{is_found}
use Rattle.tunnel_keys.specs.Edits.{IsLive}
use Rattle.tunnel_keys.specs.Keys.{Keys}
use Rattle.tunnel_keys.specs.declared.owner.KeyOwner.{KeyOwner}
use Rattle.net_model.specs.Owners.{owners_of, router_port_owner, switch_port_owner}
use Rattle.row_laws.proofs.suited.EachRow as rows
use Rattle.row_laws.proofs.suited.EachRow.{OfEachKind, each_row}
use Rattle.row_laws.proofs.units.BestOf.{best_among}
use Rattle.row_laws.specs.CanLower.{NamedPortsLaw}

module _ (keys : Keys) where
  abbrev Names : LFlow → Type 0
  Names r = AllByRecursion (NamesLivePort keys) r.actions

  abbrev Are : List LFlow → Type 0
  Are rs = AllByRecursion Names rs

  -- ---- actions that name no port

  abbrev names_none : Action → Bool
  names_none (a.SetOut q) = false
  names_none _ = true

  abbrev is_quiet : LFlow → Bool
  is_quiet r = list_all names_none r.actions

  one_quiet : (x : Action) → names_none x ≡ true → NamesLivePort keys x
  one_quiet (a.SetOut q) h = absurd (false≢true h)
  one_quiet _ h = tt

  all_quiet : (xs : List Action) → list_all names_none xs ≡ true → AllByRecursion (NamesLivePort keys) xs
  all_quiet [] h = tt
  all_quiet (x ∷ xs) h = let m = and_parts (names_none x) (list_all names_none xs) h in (one_quiet x m.0, all_quiet xs m.1)

  quiet : (rs : List LFlow) → list_all is_quiet rs ≡ true → Are rs
  quiet [] h = tt
  quiet (r ∷ rs) h = let m = and_parts (is_quiet r) (list_all is_quiet rs) h in (all_quiet r.actions m.0, quiet rs m.1)

  quiet_map : {X : Type 0} (g : X → LFlow) (xs : List X) → ((x : X) → is_quiet (g x) ≡ true) → Are (map g xs)
  quiet_map g xs h = rows.each Names g xs (λ x m. all_quiet (g x).actions (h x))

  quiet_when : (b : Bool) (rs : List LFlow) → list_all is_quiet rs ≡ true → Are (when b rs)
  quiet_when b rs h = rows.if_so Names b rs (quiet rs h)

  -- ---- ports that are live

  abbrev IsLiveName : Name → Type 0
  IsLiveName q = IsSome (at keys.ports q)

  module _ (net : Network) (valid : IsValid net) (each : (o : KeyOwner) → Among o (owners_of net) → IsLive keys o) where
    live_switch_port : (name : Name) (q : SwitchPort) → at net.switch_ports name ≡ Some q → IsLiveName q.name
    live_switch_port name q is =
        let o = switch_port_owner (name, q) in
        let m = at_among net.switch_ports name q is in
        let k = each o (among_right o _ _ (among_map switch_port_owner (name, q) net.switch_ports m)) in
        subst IsLiveName (sym (among_all (λ (e : Name × SwitchPort). e.1.name ≡ e.0) (name, q) net.switch_ports valid.named.switch_ports m)) (is_found (at keys.ports name) _ k.1)

    live_router_port : (e : Name × RouterPort) → Among e net.router_ports → IsLiveName e.1.name
    live_router_port e m =
        let o = router_port_owner e in
        let k = each o (among_left o _ _ (among_right o _ _ (among_map router_port_owner e net.router_ports m))) in
        subst IsLiveName (sym (among_all (λ (e : Name × RouterPort). e.1.name ≡ e.0) e net.router_ports valid.named.router_ports m)) (is_found (at keys.ports e.0) _ k.1)

    -- the port of a way is one of the router's
    live_way : (router : Name) (dst : Ip4) (w : Way) → best_by is_better_way (network_ways net router dst) ≡ Some w → IsLiveName w.hop.port.name
    live_way router dst w is =
        let p = flat_map_among (ways_of_port dst) w (router_ports_of net router) (best_among is_better_way (network_ways net router dst) w is) in
        let n = map_among _ w _ p.2 in
        let e = map_among (λ (e : Name × RouterPort). e.1) p.0 net.router_ports (filter_among (λ (p : RouterPort). same_name p.router router) p.0 (values_of net.router_ports) p.1).0 in
        subst (λ (w : Way). IsLiveName w.hop.port.name) (sym n.2) (subst (λ (p : RouterPort). IsLiveName p.name) (sym e.2) (live_router_port e.0 e.1))

    -- ---- the rows of each kind of unit

    sends : (q : RouterPort) (next : Action) → names_none next ≡ true → IsLiveName q.name → AllByRecursion (NamesLivePort keys) (router.routed_by q next)
    sends q next quiet live = (tt, (one_quiet next quiet, (live, (tt, (tt, (tt, tt))))))

    security_in : (q : SwitchPort) (x : SecurityEntry) → Are (switch.entry_port_security q x)
    security_in q x =
        let sends : List Expr → LFlow = λ ts. pass_row stage.SwitchPortSecurity 90 (switch.sent_by q x ++ ts) in
        rows.both Names (map sends (switch.may_send x)) _ (quiet_map sends (switch.may_send x) (λ ts. refl)) ((tt, tt), ((tt, tt), tt))

    security_out : (q : SwitchPort) (x : SecurityEntry) → Are (switch.entry_security_out q x)
    security_out q x =
        let gets : List Expr → LFlow = λ ts. pass_row stage.SwitchSecurityOut 80 (switch.got_by q x ++ ts) in
        rows.both Names (map gets (switch.may_get x)) _ (quiet_map gets (switch.may_get x) (λ ts. refl)) ((tt, tt), ((tt, tt), tt))

    port_names : (q : SwitchPort) → IsLiveName q.name → (s : Stage) → Are (switch_port_rows s net q)
    port_names q live stage.SwitchAdmit = quiet_when (not q.enabled) _ refl
    port_names q live stage.SwitchPortSecurity =
        let last : List LFlow = drop_row stage.SwitchPortSecurity 70 (in_is q.name ∷ []) cause.PortSecurity ∷ [] in
        rows.both Names (flat_map (switch.entry_port_security q) q.port_security) (when (has_some q.port_security) last) (rows.each_list Names (switch.entry_port_security q) q.port_security (λ x m. security_in q x)) (quiet_when (has_some q.port_security) last refl)
    port_names q live stage.SwitchTrack = quiet_when (switch.tracks_port net q) _ refl
    port_names q live stage.SwitchArp =
        rows.if_so Names (is_virtual q && q.enabled) (flat_map (λ ip. on_some (mac_of_ip ip q) (switch.address_arp q ip)) (port_ips q))
        (rows.each_list Names (λ ip. on_some (mac_of_ip ip q) (switch.address_arp q ip)) (port_ips q) (λ ip m. rows.if_some Names (mac_of_ip ip q) (switch.address_arp q ip) (λ mac is. quiet (switch.address_arp q ip mac) refl)))
    port_names q live stage.SwitchLookup =
        let ips : List Ip4 = answered_if net (router_port_behind net q) in
        let answered : List LFlow = map (switch.answered_lookup q) ips in
        let known : List LFlow = map (switch.address_lookup q) (macs_of net q) in
        rows.if_so Names q.enabled (when (not (is_virtual q)) answered ++ known) (rows.both Names (when (not (is_virtual q)) answered) known
        (rows.if_so Names (not (is_virtual q)) answered (rows.each Names (switch.answered_lookup q) ips (λ ip m. (live, (tt, tt)))))
        (rows.each Names (switch.address_lookup q) (macs_of net q) (λ mac m. (live, (tt, tt)))))
    port_names q live stage.SwitchTrackOut = rows.both Names (switch.port_disabled_out q) (when (switch.tracks_port net q) (switch.port_track_out_row q ∷ [])) (quiet_when (not q.enabled) _ refl) (quiet_when (switch.tracks_port net q) _ refl)
    port_names q live stage.SwitchSecurityOut =
        rows.both Names (flat_map (switch.entry_security_out q) q.port_security) (when (has_some q.port_security) (switch.around_security_out q)) (rows.each_list Names (switch.entry_security_out q) q.port_security (λ x m. security_out q x))
        (quiet_when (has_some q.port_security) (switch.around_security_out q) refl)
    port_names q live _ = tt

    router_port_names : (q : RouterPort) → IsLiveName q.name → (s : Stage) → Are (router_port_rows s net q)
    router_port_names q live stage.RouterAdmit = quiet (router.port_for_router q) refl
    router_port_names q live stage.RouterInput =
        rows.both Names (map (router.answered_input q) (answered_ips net q)) (map router.echo_input (own_ips q)) (quiet_map (router.answered_input q) (answered_ips net q) (λ ip. refl)) (quiet_map router.echo_input (own_ips q) (λ ip. refl))
    router_port_names q live stage.RouterOwn = quiet_map router.own_row (own_ips q) (λ ip. refl)
    router_port_names q live stage.RouterRoute = rows.each Names (router.network_row q) q.networks (λ n m. sends q a.NextDst refl live)
    router_port_names q live _ = tt

    rule_names : (x : Acl) (s : Stage) → Are (rule_rows s x)
    rule_names x stage.SwitchAclIn = quiet_when (is_from_lport x.direction) (rule_row x ∷ []) refl
    rule_names x stage.SwitchAclOut = quiet_when (is_to_lport x.direction) (rule_row x ∷ []) refl
    rule_names x _ = tt

    route_names : (x : Route) (s : Stage) → Are (route_rows s net x)
    route_names x stage.RouterRoute =
        rows.if_some Names (best_by is_better_way (network_ways net x.router x.nexthop)) (λ w. router.route_row x w ∷ []) (λ w is. (sends w.hop.port (a.Set reg.Next x.nexthop.0) refl (live_way x.router x.nexthop w is), tt))
    route_names x _ = tt

    nat_names : (x : Nat) (s : Stage) → Are (nat_rows s x)
    nat_names x stage.RouterDnat = quiet_when (translates_destinations x.kind) (nat_dnat x) refl
    nat_names x stage.RouterSnat = quiet_when (translates_sources x.kind) (nat_snat x) refl
    nat_names x _ = tt

    balancer_names : (x : LoadBalancer) (s : Stage) (online : Backend → Bool) (d : Name) → Are (balancer_rows s online d x)
    balancer_names x stage.SwitchStateIn online d = rows.if_so Names (is_named d x.switches) (balancing.switch_vips online x) (quiet_map (balancing.switch_vip_row online x.protocol) x.vips (λ v. refl))
    balancer_names x stage.RouterDnat online d = rows.if_so Names (is_named d x.routers) (balancing.router_vips online x) (quiet_map (balancing.router_vip_row online x.protocol) x.vips (λ v. refl))
    balancer_names x _ online d = tt

  neighbour_names : (s : Stage) (port : Name) (ip : Ip4) (mac : Mac) → Are (neighbour_rows s port ip mac)
  neighbour_names stage.RouterNeighbour port ip mac = quiet (router.neighbour_row port ip mac ∷ []) refl
  neighbour_names _ port ip mac = tt

  state_names : (stateful : Bool) (s : Stage) (z : ZoneOf) → Are (state_rows stateful s z)
  state_names true s z = quiet (state_rows true s z) refl
  state_names false s z = quiet (state_rows false s z) refl

  switch_names : (s : Stage) (stateful takes : Bool) → Are (switch_rows s stateful takes)
  switch_names stage.SwitchStateIn stateful takes = state_names stateful stage.SwitchStateIn zone.In
  switch_names stage.SwitchStateOut stateful takes = state_names stateful stage.SwitchStateOut zone.Out
  switch_names stage.SwitchLookup stateful true = quiet (switch.switch_lookup true) refl
  switch_names stage.SwitchLookup stateful false = quiet (switch.switch_lookup false) refl
  switch_names s stateful takes = quiet (switch_rows s stateful takes) refl

  router_names : (s : Stage) (translating : Bool) → Are (router_rows s translating)
  router_names stage.RouterUndo true = quiet (router.router_undo true) refl
  router_names stage.RouterUndo false = quiet (router.router_undo false) refl
  router_names stage.RouterFind true = quiet (router.router_find true) refl
  router_names stage.RouterFind false = quiet (router.router_find false) refl
  router_names s translating = quiet (router_rows s translating) refl

pub ports_named : NamedPortsLaw
ports_named net keys valid each r d pair = each_row (Names keys) net (record {
  port = λ name q is s. port_names keys net valid each q (live_switch_port keys net valid each name q is) s;
  router_port = λ name q is s. router_port_names keys net valid each q (live_router_port keys net valid each (name, q) (at_among net.router_ports name q is)) s;
  rule = λ name x is s. rule_names keys net valid each x s;
  route = λ name x is s. route_names keys net valid each x s;
  neighbour = λ s port ip mac. neighbour_names keys s port ip mac;
  nat = λ name x is s. nat_names keys net valid each x s;
  balancer = λ name x is s online d. balancer_names keys net valid each x s online d;
  switch = λ s stateful takes. switch_names keys s stateful takes;
  router = λ s translating. router_names keys s translating;
}) r d pair
