-- All actions of the rows of valid records set a register within its range or go on at a later table, so that what they are lowered to is proper.
use Rattle.std.specs.Prelude.{◌≡◌, ◌^◌, ◌&&◌, ◌++◌, Bool, true, false, not, nat_lt, List, [], ◌∷◌, map, flat_map}
use Rattle.std.specs.List.{AllByRecursion, list_all}
use Rattle.std.proofs.Common.{refl}
use Rattle.std.proofs.lemmas.Bool.{and_parts, and_from, lt-ltb}
use Rattle.ovn_base.specs.declared.address.Backend.{Backend}
use Rattle.ovn_base.specs.declared.address.Ip4.{Ip4}
use Rattle.ovn_base.specs.declared.address.Mac.{Mac}
use Rattle.ovn_base.specs.declared.name.Name.{Name}
use Rattle.flow_table.specs.declared.flow.Cause.TheVariants as cause
use Rattle.flow_table.specs.declared.flow.ZoneOf.TheVariants as zone
use Rattle.inet_packet.specs.declared.regs.Reg.TheVariants as reg
use Rattle.match_language.specs.declared.expr.Expr.{Expr}
use Rattle.match_language.specs.declared.field.Direction.{Direction}
use Rattle.match_language.specs.declared.field.Direction.TheVariants.{FromLport, ToLport}
use Rattle.nb_records.specs.Grammar.{IsRoute}
use Rattle.nb_records.specs.Network.{Network}
use Rattle.nb_records.specs.Routers.{translates_sources, translates_destinations}
use Rattle.nb_records.specs.Switches.{is_virtual, is_named, has_some, router_port_behind, macs_of, mac_of_ip}
use Rattle.nb_records.specs.Ways.{best_by, is_better_way, network_ways}
use Rattle.nb_records.specs.declared.balancer.LoadBalancer.{LoadBalancer}
use Rattle.nb_records.specs.declared.router.Nat.{Nat}
use Rattle.nb_records.specs.declared.router.Route.{Route}
use Rattle.nb_records.specs.declared.router.RouterPort.{RouterPort}
use Rattle.nb_records.specs.declared.rule.Acl.{Acl}
use Rattle.nb_records.specs.declared.rule.RuleAction.{RuleAction}
use Rattle.nb_records.specs.declared.rule.RuleAction.TheVariants as action
use Rattle.nb_records.specs.declared.switch.SecurityEntry.{SecurityEntry}
use Rattle.nb_records.specs.declared.switch.SwitchPort.{SwitchPort}
use Rattle.nb_rules.specs.Valid.{IsValid}
use Rattle.logical_flows.specs.Stages.{stage_table}
use Rattle.logical_flows.specs.declared.action.Action.TheVariants as a
use Rattle.logical_flows.specs.declared.flow.LFlow.{LFlow}
use Rattle.logical_flows.specs.declared.stage.Stage.{Stage}
use Rattle.logical_flows.specs.declared.stage.Stage.TheVariants as stage
use Rattle.stage_rows.specs.BalancerRows as balancing
use Rattle.stage_rows.specs.Facts.{own_ips, answered_ips, answered_if, port_ips}
use Rattle.stage_rows.specs.NatRows.{nat_dnat, nat_snat}
use Rattle.stage_rows.specs.RouterRows as router
use Rattle.stage_rows.specs.RuleRows.{rule_row, rule_stage, verdict_number}
use Rattle.stage_rows.specs.Rows.{on_some, when, in_is, drop_row, pass_row, go_on}
use Rattle.stage_rows.specs.StateRows.{state_rows}
use Rattle.stage_rows.specs.SwitchRows as switch
use Rattle.stage_rows.specs.Units.{IsPairedRow, switch_port_rows, router_port_rows, rule_rows, route_rows, neighbour_rows, nat_rows, balancer_rows, switch_rows, router_rows, is_from_lport, is_to_lport}
use Rattle.row_laws.proofs.suited.EachRow as rows
use Rattle.row_laws.proofs.suited.EachRow.{each_row}
use Rattle.row_laws.proofs.suited.RisingActions.{is_rising, rises, rising_row_proper}
use Rattle.row_laws.proofs.suited.SuitedRows.{route_ok}
use Rattle.row_laws.specs.ProperRows.{ProperRowsLaw}

abbrev pub IsRising : LFlow → Type 0
IsRising r = rises r ≡ true

abbrev Are : List LFlow → Type 0
Are rs = AllByRecursion IsRising rs

-- ---- rows that rise whatever they name

closed : (rs : List LFlow) → list_all rises rs ≡ true → Are rs
closed [] h = tt
closed (r ∷ rs) h = let m = and_parts (rises r) (list_all rises rs) h in (m.0, closed rs m.1)

each : {X : Type 0} (g : X → LFlow) (xs : List X) → ((x : X) → rises (g x) ≡ true) → Are (map g xs)
each g xs h = rows.each IsRising g xs (λ x m. h x)

if_so : (b : Bool) (rs : List LFlow) → list_all rises rs ≡ true → Are (when b rs)
if_so b rs h = rows.if_so IsRising b rs (closed rs h)

-- ---- the rows of each kind of unit

security_in : (q : SwitchPort) (x : SecurityEntry) → Are (switch.entry_port_security q x)
security_in q x =
    let sends : List Expr → LFlow = λ ts. pass_row stage.SwitchPortSecurity 90 (switch.sent_by q x ++ ts) in
    rows.both IsRising (map sends (switch.may_send x)) _ (each sends (switch.may_send x) (λ ts. refl)) (refl, (refl, tt))

security_out : (q : SwitchPort) (x : SecurityEntry) → Are (switch.entry_security_out q x)
security_out q x =
    let gets : List Expr → LFlow = λ ts. pass_row stage.SwitchSecurityOut 80 (switch.got_by q x ++ ts) in
    rows.both IsRising (map gets (switch.may_get x)) _ (each gets (switch.may_get x) (λ ts. refl)) (refl, (refl, tt))

port_rising : (net : Network) (q : SwitchPort) (s : Stage) → Are (switch_port_rows s net q)
port_rising net q stage.SwitchAdmit = if_so (not q.enabled) _ refl
port_rising net q stage.SwitchPortSecurity =
    let last : List LFlow = drop_row stage.SwitchPortSecurity 70 (in_is q.name ∷ []) cause.PortSecurity ∷ [] in
    rows.both IsRising (flat_map (switch.entry_port_security q) q.port_security) (when (has_some q.port_security) last) (rows.each_list IsRising (switch.entry_port_security q) q.port_security (λ x m. security_in q x)) (if_so (has_some q.port_security) last refl)
port_rising net q stage.SwitchTrack = if_so (switch.tracks_port net q) _ refl
port_rising net q stage.SwitchArp =
    let answers : Ip4 → List LFlow = λ ip. on_some (mac_of_ip ip q) (switch.address_arp q ip) in
    rows.if_so IsRising (is_virtual q && q.enabled) (flat_map answers (port_ips q))
    (rows.each_list IsRising answers (port_ips q) (λ ip m. rows.if_some IsRising (mac_of_ip ip q) (switch.address_arp q ip) (λ mac is. closed (switch.address_arp q ip mac) refl)))
port_rising net q stage.SwitchLookup =
    let ips : List Ip4 = answered_if net (router_port_behind net q) in
    let answered : List LFlow = map (switch.answered_lookup q) ips in
    let known : List LFlow = map (switch.address_lookup q) (macs_of net q) in
    rows.if_so IsRising q.enabled (when (not (is_virtual q)) answered ++ known) (rows.both IsRising (when (not (is_virtual q)) answered) known
    (rows.if_so IsRising (not (is_virtual q)) answered (each (switch.answered_lookup q) ips (λ ip. refl)))
    (each (switch.address_lookup q) (macs_of net q) (λ mac. refl)))
port_rising net q stage.SwitchTrackOut = rows.both IsRising (switch.port_disabled_out q) (when (switch.tracks_port net q) (switch.port_track_out_row q ∷ [])) (if_so (not q.enabled) _ refl) (if_so (switch.tracks_port net q) _ refl)
port_rising net q stage.SwitchSecurityOut =
    rows.both IsRising (flat_map (switch.entry_security_out q) q.port_security) (when (has_some q.port_security) (switch.around_security_out q)) (rows.each_list IsRising (switch.entry_security_out q) q.port_security (λ x m. security_out q x))
    (if_so (has_some q.port_security) (switch.around_security_out q) refl)
port_rising net q _ = tt

router_port_rising : (net : Network) (q : RouterPort) (s : Stage) → Are (router_port_rows s net q)
router_port_rising net q stage.RouterAdmit = closed (router.port_for_router q) refl
router_port_rising net q stage.RouterInput =
    rows.both IsRising (map (router.answered_input q) (answered_ips net q)) (map router.echo_input (own_ips q)) (each (router.answered_input q) (answered_ips net q) (λ ip. refl)) (each router.echo_input (own_ips q) (λ ip. refl))
router_port_rising net q stage.RouterOwn = each router.own_row (own_ips q) (λ ip. refl)
router_port_rising net q stage.RouterRoute = each (router.network_row q) q.networks (λ n. refl)
router_port_rising net q _ = tt

-- each verdict is one of 1 to 5
verdict_rises : (d : Direction) (k : RuleAction) → list_all (is_rising (stage_table (rule_stage d))) (a.Set reg.Verdict (verdict_number k) ∷ go_on (rule_stage d) ∷ []) ≡ true
verdict_rises FromLport action.Drop = refl
verdict_rises FromLport action.Reject = refl
verdict_rises FromLport action.AllowStateless = refl
verdict_rises FromLport action.AllowRelated = refl
verdict_rises FromLport action.Allow = refl
verdict_rises ToLport action.Drop = refl
verdict_rises ToLport action.Reject = refl
verdict_rises ToLport action.AllowStateless = refl
verdict_rises ToLport action.AllowRelated = refl
verdict_rises ToLport action.Allow = refl

rule_rising : (x : Acl) (s : Stage) → Are (rule_rows s x)
rule_rising x stage.SwitchAclIn = if_so (is_from_lport x.direction) (rule_row x ∷ []) (and_from (rises (rule_row x)) true (verdict_rises x.direction x.action) refl)
rule_rising x stage.SwitchAclOut = if_so (is_to_lport x.direction) (rule_row x ∷ []) (and_from (rises (rule_row x)) true (verdict_rises x.direction x.action) refl)
rule_rising x _ = tt

-- the next hop is an address
route_rising : (net : Network) (x : Route) → IsRoute x → (s : Stage) → Are (route_rows s net x)
route_rising net x h stage.RouterRoute =
    let n = x.nexthop.0 in
    let small = lt-ltb n (2 ^ 32) h.nexthop in
    rows.if_some IsRising (best_by is_better_way (network_ways net x.router x.nexthop)) (λ w. router.route_row x w ∷ []) (λ w is. (and_from (nat_lt n (2 ^ 32) && true) true (and_from (nat_lt n (2 ^ 32)) true small refl) refl, tt))
route_rising net x h _ = tt

nat_rising : (x : Nat) (s : Stage) → Are (nat_rows s x)
nat_rising x stage.RouterDnat = if_so (translates_destinations x.kind) (nat_dnat x) refl
nat_rising x stage.RouterSnat = if_so (translates_sources x.kind) (nat_snat x) refl
nat_rising x _ = tt

balancer_rising : (x : LoadBalancer) (s : Stage) (online : Backend → Bool) (d : Name) → Are (balancer_rows s online d x)
balancer_rising x stage.SwitchStateIn online d = rows.if_so IsRising (is_named d x.switches) (balancing.switch_vips online x) (each (balancing.switch_vip_row online x.protocol) x.vips (λ v. refl))
balancer_rising x stage.RouterDnat online d = rows.if_so IsRising (is_named d x.routers) (balancing.router_vips online x) (each (balancing.router_vip_row online x.protocol) x.vips (λ v. refl))
balancer_rising x _ online d = tt

neighbour_rising : (s : Stage) (port : Name) (ip : Ip4) (mac : Mac) → Are (neighbour_rows s port ip mac)
neighbour_rising stage.RouterNeighbour port ip mac = closed (router.neighbour_row port ip mac ∷ []) refl
neighbour_rising _ port ip mac = tt

switch_rising : (s : Stage) (stateful takes : Bool) → Are (switch_rows s stateful takes)
switch_rising stage.SwitchStateIn true takes = closed (state_rows true stage.SwitchStateIn zone.In) refl
switch_rising stage.SwitchStateIn false takes = closed (state_rows false stage.SwitchStateIn zone.In) refl
switch_rising stage.SwitchStateOut true takes = closed (state_rows true stage.SwitchStateOut zone.Out) refl
switch_rising stage.SwitchStateOut false takes = closed (state_rows false stage.SwitchStateOut zone.Out) refl
switch_rising stage.SwitchLookup stateful true = closed (switch.switch_lookup true) refl
switch_rising stage.SwitchLookup stateful false = closed (switch.switch_lookup false) refl
switch_rising s stateful takes = closed (switch_rows s stateful takes) refl

router_rising : (s : Stage) (translating : Bool) → Are (router_rows s translating)
router_rising stage.RouterUndo true = closed (router.router_undo true) refl
router_rising stage.RouterUndo false = closed (router.router_undo false) refl
router_rising stage.RouterFind true = closed (router.router_find true) refl
router_rising stage.RouterFind false = closed (router.router_find false) refl
router_rising s translating = closed (router_rows s translating) refl

-- ---- all units

pub rows_rise : (net : Network) → IsValid net → (r : LFlow) (d : Name) → IsPairedRow net r d → IsRising r
rows_rise net valid r d pair = each_row IsRising net (record {
  port = λ name q is s. port_rising net q s;
  router_port = λ name q is s. router_port_rising net q s;
  rule = λ name x is s. rule_rising x s;
  route = λ name x is s. route_rising net x (route_ok net valid name x is) s;
  neighbour = λ s port ip mac. neighbour_rising s port ip mac;
  nat = λ name x is s. nat_rising x s;
  balancer = λ name x is s online d. balancer_rising x s online d;
  switch = λ s stateful takes. switch_rising s stateful takes;
  router = λ s translating. router_rising s translating;
}) r d pair

pub lowered_rows_proper : ProperRowsLaw
lowered_rows_proper net keys sets valid hold flow lowered = rising_row_proper keys hold sets lowered.row lowered.datapath (rows_rise net valid lowered.row lowered.datapath lowered.pair) flow lowered.among
