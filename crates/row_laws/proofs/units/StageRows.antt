-- The rows that units of switches have in a stage are rows of that stage, which is one of switches.
use Rattle.std.specs.Prelude.{◌≡◌, ◌++◌, ◌&&◌, Bool, true, false, not, List, [], ◌∷◌, map, flat_map, Option, Some, None}
use Rattle.std.specs.List.{AllByRecursion}
use Rattle.std.proofs.Common.{refl}
use Rattle.ovn_base.specs.declared.address.Backend.{Backend}
use Rattle.ovn_base.specs.declared.name.Name.{Name}
use Rattle.flow_table.specs.declared.flow.Cause.TheVariants as cause
use Rattle.flow_table.specs.declared.flow.ZoneOf.{ZoneOf}
use Rattle.flow_table.specs.declared.flow.ZoneOf.TheVariants as zone
use Rattle.match_language.specs.declared.field.Direction.{Direction}
use Rattle.match_language.specs.declared.field.Direction.TheVariants.{FromLport, ToLport}
use Rattle.nb_records.specs.Network.{Network}
use Rattle.nb_records.specs.Switches.{is_virtual, is_named, has_some, router_port_behind, macs_of, mac_of_ip}
use Rattle.nb_records.specs.declared.balancer.LoadBalancer.{LoadBalancer}
use Rattle.nb_records.specs.declared.rule.Acl.{Acl}
use Rattle.nb_records.specs.declared.switch.SwitchPort.{SwitchPort}
use Rattle.logical_flows.specs.declared.flow.LFlow.{LFlow}
use Rattle.logical_flows.specs.declared.stage.Stage.{Stage}
use Rattle.logical_flows.specs.declared.stage.Stage.TheVariants as stage
use Rattle.stage_rows.specs.Facts.{answered_if, port_ips}
use Rattle.stage_rows.specs.BalancerRows.{switch_vip_row, switch_vips}
use Rattle.stage_rows.specs.RuleRows.{rule_row, rule_stage}
use Rattle.stage_rows.specs.Rows.{on_some, when, in_is, out_is, drop_row}
use Rattle.stage_rows.specs.StateRows.{state_rows}
use Rattle.stage_rows.specs.SwitchRows as switch
use Rattle.stage_rows.specs.Units.{switch_port_rows, rule_rows, balancer_rows, switch_rows, is_from_lport, is_to_lport}

-- the stage is one of switches
abbrev pub is_of_switches : Stage → Bool
is_of_switches stage.RouterAdmit = false
is_of_switches stage.RouterInput = false
is_of_switches stage.RouterUndo = false
is_of_switches stage.RouterDnat = false
is_of_switches stage.RouterOwn = false
is_of_switches stage.RouterRoute = false
is_of_switches stage.RouterNeighbour = false
is_of_switches stage.RouterFind = false
is_of_switches stage.RouterSnat = false
is_of_switches _ = true

-- the row is of the stage, which is one of switches
abbrev pub IsOf : Stage → LFlow → Type 0
IsOf s r = (r.stage ≡ s) × (is_of_switches s ≡ true)

abbrev pub AreOf : Stage → List LFlow → Type 0
AreOf s rows = AllByRecursion (IsOf s) rows

module _ (s : Stage) where
  both : (xs ys : List LFlow) → AreOf s xs → AreOf s ys → AreOf s (xs ++ ys)
  both [] ys h k = k
  both (x ∷ xs) ys h k = (h.0, both xs ys h.1 k)

  each : {X : Type 0} (f : X → LFlow) → ((x : X) → IsOf s (f x)) → (xs : List X) → AreOf s (map f xs)
  each f h [] = tt
  each f h (x ∷ xs) = (h x, each f h xs)

  each_list : {X : Type 0} (f : X → List LFlow) → ((x : X) → AreOf s (f x)) → (xs : List X) → AreOf s (flat_map f xs)
  each_list f h [] = tt
  each_list f h (x ∷ xs) = both (f x) (flat_map f xs) (h x) (each_list f h xs)

  if_so : (b : Bool) (xs : List LFlow) → AreOf s xs → AreOf s (when b xs)
  if_so true xs h = h
  if_so false xs h = tt

  if_some : {X : Type 0} (o : Option X) (f : X → List LFlow) → ((x : X) → AreOf s (f x)) → AreOf s (on_some o f)
  if_some None f h = tt
  if_some (Some x) f h = h x

-- ---- ports

entry_rows : (q : SwitchPort) → (x : _) → AreOf stage.SwitchPortSecurity (switch.entry_port_security q x)
entry_rows q x = both stage.SwitchPortSecurity (map _ (switch.may_send x)) _ (each stage.SwitchPortSecurity _ (λ terms. (refl, refl)) (switch.may_send x)) ((refl, refl), ((refl, refl), tt))

entry_rows_out : (q : SwitchPort) → (x : _) → AreOf stage.SwitchSecurityOut (switch.entry_security_out q x)
entry_rows_out q x = both stage.SwitchSecurityOut (map _ (switch.may_get x)) _ (each stage.SwitchSecurityOut _ (λ terms. (refl, refl)) (switch.may_get x)) ((refl, refl), ((refl, refl), tt))

pub port_rows_are : (s : Stage) (net : Network) (q : SwitchPort) → AreOf s (switch_port_rows s net q)
port_rows_are stage.SwitchAdmit net q = if_so stage.SwitchAdmit (not q.enabled) (drop_row stage.SwitchAdmit 120 (in_is q.name ∷ []) cause.Disabled ∷ []) ((refl, refl), tt)
port_rows_are stage.SwitchPortSecurity net q =
    both stage.SwitchPortSecurity (flat_map (switch.entry_port_security q) q.port_security) _ (each_list stage.SwitchPortSecurity (switch.entry_port_security q) (entry_rows q) q.port_security) (if_so stage.SwitchPortSecurity (has_some q.port_security) (drop_row stage.SwitchPortSecurity 70 (in_is q.name ∷ []) cause.PortSecurity ∷ []) ((refl, refl), tt))
port_rows_are stage.SwitchTrack net q = if_so stage.SwitchTrack (switch.tracks_port net q) (switch.port_track_row q ∷ []) ((refl, refl), tt)
port_rows_are stage.SwitchArp net q =
    if_so stage.SwitchArp (is_virtual q && q.enabled) (flat_map (λ ip. on_some (mac_of_ip ip q) (switch.address_arp q ip)) (port_ips q))
    (each_list stage.SwitchArp (λ ip. on_some (mac_of_ip ip q) (switch.address_arp q ip)) (λ ip. if_some stage.SwitchArp (mac_of_ip ip q) (switch.address_arp q ip) (λ mac. ((refl, refl), ((refl, refl), tt)))) (port_ips q))
port_rows_are stage.SwitchLookup net q =
    let answered : List LFlow = map (switch.answered_lookup q) (answered_if net (router_port_behind net q)) in
    let known : List LFlow = map (switch.address_lookup q) (macs_of net q) in
    if_so stage.SwitchLookup q.enabled (when (not (is_virtual q)) answered ++ known)
    (both stage.SwitchLookup (when (not (is_virtual q)) answered) known (if_so stage.SwitchLookup (not (is_virtual q)) answered (each stage.SwitchLookup (switch.answered_lookup q) (λ ip. (refl, refl)) (answered_if net (router_port_behind net q))))
    (each stage.SwitchLookup (switch.address_lookup q) (λ mac. (refl, refl)) (macs_of net q)))
port_rows_are stage.SwitchTrackOut net q =
    both stage.SwitchTrackOut (switch.port_disabled_out q) _ (if_so stage.SwitchTrackOut (not q.enabled) (drop_row stage.SwitchTrackOut 120 (out_is q.name ∷ []) cause.Disabled ∷ []) ((refl, refl), tt))
    (if_so stage.SwitchTrackOut (switch.tracks_port net q) (switch.port_track_out_row q ∷ []) ((refl, refl), tt))
port_rows_are stage.SwitchSecurityOut net q =
    both stage.SwitchSecurityOut (flat_map (switch.entry_security_out q) q.port_security) _ (each_list stage.SwitchSecurityOut (switch.entry_security_out q) (entry_rows_out q) q.port_security) (if_so stage.SwitchSecurityOut (has_some q.port_security) (switch.around_security_out q) ((refl, refl), ((refl, refl), tt)))
port_rows_are _ net q = tt

-- ---- rules, balancers and switches

pub rule_in : (d : Direction) → is_from_lport d ≡ true → rule_stage d ≡ stage.SwitchAclIn
rule_in FromLport h = refl
rule_in ToLport h = absurd cc

pub rule_out : (d : Direction) → is_to_lport d ≡ true → rule_stage d ≡ stage.SwitchAclOut
rule_out FromLport h = absurd cc
rule_out ToLport h = refl

rule_if : (s : Stage) (r : Acl) (b : Bool) → is_of_switches s ≡ true → (b ≡ true → rule_stage r.direction ≡ s) → AreOf s (when b (rule_row r ∷ []))
rule_if s r true of h = ((h refl, of), tt)
rule_if s r false of h = tt

pub rule_rows_are : (s : Stage) (r : Acl) → AreOf s (rule_rows s r)
rule_rows_are stage.SwitchAclIn r = rule_if stage.SwitchAclIn r (is_from_lport r.direction) refl (rule_in r.direction)
rule_rows_are stage.SwitchAclOut r = rule_if stage.SwitchAclOut r (is_to_lport r.direction) refl (rule_out r.direction)
rule_rows_are _ r = tt

state_rows_are : (stateful : Bool) (s : Stage) (z : ZoneOf) → is_of_switches s ≡ true → AreOf s (state_rows stateful s z)
state_rows_are true s z h = ((refl, h), ((refl, h), ((refl, h), ((refl, h), ((refl, h), ((refl, h), ((refl, h), ((refl, h), ((refl, h), ((refl, h), ((refl, h), ((refl, h), ((refl, h), ((refl, h), tt))))))))))))))
state_rows_are false s z h = ((refl, h), ((refl, h), ((refl, h), ((refl, h), ((refl, h), ((refl, h), ((refl, h), ((refl, h), ((refl, h), ((refl, h), ((refl, h), ((refl, h), ((refl, h), ((refl, h), ((refl, h), tt)))))))))))))))

pub switch_rows_are : (s : Stage) (stateful takes : Bool) → AreOf s (switch_rows s stateful takes)
switch_rows_are stage.SwitchAdmit stateful takes = ((refl, refl), ((refl, refl), ((refl, refl), tt)))
switch_rows_are stage.SwitchPortSecurity stateful takes = ((refl, refl), tt)
switch_rows_are stage.SwitchTrack stateful takes = ((refl, refl), tt)
switch_rows_are stage.SwitchAclIn stateful takes = ((refl, refl), tt)
switch_rows_are stage.SwitchStateIn stateful takes = state_rows_are stateful stage.SwitchStateIn zone.In refl
switch_rows_are stage.SwitchArp stateful takes = ((refl, refl), tt)
switch_rows_are stage.SwitchLookup stateful takes = ((refl, refl), ((refl, refl), tt))
switch_rows_are stage.SwitchTrackOut stateful takes = ((refl, refl), tt)
switch_rows_are stage.SwitchAclOut stateful takes = ((refl, refl), tt)
switch_rows_are stage.SwitchStateOut stateful takes = state_rows_are stateful stage.SwitchStateOut zone.Out refl
switch_rows_are stage.SwitchSecurityOut stateful takes = ((refl, refl), tt)
switch_rows_are _ stateful takes = tt

-- a balancer's row in a stage of switches
pub balancer_rows_are : (s : Stage) → is_of_switches s ≡ true → (online : Backend → Bool) (d : Name) (b : LoadBalancer) → AreOf s (balancer_rows s online d b)
balancer_rows_are stage.SwitchStateIn of online d b = if_so stage.SwitchStateIn (is_named d b.switches) (switch_vips online b) (each stage.SwitchStateIn (switch_vip_row online b.protocol) (λ v. (refl, refl)) b.vips)
balancer_rows_are stage.RouterDnat of online d b = absurd cc
balancer_rows_are _ of online d b = tt
