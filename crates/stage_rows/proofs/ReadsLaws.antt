-- Units that read equal facts have equal rows.
use Rattle.std.specs.Prelude.{◌≡◌, ◌++◌, ◌&&◌, ◌||◌, Bool, not, List, [], ◌∷◌, map, flat_map, Option, Some, None}
use Rattle.std.specs.List.{filter_map}
use Rattle.std.specs.Option.{option_and_then}
use Rattle.std.proofs.Common.{refl, ap, sym, subst, ◌∙◌}
use Rattle.ovn_base.specs.declared.name.Name.{Name}
use Rattle.ovn_base.specs.lists.Among.{Among, here, there}
use Rattle.ovn_base.specs.names.ByName.{at}
use Rattle.nb_records.specs.Network.{Network}
use Rattle.nb_records.specs.Routers.{router_ports_of}
use Rattle.nb_records.specs.Switches.{is_virtual, is_stateful, has_balancer, router_port_behind, entry_mac, applies}
use Rattle.nb_records.specs.Ways.{best_by, is_better_way, ways_of_port}
use Rattle.nb_records.specs.declared.router.Route.{Route}
use Rattle.nb_records.specs.declared.router.RouterPort.{RouterPort}
use Rattle.nb_records.specs.declared.rule.Acl.{Acl}
use Rattle.nb_records.specs.declared.switch.Switch.{Switch}
use Rattle.nb_records.specs.declared.switch.SwitchPort.{SwitchPort}
use Rattle.logical_flows.specs.declared.fact.Fact.{Fact}
use Rattle.logical_flows.specs.declared.fact.Fact.TheVariants as fact
use Rattle.logical_flows.specs.declared.flow.LFlow.{LFlow}
use Rattle.logical_flows.specs.declared.stage.Stage.{Stage}
use Rattle.logical_flows.specs.declared.stage.Stage.TheVariants as stage
use Rattle.logical_flows.specs.declared.unit.UnitId.{UnitId}
use Rattle.logical_flows.specs.declared.unit.UnitId.TheVariants as unit
use Rattle.stage_rows.specs.Admitting.{AdmitsPort, of_switch, of_router, AdmitsRule, AdmitsRoute, AdmitsSwitch}
use Rattle.stage_rows.specs.Facts.{answered_if, answered_named, answered_ips, own_ips}
use Rattle.stage_rows.specs.Reads.{reads_of, port_reads, router_port_reads, Agree, AgreeOnReads, IsSameUnit, ReadsLaw}
use Rattle.stage_rows.specs.RouterRows as router
use Rattle.stage_rows.specs.Rows.{on_some, when}
use Rattle.stage_rows.specs.SwitchRows as switch
use Rattle.stage_rows.specs.Units.{rows_of, rows_in, all_stages, port_rows, switch_port_rows, router_port_rows, rule_rows, route_rows, nat_rows, balancer_rows, switch_rows, router_rows, neighbour_rows}

-- rows that are equal in each stage are equal
by_stage : (f g : Network) (u : UnitId) → ((s : Stage) → rows_in s f u ≡ rows_in s g u) → rows_of f u ≡ rows_of g u
by_stage f g u same = ap (λ (h : Stage → List LFlow). flat_map h all_stages) (λ i s. same s i)

-- ---- ports of switches

-- what a port's rows follow from beside its record is the same in both
record IsSamePort (f g : Network) (q : SwitchPort) : Type 0 where
  stateful : is_stateful f q.switch ≡ is_stateful g q.switch
  balanced : has_balancer f q.switch ≡ has_balancer g q.switch
  behind : router_port_behind f q ≡ router_port_behind g q
  answered : answered_if f (router_port_behind f q) ≡ answered_if g (router_port_behind g q)

same_tracks : (f g : Network) (q : SwitchPort) → IsSamePort f g q → switch.tracks_port f q ≡ switch.tracks_port g q
same_tracks f g q h = λ i. is_virtual q && (h.stateful i || h.balanced i)

same_switch_port : (f g : Network) (q : SwitchPort) → IsSamePort f g q → (s : Stage) → switch_port_rows s f q ≡ switch_port_rows s g q
same_switch_port f g q h stage.SwitchTrack = λ i. when (same_tracks f g q h i) (switch.port_track_row q ∷ [])
same_switch_port f g q h stage.SwitchTrackOut = λ i. switch.port_disabled_out q ++ when (same_tracks f g q h i) (switch.port_track_out_row q ∷ [])
same_switch_port f g q h stage.SwitchLookup = λ i.
    when q.enabled (
    when (not (is_virtual q)) (map (switch.answered_lookup q) (h.answered i))
    ++ map (switch.address_lookup q) (filter_map (entry_mac (h.behind i)) q.addresses)
    )
same_switch_port f g q h _ = refl

-- what is behind a port to a router
same_behind : (f g : Network) (q : SwitchPort) (name : Option Name) → q.router_port ≡ name → ((x : Fact) → Among x (on_some name router_port_reads) → Agree f g x)
    → (router_port_behind f q ≡ router_port_behind g q) × (answered_if f (router_port_behind f q) ≡ answered_if g (router_port_behind g q))
same_behind f g q None e agree =
    let in_f : router_port_behind f q ≡ None = ap (option_and_then (at f.router_ports)) e in
    let in_g : router_port_behind g q ≡ None = ap (option_and_then (at g.router_ports)) e in
    (in_f ∙ sym in_g, ap (answered_if f) in_f ∙ sym (ap (answered_if g) in_g))
same_behind f g q (Some name) e agree =
    let in_f : router_port_behind f q ≡ at f.router_ports name = ap (option_and_then (at f.router_ports)) e in
    let in_g : router_port_behind g q ≡ at g.router_ports name = ap (option_and_then (at g.router_ports)) e in
    let port = agree (fact.RouterPort name) here in
    let answered = agree (fact.Answered name) (there here) in
    (in_f ∙ port ∙ sym in_g, ap (answered_if f) in_f ∙ answered ∙ sym (ap (answered_if g) in_g))

-- ---- ports

some_is_none : {A : Type 0} (x : A) → Some x ≡ None → ⊥
some_is_none x h = cc

some_same : {A : Type 0} (x y : A) → Some x ≡ Some y → x ≡ y
some_same x y h = cc

-- a port of a switch in both
switch_port_law : (f g : Network) (name : Name) (q : SwitchPort) → at f.switch_ports name ≡ Some q → AgreeOnReads f g (unit.Port name) → IsSameUnit f g (unit.Port name)
switch_port_law f g name q here_f agree =
    let reads : reads_of f (unit.Port name) ≡ port_reads name (Some q) = ap (port_reads name) here_f in
    let known : (x : Fact) → Among x (port_reads name (Some q)) → Agree f g x = λ x m. agree x (subst (λ (l : List Fact). Among x l) (sym reads) m) in
    let same : at f.switch_ports name ≡ at g.switch_ports name = known (fact.SwitchPort name) here in
    let here_g : at g.switch_ports name ≡ Some q = sym same ∙ here_f in
    let behind = same_behind f g q q.router_port refl (λ x m. known x (there (there (there m)))) in
    let is_same : IsSamePort f g q = record { stateful = known (fact.Stateful q.switch) (there here); balanced = known (fact.Balanced q.switch) (there (there here)); behind = behind.0; answered = behind.1 } in
    record {
      reads = ap (port_reads name) same;
      rows = by_stage f g (unit.Port name) (λ s.
          ap (λ (o : Option SwitchPort). port_rows s f o (at f.router_ports name)) here_f
          ∙ same_switch_port f g q is_same s
          ∙ sym (ap (λ (o : Option SwitchPort). port_rows s g o (at g.router_ports name)) here_g));
    }

same_router_port : (f g : Network) (q : RouterPort) → answered_ips f q ≡ answered_ips g q → (s : Stage) → router_port_rows s f q ≡ router_port_rows s g q
same_router_port f g q h stage.RouterInput = λ i. map (router.answered_input q) (h i) ++ map router.echo_input (own_ips q)
same_router_port f g q h _ = refl

router_port_law : (f g : Network) (name : Name) (q : RouterPort) → at f.switch_ports name ≡ None → at g.switch_ports name ≡ None → at f.router_ports name ≡ Some q
    → at g.router_ports name ≡ Some q → answered_named f name ≡ answered_named g name → IsSameUnit f g (unit.Port name)
router_port_law f g name q none_f none_g here_f here_g answered =
    let ips : answered_ips f q ≡ answered_ips g q = sym (ap (answered_if f) here_f) ∙ answered ∙ ap (answered_if g) here_g in
    record {
      reads = ap (port_reads name) none_f ∙ sym (ap (port_reads name) none_g);
      rows = by_stage f g (unit.Port name) (λ s.
          ap (λ (o : Option SwitchPort). port_rows s f o (at f.router_ports name)) none_f
          ∙ ap (λ (o : Option RouterPort). on_some o (router_port_rows s f)) here_f
          ∙ same_router_port f g q ips s
          ∙ sym (ap (λ (o : Option RouterPort). on_some o (router_port_rows s g)) here_g)
          ∙ sym (ap (λ (o : Option SwitchPort). port_rows s g o (at g.router_ports name)) none_g));
    }

port_law : (f g : Network) (name : Name) → AdmitsPort f name → AdmitsPort g name → AgreeOnReads f g (unit.Port name) → IsSameUnit f g (unit.Port name)
port_law f g name (of_switch q here_f none_f is_q) in_g agree = switch_port_law f g name q here_f agree
port_law f g name (of_router q none_f here_f is_q) (of_switch r here_g none_g is_r) agree =
    let reads : reads_of f (unit.Port name) ≡ router_port_reads name = ap (port_reads name) none_f in
    let same : at f.router_ports name ≡ at g.router_ports name = agree (fact.RouterPort name) (subst (λ (l : List Fact). Among (fact.RouterPort name) l) (sym reads) here) in
    absurd (some_is_none q (sym here_f ∙ same ∙ none_g))
port_law f g name (of_router q none_f here_f is_q) (of_router r none_g here_g is_r) agree =
    let reads : reads_of f (unit.Port name) ≡ router_port_reads name = ap (port_reads name) none_f in
    let known : (x : Fact) → Among x (router_port_reads name) → Agree f g x = λ x m. agree x (subst (λ (l : List Fact). Among x l) (sym reads) m) in
    let same : at f.router_ports name ≡ at g.router_ports name = known (fact.RouterPort name) here in
    router_port_law f g name q none_f none_g here_f (sym same ∙ here_f) (known (fact.Answered name) (there here))

-- ---- other units

pub rule_is : (f : Network) (r d : Name) (a : AdmitsRule f r d) (s : Stage) → rows_in s f (unit.Rule r d) ≡ rule_rows s a.rule
rule_is f r d a s =
    ap (λ (o : Option Acl). on_some o (λ x. when (applies f d x) (rule_rows s x))) a.there ∙ ap (λ (t : Bool). when t (rule_rows s a.rule)) a.on

rule_law : (f g : Network) (r d : Name) → AdmitsRule f r d → AdmitsRule g r d → AgreeOnReads f g (unit.Rule r d) → IsSameUnit f g (unit.Rule r d)
rule_law f g r d a b agree =
    let same : at f.acls r ≡ at g.acls r = agree (fact.Rule r) here in
    let one : a.rule ≡ b.rule = some_same a.rule b.rule (sym a.there ∙ same ∙ b.there) in
    record { reads = refl; rows = by_stage f g (unit.Rule r d) (λ s. rule_is f r d a s ∙ ap (rule_rows s) one ∙ sym (rule_is g r d b s)) }

same_route : (f g : Network) (r : Route) → router_ports_of f r.router ≡ router_ports_of g r.router → (s : Stage) → route_rows s f r ≡ route_rows s g r
same_route f g r h stage.RouterRoute = λ i. on_some (best_by is_better_way (flat_map (ways_of_port r.nexthop) (h i))) (λ w. router.route_row r w ∷ [])
same_route f g r h _ = refl

abbrev ports_read : Option Route → List Fact
ports_read o = on_some o (λ (x : Route). fact.PortsOf x.router ∷ [])

route_law : (f g : Network) (r : Name) → AdmitsRoute f r → AgreeOnReads f g (unit.Route r) → IsSameUnit f g (unit.Route r)
route_law f g r a agree =
    let same : at f.routes r ≡ at g.routes r = agree (fact.Route r) here in
    let here_g : at g.routes r ≡ Some a.route = sym same ∙ a.there in
    let read : Among (fact.PortsOf a.route.router) (ports_read (at f.routes r)) = subst (λ (l : List Fact). Among (fact.PortsOf a.route.router) l) (sym (ap ports_read a.there)) here in
    let ports : router_ports_of f a.route.router ≡ router_ports_of g a.route.router = agree (fact.PortsOf a.route.router) (there read) in
    record {
      reads = ap (λ (o : Option Route). fact.Route r ∷ ports_read o) same;
      rows = by_stage f g (unit.Route r) (λ s.
          ap (λ (o : Option Route). on_some o (route_rows s f)) a.there
          ∙ same_route f g a.route ports s
          ∙ sym (ap (λ (o : Option Route). on_some o (route_rows s g)) here_g));
    }

switch_is : (f : Network) (d : Name) (a : AdmitsSwitch f d) (s : Stage) → rows_in s f (unit.Switch d) ≡ switch_rows s (is_stateful f d) (switch.some_take_unknown f d)
switch_is f d a s = ap (λ (o : Option Switch). on_some o (λ (x : Switch). switch_rows s (is_stateful f d) (switch.some_take_unknown f d))) a.there

switch_law : (f g : Network) (d : Name) → AdmitsSwitch f d → AdmitsSwitch g d → AgreeOnReads f g (unit.Switch d) → IsSameUnit f g (unit.Switch d)
switch_law f g d a b agree =
    let stateful : is_stateful f d ≡ is_stateful g d = agree (fact.Stateful d) here in
    let takes : switch.some_take_unknown f d ≡ switch.some_take_unknown g d = agree (fact.TakesUnknown d) (there (there here)) in
    record { reads = refl; rows = by_stage f g (unit.Switch d) (λ s. switch_is f d a s ∙ (λ i. switch_rows s (stateful i) (takes i)) ∙ sym (switch_is g d b s)) }

-- ---- the law

pub reads_law : ReadsLaw
reads_law f g (unit.Port q) a b agree = port_law f g q a b agree
reads_law f g (unit.Rule r d) a b agree = rule_law f g r d a b agree
reads_law f g (unit.Route r) a b agree = route_law f g r a agree
reads_law f g (unit.Neighbour port ip) a b agree =
    record { reads = refl; rows = by_stage f g (unit.Neighbour port ip) (λ s i. on_some (agree (fact.Neighbour port ip) here i) (neighbour_rows s port ip)) }
reads_law f g (unit.Nat r) a b agree = record { reads = refl; rows = by_stage f g (unit.Nat r) (λ s i. on_some (agree (fact.Nat r) here i) (nat_rows s)) }
reads_law f g (unit.Balancer b d) admits also agree =
    record { reads = refl; rows = by_stage f g (unit.Balancer b d) (λ s i. on_some (agree (fact.Balancer b) here i) (balancer_rows s (agree (fact.Marks b) (there here) i) d)) }
reads_law f g (unit.Switch d) a b agree = switch_law f g d a b agree
reads_law f g (unit.Router d) a b agree = record { reads = refl; rows = by_stage f g (unit.Router d) (λ s i. on_some (agree (fact.Translates d) here i) (router_rows s)) }
