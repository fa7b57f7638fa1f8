-- A unit whose reads, keys and names stay is lowered to the same flows.
use Rattle.std.specs.Prelude.{◌≡◌, Bool, true, false, List, [], ◌∷◌, Option, Some, None, option_map, is_some}
use Rattle.std.specs.List.{AllByRecursion}
use Rattle.std.proofs.Common.{refl, sym, ap, ◌∙◌, subst}
use Rattle.std.proofs.lemmas.Bool.{false≢true, true≢false}
use Rattle.std.proofs.lemmas.Option.{none-some, same_Some}
use Rattle.ovn_base.specs.declared.address.Ip4.{Ip4}
use Rattle.ovn_base.specs.declared.address.Mac.{Mac}
use Rattle.ovn_base.specs.declared.name.Name.{Name}
use Rattle.ovn_base.proofs.AmongLaws.{among_all}
use Rattle.ovn_base.proofs.ByNameLaws.{at_among}
use Rattle.ovn_base.specs.lists.Among.{Among, here}
use Rattle.ovn_base.specs.names.ByName.{at}
use Rattle.ovn_base.specs.names.SameName.{same_name, bytes_decides}
use Rattle.address_sets.specs.Members.{sets_of}
use Rattle.logical_flows.specs.declared.fact.Fact.TheVariants as fact
use Rattle.logical_flows.specs.declared.flow.LFlow.{LFlow}
use Rattle.logical_flows.specs.declared.stage.Stage.{Stage}
use Rattle.logical_flows.specs.declared.stage.Stage.TheVariants as stage
use Rattle.logical_flows.specs.declared.unit.UnitId.{UnitId}
use Rattle.logical_flows.specs.declared.unit.UnitId.TheVariants as unit
use Rattle.match_cubes.specs.Cubes.{cubes_of}
use Rattle.match_cubes.specs.Points.{setting}
use Rattle.nb_records.specs.Network.{Network, is_online}
use Rattle.nb_records.specs.Routers.{translates}
use Rattle.nb_records.specs.Switches.{applies, is_stateful}
use Rattle.nb_records.specs.declared.record.Record.TheVariants as row
use Rattle.nb_records.specs.declared.router.Nat.{Nat}
use Rattle.nb_records.specs.declared.router.Route.{Route}
use Rattle.nb_records.specs.declared.router.Router.{Router}
use Rattle.nb_records.specs.declared.router.RouterPort.{RouterPort}
use Rattle.nb_records.specs.declared.rule.Acl.{Acl}
use Rattle.nb_records.specs.declared.switch.Switch.{Switch}
use Rattle.nb_records.specs.declared.switch.SwitchPort.{SwitchPort}
use Rattle.nb_rules.specs.Valid.{IsValid}
use Rattle.stage_rows.proofs.ReadsLaws.{reads_law}
use Rattle.stage_rows.specs.Reads.{port_reads}
use Rattle.stage_rows.specs.Rows.{on_some, when}
use Rattle.stage_rows.specs.RuleRows.{rule_row}
use Rattle.stage_rows.specs.SwitchRows.{some_take_unknown}
use Rattle.stage_rows.specs.Units.{all_stages, balancer_rows, datapath_of, datapath_of_port, nat_rows, neighbour_named, neighbour_rows, port_rows, route_rows, router_rows, rows_in, rows_of, rule_rows, is_from_lport, is_to_lport, switch_rows, translates_named}
use Rattle.switch_stages.specs.UnitLaws.{admitted}
use Rattle.router_stages.specs.UnitLaws as of_routers
use Rattle.flow_lowering.specs.LoweredFlows.{lowered_flows, lowered_op, lowered_ops}
use Rattle.row_laws.proofs.records.ValidPorts.{port_named}
use Rattle.row_laws.proofs.suited.EachRow as rows
use Rattle.northd_core.specs.Lowering.{Lowering, CanCompile, flows_of_rows, lowered_of}
use Rattle.northd_core.specs.Routed.{is_balancer_on, serves_if}
use Rattle.northd_core.specs.Untouched.{IsUntouched, UntouchedLaw}
use Rattle.northd_core.proofs.RowUnits.{admits_balancer, admits_nat, admits_neighbour, admits_port, admits_route, admits_router, admits_router_port, admits_rule, no_nat, no_neighbour, no_port, no_route, no_router, no_rule, no_switch, not_on, off_balancer}
use Rattle.northd_core.proofs.untouched.KnownPorts.{port_known}
use Rattle.northd_core.proofs.untouched.KnownRouters.{any_port, balancer_known, nat_known, neighbour_known, route_known, router_known, router_port_known}
use Rattle.northd_core.proofs.untouched.KnownRows.{NamesKnown, Are}
use Rattle.northd_core.proofs.untouched.KnownSwitches.{switch_known}
use Rattle.northd_core.proofs.untouched.SameFlows.{each_alike, row_alike, rows_alike}
use Rattle.northd_core.proofs.untouched.SameRules.{applies_alike}

-- a router's port stands at its own name
router_port_named : (net : Network) → IsValid net → (q : Name) (p : RouterPort) → at net.router_ports q ≡ Some p → p.name ≡ q
router_port_named net valid q p found = among_all (λ (e : Name × RouterPort). e.1.name ≡ e.0) (q, p) net.router_ports valid.named.router_ports (at_among net.router_ports q p found)

-- ---- flows of units

-- a unit without rows has no flows
no_flows_of : (l : Lowering) (u : UnitId) → rows_of l.net u ≡ [] → lowered_of l u ≡ []
no_flows_of l u none = ap (λ (rs : List LFlow). on_some (datapath_of l.net u) (flows_of_rows l.keys (sets_of l.net) rs)) none ∙ none_on (datapath_of l.net u)
  where
    none_on : (o : Option Name) → on_some o (flows_of_rows l.keys (sets_of l.net) []) ≡ []
    none_on None = refl
    none_on (Some d) = refl

module _ (before after : Lowering) (can : CanCompile before) (could : CanCompile after) where
  -- nor has it by the other
  pub both_none : (u : UnitId) → rows_of before.net u ≡ [] → rows_of after.net u ≡ [] → lowered_of before u ≡ lowered_of after u
  both_none u none also = no_flows_of before u none ∙ sym (no_flows_of after u also)

  -- the unit's rows are lowered to the same flows on its datapath
  abbrev AreAlikeOn : UnitId → Name → Type 0
  AreAlikeOn u d = flows_of_rows before.keys (sets_of before.net) (rows_of before.net u) d ≡ flows_of_rows after.keys (sets_of after.net) (rows_of before.net u) d

  -- the flows of a unit are the same where its datapath, its rows and their flows are
  joined : (u : UnitId) → datapath_of before.net u ≡ datapath_of after.net u → rows_of before.net u ≡ rows_of after.net u
      → ((d : Name) → datapath_of before.net u ≡ Some d → AreAlikeOn u d) → lowered_of before u ≡ lowered_of after u
  joined u place same alike = by (datapath_of before.net u) refl ∙ (λ i. on_some (place i) (flows_of_rows after.keys (sets_of after.net) (same i)))
    where
      by : (o : Option Name) → datapath_of before.net u ≡ o → on_some o (flows_of_rows before.keys (sets_of before.net) (rows_of before.net u)) ≡ on_some o (flows_of_rows after.keys (sets_of after.net) (rows_of before.net u))
      by None is = refl
      by (Some d) is = alike d is

  -- ---- ports

  module _ (q : Name) (h : IsUntouched before after (unit.Port q)) where
    -- the rows of a switch's port name it alone
    abbrev own : Name → Bool
    own n = same_name n q

    port_names : (port : SwitchPort) → at before.net.switch_ports q ≡ Some port → Are own (rows_of before.net (unit.Port q))
    port_names port is =
        let named : own port.name ≡ true = (bytes_decides port.name q).1 (port_named before.net can.valid q port is) in
        rows.each_list (NamesKnown own) (λ s. rows_in s before.net (unit.Port q)) all_stages
        (λ s m. subst (λ (o : Option SwitchPort). Are own (port_rows s before.net o (at before.net.router_ports q))) (sym is) (port_known own port named before.net s))

    -- the rows of a router's port too
    router_port_names : (p : RouterPort) → at before.net.switch_ports q ≡ None → at before.net.router_ports q ≡ Some p → Are own (rows_of before.net (unit.Port q))
    router_port_names p none is =
        let named : own p.name ≡ true = (bytes_decides p.name q).1 (router_port_named before.net can.valid q p is) in
        rows.each_list (NamesKnown own) (λ s. rows_in s before.net (unit.Port q)) all_stages
        (λ s m. subst (λ (o : Option SwitchPort). Are own (port_rows s before.net o (at before.net.router_ports q))) (sym none)
        (subst (λ (o : Option RouterPort). Are own (port_rows s before.net None o)) (sym is) (router_port_known own p named before.net s)))

    -- the key of a port that is the port
    own_key : (n : Name) → own n ≡ true → at before.keys.ports n ≡ at after.keys.ports n
    own_key n mine = subst (λ (m : Name). at before.keys.ports m ≡ at after.keys.ports m) (sym ((bytes_decides n q).0 mine)) h.names

    -- no port of a switch has the name after where none had it before
    none_there : at before.net.switch_ports q ≡ None → at before.net.router_ports q ≡ None → (o : Option SwitchPort) → at after.net.switch_ports q ≡ o → at after.net.switch_ports q ≡ None
    none_there none also None is = is
    none_there none also (Some port) is =
        let bare : datapath_of before.net (unit.Port q) ≡ None = λ i. datapath_of_port (none i) (also i) in
        let has : datapath_of after.net (unit.Port q) ≡ Some port.switch = ap (λ (o : Option SwitchPort). datapath_of_port o (at after.net.router_ports q)) is in
        absurd (none-some port.switch (sym bare ∙ h.place ∙ has))

    -- nor where a router's port has it after
    only_router : (p : RouterPort) → at after.net.router_ports q ≡ Some p → (o : Option SwitchPort) → at after.net.switch_ports q ≡ o → at after.net.switch_ports q ≡ None
    only_router p there None is = is
    only_router p there (Some port) is = absurd (none-some p (sym (admits_port after.net could.valid q port is).only ∙ there))

    switch_port_alike : (port : SwitchPort) → at before.net.switch_ports q ≡ Some port → lowered_of before (unit.Port q) ≡ lowered_of after (unit.Port q)
    switch_port_alike port is =
        let same : at before.net.switch_ports q ≡ at after.net.switch_ports q = h.reads (fact.SwitchPort q) (subst (λ (o : Option SwitchPort). Among (fact.SwitchPort q) (port_reads q o)) (sym is) here) in
        let law = reads_law before.net after.net (unit.Port q) (admitted before.net q (admits_port before.net can.valid q port is)) (admitted after.net q (admits_port after.net could.valid q port (sym same ∙ is))) h.reads in
        joined (unit.Port q) h.place law.rows (λ d there. rows_alike before.keys after.keys (sets_of before.net) (sets_of after.net) d (h.on d there) own can.hold.ports_in_order could.hold.ports_in_order
        own_key (rows_of before.net (unit.Port q)) (port_names port is))

    router_port_alike : at before.net.switch_ports q ≡ None → (o : Option RouterPort) → at before.net.router_ports q ≡ o → at before.net.router_ports q ≡ at after.net.router_ports q
        → lowered_of before (unit.Port q) ≡ lowered_of after (unit.Port q)
    router_port_alike none None is same = both_none (unit.Port q) (no_port before.net q none is) (no_port after.net q (none_there none is (at after.net.switch_ports q) refl) (sym same ∙ is))
    router_port_alike none (Some p) is same =
        let still : at after.net.router_ports q ≡ Some p = sym same ∙ is in
        let law = reads_law before.net after.net (unit.Port q) (of_routers.admitted before.net q (admits_router_port before.net can.valid q p is none))
        (of_routers.admitted after.net q (admits_router_port after.net could.valid q p still (only_router p still (at after.net.switch_ports q) refl))) h.reads in
        joined (unit.Port q) h.place law.rows (λ d there. rows_alike before.keys after.keys (sets_of before.net) (sets_of after.net) d (h.on d there) own can.hold.ports_in_order could.hold.ports_in_order
        own_key (rows_of before.net (unit.Port q)) (router_port_names p none is))

    port_alike : (o : Option SwitchPort) → at before.net.switch_ports q ≡ o → lowered_of before (unit.Port q) ≡ lowered_of after (unit.Port q)
    port_alike None is = router_port_alike is (at before.net.router_ports q) refl (h.reads (fact.RouterPort q) (subst (λ (o : Option SwitchPort). Among (fact.RouterPort q) (port_reads q o)) (sym is) here))
    port_alike (Some port) is = switch_port_alike port is

  -- ---- switches

  module _ (d : Name) (h : IsUntouched before after (unit.Switch d)) where
    abbrev none : Name → Bool
    none n = false

    switch_names : Are none (rows_of before.net (unit.Switch d))
    switch_names =
        rows.each_list (NamesKnown none) (λ s. rows_in s before.net (unit.Switch d)) all_stages
        (λ s m. rows.if_some (NamesKnown none) (at before.net.switches d) (λ (x : Switch). switch_rows s (is_stateful before.net d) (some_take_unknown before.net d)) (λ x is. switch_known none s (is_stateful before.net d) (some_take_unknown before.net d)))

    switch_alike : (o p : Option Switch) → at before.net.switches d ≡ o → at after.net.switches d ≡ p → is_some (option_map row.Switch o) ≡ is_some (option_map row.Switch p)
        → lowered_of before (unit.Switch d) ≡ lowered_of after (unit.Switch d)
    switch_alike None None is also e = both_none (unit.Switch d) (no_switch before.net d is) (no_switch after.net d also)
    switch_alike None (Some y) is also e = absurd (false≢true e)
    switch_alike (Some x) None is also e = absurd (true≢false e)
    switch_alike (Some x) (Some y) is also e =
        let law = reads_law before.net after.net (unit.Switch d) (record { record_of = x; there = is }) (record { record_of = y; there = also }) h.reads in
        joined (unit.Switch d) h.place law.rows (λ e there. rows_alike before.keys after.keys (sets_of before.net) (sets_of after.net) e (h.on e there) none can.hold.ports_in_order could.hold.ports_in_order
        (λ n mine. absurd (false≢true mine)) (rows_of before.net (unit.Switch d)) switch_names)

  -- ---- rules

  module _ (r d : Name) (h : IsUntouched before after (unit.Rule r d)) where
    -- its actions name no port
    abbrev DoesAlike : LFlow → Type 0
    DoesAlike row = lowered_ops before.keys row.actions ≡ lowered_ops after.keys row.actions

    rule_does : (x : Acl) → DoesAlike (rule_row x)
    unfolding lowered_op
    rule_does x = refl

    rule_ops : (x : Acl) (s : Stage) → AllByRecursion DoesAlike (rule_rows s x)
    rule_ops x stage.SwitchAclIn = rows.if_so DoesAlike (is_from_lport x.direction) (rule_row x ∷ []) (rule_does x, tt)
    rule_ops x stage.SwitchAclOut = rows.if_so DoesAlike (is_to_lport x.direction) (rule_row x ∷ []) (rule_does x, tt)
    rule_ops x _ = tt

    all_ops : AllByRecursion DoesAlike (rows_of before.net (unit.Rule r d))
    all_ops =
        rows.each_list DoesAlike (λ s. rows_in s before.net (unit.Rule r d)) all_stages
        (λ s m. rows.if_some DoesAlike (at before.net.acls r) (λ x. when (applies before.net d x) (rule_rows s x)) (λ x is. rows.if_so DoesAlike (applies before.net d x) (rule_rows s x) (rule_ops x s)))

    -- and its match names what is the same on the datapath
    each_row : (rs : List LFlow) → AllByRecursion DoesAlike rs
        → AllByRecursion (λ (row : LFlow). lowered_flows before.keys (sets_of before.net) row d ≡ lowered_flows after.keys (sets_of after.net) row d) rs
    each_row [] k = tt
    each_row (row ∷ rs) k = (
      row_alike before.keys after.keys (sets_of before.net) (sets_of after.net) d (h.on d refl) row (λ i. cubes_of (setting (h.names.1 i) (record { list = h.names.0 i })) row.matching) k.0,
      each_row rs k.1,
    )

    rule_flows : (e : Name) → Some d ≡ Some e → AreAlikeOn (unit.Rule r d) e
    rule_flows e is =
        subst (AreAlikeOn (unit.Rule r d)) (same_Some d e is)
        (each_alike (λ (row : LFlow). lowered_flows before.keys (sets_of before.net) row d) (λ (row : LFlow). lowered_flows after.keys (sets_of after.net) row d) (rows_of before.net (unit.Rule r d)) (each_row (rows_of before.net (unit.Rule r d)) all_ops))

    applied : (x : Acl) → at before.net.acls r ≡ Some x → at after.net.acls r ≡ Some x → (b : Bool) → applies before.net d x ≡ b → lowered_of before (unit.Rule r d) ≡ lowered_of after (unit.Rule r d)
    applied x is also b on = by b on (sym (applies_alike before after can could d h.names.0 h.names.1 x) ∙ on)
      where
        by : (b : Bool) → applies before.net d x ≡ b → applies after.net d x ≡ b → lowered_of before (unit.Rule r d) ≡ lowered_of after (unit.Rule r d)
        by false on too = both_none (unit.Rule r d) (not_on before.net r d x is on) (not_on after.net r d x also too)
        by true on too =
            let law = reads_law before.net after.net (unit.Rule r d) (admits_rule before.net can.valid r d x is on) (admits_rule after.net could.valid r d x also too) h.reads in
            joined (unit.Rule r d) refl law.rows rule_flows

    rule_alike : (o : Option Acl) → at before.net.acls r ≡ o → lowered_of before (unit.Rule r d) ≡ lowered_of after (unit.Rule r d)
    rule_alike None is = both_none (unit.Rule r d) (no_rule before.net r d is) (no_rule after.net r d (sym (h.reads (fact.Rule r) here) ∙ is))
    rule_alike (Some x) is = applied x is (sym (h.reads (fact.Rule r) here) ∙ is) (applies before.net d x) refl

  -- ---- routes

  module _ (r : Name) (h : IsUntouched before after (unit.Route r)) where
    route_names : (x : Route) → Are any_port (rows_of before.net (unit.Route r))
    route_names x =
        rows.each_list (NamesKnown any_port) (λ s. rows_in s before.net (unit.Route r)) all_stages
        (λ s m. rows.if_some (NamesKnown any_port) (at before.net.routes r) (route_rows s before.net) (λ x is. route_known before.net s x))

    same_route : at before.net.routes r ≡ at after.net.routes r
    same_route = h.reads (fact.Route r) here

    route_alike : (o : Option Route) → at before.net.routes r ≡ o → lowered_of before (unit.Route r) ≡ lowered_of after (unit.Route r)
    route_alike None is = both_none (unit.Route r) (no_route before.net r is) (no_route after.net r (sym same_route ∙ is))
    route_alike (Some x) is =
        let law = reads_law before.net after.net (unit.Route r) (admits_route before.net can.valid r x is) (admits_route after.net could.valid r x (sym same_route ∙ is)) h.reads in
        joined (unit.Route r) h.place law.rows (λ d there. rows_alike before.keys after.keys (sets_of before.net) (sets_of after.net) d (h.on d there) any_port can.hold.ports_in_order could.hold.ports_in_order
        (λ n mine. h.names n) (rows_of before.net (unit.Route r)) (route_names x))

  -- ---- what a router's port reaches

  module _ (port : Name) (ip : Ip4) (h : IsUntouched before after (unit.Neighbour port ip)) where
    abbrev of_port : Name → Bool
    of_port n = same_name n port

    reached_names : Are of_port (rows_of before.net (unit.Neighbour port ip))
    reached_names =
        rows.each_list (NamesKnown of_port) (λ s. rows_in s before.net (unit.Neighbour port ip)) all_stages
        (λ s m. rows.if_some (NamesKnown of_port) (neighbour_named before.net port ip) (neighbour_rows s port ip) (λ mac is. neighbour_known of_port port ((bytes_decides port port).1 refl) s ip mac))

    same_neighbour : neighbour_named before.net port ip ≡ neighbour_named after.net port ip
    same_neighbour = h.reads (fact.Neighbour port ip) here

    neighbour_alike : (o : Option Mac) → neighbour_named before.net port ip ≡ o → lowered_of before (unit.Neighbour port ip) ≡ lowered_of after (unit.Neighbour port ip)
    neighbour_alike None is = both_none (unit.Neighbour port ip) (no_neighbour before.net port ip is) (no_neighbour after.net port ip (sym same_neighbour ∙ is))
    neighbour_alike (Some mac) is =
        let law = reads_law before.net after.net (unit.Neighbour port ip) (admits_neighbour before.net port ip mac is) (admits_neighbour after.net port ip mac (sym same_neighbour ∙ is)) h.reads in
        joined (unit.Neighbour port ip) h.place law.rows (λ d there. rows_alike before.keys after.keys (sets_of before.net) (sets_of after.net) d (h.on d there) of_port can.hold.ports_in_order could.hold.ports_in_order
        (λ n mine. subst (λ (m : Name). at before.keys.ports m ≡ at after.keys.ports m) (sym ((bytes_decides n port).0 mine)) h.names) (rows_of before.net (unit.Neighbour port ip)) reached_names)

  -- ---- rows that name no port

  abbrev no_name : Name → Bool
  no_name n = false

  -- units of which the rows name none
  nameless : (u : UnitId) → IsUntouched before after u → Are no_name (rows_of before.net u) → rows_of before.net u ≡ rows_of after.net u → lowered_of before u ≡ lowered_of after u
  nameless u h are same =
      joined u h.place same (λ d there. rows_alike before.keys after.keys (sets_of before.net) (sets_of after.net) d (h.on d there) no_name can.hold.ports_in_order could.hold.ports_in_order
      (λ n mine. absurd (false≢true mine)) (rows_of before.net u) are)

  nat_alike : (r : Name) → IsUntouched before after (unit.Nat r) → (o : Option Nat) → at before.net.nats r ≡ o → lowered_of before (unit.Nat r) ≡ lowered_of after (unit.Nat r)
  nat_alike r h None is = both_none (unit.Nat r) (no_nat before.net r is) (no_nat after.net r (sym (h.reads (fact.Nat r) here) ∙ is))
  nat_alike r h (Some x) is =
      let law = reads_law before.net after.net (unit.Nat r) (admits_nat before.net can.valid r x is) (admits_nat after.net could.valid r x (sym (h.reads (fact.Nat r) here) ∙ is)) h.reads in
      nameless (unit.Nat r) h
      (rows.each_list (NamesKnown no_name) (λ s. rows_in s before.net (unit.Nat r)) all_stages (λ s m. rows.if_some (NamesKnown no_name) (at before.net.nats r) (nat_rows s) (λ x is. nat_known no_name s x))) law.rows

  balancer_alike : (b d : Name) → IsUntouched before after (unit.Balancer b d) → (t : Bool) → is_balancer_on before.net b d ≡ t → lowered_of before (unit.Balancer b d) ≡ lowered_of after (unit.Balancer b d)
  balancer_alike b d h t is = by t is (sym (ap (serves_if d) (h.reads (fact.Balancer b) here)) ∙ is)
    where
      by : (t : Bool) → is_balancer_on before.net b d ≡ t → is_balancer_on after.net b d ≡ t → lowered_of before (unit.Balancer b d) ≡ lowered_of after (unit.Balancer b d)
      by false is also = both_none (unit.Balancer b d) (off_balancer before.net b d is) (off_balancer after.net b d also)
      by true is also =
          let law = reads_law before.net after.net (unit.Balancer b d) (admits_balancer before.net b d is) (admits_balancer after.net b d also) h.reads in
          nameless (unit.Balancer b d) h
          (rows.each_list (NamesKnown no_name) (λ s. rows_in s before.net (unit.Balancer b d)) all_stages
          (λ s m. rows.if_some (NamesKnown no_name) (at before.net.load_balancers b) (balancer_rows s (is_online before.net b) d) (λ x is. balancer_known no_name s (is_online before.net b) d x))) law.rows

  router_alike : (d : Name) → IsUntouched before after (unit.Router d) → (o p : Option Router) → at before.net.routers d ≡ o → at after.net.routers d ≡ p → option_map (translates before.net) o ≡ option_map (translates after.net) p
      → lowered_of before (unit.Router d) ≡ lowered_of after (unit.Router d)
  router_alike d h None None is also e = both_none (unit.Router d) (no_router before.net d is) (no_router after.net d also)
  router_alike d h None (Some y) is also e = absurd (none-some (translates after.net y) e)
  router_alike d h (Some x) None is also e = absurd (none-some (translates before.net x) (sym e))
  router_alike d h (Some x) (Some y) is also e =
      let law = reads_law before.net after.net (unit.Router d) (admits_router before.net d x is) (admits_router after.net d y also) h.reads in
      nameless (unit.Router d) h
      (rows.each_list (NamesKnown no_name) (λ s. rows_in s before.net (unit.Router d)) all_stages (λ s m. rows.if_some (NamesKnown no_name) (translates_named before.net d) (router_rows s) (λ t is. router_known no_name s t))) law.rows

  router_stays : (d : Name) → IsUntouched before after (unit.Router d) → lowered_of before (unit.Router d) ≡ lowered_of after (unit.Router d)
  router_stays d h = router_alike d h (at before.net.routers d) (at after.net.routers d) refl refl (h.reads (fact.Translates d) here)

-- ---- the law

pub untouched_stay : UntouchedLaw
untouched_stay before after can could (unit.Port q) h = port_alike before after can could q h (at before.net.switch_ports q) refl
untouched_stay before after can could (unit.Rule r d) h = rule_alike before after can could r d h (at before.net.acls r) refl
untouched_stay before after can could (unit.Route r) h = route_alike before after can could r h (at before.net.routes r) refl
untouched_stay before after can could (unit.Neighbour port ip) h = neighbour_alike before after can could port ip h (neighbour_named before.net port ip) refl
untouched_stay before after can could (unit.Nat r) h = nat_alike before after can could r h (at before.net.nats r) refl
untouched_stay before after can could (unit.Balancer b d) h = balancer_alike before after can could b d h (is_balancer_on before.net b d) refl
untouched_stay before after can could (unit.Switch d) h = switch_alike before after can could d h (at before.net.switches d) (at after.net.switches d) refl refl h.names
untouched_stay before after can could (unit.Router d) h = router_stays before after can could d h
