-- Of which unit a row of a router's table is, and that the rows of a unit are rows of the table.
use Rattle.std.specs.Prelude.{◌≡◌, ◌++◌, ℕ, Bool, true, false, List, [], ◌∷◌, map, Option, Some, None, option_map, is_some, nat_eq}
use Rattle.std.specs.List.{find}
use Rattle.std.specs.Map.{keys_of, values_of}
use Rattle.std.specs.Option.{option_and_then}
use Rattle.std.proofs.Common.{refl, sym, ap, ◌∙◌, subst, inl, inr}
use Rattle.std.proofs.lemmas.Bool.{false≢true, or_cases}
use Rattle.std.proofs.lemmas.Option.{none-some, same_Some}
use Rattle.ovn_base.proofs.AmongLaws.{among_all, among_append, among_left, among_right, among_map, map_among, flat_map_among, filter_among, any_among}
use Rattle.ovn_base.proofs.ByNameLaws.{at_among, among_at}
use Rattle.ovn_base.specs.declared.address.Ip4.{Ip4}
use Rattle.ovn_base.specs.declared.address.Mac.{Mac}
use Rattle.ovn_base.specs.declared.name.Name.{Name}
use Rattle.ovn_base.specs.lists.Among.{Among}
use Rattle.ovn_base.specs.names.ByName.{at}
use Rattle.ovn_base.specs.names.SameName.{same_name, bytes_decides}
use Rattle.nb_records.specs.Neighbours.{neighbour_of}
use Rattle.nb_records.specs.Network.{Network, is_online, is_there, records_of}
use Rattle.nb_records.specs.Routers.{translates, translates_sources, translates_destinations}
use Rattle.nb_records.specs.Switches.{applies, covers, is_given, is_named, is_stateful, switch_ports_of}
use Rattle.nb_records.specs.declared.balancer.LoadBalancer.{LoadBalancer}
use Rattle.nb_records.specs.declared.kinds.Kind.TheVariants as kind
use Rattle.nb_records.specs.declared.record.Record.{Record}
use Rattle.nb_records.specs.declared.record.Record.TheVariants as row
use Rattle.nb_records.specs.declared.router.Nat.{Nat}
use Rattle.nb_records.specs.declared.router.Route.{Route}
use Rattle.nb_records.specs.declared.router.Router.{Router}
use Rattle.nb_records.specs.declared.router.RouterPort.{RouterPort}
use Rattle.nb_records.specs.declared.rule.Acl.{Acl}
use Rattle.nb_records.specs.declared.rule.PortGroup.{PortGroup}
use Rattle.nb_records.specs.declared.switch.Switch.{Switch}
use Rattle.nb_records.specs.declared.switch.SwitchPort.{SwitchPort}
use Rattle.nb_rules.specs.References.{Reference, references_of, match_references, to, to_each, to_given}
use Rattle.nb_rules.specs.Unbroken.{AreThere}
use Rattle.nb_rules.specs.Valid.{IsValid}
use Rattle.logical_flows.specs.Stages.{stage_table}
use Rattle.logical_flows.specs.declared.flow.LFlow.{LFlow}
use Rattle.logical_flows.specs.declared.stage.Stage.{Stage}
use Rattle.logical_flows.specs.declared.stage.Stage.TheVariants as stage
use Rattle.logical_flows.specs.declared.unit.UnitId.{UnitId}
use Rattle.logical_flows.specs.declared.unit.UnitId.TheVariants as unit
use Rattle.stage_rows.specs.Facts.{own_ips, answered_ips}
use Rattle.stage_rows.specs.BalancerRows.{router_vip_row}
use Rattle.stage_rows.specs.RouterRows.{answered_input, echo_input, own_row, network_row, route_row}
use Rattle.stage_rows.specs.Rows.{on_some, when}
use Rattle.stage_rows.specs.SwitchRows.{some_take_unknown}
use Rattle.stage_rows.specs.Units.{IsPairedRow, router_port_rows, route_rows, neighbour_rows, nat_rows, balancer_rows, router_rows, rule_rows, switch_rows, port_rows, rows_in, all_stages, translates_named, datapath_of, datapath_of_port}
use Rattle.row_laws.proofs.records.ValidPorts.{whole, on_switch}
use Rattle.row_laws.proofs.units.RowUnits.{rows_among, in_some, some_in, in_when}
use Rattle.row_laws.proofs.units.StageRows.{is_of_switches}
use Rattle.row_laws.specs.Rows.{IsRowIn}

-- ---- stages

-- the row is of the stage, which is one of routers
abbrev pub IsOfRouters : Stage → LFlow → Type 0
IsOfRouters s r = (r.stage ≡ s) × (is_of_switches s ≡ false)

abbrev pub router_stages : List Stage
router_stages =
    stage.RouterAdmit ∷ stage.RouterInput ∷ stage.RouterUndo ∷ stage.RouterDnat ∷ stage.RouterOwn ∷ stage.RouterRoute ∷ stage.RouterNeighbour ∷ stage.RouterFind ∷ stage.RouterSnat ∷ []

-- the stage of routers that has the table
abbrev pub of_table : ℕ → Option Stage
of_table n = find (λ x. nat_eq (stage_table x) n) router_stages

own_table : (s : Stage) → is_of_switches s ≡ false → of_table (stage_table s) ≡ Some s
own_table stage.RouterAdmit h = refl
own_table stage.RouterInput h = refl
own_table stage.RouterUndo h = refl
own_table stage.RouterDnat h = refl
own_table stage.RouterOwn h = refl
own_table stage.RouterRoute h = refl
own_table stage.RouterNeighbour h = refl
own_table stage.RouterFind h = refl
own_table stage.RouterSnat h = refl
own_table _ h = absurd (false≢true (sym h))

-- a row of a stage of routers that stands in the table of another is of that
placed : (s t : Stage) (r : LFlow) → is_of_switches s ≡ false → IsOfRouters t r → stage_table r.stage ≡ stage_table s → t ≡ s
placed s t r of is e = same_Some t s (sym (own_table t is.1) ∙ ap of_table (ap stage_table (sym is.0) ∙ e) ∙ own_table s of)

-- ---- the rows of units of routers in a stage are rows of that stage

module _ (s : Stage) (r : LFlow) where
  mapped : {X : Type 0} (f : X → LFlow) → ((x : X) → IsOfRouters s (f x)) → (xs : List X) → Among r (map f xs) → IsOfRouters s r
  mapped f h xs m = let x = map_among f r xs m in subst (IsOfRouters s) (sym x.2) (h x.0)

port_rows_are : (s : Stage) (net : Network) (q : RouterPort) (r : LFlow) → Among r (router_port_rows s net q) → IsOfRouters s r
port_rows_are stage.RouterAdmit net q r m = among_all (IsOfRouters stage.RouterAdmit) r (router_port_rows stage.RouterAdmit net q) ((refl, refl), ((refl, refl), tt)) m
port_rows_are stage.RouterInput net q r m = elim (among_append r (map (answered_input q) (answered_ips net q)) (map echo_input (own_ips q)) m) [
  | inl n ↦ mapped stage.RouterInput r (answered_input q) (λ ip. (refl, refl)) (answered_ips net q) n
  | inr n ↦ mapped stage.RouterInput r echo_input (λ ip. (refl, refl)) (own_ips q) n
]
port_rows_are stage.RouterOwn net q r m = mapped stage.RouterOwn r own_row (λ ip. (refl, refl)) (own_ips q) m
port_rows_are stage.RouterRoute net q r m = mapped stage.RouterRoute r (network_row q) (λ n. (refl, refl)) q.networks m
port_rows_are _ net q r m = elim m [ ]

route_rows_are : (s : Stage) (net : Network) (x : Route) (r : LFlow) → Among r (route_rows s net x) → IsOfRouters s r
route_rows_are stage.RouterRoute net x r m =
    let w = in_some r _ (λ w. route_row x w ∷ []) m in
    among_all (IsOfRouters stage.RouterRoute) r (route_row x w.0 ∷ []) ((refl, refl), tt) w.2
route_rows_are _ net x r m = elim m [ ]

neighbour_rows_are : (s : Stage) (q : Name) (ip : Ip4) (mac : Mac) (r : LFlow) → Among r (neighbour_rows s q ip mac) → IsOfRouters s r
neighbour_rows_are stage.RouterNeighbour q ip mac r m = among_all (IsOfRouters stage.RouterNeighbour) r (neighbour_rows stage.RouterNeighbour q ip mac) ((refl, refl), tt) m
neighbour_rows_are _ q ip mac r m = elim m [ ]

nat_rows_are : (s : Stage) (x : Nat) (r : LFlow) → Among r (nat_rows s x) → IsOfRouters s r
nat_rows_are stage.RouterDnat x r m = among_all (IsOfRouters stage.RouterDnat) r _ ((refl, refl), tt) (in_when r (translates_destinations x.kind) _ m).1
nat_rows_are stage.RouterSnat x r m = among_all (IsOfRouters stage.RouterSnat) r _ ((refl, refl), ((refl, refl), tt)) (in_when r (translates_sources x.kind) _ m).1
nat_rows_are _ x r m = elim m [ ]

router_rows_are : (s : Stage) (translating : Bool) (r : LFlow) → Among r (router_rows s translating) → IsOfRouters s r
router_rows_are stage.RouterAdmit b r m = among_all (IsOfRouters stage.RouterAdmit) r (router_rows stage.RouterAdmit b) ((refl, refl), tt) m
router_rows_are stage.RouterInput b r m = among_all (IsOfRouters stage.RouterInput) r (router_rows stage.RouterInput b) ((refl, refl), ((refl, refl), ((refl, refl), ((refl, refl), ((refl, refl), tt))))) m
router_rows_are stage.RouterUndo true r m = among_all (IsOfRouters stage.RouterUndo) r (router_rows stage.RouterUndo true) ((refl, refl), ((refl, refl), tt)) m
router_rows_are stage.RouterUndo false r m = among_all (IsOfRouters stage.RouterUndo) r (router_rows stage.RouterUndo false) ((refl, refl), tt) m
router_rows_are stage.RouterDnat b r m = among_all (IsOfRouters stage.RouterDnat) r (router_rows stage.RouterDnat b) ((refl, refl), ((refl, refl), ((refl, refl), tt))) m
router_rows_are stage.RouterOwn b r m = among_all (IsOfRouters stage.RouterOwn) r (router_rows stage.RouterOwn b) ((refl, refl), tt) m
router_rows_are stage.RouterRoute b r m = among_all (IsOfRouters stage.RouterRoute) r (router_rows stage.RouterRoute b) ((refl, refl), tt) m
router_rows_are stage.RouterNeighbour b r m = among_all (IsOfRouters stage.RouterNeighbour) r (router_rows stage.RouterNeighbour b) ((refl, refl), tt) m
router_rows_are stage.RouterFind true r m = among_all (IsOfRouters stage.RouterFind) r (router_rows stage.RouterFind true) ((refl, refl), ((refl, refl), tt)) m
router_rows_are stage.RouterFind false r m = among_all (IsOfRouters stage.RouterFind) r (router_rows stage.RouterFind false) ((refl, refl), tt) m
router_rows_are stage.RouterSnat b r m = among_all (IsOfRouters stage.RouterSnat) r (router_rows stage.RouterSnat b) ((refl, refl), ((refl, refl), tt)) m
router_rows_are _ b r m = elim m [ ]

-- ---- the units

-- the units of a router of which a row of the stage may be
pub data RouterRow (net : Network) (s : Stage) (d : Name) (r : LFlow) : Type 0 where
  by_port : (q : Name) (port : RouterPort) → at net.router_ports q ≡ Some port → port.router ≡ d → Among r (router_port_rows s net port) → RouterRow net s d r
  by_route : (q : Name) (x : Route) → at net.routes q ≡ Some x → x.router ≡ d → Among r (route_rows s net x) → RouterRow net s d r
  by_neighbour : (q : Name) (port : RouterPort) → at net.router_ports q ≡ Some port → port.router ≡ d → (ip : Ip4) (mac : Mac) → neighbour_of net port ip ≡ Some mac → Among r (neighbour_rows s q ip mac) → RouterRow net s d r
  by_nat : (q : Name) (x : Nat) → at net.nats q ≡ Some x → x.router ≡ d → Among r (nat_rows s x) → RouterRow net s d r
  by_balancer : (b : Name) (x : LoadBalancer) → at net.load_balancers b ≡ Some x → Among r (balancer_rows s (is_online net b) d x) → RouterRow net s d r
  by_router : (x : Router) → at net.routers d ≡ Some x → Among r (router_rows s (translates net x)) → RouterRow net s d r

-- no port of a switch has the name of a router port
no_switch_port : (net : Network) → IsValid net → (q : Name) (p : RouterPort) → at net.router_ports q ≡ Some p → at net.switch_ports q ≡ None
no_switch_port net valid q p is = by (at net.switch_ports q) refl
  where
    by : (o : Option SwitchPort) → at net.switch_ports q ≡ o → at net.switch_ports q ≡ None
    by None e = e
    by (Some x) e = absurd (none-some p (sym (among_all (λ (e : Name × SwitchPort). at net.router_ports e.0 ≡ None) (q, x) net.switch_ports valid.ports (at_among net.switch_ports q x e)) ∙ is))

-- ---- nothing of a switch is on a router

module _ (net : Network) (valid : IsValid net) (d : Name) (rt : Router) (is_router : at net.routers d ≡ Some rt) where
  no_switch : (sw : Switch) → at net.switches d ≡ Some sw → ⊥
  no_switch sw is = none-some rt (sym (among_all (λ (e : Name × Switch). at net.routers e.0 ≡ None) (d, sw) net.switches valid.datapaths (at_among net.switches d sw is)) ∙ is_router)

  not_there : (n : Name) → is_there net kind.Switch n ≡ true → n ≡ d → ⊥
  not_there n h same = by (at net.switches d) refl (subst (λ m. is_there net kind.Switch m ≡ true) same h)
    where
      by : (o : Option Switch) → at net.switches d ≡ o → is_some (option_map row.Switch o) ≡ true → ⊥
      by None is k = false≢true k
      by (Some sw) is k = no_switch sw is

  -- what a record names is there
  names : (x : Record) → Among x (records_of net) → AreThere net (references_of x)
  names x m = among_all (λ (y : Record). AreThere net (references_of y)) x (records_of net) (whole net valid).references m

  port_off : (q : Name) (p : SwitchPort) → at net.switch_ports q ≡ Some p → p.switch ≡ d → ⊥
  port_off q p is on = let sw = on_switch net valid q p is in no_switch sw.0 (ap (λ n. at net.switches n) (sym on) ∙ sw.1)

  given_off : (o : Option Name) (groups others : List Reference) → AreThere net (to_given kind.Switch o ++ groups ++ others) → is_given d o ≡ true → ⊥
  given_off None groups others all h = false≢true h
  given_off (Some n) groups others all h = not_there n all.0 ((bytes_decides n d).0 h)

  cover_off : (o : Option PortGroup) → covers net d o ≡ true → ⊥
  cover_off None h = false≢true h
  cover_off (Some g) h =
      let p = any_among (λ (q : SwitchPort). is_named q.name g.ports) (switch_ports_of net d) h in
      let two = filter_among (λ (x : SwitchPort). same_name x.switch d) p.0 (values_of net.switch_ports) p.1 in
      let e = map_among (λ (e : Name × SwitchPort). e.1) p.0 net.switch_ports two.0 in
      port_off e.0.0 e.0.1 (among_at e.0.0 e.0.1 net.switch_ports valid.in_order.switch_ports e.1) (ap (λ (x : SwitchPort). x.switch) (sym e.2) ∙ (bytes_decides p.0.switch d).0 two.1)

  rule_off : (a : Name) (x : Acl) → at net.acls a ≡ Some x → applies net d x ≡ true → ⊥
  rule_off a x is on =
      let r = row.Acl x in
      let own = among_map (λ (e : Name × Acl). row.Acl e.1) (a, x) net.acls (at_among net.acls a x is) in
      let all = names r (among_left r _ _ (among_left r _ _ (among_left r _ _ (among_left r _ _ (among_right r _ _ own))))) in
      elim (or_cases (is_given d x.switch) (covers net d (option_and_then (at net.port_groups) x.port_group)) on) [
        | inl h ↦ given_off x.switch (to_given kind.PortGroup x.port_group) (match_references x.matching) all h
        | inr h ↦ cover_off (option_and_then (at net.port_groups) x.port_group) h
      ]

  pub balancer_off : (q : Name) (x : LoadBalancer) → at net.load_balancers q ≡ Some x → is_named d x.switches ≡ true → ⊥
  balancer_off q x is on =
      let r = row.LoadBalancer x in
      let own = among_map (λ (e : Name × LoadBalancer). row.LoadBalancer e.1) (q, x) net.load_balancers (at_among net.load_balancers q x is) in
      let n = any_among (λ n. same_name n d) x.switches on in
      let named = among_all (λ (y : _). is_there net y.0 y.1 ≡ true) (kind.Switch, n.0) (references_of r) (names r (among_left r _ _ (among_right r _ _ own)))
      (among_left (kind.Switch, n.0) (to_each kind.Switch x.switches) (to_each kind.Router x.routers) (among_map (to kind.Switch) n.0 x.switches n.1)) in
      not_there n.0 named ((bytes_decides n.0 d).0 n.2)

  -- ---- of which unit a row is

  module _ (s : Stage) (r : LFlow) (same : (t : Stage) → IsOfRouters t r → t ≡ s) where
    of_port : (t : Stage) (q : Name) (o : Option SwitchPort) → at net.switch_ports q ≡ o → (p : Option RouterPort) → at net.router_ports q ≡ p → datapath_of_port o p ≡ Some d → Among r (port_rows t net o p) → RouterRow net s d r
    of_port t q (Some port) is p other on m = absurd (port_off q port is (same_Some port.switch d on))
    of_port t q None is (Some p) other on m = by_port q p other (same_Some p.router d on) (subst (λ x. Among r (router_port_rows x net p)) (same t (port_rows_are t net p r m)) m)
    of_port t q None is None other on m = elim m [ ]

    of_rule : (t : Stage) (a e : Name) → e ≡ d → Among r (rows_in t net (unit.Rule a e)) → RouterRow net s d r
    of_rule t a e on m =
        let x = in_some r (at net.acls a) (λ (x : Acl). when (applies net e x) (rule_rows t x)) m in
        absurd (rule_off a x.0 x.1 (subst (λ n. applies net n x.0 ≡ true) on (in_when r (applies net e x.0) (rule_rows t x.0) x.2).0))

    of_route : (t : Stage) (q : Name) (o : Option Route) → at net.routes q ≡ o → option_map (λ (x : Route). x.router) o ≡ Some d → Among r (on_some o (route_rows t net)) → RouterRow net s d r
    of_route t q None is on m = elim m [ ]
    of_route t q (Some x) is on m = by_route q x is (same_Some x.router d on) (subst (λ y. Among r (route_rows y net x)) (same t (route_rows_are t net x r m)) m)

    of_neighbour : (t : Stage) (q : Name) (ip : Ip4) (o : Option RouterPort) → at net.router_ports q ≡ o → option_map (λ (x : RouterPort). x.router) o ≡ Some d
        → Among r (on_some (option_and_then (λ p. neighbour_of net p ip) o) (neighbour_rows t q ip)) → RouterRow net s d r
    of_neighbour t q ip None is on m = elim m [ ]
    of_neighbour t q ip (Some p) is on m =
        let x = in_some r (neighbour_of net p ip) (neighbour_rows t q ip) m in
        by_neighbour q p is (same_Some p.router d on) ip x.0 x.1 (subst (λ y. Among r (neighbour_rows y q ip x.0)) (same t (neighbour_rows_are t q ip x.0 r x.2)) x.2)

    of_nat : (t : Stage) (q : Name) (o : Option Nat) → at net.nats q ≡ o → option_map (λ (x : Nat). x.router) o ≡ Some d → Among r (on_some o (nat_rows t)) → RouterRow net s d r
    of_nat t q None is on m = elim m [ ]
    of_nat t q (Some x) is on m = by_nat q x is (same_Some x.router d on) (subst (λ y. Among r (nat_rows y x)) (same t (nat_rows_are t x r m)) m)

    -- a balancer's row is one of a switch that it serves, or of a router
    served : (t : Stage) (b e : Name) → e ≡ d → (x : LoadBalancer) → at net.load_balancers b ≡ Some x → Among r (balancer_rows t (is_online net b) e x) → IsOfRouters t r
    served stage.SwitchStateIn b e on x is m = absurd (balancer_off b x is (subst (λ n. is_named n x.switches ≡ true) on (in_when r (is_named e x.switches) _ m).0))
    served stage.RouterDnat b e on x is m = mapped stage.RouterDnat r (router_vip_row (is_online net b) x.protocol) (λ v. (refl, refl)) x.vips (in_when r (is_named e x.routers) _ m).1
    served _ b e on x is m = elim m [ ]

    of_balancer : (t : Stage) (b e : Name) → e ≡ d → Among r (rows_in t net (unit.Balancer b e)) → RouterRow net s d r
    of_balancer t b e on m =
        let x = in_some r (at net.load_balancers b) (balancer_rows t (is_online net b) e) m in
        by_balancer b x.0 x.1 (subst (λ n. Among r (balancer_rows s (is_online net b) n x.0)) on (subst (λ y. Among r (balancer_rows y (is_online net b) e x.0)) (same t (served t b e on x.0 x.1 x.2)) x.2))

    of_switch : (t : Stage) (e : Name) → e ≡ d → Among r (rows_in t net (unit.Switch e)) → RouterRow net s d r
    of_switch t e on m =
        let x = in_some r (at net.switches e) (λ (x : Switch). switch_rows t (is_stateful net e) (some_take_unknown net e)) m in
        absurd (no_switch x.0 (ap (λ n. at net.switches n) (sym on) ∙ x.1))

    of_router : (t : Stage) (e : Name) → e ≡ d → (o : Option Router) → at net.routers e ≡ o → Among r (on_some (option_map (translates net) o) (router_rows t)) → RouterRow net s d r
    of_router t e on None is m = elim m [ ]
    of_router t e on (Some x) is m = by_router x (ap (λ n. at net.routers n) (sym on) ∙ is) (subst (λ y. Among r (router_rows y (translates net x))) (same t (router_rows_are t (translates net x) r m)) m)

    of_unit : (t : Stage) (u : UnitId) → datapath_of net u ≡ Some d → Among r (rows_in t net u) → RouterRow net s d r
    of_unit t (unit.Port q) on m = of_port t q (at net.switch_ports q) refl (at net.router_ports q) refl on m
    of_unit t (unit.Rule a e) on m = of_rule t a e (same_Some e d on) m
    of_unit t (unit.Route q) on m = of_route t q (at net.routes q) refl on m
    of_unit t (unit.Neighbour q ip) on m = of_neighbour t q ip (at net.router_ports q) refl on m
    of_unit t (unit.Nat q) on m = of_nat t q (at net.nats q) refl on m
    of_unit t (unit.Balancer b e) on m = of_balancer t b e (same_Some e d on) m
    of_unit t (unit.Switch e) on m = of_switch t e (same_Some e d on) m
    of_unit t (unit.Router e) on m = of_router t e (same_Some e d on) (at net.routers e) refl m

  -- a row of the network on the router is of one of these units
  of_pair : (s : Stage) (r : LFlow) → ((t : Stage) → IsOfRouters t r → t ≡ s) → IsPairedRow net r d → RouterRow net s d r
  of_pair s r same pair =
      let m = flat_map_among (λ t. rows_in t net pair.origin) r all_stages pair.among in
      of_unit s r same m.0 pair.origin pair.on m.2

  -- so is a row of the table
  pub row_unit : (s : Stage) → is_of_switches s ≡ false → (r : LFlow) → IsRowIn net (stage_table s) d r → RouterRow net s d r
  row_unit s of r is = of_pair s r (λ t also. placed s t r of also is.in_table) is.pair

  -- and each is of a stage of routers
  its_stage : (r : LFlow) → RouterRow net r.stage d r → is_of_switches r.stage ≡ false
  its_stage r (by_port q port is on m) = (port_rows_are r.stage net port r m).1
  its_stage r (by_route q x is on m) = (route_rows_are r.stage net x r m).1
  its_stage r (by_neighbour q port is on ip mac known m) = (neighbour_rows_are r.stage q ip mac r m).1
  its_stage r (by_nat q x is on m) = (nat_rows_are r.stage x r m).1
  its_stage r (by_balancer b x is m) = (served r.stage r (λ t also. sym also.0) r.stage b d refl x is m).1
  its_stage r (by_router x is m) = (router_rows_are r.stage (translates net x) r m).1

  -- so in a table that no such stage has there is none
  pub no_row_at : (n : ℕ) → of_table n ≡ None → (r : LFlow) → IsRowIn net n d r → ⊥
  no_row_at n none r is = none-some r.stage (sym none ∙ ap of_table (sym is.in_table) ∙ own_table r.stage (its_stage r (of_pair r.stage r (λ t also. sym also.0) is.pair)))

-- ---- rows of units are rows of the table

module _ (net : Network) (s : Stage) (r : LFlow) where
  pub a_port_row : IsValid net → (d q : Name) (port : RouterPort) → at net.router_ports q ≡ Some port → port.router ≡ d → Among r (router_port_rows s net port) → IsRowIn net (stage_table s) d r
  a_port_row valid d q port is on m =
      let none = no_switch_port net valid q port is in
      record {
        pair = record {
          origin = unit.Port q;
          there =
              let u = unit.Port q in
              let own = among_map unit.Port q (keys_of net.switch_ports ++ keys_of net.router_ports) (among_right q (keys_of net.switch_ports) (keys_of net.router_ports) (among_map (λ (e : Name × RouterPort). e.0) (q, port) net.router_ports (at_among net.router_ports q port is))) in
              among_left u _ _ (among_left u _ _ (among_left u _ _ (among_left u _ _ (among_left u _ _ (among_left u _ _ (among_left u _ _ own))))));
          among = rows_among net s r (unit.Port q) (subst (λ o. Among r (port_rows s net o (at net.router_ports q))) (sym none) (some_in r (at net.router_ports q) (router_port_rows s net) port is m));
          on = ap (λ o. datapath_of_port o (at net.router_ports q)) none ∙ ap (λ (o : Option RouterPort). option_map (λ (x : RouterPort). x.router) o) is ∙ ap (λ n. Some n) on;
        };
        in_table = ap stage_table (port_rows_are s net port r m).0;
      }

  pub a_router_row : (d : Name) (x : Router) → at net.routers d ≡ Some x → Among r (router_rows s (translates net x)) → IsRowIn net (stage_table s) d r
  a_router_row d x is m = record {
    pair = record {
      origin = unit.Router d;
      there = let u = unit.Router d in among_right u _ _ (among_map unit.Router d (keys_of net.routers) (among_map (λ (e : Name × Router). e.0) (d, x) net.routers (at_among net.routers d x is)));
      among = rows_among net s r (unit.Router d) (some_in r (translates_named net d) (router_rows s) (translates net x) (ap (λ (o : Option Router). option_map (translates net) o) is) m);
      on = refl;
    };
    in_table = ap stage_table (router_rows_are s (translates net x) r m).0;
  }
