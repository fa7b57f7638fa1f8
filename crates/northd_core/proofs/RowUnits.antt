-- What has rows in a network is a unit of it, and rows of what isn't there are none.
use Rattle.std.specs.Prelude.{◌≡◌, ◌++◌, ◌||◌, Bool, true, false, List, [], ◌∷◌, map, flat_map, filter, Option, Some, None, option_map, is_some}
use Rattle.std.specs.Map.{keys_of, values_of}
use Rattle.std.specs.Option.{option_and_then}
use Rattle.std.proofs.Common.{refl, sym, ap, ◌∙◌, subst, inl, inr}
use Rattle.std.proofs.lemmas.Bool.{false≢true, true≢false, or_cases}
use Rattle.ovn_base.proofs.AmongLaws.{among_all, among_left, among_right, among_map, among_filter, among_flat_map, filter_among, map_among, any_among}
use Rattle.ovn_base.proofs.ByNameLaws.{at_among, among_at}
use Rattle.ovn_base.specs.declared.address.Ip4.{Ip4}
use Rattle.ovn_base.specs.declared.address.Mac.{Mac}
use Rattle.ovn_base.specs.declared.name.Name.{Name}
use Rattle.ovn_base.specs.lists.Among.{Among, here}
use Rattle.ovn_base.specs.names.ByName.{at}
use Rattle.ovn_base.specs.names.SameName.{same_name, bytes_decides}
use Rattle.nb_records.specs.Grammar.{IsInGrammar}
use Rattle.nb_records.specs.Neighbours.{neighbour_of}
use Rattle.nb_records.specs.Network.{Network, is_online, is_there, records_of}
use Rattle.nb_records.specs.Routers.{translates}
use Rattle.nb_records.specs.Switches.{applies, covers, is_given, is_named, is_stateful, serves_at, switch_ports_of}
use Rattle.nb_records.specs.declared.balancer.LoadBalancer.{LoadBalancer}
use Rattle.nb_records.specs.declared.kinds.Kind.TheVariants as kind
use Rattle.nb_records.specs.declared.record.Record.{Record}
use Rattle.nb_records.specs.declared.record.Record.TheVariants as row
use Rattle.nb_records.specs.declared.router.Nat.{Nat}
use Rattle.nb_records.specs.declared.router.Route.{Route}
use Rattle.nb_records.specs.declared.router.Router.{Router}
use Rattle.nb_records.specs.declared.router.RouterPort.{RouterPort}
use Rattle.nb_records.specs.declared.rule.Acl.{Acl}
use Rattle.nb_records.specs.declared.rule.PortGroup.{PortGroup}
use Rattle.nb_records.specs.declared.switch.Switch.{Switch}
use Rattle.nb_records.specs.declared.switch.SwitchPort.{SwitchPort}
use Rattle.nb_rules.proofs.Validity.{unbroken}
use Rattle.nb_rules.specs.References.{Reference, references_of, to, to_each, to_given}
use Rattle.nb_rules.specs.Unbroken.{AreThere}
use Rattle.nb_rules.specs.Valid.{IsValid}
use Rattle.logical_flows.specs.declared.flow.LFlow.{LFlow}
use Rattle.logical_flows.specs.declared.unit.UnitId.{UnitId}
use Rattle.logical_flows.specs.declared.unit.UnitId.TheVariants as unit
use Rattle.row_laws.proofs.records.ValidPorts.{in_grammar, on_switch}
use Rattle.row_laws.proofs.units.RowUnits.{in_some}
use Rattle.router_stages.specs.UnitLaws.{AdmitsRouterPort}
use Rattle.stage_rows.specs.Admitting.{AdmitsBalancer, AdmitsNat, AdmitsNeighbour, AdmitsRoute, AdmitsRouter, AdmitsRule}
use Rattle.stage_rows.specs.BalancerRows.{router_vips, switch_vips}
use Rattle.stage_rows.specs.Rows.{on_some, when}
use Rattle.stage_rows.specs.SwitchRows.{some_take_unknown}
use Rattle.stage_rows.specs.Units.{all_stages, rows_of, datapath_of, datapath_of_port, units_of, units_of_balancer, units_of_rule, port_rows, rule_rows, route_rows, neighbour_rows, neighbour_named, nat_rows, balancer_rows, switch_rows, router_rows, pairs_of_unit, IsLogicalFlow}
use Rattle.switch_stages.specs.UnitLaws.{AdmitsSwitchPort}
use Rattle.northd_core.proofs.Reached.{neighbour_listed}
use Rattle.northd_core.specs.Plans.{IsPairOf}
use Rattle.northd_core.specs.Routed.{is_balancer_on, serves_if}
use Rattle.northd_core.specs.RulesOn.{applies_if, is_rule_on}

-- ---- rows of what isn't there

pub no_port : (net : Network) (q : Name) → at net.switch_ports q ≡ None → at net.router_ports q ≡ None → rows_of net (unit.Port q) ≡ []
no_port net q none also =
    ap (λ (o : Option SwitchPort). flat_map (λ s. port_rows s net o (at net.router_ports q)) all_stages) none
    ∙ ap (λ (o : Option RouterPort). flat_map (λ s. port_rows s net None o) all_stages) also

pub no_rule : (net : Network) (r d : Name) → at net.acls r ≡ None → rows_of net (unit.Rule r d) ≡ []
no_rule net r d none = ap (λ (o : Option Acl). flat_map (λ s. on_some o (λ x. when (applies net d x) (rule_rows s x))) all_stages) none

pub not_on : (net : Network) (r d : Name) (x : Acl) → at net.acls r ≡ Some x → applies net d x ≡ false → rows_of net (unit.Rule r d) ≡ []
not_on net r d x is off =
    ap (λ (o : Option Acl). flat_map (λ s. on_some o (λ x. when (applies net d x) (rule_rows s x))) all_stages) is
    ∙ ap (λ (b : Bool). flat_map (λ s. when b (rule_rows s x)) all_stages) off

-- whether it isn't there or doesn't apply
pub off_rule : (net : Network) (r d : Name) → is_rule_on net r d ≡ false → rows_of net (unit.Rule r d) ≡ []
off_rule net r d off = by (at net.acls r) refl off
  where
    by : (o : Option Acl) → at net.acls r ≡ o → applies_if net d o ≡ false → rows_of net (unit.Rule r d) ≡ []
    by None is off = no_rule net r d is
    by (Some x) is off = not_on net r d x is off

pub no_switch : (net : Network) (d : Name) → at net.switches d ≡ None → rows_of net (unit.Switch d) ≡ []
no_switch net d none = ap (λ (o : Option Switch). flat_map (λ s. on_some o (λ x. switch_rows s (is_stateful net d) (some_take_unknown net d))) all_stages) none

pub no_route : (net : Network) (r : Name) → at net.routes r ≡ None → rows_of net (unit.Route r) ≡ []
no_route net r none = ap (λ (o : Option Route). flat_map (λ s. on_some o (route_rows s net)) all_stages) none

pub no_neighbour : (net : Network) (port : Name) (ip : Ip4) → neighbour_named net port ip ≡ None → rows_of net (unit.Neighbour port ip) ≡ []
no_neighbour net port ip none = ap (λ (o : Option Mac). flat_map (λ s. on_some o (neighbour_rows s port ip)) all_stages) none

pub no_nat : (net : Network) (r : Name) → at net.nats r ≡ None → rows_of net (unit.Nat r) ≡ []
no_nat net r none = ap (λ (o : Option Nat). flat_map (λ s. on_some o (nat_rows s)) all_stages) none

pub no_balancer : (net : Network) (b d : Name) → at net.load_balancers b ≡ None → rows_of net (unit.Balancer b d) ≡ []
no_balancer net b d none = ap (λ (o : Option LoadBalancer). flat_map (λ s. on_some o (balancer_rows s (is_online net b) d)) all_stages) none

pub neither : (a b : Bool) → (a || b) ≡ false → (a ≡ false) × (b ≡ false)
neither true b h = absurd (true≢false h)
neither false b h = (refl, h)

pub not_serving : (net : Network) (b d : Name) (x : LoadBalancer) → at net.load_balancers b ≡ Some x → serves_at d x ≡ false → rows_of net (unit.Balancer b d) ≡ []
not_serving net b d x is off =
    let two = neither (is_named d x.switches) (is_named d x.routers) off in
    ap (λ (o : Option LoadBalancer). flat_map (λ s. on_some o (balancer_rows s (is_online net b) d)) all_stages) is
    ∙ (λ i. when (two.1 i) (router_vips (is_online net b) x) ++ (when (two.0 i) (switch_vips (is_online net b) x) ++ []))

-- whether it isn't there or doesn't serve it
pub off_balancer : (net : Network) (b d : Name) → is_balancer_on net b d ≡ false → rows_of net (unit.Balancer b d) ≡ []
off_balancer net b d off = by (at net.load_balancers b) refl off
  where
    by : (o : Option LoadBalancer) → at net.load_balancers b ≡ o → serves_if d o ≡ false → rows_of net (unit.Balancer b d) ≡ []
    by None is off = no_balancer net b d is
    by (Some x) is off = not_serving net b d x is off

pub no_router : (net : Network) (d : Name) → at net.routers d ≡ None → rows_of net (unit.Router d) ≡ []
no_router net d none = ap (λ (o : Option Router). flat_map (λ s. on_some (option_map (translates net) o) (router_rows s)) all_stages) none

-- ---- units that the network admits

pub admits_neighbour : (net : Network) (port : Name) (ip : Ip4) (mac : Mac) → neighbour_named net port ip ≡ Some mac → AdmitsNeighbour net port ip
admits_neighbour net port ip mac is = record { mac = mac; there = is }

pub admits_router : (net : Network) (d : Name) (x : Router) → at net.routers d ≡ Some x → AdmitsRouter net d
admits_router net d x is = record { record_of = x; there = is }

pub admits_balancer : (net : Network) (b d : Name) → is_balancer_on net b d ≡ true → AdmitsBalancer net b d
admits_balancer net b d on = by (at net.load_balancers b) refl on
  where
    by : (o : Option LoadBalancer) → at net.load_balancers b ≡ o → serves_if d o ≡ true → AdmitsBalancer net b d
    by None is h = absurd (false≢true h)
    by (Some x) is h = record { balancer = x; there = is; on = h }

module _ (net : Network) (valid : IsValid net) where
  pub admits_port : (q : Name) (port : SwitchPort) → at net.switch_ports q ≡ Some port → AdmitsSwitchPort net q
  admits_port q port is = record {
    port = port;
    there = is;
    only = among_all (λ (e : Name × SwitchPort). at net.router_ports e.0 ≡ None) (q, port) net.switch_ports valid.ports (at_among net.switch_ports q port is);
    is_port = in_grammar net valid q port is;
  }

  -- ---- records of routers

  router_port_row : (q : Name) (p : RouterPort) → at net.router_ports q ≡ Some p → Among (row.RouterPort p) (records_of net)
  router_port_row q p is =
      let r = row.RouterPort p in
      let own = among_map (λ (e : Name × RouterPort). row.RouterPort e.1) (q, p) net.router_ports (at_among net.router_ports q p is) in
      among_left r _ _ (among_left r _ _ (among_left r _ _ (among_left r _ _ (among_left r _ _ (among_left r _ _ (among_left r _ _ (among_left r _ _ (among_right r _ _ own))))))))

  route_row_of : (q : Name) (x : Route) → at net.routes q ≡ Some x → Among (row.Route x) (records_of net)
  route_row_of q x is =
      let r = row.Route x in
      let own = among_map (λ (e : Name × Route). row.Route e.1) (q, x) net.routes (at_among net.routes q x is) in
      among_left r _ _ (among_left r _ _ (among_left r _ _ (among_right r _ _ own)))

  nat_row_of : (q : Name) (x : Nat) → at net.nats q ≡ Some x → Among (row.Nat x) (records_of net)
  nat_row_of q x is =
      let r = row.Nat x in
      let own = among_map (λ (e : Name × Nat). row.Nat e.1) (q, x) net.nats (at_among net.nats q x is) in
      among_left r _ _ (among_left r _ _ (among_right r _ _ own))

  balancer_row_of : (q : Name) (x : LoadBalancer) → at net.load_balancers q ≡ Some x → Among (row.LoadBalancer x) (records_of net)
  balancer_row_of q x is =
      let r = row.LoadBalancer x in
      let own = among_map (λ (e : Name × LoadBalancer). row.LoadBalancer e.1) (q, x) net.load_balancers (at_among net.load_balancers q x is) in
      among_left r _ _ (among_right r _ _ own)

  fits : (r : Record) → Among r (records_of net) → IsInGrammar r
  fits r m = among_all IsInGrammar r (records_of net) valid.in_grammar m

  pub admits_router_port : (q : Name) (port : RouterPort) → at net.router_ports q ≡ Some port → at net.switch_ports q ≡ None → AdmitsRouterPort net q
  admits_router_port q port is none = record { port = port; there = is; only = none; is_port = fits (row.RouterPort port) (router_port_row q port is) }

  pub admits_route : (q : Name) (x : Route) → at net.routes q ≡ Some x → AdmitsRoute net q
  admits_route q x is = record { route = x; there = is; is_route = fits (row.Route x) (route_row_of q x is) }

  pub admits_nat : (q : Name) (x : Nat) → at net.nats q ≡ Some x → AdmitsNat net q
  admits_nat q x is = record { nat = x; there = is; is_nat = fits (row.Nat x) (nat_row_of q x is) }

  -- what a record names is there
  names_there : (r : Record) → Among r (records_of net) → AreThere net (references_of r)
  names_there r m = among_all (λ (y : Record). AreThere net (references_of y)) r (records_of net) ((unbroken net []).0 valid.unbroken).references m

  -- no port of a router is on a switch
  pub router_port_off : (d : Name) (sw : Switch) → at net.switches d ≡ Some sw → (q : Name) (p : RouterPort) → at net.router_ports q ≡ Some p → p.router ≡ d → ⊥
  router_port_off d sw there q p is on =
      let none = among_all (λ (e : Name × Switch). at net.routers e.0 ≡ None) (d, sw) net.switches valid.datapaths (at_among net.switches d sw there) in
      let named : is_there net kind.Router p.router ≡ true = (names_there (row.RouterPort p) (router_port_row q p is)).0 in
      false≢true (sym (ap (λ (o : Option Router). is_some (option_map row.Router o)) (ap (λ n. at net.routers n) on ∙ none)) ∙ named)

  -- ---- what a rule applies to is there

  rule_row_of : (r : Name) (x : Acl) → at net.acls r ≡ Some x → Among (row.Acl x) (records_of net)
  rule_row_of r x is =
      let own = among_map (λ (e : Name × Acl). row.Acl e.1) (r, x) net.acls (at_among net.acls r x is) in
      let y = row.Acl x in
      among_left y _ _ (among_left y _ _ (among_left y _ _ (among_left y _ _ (among_right y _ _ own))))

  pub admits_rule : (r d : Name) (x : Acl) → at net.acls r ≡ Some x → applies net d x ≡ true → AdmitsRule net r d
  admits_rule r d x is on = record { rule = x; there = is; on = on; is_rule = among_all IsInGrammar (row.Acl x) (records_of net) valid.in_grammar (rule_row_of r x is) }

  pub on_rule : (r d : Name) → is_rule_on net r d ≡ true → AdmitsRule net r d
  on_rule r d on = by (at net.acls r) refl on
    where
      by : (o : Option Acl) → at net.acls r ≡ o → applies_if net d o ≡ true → AdmitsRule net r d
      by None is h = absurd (false≢true h)
      by (Some x) is h = admits_rule r d x is h

  switch_there : (d : Name) → is_there net kind.Switch d ≡ true → (sw : Switch) × (at net.switches d ≡ Some sw)
  switch_there d h = by (at net.switches d) refl h
    where
      by : (o : Option Switch) → at net.switches d ≡ o → is_some (option_map row.Switch o) ≡ true → (sw : Switch) × (at net.switches d ≡ Some sw)
      by None is h = absurd (false≢true h)
      by (Some sw) is h = (sw, is)

  -- the switch that a rule names
  named_there : (r d : Name) (x : Acl) → at net.acls r ≡ Some x → (o : Option Name) → x.switch ≡ o → is_given d o ≡ true → (sw : Switch) × (at net.switches d ≡ Some sw)
  named_there r d x is None e h = absurd (false≢true h)
  named_there r d x is (Some n) e h =
      let whole = ((unbroken net []).0 valid.unbroken).references in
      let refs = among_all (λ (y : Record). AreThere net (references_of y)) (row.Acl x) (records_of net) whole (rule_row_of r x is) in
      let first : Among (kind.Switch, n) (references_of (row.Acl x)) = among_left _ _ _ (among_left _ _ _ (subst (λ o. Among (kind.Switch, n) (to_given kind.Switch o)) (sym e) here)) in
      let sw = switch_there n (among_all (λ (y : _). is_there net y.0 y.1 ≡ true) (kind.Switch, n) (references_of (row.Acl x)) refs first) in
      (sw.0, subst (λ m. at net.switches m ≡ Some sw.0) ((bytes_decides n d).0 h) sw.1)

  -- the switch of a port of the group that it names
  covered_there : (d : Name) (o : Option PortGroup) → covers net d o ≡ true → (sw : Switch) × (at net.switches d ≡ Some sw)
  covered_there d None h = absurd (false≢true h)
  covered_there d (Some group) h =
      let one = any_among (λ (q : SwitchPort). is_named q.name group.ports) (switch_ports_of net d) h in
      let two = filter_among (λ (x : SwitchPort). same_name x.switch d) one.0 (values_of net.switch_ports) one.1 in
      let e = map_among (λ (e : Name × SwitchPort). e.1) one.0 net.switch_ports two.0 in
      let is = among_at e.0.0 e.0.1 net.switch_ports valid.in_order.switch_ports e.1 in
      let sw = on_switch net valid e.0.0 e.0.1 is in
      (sw.0, subst (λ n. at net.switches n ≡ Some sw.0) (ap (λ (q : SwitchPort). q.switch) (sym e.2) ∙ (bytes_decides one.0.switch d).0 two.1) sw.1)

  pub applied_there : (r d : Name) (x : Acl) → at net.acls r ≡ Some x → applies net d x ≡ true → (sw : Switch) × (at net.switches d ≡ Some sw)
  applied_there r d x is on = elim (or_cases (is_given d x.switch) (covers net d (option_and_then (at net.port_groups) x.port_group)) on) [
    | inl named ↦ named_there r d x is x.switch refl named
    | inr covered ↦ covered_there d (option_and_then (at net.port_groups) x.port_group) covered
  ]

  -- ---- what a balancer serves is there

  key_there : {V : Type 0} (as_record : V → Record) (d : Name) (es : List (Name × V)) → is_some (option_map as_record (at es d)) ≡ true → Among d (keys_of es)
  key_there {V} as_record d es h = by (at es d) refl h
    where
      by : (o : Option V) → at es d ≡ o → is_some (option_map as_record o) ≡ true → Among d (keys_of es)
      by None is h = absurd (false≢true h)
      by (Some v) is h = among_map (λ (e : Name × V). e.0) (d, v) es (at_among es d v is)

  served_there : (b d : Name) (x : LoadBalancer) → at net.load_balancers b ≡ Some x → serves_at d x ≡ true → Among d (keys_of net.switches ++ keys_of net.routers)
  served_there b d x is on =
      let refs = names_there (row.LoadBalancer x) (balancer_row_of b x is) in
      elim (or_cases (is_named d x.switches) (is_named d x.routers) on) [
        | inl named ↦
            let n = any_among (λ n. same_name n d) x.switches named in
            let h = among_all (λ (y : Reference). is_there net y.0 y.1 ≡ true) (kind.Switch, n.0) (references_of (row.LoadBalancer x)) refs (among_left (kind.Switch, n.0) (to_each kind.Switch x.switches) (to_each kind.Router x.routers) (among_map (to kind.Switch) n.0 x.switches n.1)) in
            among_left d (keys_of net.switches) (keys_of net.routers) (subst (λ k. Among k (keys_of net.switches)) ((bytes_decides n.0 d).0 n.2) (key_there row.Switch n.0 net.switches h))
        | inr named ↦
            let n = any_among (λ n. same_name n d) x.routers named in
            let h = among_all (λ (y : Reference). is_there net y.0 y.1 ≡ true) (kind.Router, n.0) (references_of (row.LoadBalancer x)) refs (among_right (kind.Router, n.0) (to_each kind.Switch x.switches) (to_each kind.Router x.routers) (among_map (to kind.Router) n.0 x.routers n.1)) in
            among_right d (keys_of net.switches) (keys_of net.routers) (subst (λ k. Among k (keys_of net.routers)) ((bytes_decides n.0 d).0 n.2) (key_there row.Router n.0 net.routers h))
      ]

  -- ---- what has rows

  pub record IsUnit (u : UnitId) : Type 0 where
    pub there : Among u (units_of net)
    pub datapath : Name
    pub on : datapath_of net u ≡ Some datapath

  key_of : {V : Type 0} (n : Name) (v : V) (es : List (Name × V)) → at es n ≡ Some v → Among n (keys_of es)
  key_of n v es is = among_map (λ e. e.0) (n, v) es (at_among es n v is)

  none_among : (u : UnitId) (r : LFlow) → rows_of net u ≡ [] → Among r (rows_of net u) → ⊥
  none_among u r none m = elim (subst (λ rs. Among r rs) none m) [ ]

  port_listed : (q : Name) → Among q (keys_of net.switch_ports ++ keys_of net.router_ports) → Among (unit.Port q) (units_of net)
  port_listed q m =
      let u = unit.Port q in
      among_left u _ _ (among_left u _ _ (among_left u _ _ (among_left u _ _ (among_left u _ _ (among_left u _ _ (among_left u _ _
      (among_map unit.Port q (keys_of net.switch_ports ++ keys_of net.router_ports) m)))))))

  of_port : (q : Name) (o : Option SwitchPort) → at net.switch_ports q ≡ o → (p : Option RouterPort) → at net.router_ports q ≡ p → (r : LFlow) → Among r (rows_of net (unit.Port q)) → IsUnit (unit.Port q)
  of_port q None is None also r m = absurd (none_among (unit.Port q) r (no_port net q is also) m)
  of_port q None is (Some port) also r m = record {
    there = port_listed q (among_right q (keys_of net.switch_ports) _ (key_of q port net.router_ports also));
    datapath = port.router;
    on = λ i. datapath_of_port (is i) (also i);
  }
  of_port q (Some port) is p also r m = record {
    there = port_listed q (among_left q _ _ (key_of q port net.switch_ports is));
    datapath = port.switch;
    on = ap (λ (o : Option SwitchPort). datapath_of_port o (at net.router_ports q)) is;
  }

  of_rule : (a d : Name) (o : Option Acl) → at net.acls a ≡ o → (r : LFlow) → Among r (rows_of net (unit.Rule a d)) → IsUnit (unit.Rule a d)
  of_rule a d None is r m = absurd (none_among (unit.Rule a d) r (no_rule net a d is) m)
  of_rule a d (Some x) is r m = by (applies net d x) refl
    where
      by : (b : Bool) → applies net d x ≡ b → IsUnit (unit.Rule a d)
      by false off = absurd (none_among (unit.Rule a d) r (not_on net a d x is off) m)
      by true on =
          let sw = applied_there a d x is on in
          let mine : Among (unit.Rule a d) (units_of_rule net (a, x)) = among_map (unit.Rule a) d (filter (λ d. applies net d x) (keys_of net.switches)) (among_filter (λ d. applies net d x) d (keys_of net.switches) (key_of d sw.0 net.switches sw.1) on) in
          record {
            there = among_left _ _ _ (among_left _ _ _ (among_left _ _ _ (among_left _ _ _ (among_left _ _ _ (among_left _ _ _ (among_right _ _ _
                (among_flat_map (units_of_rule net) (a, x) (unit.Rule a d) net.acls (at_among net.acls a x is) mine)))))));
            datapath = d;
            on = refl;
          }

  of_route : (q : Name) (o : Option Route) → at net.routes q ≡ o → (r : LFlow) → Among r (rows_of net (unit.Route q)) → IsUnit (unit.Route q)
  of_route q None is r m = absurd (none_among (unit.Route q) r (no_route net q is) m)
  of_route q (Some x) is r m = record {
    there = among_left _ _ _ (among_left _ _ _ (among_left _ _ _ (among_left _ _ _ (among_left _ _ _ (among_right _ _ _ (among_map unit.Route q (keys_of net.routes) (key_of q x net.routes is)))))));
    datapath = x.router;
    on = ap (option_map (λ (x : Route). x.router)) is;
  }

  of_neighbour : (q : Name) (ip : Ip4) (p : Option RouterPort) → at net.router_ports q ≡ p → (o : Option Mac) → option_and_then (λ x. neighbour_of net x ip) p ≡ o
      → (r : LFlow) → Among r (rows_of net (unit.Neighbour q ip)) → IsUnit (unit.Neighbour q ip)
  of_neighbour q ip None also o is r m = absurd (none_among (unit.Neighbour q ip) r (no_neighbour net q ip (ap (option_and_then (λ x. neighbour_of net x ip)) also)) m)
  of_neighbour q ip (Some p) also None is r m = absurd (none_among (unit.Neighbour q ip) r (no_neighbour net q ip (ap (option_and_then (λ x. neighbour_of net x ip)) also ∙ is)) m)
  of_neighbour q ip (Some p) also (Some mac) is r m = record {
    there = neighbour_listed net p ip mac q also is;
    datapath = p.router;
    on = ap (option_map (λ (x : RouterPort). x.router)) also;
  }

  of_nat : (q : Name) (o : Option Nat) → at net.nats q ≡ o → (r : LFlow) → Among r (rows_of net (unit.Nat q)) → IsUnit (unit.Nat q)
  of_nat q None is r m = absurd (none_among (unit.Nat q) r (no_nat net q is) m)
  of_nat q (Some x) is r m = record {
    there = among_left _ _ _ (among_left _ _ _ (among_left _ _ _ (among_right _ _ _ (among_map unit.Nat q (keys_of net.nats) (key_of q x net.nats is)))));
    datapath = x.router;
    on = ap (option_map (λ (x : Nat). x.router)) is;
  }

  of_balancer : (b d : Name) (o : Option LoadBalancer) → at net.load_balancers b ≡ o → (r : LFlow) → Among r (rows_of net (unit.Balancer b d)) → IsUnit (unit.Balancer b d)
  of_balancer b d None is r m = absurd (none_among (unit.Balancer b d) r (no_balancer net b d is) m)
  of_balancer b d (Some x) is r m = by (serves_at d x) refl
    where
      by : (t : Bool) → serves_at d x ≡ t → IsUnit (unit.Balancer b d)
      by false off = absurd (none_among (unit.Balancer b d) r (not_serving net b d x is off) m)
      by true on =
          let names = keys_of net.switches ++ keys_of net.routers in
          let mine : Among (unit.Balancer b d) (units_of_balancer net (b, x)) = among_map (unit.Balancer b) d (filter (λ d. serves_at d x) names) (among_filter (λ d. serves_at d x) d names (served_there b d x is on) on) in
          record {
            there = among_left _ _ _ (among_left _ _ _ (among_right _ _ _ (among_flat_map (units_of_balancer net) (b, x) (unit.Balancer b d) net.load_balancers (at_among net.load_balancers b x is) mine)));
            datapath = d;
            on = refl;
          }

  of_switch : (d : Name) (o : Option Switch) → at net.switches d ≡ o → (r : LFlow) → Among r (rows_of net (unit.Switch d)) → IsUnit (unit.Switch d)
  of_switch d None is r m = absurd (none_among (unit.Switch d) r (no_switch net d is) m)
  of_switch d (Some sw) is r m = record {
    there = among_left _ _ _ (among_right _ _ _ (among_map unit.Switch d (keys_of net.switches) (key_of d sw net.switches is)));
    datapath = d;
    on = refl;
  }

  of_router : (d : Name) (o : Option Router) → at net.routers d ≡ o → (r : LFlow) → Among r (rows_of net (unit.Router d)) → IsUnit (unit.Router d)
  of_router d None is r m = absurd (none_among (unit.Router d) r (no_router net d is) m)
  of_router d (Some x) is r m = record {
    there = among_right _ _ _ (among_map unit.Router d (keys_of net.routers) (key_of d x net.routers is));
    datapath = d;
    on = refl;
  }

  pub with_rows : (u : UnitId) (r : LFlow) → Among r (rows_of net u) → IsUnit u
  with_rows (unit.Port q) r m = of_port q (at net.switch_ports q) refl (at net.router_ports q) refl r m
  with_rows (unit.Rule a d) r m = of_rule a d (at net.acls a) refl r m
  with_rows (unit.Route q) r m = of_route q (at net.routes q) refl r m
  with_rows (unit.Neighbour q ip) r m = of_neighbour q ip (at net.router_ports q) refl (neighbour_named net q ip) refl r m
  with_rows (unit.Nat q) r m = of_nat q (at net.nats q) refl r m
  with_rows (unit.Balancer b d) r m = of_balancer b d (at net.load_balancers b) refl r m
  with_rows (unit.Switch d) r m = of_switch d (at net.switches d) refl r m
  with_rows (unit.Router d) r m = of_router d (at net.routers d) refl r m

  -- what is no unit of the network has none
  pub no_rows_beside : (u : UnitId) → ¬ Among u (units_of net) → rows_of net u ≡ []
  no_rows_beside u out = by (rows_of net u) refl
    where
      by : (rs : List LFlow) → rows_of net u ≡ rs → rs ≡ []
      by [] is = refl
      by (r ∷ rs) is = absurd (out (with_rows u r (subst (λ l. Among r l) (sym is) here)).there)

  -- ---- flows and pairs

  -- a pair of the network is one of some unit
  pub paired_row : (u : UnitId) (p : LFlow × Name) → Among p (pairs_of_unit net u) → (d : Name) × (datapath_of net u ≡ Some d) × Among p.0 (rows_of net u) × (d ≡ p.1)
  paired_row u p m =
      let d = in_some p (datapath_of net u) (λ d. map (λ r. (r, d)) (rows_of net u)) m in
      let r = map_among (λ (r : LFlow). (r, d.0)) p (rows_of net u) d.2 in
      (d.0, d.1, subst (λ (x : LFlow). Among x (rows_of net u)) (sym (ap (λ (x : LFlow × Name). x.0) r.2)) r.1, sym (ap (λ (x : LFlow × Name). x.1) r.2))

  pub row_paired : (u : UnitId) (r : LFlow) (d : Name) → datapath_of net u ≡ Some d → Among r (rows_of net u) → Among (r, d) (pairs_of_unit net u)
  row_paired u r d on m = subst (λ (o : Option Name). Among {X = LFlow × Name} (r, d) (on_some o (λ e. map (λ x. (x, e)) (rows_of net u)))) (sym on) (among_map (λ (x : LFlow). (x, d)) r (rows_of net u) m)

  pub pair_of : (u : UnitId) (p : LFlow × Name) → Among p (pairs_of_unit net u) → IsPairOf net p
  pair_of u p m =
      let x = paired_row u p m in
      record { origin = u; there = (with_rows u p.0 x.2).there; among = x.2; on = x.1 ∙ ap (λ d. Some d) x.3 }

  pub of_pair : (p : LFlow × Name) → IsPairOf net p → (u : UnitId) × Among p (pairs_of_unit net u)
  of_pair p h = (h.origin, row_paired h.origin p.0 p.1 h.on h.among)

  pub flow_of : (u : UnitId) (r : LFlow) → Among r (rows_of net u) → IsLogicalFlow net r
  flow_of u r m =
      let x = with_rows u r m in
      record { datapath = x.datapath; pair = record { origin = u; there = x.there; among = m; on = x.on } }

  pub of_flow : (r : LFlow) → IsLogicalFlow net r → (u : UnitId) × Among r (rows_of net u)
  of_flow r h = (h.pair.origin, h.pair.among)
