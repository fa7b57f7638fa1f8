-- Of which unit a row of a switch's table is, and that the rows of a unit are rows of the table.
use Rattle.std.specs.Prelude.{◌≡◌, ◌++◌, ℕ, Bool, true, false, List, [], ◌∷◌, filter, Option, Some, None, option_map, is_some, nat_eq}
use Rattle.std.specs.List.{find}
use Rattle.std.specs.Map.{keys_of}
use Rattle.std.proofs.Common.{refl, sym, ap, ◌∙◌, subst, inl, inr}
use Rattle.std.proofs.lemmas.Bool.{false≢true, cases_Bool}
use Rattle.std.proofs.lemmas.Option.{none-some, same_Some}
use Rattle.ovn_base.proofs.AmongLaws.{among_all, among_left, among_right, among_map, among_filter, among_flat_map, flat_map_among, any_among}
use Rattle.ovn_base.proofs.ByNameLaws.{at_among}
use Rattle.ovn_base.specs.declared.name.Name.{Name}
use Rattle.ovn_base.specs.lists.Among.{Among, here, there}
use Rattle.ovn_base.specs.names.ByName.{at}
use Rattle.ovn_base.specs.names.SameName.{same_name, bytes_decides}
use Rattle.nb_records.specs.Network.{Network, is_online, is_there, records_of}
use Rattle.nb_records.specs.Routers.{translates}
use Rattle.nb_records.specs.Switches.{applies, is_named, is_stateful, serves_at}
use Rattle.nb_records.specs.declared.balancer.LoadBalancer.{LoadBalancer}
use Rattle.nb_records.specs.declared.kinds.Kind.TheVariants as kind
use Rattle.nb_records.specs.declared.record.Record.{Record}
use Rattle.nb_records.specs.declared.record.Record.TheVariants as row
use Rattle.nb_records.specs.declared.router.Nat.{Nat}
use Rattle.nb_records.specs.declared.router.Route.{Route}
use Rattle.nb_records.specs.declared.router.Router.{Router}
use Rattle.nb_records.specs.declared.router.RouterPort.{RouterPort}
use Rattle.nb_records.specs.declared.rule.Acl.{Acl}
use Rattle.nb_records.specs.declared.switch.Switch.{Switch}
use Rattle.nb_records.specs.declared.switch.SwitchPort.{SwitchPort}
use Rattle.nb_rules.proofs.Validity.{unbroken}
use Rattle.nb_rules.specs.References.{references_of, to, to_each}
use Rattle.nb_rules.specs.Unbroken.{AreThere, AreUnbroken}
use Rattle.nb_rules.specs.Valid.{IsValid}
use Rattle.logical_flows.specs.Stages.{stage_table}
use Rattle.logical_flows.specs.declared.flow.LFlow.{LFlow}
use Rattle.logical_flows.specs.declared.stage.Stage.{Stage}
use Rattle.logical_flows.specs.declared.stage.Stage.TheVariants as stage
use Rattle.logical_flows.specs.declared.unit.UnitId.{UnitId}
use Rattle.logical_flows.specs.declared.unit.UnitId.TheVariants as unit
use Rattle.stage_rows.specs.Rows.{on_some, when}
use Rattle.stage_rows.specs.SwitchRows.{some_take_unknown}
use Rattle.stage_rows.specs.Units.{switch_port_rows, rule_rows, balancer_rows, switch_rows, port_rows, rows_in, rows_of, all_stages, router_rows, translates_named, datapath_of, datapath_of_port, units_of_rule, units_of_balancer}
use Rattle.row_laws.proofs.units.StageRows.{is_of_switches, IsOf, port_rows_are, rule_rows_are, balancer_rows_are, switch_rows_are}
use Rattle.row_laws.specs.Rows.{IsRowIn}

-- ---- lists

pub in_some : {X Y : Type 0} (y : Y) (o : Option X) (f : X → List Y) → Among y (on_some o f) → (x : X) × (o ≡ Some x) × Among y (f x)
in_some y None f m = elim m [ ]
in_some y (Some x) f m = (x, refl, m)

pub some_in : {X Y : Type 0} (y : Y) (o : Option X) (f : X → List Y) (x : X) → o ≡ Some x → Among y (f x) → Among y (on_some o f)
some_in y o f x is m = subst (λ o. Among y (on_some o f)) (sym is) m

pub in_when : {Y : Type 0} (y : Y) (b : Bool) (ys : List Y) → Among y (when b ys) → (b ≡ true) × Among y ys
in_when y true ys m = (refl, m)
in_when y false ys m = elim m [ ]

pub when_in : {Y : Type 0} (y : Y) (b : Bool) (ys : List Y) → b ≡ true → Among y ys → Among y (when b ys)
when_in y b ys is m = subst (λ t. Among y (when t ys)) (sym is) m

-- ---- stages

in_all : (s : Stage) → Among s all_stages
in_all stage.SwitchAdmit = here
in_all stage.RouterAdmit = there here
in_all stage.SwitchPortSecurity = there (there here)
in_all stage.RouterInput = there (there (there here))
in_all stage.SwitchTrack = there (there (there (there here)))
in_all stage.RouterUndo = there (there (there (there (there here))))
in_all stage.SwitchAclIn = there (there (there (there (there (there here)))))
in_all stage.RouterDnat = there (there (there (there (there (there (there here))))))
in_all stage.SwitchStateIn = there (there (there (there (there (there (there (there here)))))))
in_all stage.RouterOwn = there (there (there (there (there (there (there (there (there here))))))))
in_all stage.SwitchArp = there (there (there (there (there (there (there (there (there (there here)))))))))
in_all stage.RouterRoute = there (there (there (there (there (there (there (there (there (there (there here))))))))))
in_all stage.SwitchLookup = there (there (there (there (there (there (there (there (there (there (there (there here)))))))))))
in_all stage.RouterNeighbour = there (there (there (there (there (there (there (there (there (there (there (there (there here))))))))))))
in_all stage.SwitchTrackOut = there (there (there (there (there (there (there (there (there (there (there (there (there (there here)))))))))))))
in_all stage.RouterFind = there (there (there (there (there (there (there (there (there (there (there (there (there (there (there here))))))))))))))
in_all stage.SwitchAclOut = there (there (there (there (there (there (there (there (there (there (there (there (there (there (there (there here)))))))))))))))
in_all stage.RouterSnat = there (there (there (there (there (there (there (there (there (there (there (there (there (there (there (there (there here))))))))))))))))
in_all stage.SwitchStateOut = there (there (there (there (there (there (there (there (there (there (there (there (there (there (there (there (there (there here)))))))))))))))))
in_all stage.SwitchSecurityOut = there (there (there (there (there (there (there (there (there (there (there (there (there (there (there (there (there (there (there here))))))))))))))))))

abbrev switch_stages : List Stage
switch_stages =
    stage.SwitchAdmit ∷ stage.SwitchPortSecurity ∷ stage.SwitchTrack ∷ stage.SwitchAclIn ∷ stage.SwitchStateIn ∷ stage.SwitchArp ∷ stage.SwitchLookup ∷ stage.SwitchTrackOut ∷ stage.SwitchAclOut
    ∷ stage.SwitchStateOut ∷ stage.SwitchSecurityOut ∷ []

-- the stage of switches that has the table
abbrev of_table : ℕ → Option Stage
of_table n = find (λ x. nat_eq (stage_table x) n) switch_stages

own_table : (s : Stage) → is_of_switches s ≡ true → of_table (stage_table s) ≡ Some s
own_table stage.SwitchAdmit h = refl
own_table stage.SwitchPortSecurity h = refl
own_table stage.SwitchTrack h = refl
own_table stage.SwitchAclIn h = refl
own_table stage.SwitchStateIn h = refl
own_table stage.SwitchArp h = refl
own_table stage.SwitchLookup h = refl
own_table stage.SwitchTrackOut h = refl
own_table stage.SwitchAclOut h = refl
own_table stage.SwitchStateOut h = refl
own_table stage.SwitchSecurityOut h = refl
own_table _ h = absurd (false≢true h)

-- two stages of switches that have one table are one
same_stage : (s t : Stage) → is_of_switches s ≡ true → is_of_switches t ≡ true → stage_table s ≡ stage_table t → s ≡ t
same_stage s t of also e = same_Some s t (sym (own_table s of) ∙ ap of_table e ∙ own_table t also)

-- a row of a stage of switches that stands in the table of another is of that
placed : (s t : Stage) (r : LFlow) → is_of_switches s ≡ true → IsOf t r → stage_table r.stage ≡ stage_table s → t ≡ s
placed s t r of is e = same_stage t s is.1 of (ap stage_table (sym is.0) ∙ e)

-- ---- the units

-- the units of a switch of which a row of the stage may be
pub data SwitchRow (net : Network) (s : Stage) (d : Name) (r : LFlow) : Type 0 where
  by_port : (q : Name) (port : SwitchPort) → at net.switch_ports q ≡ Some port → port.switch ≡ d → Among r (switch_port_rows s net port) → SwitchRow net s d r
  by_rule : (a : Name) (x : Acl) → at net.acls a ≡ Some x → applies net d x ≡ true → Among r (rule_rows s x) → SwitchRow net s d r
  by_balancer : (b : Name) (x : LoadBalancer) → at net.load_balancers b ≡ Some x → Among r (balancer_rows s (is_online net b) d x) → SwitchRow net s d r
  by_switch : Among r (switch_rows s (is_stateful net d) (some_take_unknown net d)) → SwitchRow net s d r

-- ---- nothing of a router is on a switch

module _ (net : Network) (valid : IsValid net) (d : Name) (sw : Switch) (is_switch : at net.switches d ≡ Some sw) where
  whole : AreUnbroken net
  whole = (unbroken net []).0 valid.unbroken

  no_router : at net.routers d ≡ None
  no_router = among_all (λ (e : Name × Switch). at net.routers e.0 ≡ None) (d, sw) net.switches valid.datapaths (at_among net.switches d sw is_switch)

  not_there : (n : Name) → is_there net kind.Router n ≡ true → n ≡ d → ⊥
  not_there n h same = false≢true (sym (ap (λ (o : Option Router). is_some (option_map row.Router o)) (ap (λ m. at net.routers m) same ∙ no_router)) ∙ h)

  -- what a record names is there
  names : (x : Record) → Among x (records_of net) → AreThere net (references_of x)
  names x m = among_all (λ (y : Record). AreThere net (references_of y)) x (records_of net) whole.references m

  port_off : (q : Name) (p : RouterPort) → at net.router_ports q ≡ Some p → p.router ≡ d → ⊥
  port_off q p is on =
      let r = row.RouterPort p in
      let own = among_map (λ (e : Name × RouterPort). row.RouterPort e.1) (q, p) net.router_ports (at_among net.router_ports q p is) in
      not_there p.router (names r (among_left r _ _ (among_left r _ _ (among_left r _ _ (among_left r _ _ (among_left r _ _ (among_left r _ _ (among_left r _ _ (among_left r _ _ (among_right r _ _ own)))))))))).0 on

  route_off : (q : Name) (x : Route) → at net.routes q ≡ Some x → x.router ≡ d → ⊥
  route_off q x is on =
      let r = row.Route x in
      let own = among_map (λ (e : Name × Route). row.Route e.1) (q, x) net.routes (at_among net.routes q x is) in
      not_there x.router (names r (among_left r _ _ (among_left r _ _ (among_left r _ _ (among_right r _ _ own))))).0 on

  nat_off : (q : Name) (x : Nat) → at net.nats q ≡ Some x → x.router ≡ d → ⊥
  nat_off q x is on =
      let r = row.Nat x in
      let own = among_map (λ (e : Name × Nat). row.Nat e.1) (q, x) net.nats (at_among net.nats q x is) in
      not_there x.router (names r (among_left r _ _ (among_left r _ _ (among_right r _ _ own)))).0 on

  pub balancer_off : (q : Name) (x : LoadBalancer) → at net.load_balancers q ≡ Some x → is_named d x.routers ≡ true → ⊥
  balancer_off q x is on =
      let r = row.LoadBalancer x in
      let own = among_map (λ (e : Name × LoadBalancer). row.LoadBalancer e.1) (q, x) net.load_balancers (at_among net.load_balancers q x is) in
      let n = any_among (λ n. same_name n d) x.routers on in
      let named = among_all (λ (y : _). is_there net y.0 y.1 ≡ true) (kind.Router, n.0) (references_of r) (names r (among_left r _ _ (among_right r _ _ own)))
      (among_right (kind.Router, n.0) (to_each kind.Switch x.switches) (to_each kind.Router x.routers) (among_map (to kind.Router) n.0 x.routers n.1)) in
      not_there n.0 named ((bytes_decides n.0 d).0 n.2)

  -- ---- of which unit a row is

  module _ (s : Stage) (of : is_of_switches s ≡ true) (r : LFlow) (in_table : stage_table r.stage ≡ stage_table s) where
    of_port : (t : Stage) (q : Name) (o : Option SwitchPort) → at net.switch_ports q ≡ o → (p : Option RouterPort) → at net.router_ports q ≡ p → datapath_of_port o p ≡ Some d → Among r (port_rows t net o p) → SwitchRow net s d r
    of_port t q (Some port) is p other on m =
        let stage = placed s t r of (among_all (IsOf t) r (switch_port_rows t net port) (port_rows_are t net port) m) in_table in
        by_port q port is (same_Some port.switch d on) (subst (λ x. Among r (switch_port_rows x net port)) stage m)
    of_port t q None is (Some p) other on m = absurd (port_off q p other (same_Some p.router d on))
    of_port t q None is None other on m = elim m [ ]

    of_rule : (t : Stage) (a e : Name) → e ≡ d → Among r (rows_in t net (unit.Rule a e)) → SwitchRow net s d r
    of_rule t a e on m =
        let x = in_some r (at net.acls a) (λ (x : Acl). when (applies net e x) (rule_rows t x)) m in
        let there' = in_when r (applies net e x.0) (rule_rows t x.0) x.2 in
        let stage = placed s t r of (among_all (IsOf t) r (rule_rows t x.0) (rule_rows_are t x.0) there'.1) in_table in
        by_rule a x.0 x.1 (subst (λ n. applies net n x.0 ≡ true) on there'.0) (subst (λ y. Among r (rule_rows y x.0)) stage there'.1)

    -- a balancer's row that is none of a stage of switches is one of a router that it serves
    on_router : (t : Stage) (b e : Name) (x : LoadBalancer) → is_of_switches t ≡ false → Among r (balancer_rows t (is_online net b) e x) → is_named e x.routers ≡ true
    on_router stage.SwitchStateIn b e x h m = absurd cc
    on_router stage.RouterDnat b e x h m = (in_when r (is_named e x.routers) _ m).0
    on_router _ b e x h m = elim m [ ]

    of_balancer : (t : Stage) (b e : Name) → e ≡ d → Among r (rows_in t net (unit.Balancer b e)) → SwitchRow net s d r
    of_balancer t b e on m =
        let x = in_some r (at net.load_balancers b) (balancer_rows t (is_online net b) e) m in
        elim (cases_Bool (is_of_switches t)) [
          | inl also ↦
              let stage = placed s t r of (among_all (IsOf t) r (balancer_rows t (is_online net b) e x.0) (balancer_rows_are t also (is_online net b) e x.0) x.2) in_table in
              by_balancer b x.0 x.1 (subst (λ n. Among r (balancer_rows s (is_online net b) n x.0)) on (subst (λ y. Among r (balancer_rows y (is_online net b) e x.0)) stage x.2))
          | inr other ↦ absurd (balancer_off b x.0 x.1 (subst (λ n. is_named n x.0.routers ≡ true) on (on_router t b e x.0 other x.2)))
        ]

    of_switch : (t : Stage) (e : Name) → e ≡ d → Among r (rows_in t net (unit.Switch e)) → SwitchRow net s d r
    of_switch t e on m =
        let x = in_some r (at net.switches e) (λ (x : Switch). switch_rows t (is_stateful net e) (some_take_unknown net e)) m in
        let stage = placed s t r of (among_all (IsOf t) r (switch_rows t (is_stateful net e) (some_take_unknown net e)) (switch_rows_are t (is_stateful net e) (some_take_unknown net e)) x.2) in_table in
        by_switch (subst (λ n. Among r (switch_rows s (is_stateful net n) (some_take_unknown net n))) on (subst (λ y. Among r (switch_rows y (is_stateful net e) (some_take_unknown net e))) stage x.2))

    no_rows : (t : Stage) (e : Name) → e ≡ d → Among r (rows_in t net (unit.Router e)) → SwitchRow net s d r
    no_rows t e on m =
        let x = in_some r (translates_named net e) (router_rows t) m in
        absurd (none-some x.0 (sym (ap (λ (o : Option Router). option_map (translates net) o) (ap (λ n. at net.routers n) on ∙ no_router)) ∙ x.1))

    -- the router of a record that is on the datapath
    off : {X : Type 0} (router : X → Name) (entries : List (Name × X)) (q : Name) (o : Option X) → at entries q ≡ o → option_map router o ≡ Some d → ((x : X) → at entries q ≡ Some x → router x ≡ d → ⊥) → ⊥
    off router entries q None is on none = none-some d on
    off router entries q (Some x) is on none = none x is (same_Some (router x) d on)

    of_unit : (t : Stage) (u : UnitId) → datapath_of net u ≡ Some d → Among r (rows_in t net u) → SwitchRow net s d r
    of_unit t (unit.Port q) on m = of_port t q (at net.switch_ports q) refl (at net.router_ports q) refl on m
    of_unit t (unit.Rule a e) on m = of_rule t a e (same_Some e d on) m
    of_unit t (unit.Route q) on m = absurd (off (λ (x : Route). x.router) net.routes q (at net.routes q) refl on (route_off q))
    of_unit t (unit.Neighbour q ip) on m = absurd (off (λ (x : RouterPort). x.router) net.router_ports q (at net.router_ports q) refl on (port_off q))
    of_unit t (unit.Nat q) on m = absurd (off (λ (x : Nat). x.router) net.nats q (at net.nats q) refl on (nat_off q))
    of_unit t (unit.Balancer b e) on m = of_balancer t b e (same_Some e d on) m
    of_unit t (unit.Switch e) on m = of_switch t e (same_Some e d on) m
    of_unit t (unit.Router e) on m = no_rows t e (same_Some e d on) m

  -- a row of the table is one of these units
  pub row_unit : (s : Stage) → is_of_switches s ≡ true → (r : LFlow) → IsRowIn net (stage_table s) d r → SwitchRow net s d r
  row_unit s of r is =
      let m = flat_map_among (λ t. rows_in t net is.pair.origin) r all_stages is.pair.among in
      of_unit s of r is.in_table m.0 is.pair.origin is.pair.on m.2

-- ---- rows of units are rows of the table

module _ (net : Network) (s : Stage) (r : LFlow) where
  pub rows_among : (u : UnitId) → Among r (rows_in s net u) → Among r (rows_of net u)
  rows_among u m = among_flat_map (λ t. rows_in t net u) s r all_stages (in_all s) m

  pub a_port_row : (d q : Name) (port : SwitchPort) → at net.switch_ports q ≡ Some port → port.switch ≡ d → Among r (switch_port_rows s net port) → IsRowIn net (stage_table s) d r
  a_port_row d q port is on m = record {
    pair = record {
      origin = unit.Port q;
      there =
          let u = unit.Port q in
          let own = among_map unit.Port q (keys_of net.switch_ports ++ keys_of net.router_ports) (among_left q (keys_of net.switch_ports) (keys_of net.router_ports) (among_map (λ (e : Name × SwitchPort). e.0) (q, port) net.switch_ports (at_among net.switch_ports q port is))) in
          among_left u _ _ (among_left u _ _ (among_left u _ _ (among_left u _ _ (among_left u _ _ (among_left u _ _ (among_left u _ _ own))))));
      among = rows_among (unit.Port q) (subst (λ o. Among r (port_rows s net o (at net.router_ports q))) (sym is) m);
      on = ap (λ o. datapath_of_port o (at net.router_ports q)) is ∙ ap (λ n. Some n) on;
    };
    in_table = ap stage_table (among_all (IsOf s) r (switch_port_rows s net port) (port_rows_are s net port) m).0;
  }

  pub a_switch_row : (d : Name) (sw : Switch) → at net.switches d ≡ Some sw → Among r (switch_rows s (is_stateful net d) (some_take_unknown net d)) → IsRowIn net (stage_table s) d r
  a_switch_row d sw is m = record {
    pair = record {
      origin = unit.Switch d;
      there =
          let u = unit.Switch d in
          among_left u _ _ (among_right u _ _ (among_map unit.Switch d (keys_of net.switches) (among_map (λ (e : Name × Switch). e.0) (d, sw) net.switches (at_among net.switches d sw is))));
      among = rows_among (unit.Switch d) (some_in r (at net.switches d) (λ (x : Switch). switch_rows s (is_stateful net d) (some_take_unknown net d)) sw is m);
      on = refl;
    };
    in_table = ap stage_table (among_all (IsOf s) r (switch_rows s (is_stateful net d) (some_take_unknown net d)) (switch_rows_are s (is_stateful net d) (some_take_unknown net d)) m).0;
  }

  pub a_balancer_row : (d : Name) (sw : Switch) → at net.switches d ≡ Some sw → is_of_switches s ≡ true → (b : Name) (x : LoadBalancer) → at net.load_balancers b ≡ Some x → serves_at d x ≡ true
      → Among r (balancer_rows s (is_online net b) d x) → IsRowIn net (stage_table s) d r
  a_balancer_row d sw there' of b x is serves m = record {
    pair = record {
      origin = unit.Balancer b d;
      there =
          let u = unit.Balancer b d in
          let names = keys_of net.switches ++ keys_of net.routers in
          let served = among_filter (λ e. serves_at e x) d names (among_left d (keys_of net.switches) (keys_of net.routers) (among_map (λ (e : Name × Switch). e.0) (d, sw) net.switches (at_among net.switches d sw there'))) serves in
          let own = among_flat_map (units_of_balancer net) (b, x) u net.load_balancers (at_among net.load_balancers b x is) (among_map (unit.Balancer b) d _ served) in
          among_left u _ _ (among_left u _ _ (among_right u _ _ own));
      among = rows_among (unit.Balancer b d) (some_in r (at net.load_balancers b) (balancer_rows s (is_online net b) d) x is m);
      on = refl;
    };
    in_table = ap stage_table (among_all (IsOf s) r (balancer_rows s (is_online net b) d x) (balancer_rows_are s of (is_online net b) d x) m).0;
  }

  pub a_rule_row : (d : Name) (sw : Switch) → at net.switches d ≡ Some sw → (a : Name) (x : Acl) → at net.acls a ≡ Some x → applies net d x ≡ true → Among r (rule_rows s x) → IsRowIn net (stage_table s) d r
  a_rule_row d sw there' a x is on m = record {
    pair = record {
      origin = unit.Rule a d;
      there =
          let u = unit.Rule a d in
          let named = among_filter (λ e. applies net e x) d (keys_of net.switches) (among_map (λ (e : Name × Switch). e.0) (d, sw) net.switches (at_among net.switches d sw there')) on in
          let own = among_flat_map (units_of_rule net) (a, x) u net.acls (at_among net.acls a x is) (among_map (unit.Rule a) d (filter (λ e. applies net e x) (keys_of net.switches)) named) in
          among_left u _ _ (among_left u _ _ (among_left u _ _ (among_left u _ _ (among_left u _ _ (among_left u _ _ (among_right u _ _ own))))));
      among = rows_among (unit.Rule a d) (some_in r (at net.acls a) (λ (y : Acl). when (applies net d y) (rule_rows s y)) x is (when_in r (applies net d x) (rule_rows s x) on m));
      on = refl;
    };
    in_table = ap stage_table (among_all (IsOf s) r (rule_rows s x) (rule_rows_are s x) m).0;
  }
