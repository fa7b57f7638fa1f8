-- Each datapath that has rows is a switch or a router of the records, and so has a live key.
use Rattle.std.specs.Prelude.{◌≡◌, ◌++◌, Bool, true, List, Option, Some, None, IsSome, option_map, is_some, map}
use Rattle.std.specs.Map.{keys_of}
use Rattle.std.proofs.Common.{refl, sym, ap, ◌∙◌, subst, inl, inr}
use Rattle.std.proofs.lemmas.Bool.{false≢true}
use Rattle.std.proofs.lemmas.Option.{none-some, same_Some}
use Rattle.ovn_base.proofs.AmongLaws.{among_all, among_append, among_left, among_right, among_map, map_among, filter_among, flat_map_among}
use Rattle.ovn_base.proofs.ByNameLaws.{at_among, among_at}
use Rattle.ovn_base.specs.declared.name.Name.{Name}
use Rattle.ovn_base.specs.lists.Among.{Among}
use Rattle.ovn_base.specs.names.ByName.{at, IsByName}
use Rattle.nb_records.specs.Network.{Network, is_there, records_of}
use Rattle.nb_records.specs.Routers.{translates}
use Rattle.nb_records.specs.Switches.{applies, is_stateful, serves_at}
use Rattle.nb_records.specs.declared.kinds.Kind.TheVariants as kind
use Rattle.nb_records.specs.declared.record.Record.{Record}
use Rattle.nb_records.specs.declared.record.Record.TheVariants as row
use Rattle.nb_records.specs.declared.router.Nat.{Nat}
use Rattle.nb_records.specs.declared.router.Route.{Route}
use Rattle.nb_records.specs.declared.router.Router.{Router}
use Rattle.nb_records.specs.declared.router.RouterPort.{RouterPort}
use Rattle.nb_records.specs.declared.switch.Switch.{Switch}
use Rattle.nb_records.specs.declared.switch.SwitchPort.{SwitchPort}
use Rattle.nb_rules.specs.References.{references_of}
use Rattle.nb_rules.specs.Unbroken.{AreThere}
use Rattle.nb_rules.specs.Valid.{IsValid}
use Rattle.logical_flows.specs.declared.flow.LFlow.{LFlow}
use Rattle.logical_flows.specs.declared.stage.Stage.{Stage}
use Rattle.logical_flows.specs.declared.unit.UnitId.{UnitId}
use Rattle.logical_flows.specs.declared.unit.UnitId.TheVariants as unit
use Rattle.stage_rows.specs.SwitchRows.{some_take_unknown}
use Rattle.stage_rows.specs.Units.{IsPairedRow, rows_in, all_stages, switch_rows, router_rows, translates_named, datapath_of, datapath_of_port, units_of, units_of_rule, units_of_balancer, units_of_router_port, port_units, rule_units, neighbour_units, neighbour_ips, balancer_units}
use Rattle.tunnel_keys.proofs.HeldKeys.{is_found}
use Rattle.tunnel_keys.specs.Edits.{IsLive}
use Rattle.tunnel_keys.specs.Keys.{Keys}
use Rattle.tunnel_keys.specs.declared.owner.KeyOwner.{KeyOwner}
use Rattle.net_model.specs.Owners.{owners_of, switch_owner, router_owner}
use Rattle.row_laws.proofs.records.ValidPorts.{whole, on_switch}
use Rattle.row_laws.proofs.suited.SuitedRows.{rows_suited}
use Rattle.row_laws.proofs.units.RowUnits.{in_some}
use Rattle.row_laws.specs.CanLower.{CanLowerLaw}

-- the datapath is one of the records
pub data IsThere (net : Network) (d : Name) : Type 0 where
  as_switch : (x : Switch) → at net.switches d ≡ Some x → IsThere net d
  as_router : (x : Router) → at net.routers d ≡ Some x → IsThere net d

-- a name of entries in order has its value
listed : {X : Type 0} (entries : List (Name × X)) → IsByName entries → (n : Name) → Among n (keys_of entries) → (x : X) × (at entries n ≡ Some x)
listed entries order n m =
    let e = map_among (λ (e : Name × _). e.0) n entries m in
    (e.0.1, ap (λ k. at entries k) e.2 ∙ among_at e.0.0 e.0.1 entries order e.1)

module _ (net : Network) (valid : IsValid net) where
  -- ---- what a record names is there

  names : (x : Record) → Among x (records_of net) → AreThere net (references_of x)
  names x m = among_all (λ (y : Record). AreThere net (references_of y)) x (records_of net) (whole net valid).references m

  router_there : (n : Name) → is_there net kind.Router n ≡ true → IsThere net n
  router_there n h = by (at net.routers n) refl h
    where
      by : (o : Option Router) → at net.routers n ≡ o → is_some (option_map row.Router o) ≡ true → IsThere net n
      by None is k = absurd (false≢true k)
      by (Some x) is k = as_router x is

  port_there : (name : Name) (p : RouterPort) → at net.router_ports name ≡ Some p → IsThere net p.router
  port_there name p is =
      let r = row.RouterPort p in
      let own = among_map (λ (e : Name × RouterPort). row.RouterPort e.1) (name, p) net.router_ports (at_among net.router_ports name p is) in
      router_there p.router (names r (among_left r _ _ (among_left r _ _ (among_left r _ _ (among_left r _ _ (among_left r _ _ (among_left r _ _ (among_left r _ _ (among_left r _ _ (among_right r _ _ own)))))))))).0

  route_there : (name : Name) (x : Route) → at net.routes name ≡ Some x → IsThere net x.router
  route_there name x is =
      let r = row.Route x in
      let own = among_map (λ (e : Name × Route). row.Route e.1) (name, x) net.routes (at_among net.routes name x is) in
      router_there x.router (names r (among_left r _ _ (among_left r _ _ (among_left r _ _ (among_right r _ _ own))))).0

  nat_there : (name : Name) (x : Nat) → at net.nats name ≡ Some x → IsThere net x.router
  nat_there name x is =
      let r = row.Nat x in
      let own = among_map (λ (e : Name × Nat). row.Nat e.1) (name, x) net.nats (at_among net.nats name x is) in
      router_there x.router (names r (among_left r _ _ (among_left r _ _ (among_right r _ _ own)))).0

  -- ---- the datapath of a unit

  of_record : {X : Type 0} (router : X → Name) (entries : List (Name × X)) (q d : Name) (o : Option X) → at entries q ≡ o → option_map router o ≡ Some d → ((x : X) → at entries q ≡ Some x → IsThere net (router x)) → IsThere net d
  of_record router entries q d None is on each = absurd (none-some d on)
  of_record router entries q d (Some x) is on each = subst (IsThere net) (same_Some (router x) d on) (each x is)

  of_port : (q d : Name) (o : Option SwitchPort) → at net.switch_ports q ≡ o → (p : Option RouterPort) → at net.router_ports q ≡ p → datapath_of_port o p ≡ Some d → IsThere net d
  of_port q d (Some port) is p also on = let sw = on_switch net valid q port is in subst (IsThere net) (same_Some port.switch d on) (as_switch sw.0 sw.1)
  of_port q d None is (Some p) also on = subst (IsThere net) (same_Some p.router d on) (port_there q p also)
  of_port q d None is None also on = absurd (none-some d on)

  named_there : (d : Name) → Among d (keys_of net.switches ++ keys_of net.routers) → IsThere net d
  named_there d m = elim (among_append d (keys_of net.switches) (keys_of net.routers) m) [
    | inl n ↦ let x = listed net.switches valid.in_order.switches d n in as_switch x.0 x.1
    | inr n ↦ let x = listed net.routers valid.in_order.routers d n in as_router x.0 x.1
  ]

  rule_there : (a d : Name) → Among (unit.Rule a d) (rule_units net) → IsThere net d
  rule_there a d m =
      let e = flat_map_among (units_of_rule net) (unit.Rule a d) net.acls m in
      let n = map_among (unit.Rule e.0.0) (unit.Rule a d) _ e.2 in
      let same : d ≡ n.0 = same_rule a d e.0.0 n.0 n.2 in
      let f = filter_among (λ k. applies net k e.0.1) n.0 (keys_of net.switches) n.1 in
      let x = listed net.switches valid.in_order.switches n.0 f.0 in
      subst (IsThere net) (sym same) (as_switch x.0 x.1)
    where
      same_rule : (a b c e : Name) → unit.Rule a b ≡ unit.Rule c e → b ≡ e
      same_rule a b c e h = cc

  balancer_there : (b d : Name) → Among (unit.Balancer b d) (balancer_units net) → IsThere net d
  balancer_there b d m =
      let e = flat_map_among (units_of_balancer net) (unit.Balancer b d) net.load_balancers m in
      let n = map_among (unit.Balancer e.0.0) (unit.Balancer b d) _ e.2 in
      let same : d ≡ n.0 = same_balancer b d e.0.0 n.0 n.2 in
      subst (IsThere net) (sym same) (named_there n.0 (filter_among (λ k. serves_at k e.0.1) n.0 (keys_of net.switches ++ keys_of net.routers) n.1).0)
    where
      same_balancer : (a b c e : Name) → unit.Balancer a b ≡ unit.Balancer c e → b ≡ e
      same_balancer a b c e h = cc

  -- ---- rules and balancers among the units

  none_of : {X : Type 0} (g : X → UnitId) (xs : List X) (u : UnitId) → ((x : X) → u ≡ g x → ⊥) → Among u (map g xs) → ⊥
  none_of g xs u none m = let x = map_among g u xs m in none x.0 x.2

  no_rule_neighbour : (u : UnitId) → ((q : Name) (ip : _) → u ≡ unit.Neighbour q ip → ⊥) → Among u (neighbour_units net) → ⊥
  no_rule_neighbour u none m =
      let e = flat_map_among (units_of_router_port net) u net.router_ports m in
      none_of (unit.Neighbour e.0.0) (neighbour_ips net e.0.1) u (none e.0.0) e.2

  rule_part : (a d : Name) → Among (unit.Rule a d) (units_of net) → Among (unit.Rule a d) (rule_units net)
  rule_part a d m = elim (among_append (unit.Rule a d) _ (map unit.Router (keys_of net.routers)) m) [
    | inr n ↦ absurd (none_of unit.Router (keys_of net.routers) (unit.Rule a d) (λ x h. cc) n)
    | inl n1 ↦ elim (among_append (unit.Rule a d) _ (map unit.Switch (keys_of net.switches)) n1) [
      | inr n ↦ absurd (none_of unit.Switch (keys_of net.switches) (unit.Rule a d) (λ x h. cc) n)
      | inl n2 ↦ elim (among_append (unit.Rule a d) _ (balancer_units net) n2) [
        | inr n ↦
            let e = flat_map_among (units_of_balancer net) (unit.Rule a d) net.load_balancers n in
            absurd (none_of (unit.Balancer e.0.0) _ (unit.Rule a d) (λ x h. cc) e.2)
        | inl n3 ↦ elim (among_append (unit.Rule a d) _ (map unit.Nat (keys_of net.nats)) n3) [
          | inr n ↦ absurd (none_of unit.Nat (keys_of net.nats) (unit.Rule a d) (λ x h. cc) n)
          | inl n4 ↦ elim (among_append (unit.Rule a d) _ (neighbour_units net) n4) [
            | inr n ↦ absurd (no_rule_neighbour (unit.Rule a d) (λ q ip h. cc) n)
            | inl n5 ↦ elim (among_append (unit.Rule a d) _ (map unit.Route (keys_of net.routes)) n5) [
              | inr n ↦ absurd (none_of unit.Route (keys_of net.routes) (unit.Rule a d) (λ x h. cc) n)
              | inl n6 ↦ elim (among_append (unit.Rule a d) (port_units net) (rule_units net) n6) [
                | inr n ↦ n
                | inl n ↦ absurd (none_of unit.Port (keys_of net.switch_ports ++ keys_of net.router_ports) (unit.Rule a d) (λ x h. cc) n)
              ]
            ]
          ]
        ]
      ]
    ]
  ]

  balancer_part : (b d : Name) → Among (unit.Balancer b d) (units_of net) → Among (unit.Balancer b d) (balancer_units net)
  balancer_part b d m = elim (among_append (unit.Balancer b d) _ (map unit.Router (keys_of net.routers)) m) [
    | inr n ↦ absurd (none_of unit.Router (keys_of net.routers) (unit.Balancer b d) (λ x h. cc) n)
    | inl n1 ↦ elim (among_append (unit.Balancer b d) _ (map unit.Switch (keys_of net.switches)) n1) [
      | inr n ↦ absurd (none_of unit.Switch (keys_of net.switches) (unit.Balancer b d) (λ x h. cc) n)
      | inl n2 ↦ elim (among_append (unit.Balancer b d) _ (balancer_units net) n2) [
        | inr n ↦ n
        | inl n3 ↦ elim (among_append (unit.Balancer b d) _ (map unit.Nat (keys_of net.nats)) n3) [
          | inr n ↦ absurd (none_of unit.Nat (keys_of net.nats) (unit.Balancer b d) (λ x h. cc) n)
          | inl n4 ↦ elim (among_append (unit.Balancer b d) _ (neighbour_units net) n4) [
            | inr n ↦ absurd (no_rule_neighbour (unit.Balancer b d) (λ q ip h. cc) n)
            | inl n5 ↦ elim (among_append (unit.Balancer b d) _ (map unit.Route (keys_of net.routes)) n5) [
              | inr n ↦ absurd (none_of unit.Route (keys_of net.routes) (unit.Balancer b d) (λ x h. cc) n)
              | inl n6 ↦ elim (among_append (unit.Balancer b d) (port_units net) (rule_units net) n6) [
                | inr n ↦
                    let e = flat_map_among (units_of_rule net) (unit.Balancer b d) net.acls n in
                    absurd (none_of (unit.Rule e.0.0) _ (unit.Balancer b d) (λ x h. cc) e.2)
                | inl n ↦ absurd (none_of unit.Port (keys_of net.switch_ports ++ keys_of net.router_ports) (unit.Balancer b d) (λ x h. cc) n)
              ]
            ]
          ]
        ]
      ]
    ]
  ]

  -- ---- all units

  unit_there : (r : LFlow) (s : Stage) (u : UnitId) (d : Name) → Among u (units_of net) → datapath_of net u ≡ Some d → Among r (rows_in s net u) → IsThere net d
  unit_there r s (unit.Port q) d m on n = of_port q d (at net.switch_ports q) refl (at net.router_ports q) refl on
  unit_there r s (unit.Rule a e) d m on n = subst (IsThere net) (same_Some e d on) (rule_there a e (rule_part a e m))
  unit_there r s (unit.Route q) d m on n = of_record (λ (x : Route). x.router) net.routes q d (at net.routes q) refl on (route_there q)
  unit_there r s (unit.Neighbour q ip) d m on n = of_record (λ (x : RouterPort). x.router) net.router_ports q d (at net.router_ports q) refl on (port_there q)
  unit_there r s (unit.Nat q) d m on n = of_record (λ (x : Nat). x.router) net.nats q d (at net.nats q) refl on (nat_there q)
  unit_there r s (unit.Balancer b e) d m on n = subst (IsThere net) (same_Some e d on) (balancer_there b e (balancer_part b e m))
  unit_there r s (unit.Switch e) d m on n =
      let x = in_some r (at net.switches e) (λ (x : Switch). switch_rows s (is_stateful net e) (some_take_unknown net e)) n in
      subst (IsThere net) (same_Some e d on) (as_switch x.0 x.1)
  unit_there r s (unit.Router e) d m on n =
      let x = in_some r (translates_named net e) (router_rows s) n in
      subst (IsThere net) (same_Some e d on) (by (at net.routers e) refl x.1)
    where
      by : {b : Bool} (o : Option Router) → at net.routers e ≡ o → option_map (translates net) o ≡ Some b → IsThere net e
      by {b = b} None is h = absurd (none-some b h)
      by (Some x) is h = as_router x is

  pub there : (r : LFlow) (d : Name) → IsPairedRow net r d → IsThere net d
  there r d pair =
      let m = flat_map_among (λ s. rows_in s net pair.origin) r all_stages pair.among in
      unit_there r m.0 pair.origin d pair.there pair.on m.2

  live_by : (keys : Keys) → ((o : KeyOwner) → Among o (owners_of net) → IsLive keys o) → (d : Name) → IsThere net d → IsSome (at keys.datapaths d)
  live_by keys each d (as_switch x is) =
      let o = switch_owner (d, x) in
      let k = each o (among_left o _ _ (among_left o _ _ (among_left o _ _ (among_map switch_owner (d, x) net.switches (at_among net.switches d x is))))) in
      is_found (at keys.datapaths d) _ k.1
  live_by keys each d (as_router x is) =
      let o = router_owner (d, x) in
      let k = each o (among_left o _ _ (among_left o _ _ (among_right o _ _ (among_map router_owner (d, x) net.routers (at_among net.routers d x is))))) in
      is_found (at keys.datapaths d) _ k.1

pub can_lower : CanLowerLaw
can_lower net keys valid hold each = record { hold = hold; live = λ r d pair. live_by net valid keys each d (there net valid r d pair); suited = rows_suited net valid }
