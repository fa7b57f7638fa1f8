-- An edit leaves every unit lowered to the same flows but those that are touched.
use Rattle.std.specs.Prelude.{◌≡◌, ◌⊎◌, ◌++◌, ◌||◌, Bool, true, false, cond, List, [], ◌∷◌, map, filter, Option, Some, None, is_some, option_map}
use Rattle.std.specs.List.{list_any}
use Rattle.std.specs.Map.{keys_of, values_of}
use Rattle.std.proofs.Common.{refl, sym, ap, ◌∙◌, subst, inl, inr}
use Rattle.std.proofs.lemmas.Bool.{false≢true, true≢false, or_left, or_right}
use Rattle.std.proofs.lemmas.Option.{none-some, same_Some}
use Rattle.ovn_base.proofs.AmongLaws.{among_append, among_cases, among_filter, among_filter_map, among_flat_map, among_left, among_map, among_none, among_right, among_same, flat_map_among, map_among}
use Rattle.ovn_base.proofs.ByNameLaws.{at_among, one_or_two}
use Rattle.ovn_base.proofs.SameEntries.{same_found}
use Rattle.ovn_base.specs.declared.name.Name.{Name}
use Rattle.ovn_base.specs.lists.Among.{Among, here, there}
use Rattle.ovn_base.specs.names.ByName.{at}
use Rattle.ovn_base.specs.names.SameName.{bytes_decides, same_name}
use Rattle.address_sets.specs.Members.{sets_of}
use Rattle.match_cubes.proofs.TernaryLaws.{same_tests}
use Rattle.tunnel_keys.proofs.Lists.{at_filter, filter_at, filter_sorted}
use Rattle.tunnel_keys.specs.Keys.{ports_on}
use Rattle.tunnel_keys.specs.declared.owner.PortKey.{PortKey}
use Rattle.nb_records.specs.Network.{Network}
use Rattle.nb_records.specs.Switches.{applies, has_balancer, has_some, is_stateful, serves_at, switch_ports_of, takes_unknown}
use Rattle.nb_records.specs.declared.record.Record.TheVariants as row
use Rattle.nb_records.specs.declared.router.RouterPort.{RouterPort}
use Rattle.nb_records.specs.declared.rule.Acl.{Acl}
use Rattle.nb_records.specs.declared.switch.Switch.{Switch}
use Rattle.nb_records.specs.declared.switch.SwitchPort.{SwitchPort}
use Rattle.nb_rules.specs.Valid.{IsValid}
use Rattle.logical_flows.specs.declared.fact.Fact.{Fact}
use Rattle.logical_flows.specs.declared.fact.Fact.TheVariants as fact
use Rattle.logical_flows.specs.declared.unit.UnitId.{UnitId}
use Rattle.logical_flows.specs.declared.unit.UnitId.TheVariants as unit
use Rattle.stage_rows.specs.Facts.{answered_if}
use Rattle.stage_rows.specs.Reads.{Agree, port_reads, router_port_reads}
use Rattle.stage_rows.specs.Rows.{on_some}
use Rattle.stage_rows.specs.SwitchRows.{some_take_unknown}
use Rattle.stage_rows.specs.Units.{datapath_of, datapath_of_port, rows_of, rule_units, units_of, units_of_rule}
use Rattle.flow_lowering.specs.LoweredFlows.{live_datapath_key}
use Rattle.row_laws.proofs.records.ValidPorts.{on_switch}
use Rattle.northd_core.specs.Lowering.{Lowering, CanCompile, lowered_of}
use Rattle.northd_core.specs.Routed.{routed_units}
use Rattle.northd_core.specs.RulesOn.{applies_if, is_rule_on}
use Rattle.northd_core.specs.Touched.{IsPortOf, IsSameButFor, TouchedLaw, as_switch, beside_routers, is_on_either, is_other, ports_at, ports_to_routers, rule_touched, rules_at, switches_in, switches_of_rule, switches_touched, touched_rows, turned_at, turns}
use Rattle.northd_core.specs.Untouched.{IsUntouched}
use Rattle.northd_core.proofs.Joined.{kinds}
use Rattle.northd_core.proofs.RowUnits.{applied_there, neither, no_port, no_rows_beside, no_rule, no_switch, off_rule, router_port_off}
use Rattle.northd_core.proofs.untouched.SameRules.{key_owner, router_key_owner, stateful_too}
use Rattle.northd_core.proofs.untouched.SameUnits.{both_none, untouched_stay}

-- ---- tests and lists

-- a name is among the names, or isn't
among_or_not : (n : Name) (names : List Name) → Among n names ⊎ (¬ Among n names)
among_or_not n [] = inr (among_none n)
among_or_not n (m ∷ ms) = elim (one_or_two n m) [
  | inl same ↦ inl (among_same n m ms same)
  | inr apart ↦ elim (among_or_not n ms) [
    | inl later ↦ inl (there later)
    | inr none ↦ inr (λ x. elim (among_cases n m ms x) [ inl same ↦ apart same | inr later ↦ none later ])
  ]
]

-- a test that can't be true is false
false_unless : (b : Bool) → ¬ (b ≡ true) → b ≡ false
false_unless true h = absurd (h refl)
false_unless false h = refl

-- there is none where none can be
none_unless : {X : Type 0} (o : Option X) → ((x : X) → ¬ (o ≡ Some x)) → o ≡ None
none_unless None h = refl
none_unless (Some x) h = absurd (h x refl)

-- two tests are one that are one even if they differ
same_unless : (a b : Bool) → (is_other a b ≡ true → a ≡ b) → a ≡ b
same_unless true true h = refl
same_unless true false h = h refl
same_unless false true h = h refl
same_unless false false h = refl

-- a list that has none is empty
has_none : {X : Type 0} (xs : List X) → has_some xs ≡ false → xs ≡ []
has_none [] h = refl
has_none (x ∷ xs) h = absurd (true≢false h)

-- the values of what passes are the values that pass
values_filtered : (test : SwitchPort → Bool) (es : List (Name × SwitchPort)) → values_of (filter (λ e. test e.1) es) ≡ filter test (values_of es)
values_filtered test [] = refl
values_filtered test (e ∷ es) = by (test e.1) (values_filtered test es)
  where
    by : (b : Bool) → values_of (filter (λ f. test f.1) es) ≡ filter test (values_of es)
        → values_of (cond b (e ∷ filter (λ f. test f.1) es) (filter (λ f. test f.1) es)) ≡ cond b (e.1 ∷ filter test (values_of es)) (filter test (values_of es))
    by true rest = ap (λ qs. e.1 ∷ qs) rest
    by false rest = rest

-- the switch to which a rule applies is there
switch_record : (net : Network) → IsValid net → (r d : Name) → is_rule_on net r d ≡ true → (sw : Switch) × (at net.switches d ≡ Some sw)
switch_record net valid r d on = by (at net.acls r) refl on
  where
    by : (o : Option Acl) → at net.acls r ≡ o → applies_if net d o ≡ true → (sw : Switch) × (at net.switches d ≡ Some sw)
    by None is h = absurd (false≢true h)
    by (Some x) is h = applied_there net valid r d x is h

-- the name of a switch that is there
switch_listed : (net : Network) (d : Name) (sw : Switch) → at net.switches d ≡ Some sw → Among d (keys_of net.switches)
switch_listed net d sw is = among_map (λ (e : Name × Switch). e.0) (d, sw) net.switches (at_among net.switches d sw is)

-- a rule has no rows on a switch that isn't there
rule_nowhere : (net : Network) → IsValid net → (r d : Name) → at net.switches d ≡ None → rows_of net (unit.Rule r d) ≡ []
rule_nowhere net valid r d none = off_rule net r d (false_unless (is_rule_on net r d) (λ on. let sw = switch_record net valid r d on in none-some sw.0 (sym none ∙ sw.1)))

-- the unit of a router's port
port_routed : (net : Network) (q : Name) (p : RouterPort) → at net.router_ports q ≡ Some p → Among (unit.Port q) (routed_units net)
port_routed net q p is =
    let u = unit.Port q in
    among_left u _ _ (among_left u _ _ (among_left u _ _ (among_left u _ _ (among_left u _ _
    (among_map unit.Port q (keys_of net.router_ports) (among_map (λ (e : Name × RouterPort). e.0) (q, p) net.router_ports (at_among net.router_ports q p is)))))))

-- a unit that is no port, no rule and no switch is one of those that routers and balancers have
module _ (net : Network) (u : UnitId) (not_port : (q : Name) → u ≡ unit.Port q → ⊥) (not_rule : (r d : Name) → u ≡ unit.Rule r d → ⊥) (not_switch : (d : Name) → u ≡ unit.Switch d → ⊥) where
  no_unit : Among u ((map unit.Port (keys_of net.switch_ports) ++ rule_units net) ++ map unit.Switch (keys_of net.switches)) → ⊥
  no_unit m = elim (among_append u _ (map unit.Switch (keys_of net.switches)) m) [
    | inr x ↦ (let d = map_among unit.Switch u (keys_of net.switches) x in not_switch d.0 d.2)
    | inl m ↦ elim (among_append u (map unit.Port (keys_of net.switch_ports)) (rule_units net) m) [
      | inl x ↦ (let q = map_among unit.Port u (keys_of net.switch_ports) x in not_port q.0 q.2)
      | inr x ↦ (
          let e = flat_map_among (units_of_rule net) u net.acls x in
          let d = map_among (unit.Rule e.0.0) u _ e.2 in
          not_rule e.0.0 d.0 d.2)
    ]
  ]

  is_routed : Among u (units_of net) → Among u (routed_units net)
  is_routed m = elim (among_append u ((map unit.Port (keys_of net.switch_ports) ++ rule_units net) ++ map unit.Switch (keys_of net.switches)) (routed_units net) (kinds net u m)) [
    | inl x ↦ absurd (no_unit x)
    | inr x ↦ x
  ]

-- the name of a rule that is there
rule_named : (net : Network) (r : Name) (x : Acl) → at net.acls r ≡ Some x → Among r (keys_of net.acls)
rule_named net r x is = among_map (λ (e : Name × Acl). e.0) (r, x) net.acls (at_among net.acls r x is)

module _ (before after : Lowering) (can : CanCompile before) (could : CanCompile after) (units : List UnitId) (rules : List Name) (same : IsSameButFor before after units rules) where
  abbrev touched : List UnitId
  touched = touched_rows before.net after.net units rules

  abbrev switches : List Name
  switches = switches_touched before.net after.net units rules

  -- the unit is lowered to the same flows
  abbrev Stays : UnitId → Type 0
  Stays u = lowered_of before u ≡ lowered_of after u

  -- ---- what is touched

  -- the units that are named
  named_in : (u : UnitId) → Among u units → Among u touched
  named_in u m = among_left u _ _ (among_left u units _ m)

  beside_in : (u : UnitId) → Among u (beside_routers before.net after.net units rules) → Among u touched
  beside_in u m = among_left u _ _ (among_right u units _ m)

  -- the rules that are named
  rule_in : (r : Name) (u : UnitId) → Among r rules → Among u (rule_touched before.net after.net r) → Among u touched
  rule_in r u m n = beside_in u (among_left u _ _ (among_left u _ _ (among_flat_map (rule_touched before.net after.net) r u rules m n)))

  -- all rules on the switches that are named
  on_named_in : (d : Name) (u : UnitId) → Among d (switches_in units) → Among u (rules_at before.net after.net d) → Among u touched
  on_named_in d u m n = beside_in u (among_left u _ _ (among_right u _ _ (among_flat_map (rules_at before.net after.net) d u (switches_in units) m n)))

  -- the switches that begin or cease to track connections, with their ports
  turned_in : (s : Name) (u : UnitId) → Among s switches → Among u (turned_at before.net after.net s) → Among u touched
  turned_in s u m n = beside_in u (among_right u _ _ (among_flat_map (turned_at before.net after.net) s u switches m n))

  -- what routers and balancers have
  routed_before : (u : UnitId) → Among u (routed_units before.net) → Among u touched
  routed_before u m = among_right u _ _ (among_left u _ _ (among_left u (routed_units before.net) _ m))

  routed_after : (u : UnitId) → Among u (routed_units after.net) → Among u touched
  routed_after u m = among_right u _ _ (among_left u _ _ (among_right u (routed_units before.net) _ m))

  to_router_in : (u : UnitId) → Among u (ports_to_routers before.net after.net) → Among u touched
  to_router_in u m = among_right u _ _ (among_right u _ _ m)

  switch_named : (d : Name) → Among (unit.Switch d) units → Among d (switches_in units)
  switch_named d m = among_filter_map as_switch (unit.Switch d) d units m refl

  -- a switch to which the rule applies is one of the rule's, but for one that goes, which is named
  on_before : (r d : Name) → ¬ Among (unit.Switch d) units → is_rule_on before.net r d ≡ true → Among d (switches_of_rule before.net after.net r)
  on_before r d beside on =
      let sw = switch_record before.net can.valid r d on in
      among_filter (is_on_either before.net after.net r) d (keys_of after.net.switches)
      (switch_listed after.net d sw.0 (sym (same.switches d beside) ∙ sw.1)) (or_left (is_rule_on before.net r d) (is_rule_on after.net r d) on)

  on_after : (r d : Name) → is_rule_on after.net r d ≡ true → Among d (switches_of_rule before.net after.net r)
  on_after r d on =
      let sw = switch_record after.net could.valid r d on in
      among_filter (is_on_either before.net after.net r) d (keys_of after.net.switches)
      (switch_listed after.net d sw.0 sw.1) (or_right (is_rule_on before.net r d) (is_rule_on after.net r d) on)

  -- ---- a switch that isn't named

  module _ (d : Name) (beside : ¬ Among (unit.Switch d) units) where
    abbrev on_it : Name × SwitchPort → Bool
    on_it e = same_name e.1.switch d

    abbrev key_on_it : Name × PortKey → Bool
    key_on_it e = same_name d e.1.datapath

    -- a port that is or was on it isn't named
    port_beside : (q : Name) (p : SwitchPort) → (at before.net.switch_ports q ≡ Some p) ⊎ (at after.net.switch_ports q ≡ Some p) → p.switch ≡ d → ¬ Among (unit.Port q) units
    port_beside q p is on m = beside (subst (λ n. Among (unit.Switch n) units) on (same.on q p m is))

    -- the same ports are on it
    ports_same : switch_ports_of before.net d ≡ switch_ports_of after.net d
    ports_same =
        sym (values_filtered (λ p. same_name p.switch d) before.net.switch_ports)
        ∙ ap (λ es. values_of es) (same_found (filter on_it before.net.switch_ports) (filter on_it after.net.switch_ports) (filter_sorted on_it before.net.switch_ports can.valid.in_order.switch_ports) (filter_sorted on_it after.net.switch_ports could.valid.in_order.switch_ports) stays was)
        ∙ values_filtered (λ p. same_name p.switch d) after.net.switch_ports
      where
        stays : (q : Name) (p : SwitchPort) → at (filter on_it before.net.switch_ports) q ≡ Some p → at (filter on_it after.net.switch_ports) q ≡ Some p
        stays q p is =
            let f = filter_at on_it before.net.switch_ports can.valid.in_order.switch_ports q p is in
            at_filter on_it after.net.switch_ports could.valid.in_order.switch_ports q p (sym (same.ports q (port_beside q p (inl f.0) ((bytes_decides p.switch d).0 f.1))) ∙ f.0) f.1

        was : (q : Name) (p : SwitchPort) → at (filter on_it after.net.switch_ports) q ≡ Some p → at (filter on_it before.net.switch_ports) q ≡ Some p
        was q p is =
            let f = filter_at on_it after.net.switch_ports could.valid.in_order.switch_ports q p is in
            at_filter on_it before.net.switch_ports can.valid.in_order.switch_ports q p (same.ports q (port_beside q p (inr f.0) ((bytes_decides p.switch d).0 f.1)) ∙ f.0) f.1

    module _ (sw : Switch) (is_switch : at before.net.switches d ≡ Some sw) where
      there_after : at after.net.switches d ≡ Some sw
      there_after = sym (same.switches d beside) ∙ is_switch

      -- who has a key on it is one of its ports
      port_with : (l : Lowering) → CanCompile l → at l.net.switches d ≡ Some sw → (q : Name) (k : PortKey) → at l.keys.ports q ≡ Some k → IsPortOf l.net q → key_on_it (q, k) ≡ true
          → (port : SwitchPort) × (at l.net.switch_ports q ≡ Some port) × (port.switch ≡ d)
      port_with l fits there_now q k is known on = elim known [
        | inl s ↦ (let o = key_owner l fits q k is s in (o.0, o.1, o.2 ∙ sym ((bytes_decides d k.datapath).0 on)))
        | inr r ↦ (let o = router_key_owner l fits q k is r in absurd (router_port_off l.net fits.valid d sw there_now q o.0 o.1 (o.2 ∙ sym ((bytes_decides d k.datapath).0 on))))
      ]

      -- its ports have the same keys
      keys_same : ports_on before.keys.ports d ≡ ports_on after.keys.ports d
      keys_same =
          ap (λ (es : List (Name × PortKey)). map (λ e. (e.0, e.1.key)) es)
          (same_found (filter key_on_it before.keys.ports) (filter key_on_it after.keys.ports) (filter_sorted key_on_it before.keys.ports can.hold.ports_in_order) (filter_sorted key_on_it after.keys.ports could.hold.ports_in_order) stays was)
        where
          stays : (q : Name) (k : PortKey) → at (filter key_on_it before.keys.ports) q ≡ Some k → at (filter key_on_it after.keys.ports) q ≡ Some k
          stays q k is =
              let f = filter_at key_on_it before.keys.ports can.hold.ports_in_order q k is in
              let p = port_with before can is_switch q k f.0 (same.had q k f.0) f.1 in
              at_filter key_on_it after.keys.ports could.hold.ports_in_order q k (sym (same.port_keys q p.0 (port_beside q p.0 (inl p.1) p.2) p.1) ∙ f.0) f.1

          was : (q : Name) (k : PortKey) → at (filter key_on_it after.keys.ports) q ≡ Some k → at (filter key_on_it before.keys.ports) q ≡ Some k
          was q k is =
              let f = filter_at key_on_it after.keys.ports could.hold.ports_in_order q k is in
              let p = port_with after could there_after q k f.0 (same.have q k f.0) f.1 in
              let out = port_beside q p.0 (inr p.1) p.2 in
              at_filter key_on_it before.keys.ports can.hold.ports_in_order q k (same.port_keys q p.0 out (same.ports q out ∙ p.1) ∙ f.0) f.1

      -- where none of the rules that are named applies to it, it tracks connections as it did
      module _ (off : (r : Name) → Among r rules → ¬ Among d (switches_of_rule before.net after.net r)) where
        rule_stays : (r : Name) (x : Acl) → at before.net.acls r ≡ Some x → applies before.net d x ≡ true → (at after.net.acls r ≡ Some x) × (sets_of before.net ≡ sets_of after.net)
        rule_stays r x is on =
            let unnamed : ¬ Among r rules = λ m. off r m (on_before r d beside (ap (applies_if before.net d) is ∙ on)) in
            (sym (same.rules r unnamed) ∙ is, same.sets r x unnamed is)

        rule_was : (r : Name) (x : Acl) → at after.net.acls r ≡ Some x → applies after.net d x ≡ true → (at before.net.acls r ≡ Some x) × (sets_of after.net ≡ sets_of before.net)
        rule_was r x is on =
            let unnamed : ¬ Among r rules = λ m. off r m (on_after r d (ap (applies_if after.net d) is ∙ on)) in
            let was = same.rules r unnamed ∙ is in
            (was, sym (same.sets r x unnamed was))

        stateful_same : is_stateful before.net d ≡ is_stateful after.net d
        stateful_same =
            same_tests (is_stateful before.net d) (is_stateful after.net d) (stateful_too before after can could d keys_same rule_stays) (stateful_too after before could can d (sym keys_same) rule_was)

  -- the switch of a unit that isn't touched tracks connections as it did
  module _ (s : Name) (sw : Switch) (is_there : at after.net.switches s ≡ Some sw) (u : UnitId) (mine : Among u (unit.Switch s ∷ ports_at after.net s)) (out : ¬ Among u touched) where
    aside : turns before.net after.net s ≡ true → ¬ Among s switches
    aside turned n = out (turned_in s u n (subst (λ b. Among u (cond b (unit.Switch s ∷ ports_at after.net s) [])) (sym turned) mine))

    stateful_kept : is_stateful before.net s ≡ is_stateful after.net s
    stateful_kept =
        same_unless (is_stateful before.net s) (is_stateful after.net s) (λ turned.
        let away = aside (or_left (is_other (is_stateful before.net s) (is_stateful after.net s)) (is_other (has_balancer before.net s) (has_balancer after.net s)) turned) in
        let beside : ¬ Among (unit.Switch s) units = λ n. away (among_left s _ _ (among_left s (switches_in units) _ (switch_named s n))) in
        stateful_same s beside sw (same.switches s beside ∙ is_there) (λ r n k. away (among_left s _ _ (among_right s (switches_in units) _ (among_flat_map (switches_of_rule before.net after.net) r s rules n k)))))

    balanced_kept : has_balancer before.net s ≡ has_balancer after.net s
    balanced_kept =
        same_unless (has_balancer before.net s) (has_balancer after.net s) (λ turned.
        let away = aside (or_right (is_other (is_stateful before.net s) (is_stateful after.net s)) (is_other (has_balancer before.net s) (has_balancer after.net s)) turned) in
        by away (has_some before.net.load_balancers || has_some after.net.load_balancers) refl)
      where
        by : ¬ Among s switches → (b : Bool) → (has_some before.net.load_balancers || has_some after.net.load_balancers) ≡ b → has_balancer before.net s ≡ has_balancer after.net s
        by away true some = absurd (away (among_right s _ _ (subst (λ b. Among s (cond b (keys_of after.net.switches) [])) (sym some) (switch_listed after.net s sw is_there))))
        by away false none =
            let two = neither (has_some before.net.load_balancers) (has_some after.net.load_balancers) none in
            ap (λ es. has_some (filter (serves_at s) (values_of es))) (has_none before.net.load_balancers two.0 ∙ sym (has_none after.net.load_balancers two.1))

  -- the fact has the same value
  abbrev Agrees : Fact → Type 0
  Agrees x = Agree before.net after.net x

  -- ---- ports

  module _ (q : Name) (out : ¬ Among (unit.Port q) touched) where
    unnamed_port : ¬ Among (unit.Port q) units
    unnamed_port m = out (named_in (unit.Port q) m)

    -- it is no port of a router
    none_before : at before.net.router_ports q ≡ None
    none_before = none_unless (at before.net.router_ports q) (λ p is. out (routed_before (unit.Port q) (port_routed before.net q p is)))

    none_after : at after.net.router_ports q ≡ None
    none_after = none_unless (at after.net.router_ports q) (λ p is. out (routed_after (unit.Port q) (port_routed after.net q p is)))

    module _ (p : SwitchPort) (here_is : at before.net.switch_ports q ≡ Some p) where
      still : at after.net.switch_ports q ≡ Some p
      still = sym (same.ports q unnamed_port) ∙ here_is

      -- its switch tracks connections as it did
      on_it_still : Among (unit.Port q) (unit.Switch p.switch ∷ ports_at after.net p.switch)
      on_it_still =
          let own = among_filter (λ (e : Name × SwitchPort). same_name e.1.switch p.switch) (q, p) after.net.switch_ports (at_among after.net.switch_ports q p still) ((bytes_decides p.switch p.switch).1 refl) in
          there (among_map (λ (e : Name × SwitchPort). unit.Port e.0) (q, p) _ own)

      port_stateful : is_stateful before.net p.switch ≡ is_stateful after.net p.switch
      port_stateful = let sw = on_switch after.net could.valid q p still in stateful_kept p.switch sw.0 sw.1 (unit.Port q) on_it_still out

      port_balanced : has_balancer before.net p.switch ≡ has_balancer after.net p.switch
      port_balanced = let sw = on_switch after.net could.valid q p still in balanced_kept p.switch sw.0 sw.1 (unit.Port q) on_it_still out

      -- no router has a port that could be behind it
      no_routers : is_some p.router_port ≡ true → (has_some before.net.router_ports || has_some after.net.router_ports) ≡ false
      no_routers some = false_unless (has_some before.net.router_ports || has_some after.net.router_ports) (λ are.
          let own = among_filter (λ (e : Name × SwitchPort). is_some e.1.router_port) (q, p) after.net.switch_ports (at_among after.net.switch_ports q p still) some in
          out (to_router_in (unit.Port q) (subst (λ b. Among (unit.Port q) (cond b (map (λ (e : Name × SwitchPort). unit.Port e.0) (filter (λ (e : Name × SwitchPort). is_some e.1.router_port) after.net.switch_ports)) [])) (sym are)
          (among_map (λ (e : Name × SwitchPort). unit.Port e.0) (q, p) _ own))))

      router_port_agrees : (r : Name) → is_some p.router_port ≡ true → (x : Fact) → Among x (router_port_reads r) → Agrees x
      router_port_agrees r some x m =
          let two = neither (has_some before.net.router_ports) (has_some after.net.router_ports) (no_routers some) in
          let bare : at before.net.router_ports r ≡ None = ap (λ (es : List (Name × RouterPort)). at es r) (has_none before.net.router_ports two.0) in
          let bare_too : at after.net.router_ports r ≡ None = ap (λ (es : List (Name × RouterPort)). at es r) (has_none after.net.router_ports two.1) in
          elim (among_cases x (fact.RouterPort r) (fact.Answered r ∷ []) m) [
            | inl is ↦ subst Agrees (sym is) (bare ∙ sym bare_too)
            | inr later ↦ elim (among_cases x (fact.Answered r) [] later) [
              | inl is ↦ subst Agrees (sym is) (ap (answered_if before.net) bare ∙ sym (ap (answered_if after.net) bare_too))
              | inr none ↦ absurd (among_none x none)
            ]
          ]

      behind_agrees : (o : Option Name) → p.router_port ≡ o → (x : Fact) → Among x (on_some o router_port_reads) → Agrees x
      behind_agrees None is x m = absurd (among_none x m)
      behind_agrees (Some r) is x m = router_port_agrees r (ap is_some is) x m

      port_agrees : (x : Fact) → Among x (port_reads q (Some p)) → Agrees x
      port_agrees x m = elim (among_cases x (fact.SwitchPort q) (fact.Stateful p.switch ∷ fact.Balanced p.switch ∷ on_some p.router_port router_port_reads) m) [
        | inl is ↦ subst Agrees (sym is) (same.ports q unnamed_port)
        | inr more ↦ elim (among_cases x (fact.Stateful p.switch) (fact.Balanced p.switch ∷ on_some p.router_port router_port_reads) more) [
          | inl is ↦ subst Agrees (sym is) port_stateful
          | inr rest ↦ elim (among_cases x (fact.Balanced p.switch) (on_some p.router_port router_port_reads) rest) [
            | inl is ↦ subst Agrees (sym is) port_balanced
            | inr behind ↦ behind_agrees p.router_port refl x behind
          ]
        ]
      ]

      -- its switch keeps its key
      port_on : (d : Name) → datapath_of before.net (unit.Port q) ≡ Some d → live_datapath_key before.keys d ≡ live_datapath_key after.keys d
      port_on d on =
          let here_on : p.switch ≡ d = same_Some p.switch d (sym (ap (λ (o : Option SwitchPort). datapath_of_port o (at before.net.router_ports q)) here_is) ∙ on) in
          subst (λ n. live_datapath_key before.keys n ≡ live_datapath_key after.keys n) here_on (same.beneath q p unnamed_port here_is)

      port_untouched : IsUntouched before after (unit.Port q)
      port_untouched = record {
        reads = λ x m. port_agrees x (subst (λ (o : Option SwitchPort). Among x (port_reads q o)) here_is m);
        place = λ i. datapath_of_port (same.ports q unnamed_port i) ((none_before ∙ sym none_after) i);
        on = port_on;
        names = same.port_keys q p unnamed_port here_is;
      }

    port_same : (o : Option SwitchPort) → at before.net.switch_ports q ≡ o → Stays (unit.Port q)
    port_same None is = both_none before after can could (unit.Port q) (no_port before.net q is none_before) (no_port after.net q (sym (same.ports q unnamed_port) ∙ is) none_after)
    port_same (Some p) is = untouched_stay before after can could (unit.Port q) (port_untouched p is)

  -- ---- switches

  module _ (d : Name) (out : ¬ Among (unit.Switch d) touched) where
    unnamed_switch : ¬ Among (unit.Switch d) units
    unnamed_switch m = out (named_in (unit.Switch d) m)

    -- as many of its ports get what goes to unknown addresses
    unknown_same : some_take_unknown before.net d ≡ some_take_unknown after.net d
    unknown_same = ap (λ (qs : List SwitchPort). list_any (λ (q : SwitchPort). takes_unknown q.addresses) (filter (λ (q : SwitchPort). q.enabled) qs)) (ports_same d unnamed_switch)

    module _ (sw : Switch) (is_switch : at before.net.switches d ≡ Some sw) where
      now_there : at after.net.switches d ≡ Some sw
      now_there = sym (same.switches d unnamed_switch) ∙ is_switch

      switch_agrees : (x : Fact) → Among x (fact.Stateful d ∷ fact.Balanced d ∷ fact.TakesUnknown d ∷ []) → Agrees x
      switch_agrees x m = elim (among_cases x (fact.Stateful d) (fact.Balanced d ∷ fact.TakesUnknown d ∷ []) m) [
        | inl is ↦ subst Agrees (sym is) (stateful_kept d sw now_there (unit.Switch d) here out)
        | inr more ↦ elim (among_cases x (fact.Balanced d) (fact.TakesUnknown d ∷ []) more) [
          | inl is ↦ subst Agrees (sym is) (balanced_kept d sw now_there (unit.Switch d) here out)
          | inr rest ↦ elim (among_cases x (fact.TakesUnknown d) [] rest) [
            | inl is ↦ subst Agrees (sym is) unknown_same
            | inr none ↦ absurd (among_none x none)
          ]
        ]
      ]

      switch_untouched : IsUntouched before after (unit.Switch d)
      switch_untouched = record {
        reads = switch_agrees;
        place = refl;
        on = λ e is. subst (λ n. live_datapath_key before.keys n ≡ live_datapath_key after.keys n) (same_Some d e is) (same.switch_keys d sw unnamed_switch is_switch);
        names = ap (λ (o : Option Switch). is_some (option_map row.Switch o)) (same.switches d unnamed_switch);
      }

    switch_same : (o : Option Switch) → at before.net.switches d ≡ o → Stays (unit.Switch d)
    switch_same None is = both_none before after can could (unit.Switch d) (no_switch before.net d is) (no_switch after.net d (sym (same.switches d unnamed_switch) ∙ is))
    switch_same (Some sw) is = untouched_stay before after can could (unit.Switch d) (switch_untouched sw is)

  -- ---- rules

  module _ (r d : Name) (out : ¬ Among (unit.Rule r d) touched) where
    -- a rule that is named isn't one of the switch
    named_off : Among r rules → ¬ Among d (switches_of_rule before.net after.net r)
    named_off m n = out (rule_in r (unit.Rule r d) m (among_map (unit.Rule r) d (switches_of_rule before.net after.net r) n))

    off_after : Among r rules → is_rule_on after.net r d ≡ false
    off_after m = false_unless (is_rule_on after.net r d) (λ on. named_off m (on_after r d on))

    -- so on a switch that isn't named it has no rows
    rule_off : Among r rules → ¬ Among (unit.Switch d) units → Stays (unit.Rule r d)
    rule_off m beside =
        both_none before after can could (unit.Rule r d)
        (off_rule before.net r d (false_unless (is_rule_on before.net r d) (λ on. named_off m (on_before r d beside on))))
        (off_rule after.net r d (off_after m))

    -- on a switch that is named no rule that was there applies before or after
    passed_over : Among d (switches_in units) → Among r (keys_of before.net.acls) → ¬ (is_on_either before.net after.net r d ≡ true)
    passed_over m n on =
        out (on_named_in d (unit.Rule r d) m (among_map (λ (rule : Name). unit.Rule rule d) r _
        (among_filter (λ (rule : Name). is_on_either before.net after.net rule d) r (keys_of before.net.acls) n on)))

    -- and one that wasn't there comes by its own name or not at all
    none_came : at before.net.acls r ≡ None → Among r rules ⊎ (¬ Among r rules) → rows_of after.net (unit.Rule r d) ≡ []
    none_came is (inl named) = off_rule after.net r d (off_after named)
    none_came is (inr unnamed) = no_rule after.net r d (sym (same.rules r unnamed) ∙ is)

    rule_on_named : Among d (switches_in units) → (o : Option Acl) → at before.net.acls r ≡ o → Stays (unit.Rule r d)
    rule_on_named m None is = both_none before after can could (unit.Rule r d) (no_rule before.net r d is) (none_came is (among_or_not r rules))
    rule_on_named m (Some x) is =
        let off = passed_over m (rule_named before.net r x is) in
        both_none before after can could (unit.Rule r d)
        (off_rule before.net r d (false_unless (is_rule_on before.net r d) (λ on. off (or_left (is_rule_on before.net r d) (is_rule_on after.net r d) on))))
        (off_rule after.net r d (false_unless (is_rule_on after.net r d) (λ on. off (or_right (is_rule_on before.net r d) (is_rule_on after.net r d) on))))

    -- any other rule has the same record, and the same ports and members of sets to name
    rule_untouched : ¬ Among r rules → ¬ Among (unit.Switch d) units → (x : Acl) → at before.net.acls r ≡ Some x → (sw : Switch) → at before.net.switches d ≡ Some sw → IsUntouched before after (unit.Rule r d)
    rule_untouched unnamed beside x here_is sw is_switch = record {
      reads = λ y m. elim (among_cases y (fact.Rule r) [] m) [ inl is ↦ subst Agrees (sym is) (same.rules r unnamed) | inr none ↦ absurd (among_none y none) ];
      place = refl;
      on = λ e is. subst (λ n. live_datapath_key before.keys n ≡ live_datapath_key after.keys n) (same_Some d e is) (same.switch_keys d sw beside is_switch);
      names = (keys_same d beside sw is_switch, same.sets r x unnamed here_is);
    }

    rule_somewhere : ¬ Among r rules → ¬ Among (unit.Switch d) units → (x : Acl) → at before.net.acls r ≡ Some x → (o : Option Switch) → at before.net.switches d ≡ o → Stays (unit.Rule r d)
    rule_somewhere unnamed beside x here_is None is =
        both_none before after can could (unit.Rule r d) (rule_nowhere before.net can.valid r d is) (rule_nowhere after.net could.valid r d (sym (same.switches d beside) ∙ is))
    rule_somewhere unnamed beside x here_is (Some sw) is = untouched_stay before after can could (unit.Rule r d) (rule_untouched unnamed beside x here_is sw is)

    rule_kept : ¬ Among r rules → ¬ Among (unit.Switch d) units → (o : Option Acl) → at before.net.acls r ≡ o → Stays (unit.Rule r d)
    rule_kept unnamed beside None is = both_none before after can could (unit.Rule r d) (no_rule before.net r d is) (no_rule after.net r d (sym (same.rules r unnamed) ∙ is))
    rule_kept unnamed beside (Some x) is = rule_somewhere unnamed beside x is (at before.net.switches d) refl

    rule_same : Stays (unit.Rule r d)
    rule_same = elim (among_or_not d (switches_in units)) [
      | inl on ↦ rule_on_named on (at before.net.acls r) refl
      | inr aside ↦ (
          let beside : ¬ Among (unit.Switch d) units = λ m. aside (switch_named d m) in
          elim (among_or_not r rules) [
            | inl named ↦ rule_off named beside
            | inr unnamed ↦ rule_kept unnamed beside (at before.net.acls r) refl
          ])
    ]

  -- ---- what routers and balancers have

  -- who isn't touched is no unit of them, and has no rows
  routed_stays : (u : UnitId) → ((q : Name) → u ≡ unit.Port q → ⊥) → ((r d : Name) → u ≡ unit.Rule r d → ⊥) → ((d : Name) → u ≡ unit.Switch d → ⊥) → ¬ Among u touched → Stays u
  routed_stays u not_port not_rule not_switch out =
      both_none before after can could u
      (no_rows_beside before.net can.valid u (λ m. out (routed_before u (is_routed before.net u not_port not_rule not_switch m))))
      (no_rows_beside after.net could.valid u (λ m. out (routed_after u (is_routed after.net u not_port not_rule not_switch m))))

  -- ---- all units

  same_flows : (u : UnitId) → ¬ Among u touched → Stays u
  same_flows (unit.Port q) out = port_same q out (at before.net.switch_ports q) refl
  same_flows (unit.Rule r d) out = rule_same r d out
  same_flows (unit.Route r) out = routed_stays (unit.Route r) (λ q h. cc) (λ r d h. cc) (λ d h. cc) out
  same_flows (unit.Neighbour port ip) out = routed_stays (unit.Neighbour port ip) (λ q h. cc) (λ r d h. cc) (λ d h. cc) out
  same_flows (unit.Nat r) out = routed_stays (unit.Nat r) (λ q h. cc) (λ r d h. cc) (λ d h. cc) out
  same_flows (unit.Balancer b d) out = routed_stays (unit.Balancer b d) (λ q h. cc) (λ r d h. cc) (λ d h. cc) out
  same_flows (unit.Switch d) out = switch_same d out (at before.net.switches d) refl
  same_flows (unit.Router d) out = routed_stays (unit.Router d) (λ q h. cc) (λ r d h. cc) (λ d h. cc) out

-- ---- the law

pub touched_stay : TouchedLaw
touched_stay before after can could units rules same u out f =
    let is = same_flows before after can could units rules same u out in
    (λ m. subst (λ fs. Among f fs) is m, λ m. subst (λ fs. Among f fs) (sym is) m)
