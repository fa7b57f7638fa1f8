-- Which units' rows an event changes.
use Rattle.std.specs.Prelude.{◌≡◌, ◌≢◌, ◌⊎◌, ◌++◌, ℕ, Bool, true, false, ◌&&◌, ◌||◌, not, cond, List, [], ◌∷◌, filter, Option, Some, None, is_some, option_map, unwrap_or, refl}
use Rattle.std.specs.BTreeSet.{insert_key}
use Rattle.std.specs.Cmp.Lexicographic.{slice_cmp}
use Rattle.std.specs.List.{list_any}
use Rattle.std.specs.Map.{values_of}
use Rattle.std.specs.Ordering.{nat_cmp, match_ordering}
use Rattle.std.specs.declared.cmp.Ordering.{Ordering}
use Rattle.std.specs.declared.cmp.Ordering.TheVariants.{Less, Equal, Greater}
use mathlib.Core.Path.{sym, ap, subst, ◌∙◌}
use mathlib.Core.Logic.{inl, inr}
use Rattle.std.proofs.lemmas.Bool.{cases_Bool, false≢true}
use Rattle.std.proofs.lemmas.Option.{none-some, same_Some}
use Rattle.ovn_base.specs.lists.Among.{Among, here, there}
use Rattle.ovn_base.specs.names.ByName.{at, put, IsByName}
use Rattle.ovn_base.specs.names.SameName.{bytes_decides, same_name}
use Rattle.ovn_base.specs.declared.name.Name.{Name}
use Rattle.ovn_base.proofs.AmongLaws.{among_same}
use Rattle.ovn_base.proofs.ByNameLaws.{put_other}
use Rattle.ovn_base.proofs.SameEntries.{same_found}
use Rattle.conn_zones.specs.Zoning.{GivenNumbers}
use Rattle.conn_zones.specs.declared.numbers.ZoneUse.{ZoneUse}
use Rattle.conn_zones.specs.declared.numbers.ZoneUse.TheVariants as zone_use
use Rattle.nb_records.specs.Network.{Network}
use Rattle.nb_records.specs.Routers.{Partner, switch_side, router_side, partner_of_router_port, partner_of_switch_port}
use Rattle.nb_records.specs.Switches.{is_virtual, is_virtual_kind}
use Rattle.nb_records.specs.declared.router.RouterPort.{RouterPort}
use Rattle.nb_records.specs.declared.switch.PortKind.{PortKind}
use Rattle.nb_records.specs.declared.switch.PortKind.TheVariants as port_kind
use Rattle.nb_records.specs.declared.switch.SwitchPort.{SwitchPort}
use Rattle.nb_rules.specs.Valid.{IsValid}
use Rattle.net_model.specs.Config.{Home, on, home_if, home_of_router_port, home_by_kind, home_of, is_on}
use Rattle.net_model.specs.Targets.{members}
use Rattle.tunnel_keys.specs.Keys.{Keys}
use Rattle.tunnel_keys.proofs.Lists.{at_filter, filter_at, filter_sorted}
use Rattle.net_model.specs.declared.crossing.Group.{Group}
use Rattle.physical_flows.specs.declared.unit.FlowUnit.{FlowUnit}
use Rattle.physical_flows.specs.declared.unit.FlowUnit.TheVariants as unit
use Rattle.physical_flows.specs.Around.{around_rows}
use Rattle.physical_flows.specs.Homes.{ArePortsNamed}
use Rattle.physical_flows.specs.Stages.{Basis, config_of, number_here, zone_of, beyond}
use Rattle.physical_flows.specs.TableList.{homed_rows, is_group_member, way_row}
use Rattle.physical_flows.specs.Touching.{HasLeading, IsSameBeside, BindTouches, ChassisTouches, EditTouches}
use Rattle.physical_flows.specs.Units.{ChangeOnly, patch_rows}
use Rattle.physical_flows.proofs.GroupMembers.{and_first, of_group, entries_in, members_entries, member_on}
use Rattle.physical_flows.proofs.UnitReads.{IsSameMember, has_member_at, only_these}

-- ---- tests

and_false : (x : Bool) → (x && false) ≡ false
and_false true = refl
and_false false = refl

none_found : {X : Type 0} (test : X → Bool) (xs : List X) → ((x : X) → Among x xs → test x ≡ false) → list_any test xs ≡ false
none_found test [] none = refl
none_found test (x ∷ xs) none = ap (λ b. b || list_any test xs) (none x here) ∙ none_found test xs (λ y m. none y (there m))

other_names : (a b : Name) → a ≢ b → same_name a b ≡ false
other_names a b apart = elim (cases_Bool (same_name a b)) [
  | inl same ↦ absurd (apart ((bytes_decides a b).0 same))
  | inr other ↦ other
]

-- ---- the units of a port and its switch

not_switch : (s q a : Name) → (¬ Among (unit.Switch a) (unit.Switch s ∷ unit.Port q ∷ [])) → a ≢ s
not_switch s q a out e = out (among_same (unit.Switch a) (unit.Switch s) (unit.Port q ∷ []) (ap (λ n. unit.Switch n) e))

not_port_of : (s q p : Name) → (¬ Among (unit.Port p) (unit.Switch s ∷ unit.Port q ∷ [])) → p ≢ q
not_port_of s q p out e = out (there (among_same (unit.Port p) (unit.Port q) [] (ap (λ n. unit.Port n) e)))

-- ---- a port that leads into another datapath, where its home and where it leads stay

patch_same : (before after : Basis) (dp key : ℕ) (home home_after : Home) (partner : Option Partner) → after.chassis ≡ before.chassis → home_after ≡ home → option_map (beyond after) partner ≡ option_map (beyond before) partner
    → patch_rows after (record { dp = dp; key = key; home = home_after; partner = partner }) ≡ patch_rows before (record { dp = dp; key = key; home = home; partner = partner })
patch_same before after dp key home home_after partner chassis homes ways = λ i. homed_rows (chassis i) (homes i) dp key ++ way_row dp key (ways i) ∷ []

-- ---- a port is bound

module _ (before : Basis) (q home : Name) (port : SwitchPort) (zones : GivenNumbers) where
  abbrev bound : Basis
  bound = record before { bindings = put before.bindings q home; zones = zones }

  bound_home : (p : SwitchPort) → p.name ≢ q → home_of (config_of bound) p ≡ home_of (config_of before) p
  bound_home p apart = by p.kind
    where
      by : (k : PortKind) → home_by_kind (config_of bound) p k ≡ home_by_kind (config_of before) p k
      by port_kind.Virtual = ap (λ o. home_if on o) (put_other before.bindings q home p.name apart)
      by port_kind.Router = refl

  -- the home of a port that leads to a router doesn't follow from bindings
  leading_home : (p : SwitchPort) → is_virtual p ≡ false → home_of (config_of bound) p ≡ home_of (config_of before) p
  leading_home p leads = by p.kind leads
    where
      by : (k : PortKind) → is_virtual_kind k ≡ false → home_by_kind (config_of bound) p k ≡ home_by_kind (config_of before) p k
      by port_kind.Virtual leads = absurd (false≢true (sym leads))
      by port_kind.Router leads = refl

  module _ (found : at before.net.switch_ports q ≡ Some port) (sorted : IsByName before.net.switch_ports) (named : ArePortsNamed before.net)
      (others : (z : ZoneUse) → z ≢ zone_use.Port q → number_here bound z ≡ number_here before z) where
    port_zone : (p : Name) → p ≢ q → number_here bound (zone_use.Port p) ≡ number_here before (zone_use.Port p)
    port_zone p apart = others (zone_use.Port p) (λ same. apart (name_of same))
      where
        name_in : ZoneUse → Name
        name_in (zone_use.Port n) = n
        name_in (zone_use.Dnat n) = n
        name_in (zone_use.Snat n) = n

        name_of : zone_use.Port p ≡ zone_use.Port q → p ≡ q
        name_of same = ap name_in same

    bound_member : (p : SwitchPort) → p.name ≢ q → IsSameMember before bound p
    bound_member p apart = record { number = refl; home = bound_home p apart; zone = port_zone p.name apart }

    bound_apart : (a : Name) → a ≢ port.switch → (group : Group) (p : SwitchPort) → Among p (members before.net a group) → p.name ≢ q
    bound_apart a apart group p m same =
        let of = member_on before.net sorted named a group p m in
        let one = same_Some p port (sym of.0 ∙ ap (λ n. at before.net.switch_ports n) same ∙ found) in
        apart (sym of.1 ∙ ap (λ (r : SwitchPort). r.switch) one)

    bound_way : (partner : Option Partner) → option_map (beyond bound) partner ≡ option_map (beyond before) partner
    bound_way None = refl
    bound_way (Some (switch_side p)) = refl
    bound_way (Some (router_side r)) =
        let dnat = others (zone_use.Dnat r.router) (λ same. dnat_apart r.router q same) in
        let snat = others (zone_use.Snat r.router) (λ same. snat_apart r.router q same) in
        λ i. Some (record { dp = (beyond before (router_side r)).dp; in_port = (beyond before (router_side r)).in_port; z_dnat = unwrap_or (dnat i) 0; z_snat = unwrap_or (snat i) 0 })
      where
        is_port : ZoneUse → Bool
        is_port (zone_use.Port n) = true
        is_port (zone_use.Dnat n) = false
        is_port (zone_use.Snat n) = false

        dnat_apart : (a p : Name) → zone_use.Dnat a ≢ zone_use.Port p
        dnat_apart a p same = false≢true (ap is_port same)

        snat_apart : (a p : Name) → zone_use.Snat a ≢ zone_use.Port p
        snat_apart a p same = false≢true (ap is_port same)

    bound_touches : ChangeOnly (unit.Switch port.switch ∷ unit.Port q ∷ []) (around_rows before) (around_rows bound)
    bound_touches =
        only_these before bound (unit.Switch port.switch ∷ unit.Port q ∷ [])
        (λ a out. record {
          chassis = refl;
          entry = refl;
          number = λ r is. refl;
          in_group = λ group. refl;
          each = λ group p m. bound_member p (bound_apart a (not_switch port.switch q a out) group p m);
          homes = λ group. refl;
        })
        (λ p out. record {
          chassis = refl;
          entry = refl;
          beneath = λ r is. refl;
          number = λ r is. refl;
          home = put_other before.bindings q home p (not_port_of port.switch q p out);
          zone = port_zone p (not_port_of port.switch q p out);
          leads = λ r is leads dp key.
              patch_same before bound dp key (home_of (config_of before) r) (home_of (config_of bound) r) (partner_of_switch_port before.net r) refl (leading_home r leads) (bound_way (partner_of_switch_port before.net r));
        })
        (λ p out. record {
          entry = refl;
          beneath = λ r is. refl;
          number = λ r is. refl;
          leads = λ r is dp key.
              patch_same before bound dp key (home_of_router_port (config_of before) r) (home_of_router_port (config_of bound) r) (partner_of_router_port before.net r) refl refl (bound_way (partner_of_router_port before.net r));
        })

-- a port that is bound changes its own rows and those of its switch, on each chassis
pub around_bind : BindTouches around_rows
around_bind before after q home port zones is found sorted named others =
    subst (λ b. ((z : ZoneUse) → z ≢ zone_use.Port q → number_here b z ≡ number_here before z) → ChangeOnly (unit.Switch port.switch ∷ unit.Port q ∷ []) (around_rows before) (around_rows b)) (sym is)
    (λ kept. bound_touches before q home port zones found sorted named kept) others

-- ---- a chassis is added

kept_by_test : (test : Name → Bool) (names : List Name) (c : Name) → test c ≡ false → filter test (insert_key (slice_cmp nat_cmp) names c) ≡ filter test names
kept_by_test test [] c e = ap (λ b. cond b (c ∷ []) []) e
kept_by_test test (d ∷ names) c e = by (slice_cmp nat_cmp c d) (kept_by_test test names c e)
  where
    by : (o : Ordering) → filter test (insert_key (slice_cmp nat_cmp) names c) ≡ filter test names
        → filter test (match_ordering o (c ∷ d ∷ names) (d ∷ names) (d ∷ insert_key (slice_cmp nat_cmp) names c)) ≡ filter test (d ∷ names)
    by Less rest = ap (λ b. cond b (c ∷ filter test (d ∷ names)) (filter test (d ∷ names))) e
    by Equal rest = refl
    by Greater rest = ap (λ ns. cond (test d) (d ∷ ns) ns) rest

module _ (before : Basis) (units : List FlowUnit) (c : Name) (zones : GivenNumbers) where
  abbrev with_chassis : Basis
  with_chassis = record before { all = insert_key (slice_cmp nat_cmp) before.all c; zones = zones }

  module _ (new : ¬ Among c before.all) (homes : (q home : Name) → at before.bindings q ≡ Some home → Among home before.all)
      (kept : (q : Name) → zone_of with_chassis q ≡ zone_of before q) (valid : IsValid before.net) (leading : HasLeading units before.net) where
    -- the home of a virtual port stays, and is another than the new chassis
    bound_stays : (q : SwitchPort) → is_virtual q ≡ true → home_of (config_of with_chassis) q ≡ home_of (config_of before) q
    bound_stays q virtual = by q.kind virtual
      where
        by : (k : PortKind) → is_virtual_kind k ≡ true → home_by_kind (config_of with_chassis) q k ≡ home_by_kind (config_of before) q k
        by port_kind.Virtual virtual = refl
        by port_kind.Router virtual = absurd (false≢true virtual)

    not_bound : (q : Name) → is_on c (home_if on (at before.bindings q)) ≡ false
    not_bound q = by (at before.bindings q) refl
      where
        by : (o : Option Name) → at before.bindings q ≡ o → is_on c (home_if on o) ≡ false
        by None is = refl
        by (Some home) is = other_names home c (λ same. new (subst (λ n. Among n before.all) same (homes q home is)))

    not_there : (q : SwitchPort) → is_virtual q ≡ true → is_on c (home_of (config_of before) q) ≡ false
    not_there q virtual = by q.kind virtual
      where
        by : (k : PortKind) → is_virtual_kind k ≡ true → is_on c (home_by_kind (config_of before) q k) ≡ false
        by port_kind.Virtual virtual = not_bound q.name
        by port_kind.Router virtual = absurd (false≢true virtual)

    -- all ports of a switch that isn't among the units are virtual
    module _ (a : Name) (out : ¬ Among (unit.Switch a) units) (group : Group) where
      member_bound : (q : SwitchPort) → Among q (members before.net a group) → is_virtual q ≡ true
      member_bound q m =
          let of = member_on before.net valid.in_order.switch_ports valid.named.switch_ports a group q m in
          elim (cases_Bool (is_virtual q)) [ inl virtual ↦ virtual | inr leads ↦ absurd (out (subst (λ n. Among (unit.Switch n) units) of.1 (leading.on q.name q of.0 leads))) ]

      untaken : has_member_at before a group c ≡ false
      untaken =
          ap (λ b. not (same_name c before.chassis) && b) (none_found (λ q. is_on c (home_of (config_of before) q)) (members before.net a group) (λ q m. not_there q (member_bound q m)))
          ∙ and_false (not (same_name c before.chassis))

    with_chassis_touches : ChangeOnly units (around_rows before) (around_rows with_chassis)
    with_chassis_touches =
        only_these before with_chassis units
        (λ a out. record {
          chassis = refl;
          entry = refl;
          number = λ r is. refl;
          in_group = λ group. refl;
          each = λ group q m. record { number = refl; home = bound_stays q (member_bound a out group q m); zone = kept q.name };
          homes = λ group. kept_by_test (has_member_at before a group) before.all c (untaken a out group);
        })
        (λ q out. record {
          chassis = refl;
          entry = refl;
          beneath = λ r is. refl;
          number = λ r is. refl;
          home = refl;
          zone = kept q;
          leads = λ r is leads dp key. absurd (out (leading.to_routers q r is leads));
        })
        (λ q out. record {
          entry = refl;
          beneath = λ r is. refl;
          number = λ r is. refl;
          leads = λ r is dp key. absurd (out (leading.router_ports q r is));
        })

-- a chassis that is added changes, on the others, the rows of the ports that lead into another datapath and of their switches alone
pub around_chassis : ChassisTouches around_rows
around_chassis before after units c zones is new homes kept valid leading =
    subst (λ b. ((q : Name) → zone_of b q ≡ zone_of before q) → ChangeOnly units (around_rows before) (around_rows b)) (sym is)
    (λ same. with_chassis_touches before units c zones new homes same valid leading) kept

-- ---- records are edited

module _ (before : Basis) (units : List FlowUnit) (next : Network) (keys : Keys) (zones : GivenNumbers) where
  abbrev edited : Basis
  edited = record before { net = next; keys = keys; zones = zones }

  module _ (kept : (q : Name) → zone_of edited q ≡ zone_of before q) (sorted : IsByName before.net.switch_ports) (sorted_after : IsByName next.switch_ports) (named : ArePortsNamed before.net) (same : IsSameBeside units before.net next before.keys keys) where
    -- a port that isn't among the units is virtual
    is_bound_kind : (q : Name) (port : SwitchPort) → at before.net.switch_ports q ≡ Some port → (¬ Among (unit.Port q) units) → is_virtual port ≡ true
    is_bound_kind q port found out = elim (cases_Bool (is_virtual port)) [ inl virtual ↦ virtual | inr leads ↦ absurd (out (same.to_routers q port (inl found) leads)) ]

    virtual_home : (port : SwitchPort) → is_virtual port ≡ true → home_of (config_of edited) port ≡ home_of (config_of before) port
    virtual_home port virtual = by port.kind virtual
      where
        by : (k : PortKind) → is_virtual_kind k ≡ true → home_by_kind (config_of edited) port k ≡ home_by_kind (config_of before) port k
        by port_kind.Virtual virtual = refl
        by port_kind.Router virtual = absurd (false≢true virtual)

    module _ (a : Name) (out : ¬ Among (unit.Switch a) units) where
      -- a port that is or was on another switch than those of the units isn't among them
      untouched : (q : Name) (port : SwitchPort) → (at before.net.switch_ports q ≡ Some port) ⊎ (at next.switch_ports q ≡ Some port) → port.switch ≡ a → ¬ Among (unit.Port q) units
      untouched q port is of m = out (subst (λ n. Among (unit.Switch n) units) of (same.on q port m is))

      module _ (group : Group) where
        passes_on : (port : SwitchPort) → (same_name port.switch a && is_group_member group port) ≡ true → port.switch ≡ a
        passes_on port passes = (bytes_decides port.switch a).0 (and_first (same_name port.switch a) (is_group_member group port) passes)

        was_in : (q : Name) (port : SwitchPort) → at (entries_in next a group) q ≡ Some port → at (entries_in before.net a group) q ≡ Some port
        was_in q port is =
            let f = filter_at (of_group a group) next.switch_ports sorted_after q port is in
            let kept = same.ports q (untouched q port (inr f.0) (passes_on port f.1)) in
            at_filter (of_group a group) before.net.switch_ports sorted q port (sym kept ∙ f.0) f.1

        stays_in : (q : Name) (port : SwitchPort) → at (entries_in before.net a group) q ≡ Some port → at (entries_in next a group) q ≡ Some port
        stays_in q port is =
            let f = filter_at (of_group a group) before.net.switch_ports sorted q port is in
            let kept = same.ports q (untouched q port (inl f.0) (passes_on port f.1)) in
            at_filter (of_group a group) next.switch_ports sorted_after q port (kept ∙ f.0) f.1

        members_kept : members next a group ≡ members before.net a group
        members_kept =
            members_entries next a group
            ∙ ap (λ (es : List (Name × SwitchPort)). values_of es)
            (same_found (entries_in next a group) (entries_in before.net a group) (filter_sorted (of_group a group) next.switch_ports sorted_after) (filter_sorted (of_group a group) before.net.switch_ports sorted) was_in stays_in)
            ∙ sym (members_entries before.net a group)

        each_kept : (q : SwitchPort) → Among q (members before.net a group) → IsSameMember before edited q
        each_kept q m =
            let of = member_on before.net sorted named a group q m in
            let apart = untouched q.name q (inl of.0) of.1 in
            record { number = same.numbers q.name q apart of.0; home = virtual_home q (is_bound_kind q.name q of.0 apart); zone = kept q.name }

    module _ (q : Name) (out : ¬ Among (unit.RouterPort q) units) where
      no_router_port : (ports : List (Name × RouterPort)) → ((port : RouterPort) → at ports q ≡ Some port → Among (unit.RouterPort q) units) → at ports q ≡ None
      no_router_port ports among = by (at ports q) refl
        where
          by : (o : Option RouterPort) → at ports q ≡ o → at ports q ≡ None
          by None is = is
          by (Some port) is = absurd (out (among port is))

      was_none : at before.net.router_ports q ≡ None
      was_none = no_router_port before.net.router_ports (λ port is. same.router_ports q port (inl is))

      is_none : at next.router_ports q ≡ None
      is_none = no_router_port next.router_ports (λ port is. same.router_ports q port (inr is))

    edited_touches : ChangeOnly units (around_rows before) (around_rows edited)
    edited_touches =
        only_these before edited units
        (λ a out. record {
          chassis = refl;
          entry = ap (λ o. is_some o) (same.switches a out);
          number = λ switch is. same.datapaths a switch out is;
          in_group = members_kept a out;
          each = each_kept a out;
          homes = λ group. refl;
        })
        (λ q out. record {
          chassis = refl;
          entry = same.ports q out;
          beneath = λ port is. same.beneath q port out is;
          number = λ port is. same.numbers q port out is;
          home = refl;
          zone = kept q;
          leads = λ port is leads dp key. absurd (false≢true (sym leads ∙ is_bound_kind q port is out));
        })
        (λ q out. record {
          entry = is_none q out ∙ sym (was_none q out);
          beneath = λ port is. absurd (none-some port (sym (was_none q out) ∙ is));
          number = λ port is. absurd (none-some port (sym (was_none q out) ∙ is));
          leads = λ port is dp key. absurd (none-some port (sym (was_none q out) ∙ is));
        })

-- an edit of records changes the rows of those units alone beside which all stays
pub around_edit : EditTouches around_rows
around_edit before after units next keys zones is kept sorted sorted_after named same =
    subst (λ b. ((q : Name) → zone_of b q ≡ zone_of before q) → ChangeOnly units (around_rows before) (around_rows b)) (sym is)
    (λ zoned. edited_touches before units next keys zones zoned sorted sorted_after named same) kept
