-- What the ports of routers reach, as it is gathered.
use Rattle.std.specs.Prelude.{◌≡◌, ◌++◌, Bool, true, false, cond, List, [], ◌∷◌, map, filter, flat_map, Option, Some, None, option_map, is_some}
use Rattle.std.specs.BTreeSet.{insert_key}
use Rattle.std.specs.Map.{keys_of}
use Rattle.std.specs.Option.{option_and_then}
use Rattle.std.specs.declared.cmp.Ordering.TheVariants.{Equal}
use Rattle.std.proofs.Common.{refl, sym, ap, ◌∙◌, subst, inl, inr}
use Rattle.std.proofs.lemmas.Map.Lookups.{exact_unsigned}
use Rattle.std.proofs.lemmas.Map.Lookups.{CmpEqualImpliesEq}
use Rattle.std.proofs.lemmas.Option.{none-some, same_Some}
use Rattle.ovn_base.proofs.AmongLaws.{among_filter, among_map, among_none, among_same, filter_among, map_among}
use Rattle.ovn_base.proofs.ByNameLaws.{among_at}
use Rattle.ovn_base.specs.declared.address.Ip4.{Ip4}
use Rattle.ovn_base.specs.declared.address.Mac.{Mac}
use Rattle.ovn_base.specs.declared.name.Name.{Name}
use Rattle.ovn_base.specs.lists.Among.{Among, here, there}
use Rattle.ovn_base.specs.names.ByName.{at, IsByName}
use Rattle.tunnel_keys.proofs.KeyOrder.{inserted}
use Rattle.nb_records.specs.Neighbours.{neighbour_of}
use Rattle.nb_records.specs.Network.{Network}
use Rattle.nb_records.specs.Routers.{partner_of_router_port, peer_by, router_side, switch_port_before, switch_side_or}
use Rattle.nb_records.specs.Switches.{enabled_ports, is_virtual, router_port_behind}
use Rattle.nb_records.specs.declared.router.RouterPort.{RouterPort}
use Rattle.nb_records.specs.declared.switch.SwitchPort.{SwitchPort}
use Rattle.logical_flows.specs.declared.unit.UnitId.{UnitId}
use Rattle.logical_flows.specs.declared.unit.UnitId.TheVariants as unit
use Rattle.stage_rows.specs.Facts.{answered_if, answered_ips, ip_cmp, ips_in_order, port_ips}
use Rattle.stage_rows.specs.Rows.{on_some}
use Rattle.stage_rows.specs.Units.{bound_ips, ips_beyond, neighbour_named, neighbour_units, units_of_router_port}
use Rattle.row_laws.proofs.records.AnsweredIps.{order_to}
use Rattle.northd_core.specs.Held.{unit_order}
use Rattle.northd_core.specs.Listing.{HaveJoined}
use Rattle.northd_core.specs.Routed.{ips_on_switch, neighbours_named, reached_units}
use Rattle.northd_core.proofs.Joined.{IsJoining, alike_join, none_join, one_joins}

-- ---- beyond a port

module _ (net : Network) where
  answers_behind : (o : Option RouterPort) → answered_if net o ≡ on_some o (answered_ips net)
  answers_behind None = refl
  answers_behind (Some p) = refl

  behind_same : (qs : List SwitchPort) → flat_map (λ q. answered_if net (router_port_behind net q)) qs ≡ flat_map (λ x. on_some (router_port_behind net x) (answered_ips net)) qs
  behind_same [] = refl
  behind_same (q ∷ qs) = λ i. answers_behind (router_port_behind net q) i ++ behind_same qs i

  -- on a switch
  pub beyond_switch : (p : RouterPort) (s : Name) → Some s ≡ option_map (λ (q : SwitchPort). q.switch) (switch_port_before net p)
      → ips_on_switch net s ≡ ips_beyond net (partner_of_router_port net p)
  beyond_switch p s h = by (switch_port_before net p) refl h
    where
      by : (o : Option SwitchPort) → switch_port_before net p ≡ o → Some s ≡ option_map (λ (q : SwitchPort). q.switch) o
          → ips_on_switch net s ≡ ips_beyond net (partner_of_router_port net p)
      by None is h = absurd (none-some s (sym h))
      by (Some q) is h =
          ap (λ xs. flat_map port_ips (filter is_virtual (enabled_ports net s)) ++ xs) (behind_same (enabled_ports net s))
          ∙ ap (λ n. flat_map port_ips (filter is_virtual (enabled_ports net n)) ++ flat_map (λ x. on_some (router_port_behind net x) (answered_ips net)) (enabled_ports net n)) (same_Some s q.switch h)
          ∙ sym (ap (λ (o : Option SwitchPort). ips_beyond net (switch_side_or (peer_by net p.name p.peer) o)) is)

  -- and of a port that is on none
  pub beyond_peer : (p : RouterPort) → None ≡ option_map (λ (q : SwitchPort). q.switch) (switch_port_before net p)
      → answered_if net (peer_by net p.name p.peer) ≡ ips_beyond net (partner_of_router_port net p)
  beyond_peer p h = by (switch_port_before net p) refl h
    where
      joined : (o : Option RouterPort) → answered_if net o ≡ ips_beyond net (option_map router_side o)
      joined None = refl
      joined (Some r) = refl

      by : (o : Option SwitchPort) → switch_port_before net p ≡ o → None ≡ option_map (λ (q : SwitchPort). q.switch) o → answered_if net (peer_by net p.name p.peer) ≡ ips_beyond net (partner_of_router_port net p)
      by None is h = joined (peer_by net p.name p.peer) ∙ sym (ap (λ (o : Option SwitchPort). ips_beyond net (switch_side_or (peer_by net p.name p.peer) o)) is)
      by (Some q) is h = absurd (none-some q.switch h)

-- ---- addresses in order

same_number : (a b : Ip4) → ip_cmp a b ≡ Equal → a ≡ b
same_number a b h = let e = exact_unsigned a.0 b.0 h in λ i. record { 0 = e i }

order_from : (xs : List Ip4) (x : Ip4) → Among x (ips_in_order xs) → Among x xs
order_from [] x m = m
order_from (y ∷ ys) x m = elim ((inserted ip_cmp same_number (ips_in_order ys) y x).0 m) [ inl is ↦ among_same x y ys is | inr n ↦ there (order_from ys x n) ]

-- ---- what a port reaches

module _ (net : Network) (port : Name) where
  -- one of the addresses more, which it reaches or doesn't
  pub reaching : (ip : Ip4) (ips : List Ip4) → is_some (neighbour_named net port ip) ≡ true → reached_units net port (ip ∷ ips) ≡ unit.Neighbour port ip ∷ reached_units net port ips
  reaching ip ips on =
      ap (λ t. map (unit.Neighbour port) (cond t (ip ∷ filter (λ ip. is_some (neighbour_named net port ip)) ips) (filter (λ ip. is_some (neighbour_named net port ip)) ips))) on

  pub not_reaching : (ip : Ip4) (ips : List Ip4) → is_some (neighbour_named net port ip) ≡ false → reached_units net port (ip ∷ ips) ≡ reached_units net port ips
  not_reaching ip ips off =
      ap (λ t. map (unit.Neighbour port) (cond t (ip ∷ filter (λ ip. is_some (neighbour_named net port ip)) ips) (filter (λ ip. is_some (neighbour_named net port ip)) ips))) off

  -- one joins that it reaches, and nobody where it doesn't
  pub one_reached : CmpEqualImpliesEq unit_order → (ip : Ip4) (mac : Mac) (now next : List UnitId) → neighbour_named net port ip ≡ Some mac → next ≡ insert_key unit_order now (unit.Neighbour port ip)
      → HaveJoined (reached_units net port (ip ∷ [])) now next
  one_reached exact ip mac now next is made =
      subst (λ us. HaveJoined us now next) (sym (reaching ip [] (ap is_some is))) (one_joins exact now next (unit.Neighbour port ip) made)

  pub none_reached : (ip : Ip4) (now : List UnitId) → neighbour_named net port ip ≡ None → HaveJoined (reached_units net port (ip ∷ [])) now now
  none_reached ip now is = subst (λ us. HaveJoined us now now) (sym (not_reaching ip [] (ap is_some is))) (none_join now)

  -- one of the addresses, and the others
  pub first_reached : (ip : Ip4) (ips : List Ip4) → reached_units net port (ip ∷ ips) ≡ reached_units net port (ip ∷ []) ++ reached_units net port ips
  first_reached ip ips = by (is_some (neighbour_named net port ip))
    where
      by : (t : Bool) → map (unit.Neighbour port) (cond t (ip ∷ filter (λ ip. is_some (neighbour_named net port ip)) ips) (filter (λ ip. is_some (neighbour_named net port ip)) ips))
          ≡ map (unit.Neighbour port) (cond t (ip ∷ []) []) ++ reached_units net port ips
      by true = refl
      by false = refl

  module _ (q : RouterPort) (is : at net.router_ports port ≡ Some q) where
    abbrev ips : List Ip4
    ips = bound_ips net q ++ ips_beyond net (partner_of_router_port net q)

    named_is : (ip : Ip4) → neighbour_named net port ip ≡ neighbour_of net q ip
    named_is ip = ap (λ (o : Option RouterPort). option_and_then (λ x. neighbour_of net x ip) o) is

    to_units : (u : UnitId) → Among u (reached_units net port ips) → Among u (units_of_router_port net (port, q))
    to_units u m =
        let x = map_among (unit.Neighbour port) u (filter (λ ip. is_some (neighbour_named net port ip)) ips) m in
        let two = filter_among (λ ip. is_some (neighbour_named net port ip)) x.0 ips x.1 in
        let own = among_filter (λ ip. is_some (neighbour_of net q ip)) x.0 (ips_in_order ips) (order_to ips x.0 two.0) (ap is_some (sym (named_is x.0)) ∙ two.1) in
        subst (λ v. Among v (units_of_router_port net (port, q))) (sym x.2) (among_map (unit.Neighbour port) x.0 (filter (λ ip. is_some (neighbour_of net q ip)) (ips_in_order ips)) own)

    from_units : (u : UnitId) → Among u (units_of_router_port net (port, q)) → Among u (reached_units net port ips)
    from_units u m =
        let x = map_among (unit.Neighbour port) u (filter (λ ip. is_some (neighbour_of net q ip)) (ips_in_order ips)) m in
        let two = filter_among (λ ip. is_some (neighbour_of net q ip)) x.0 (ips_in_order ips) x.1 in
        let own = among_filter (λ ip. is_some (neighbour_named net port ip)) x.0 ips (order_from ips x.0 two.0) (ap is_some (named_is x.0) ∙ two.1) in
        subst (λ v. Among v (reached_units net port ips)) (sym x.2) (among_map (unit.Neighbour port) x.0 (filter (λ ip. is_some (neighbour_named net port ip)) ips) own)

    -- where those of the addresses that it may reach have joined that it does, its neighbours have
    pub neighbours_join : (start all : List UnitId) (found : List Ip4) → found ≡ ips → HaveJoined (reached_units net port found) start all → HaveJoined (neighbours_named net port) start all
    neighbours_join start all found are joined =
        subst (λ (o : Option RouterPort). HaveJoined (on_some o (λ q. units_of_router_port net (port, q))) start all) (sym is)
        (alike_join (reached_units net port ips) (units_of_router_port net (port, q)) start all to_units from_units (subst (λ xs. HaveJoined (reached_units net port xs) start all) are joined))

-- where none is left all have joined
pub none_left_joined : (start all now : List UnitId) → IsJoining start all now [] → HaveJoined all start now
none_left_joined start all now joining u = (λ m. (joining u).0 (inl m), λ h. elim ((joining u).1 h) [ inl m ↦ m | inr none ↦ absurd (among_none u none) ])

-- ---- what all ports reach

pub by_name : (net : Network) → IsByName net.router_ports → flat_map (neighbours_named net) (keys_of net.router_ports) ≡ neighbour_units net
by_name net order = each net.router_ports (λ e m. among_at e.0 e.1 net.router_ports order m)
  where
    each : (es : List (Name × RouterPort)) → ((e : Name × RouterPort) → Among e es → at net.router_ports e.0 ≡ Some e.1) → flat_map (neighbours_named net) (keys_of es) ≡ flat_map (units_of_router_port net) es
    each [] h = refl
    each (e ∷ es) h = λ i. on_some (h e here i) (λ q. units_of_router_port net (e.0, q)) ++ each es (λ x m. h x (there m)) i
