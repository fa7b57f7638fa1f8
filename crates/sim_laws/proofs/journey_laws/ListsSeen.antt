-- The zones of the chassis have the connection lists of the network.
use Rattle.std.specs.Prelude.{◌≡◌, Bool, List, [], ◌∷◌, map, Option, Some, None, IsSome, is_some, option_map, unwrap_or, refl}
use Rattle.std.specs.List.{list_any}
use Rattle.std.specs.BTreeMap.{is_at}
use Rattle.std.specs.Cmp.Lexicographic.{slice_cmp}
use Rattle.std.specs.List.Sorted.{IsStrictlySortedBy}
use Rattle.std.specs.Map.{keys_of}
use Rattle.std.specs.Ordering.{nat_cmp}
use Rattle.std.proofs.Common.{sym, ap, ◌∙◌, subst, inl, inr}
use Rattle.std.proofs.lemmas.Map.Made.{is_some-lookup}
use Rattle.std.proofs.lemmas.Option.{none-some, same_Some}
use Rattle.chassis_sim.specs.State as sim
use Rattle.chassis_sim.specs.State.{at_name}
use Rattle.conn_table.specs.Connections.{ConnectionList}
use Rattle.conn_zones.specs.Zoning.{Zoned, KnownHomes, home_for, number_on}
use Rattle.conn_zones.specs.declared.numbers.ZoneUse.{ZoneUse}
use Rattle.conn_zones.specs.declared.numbers.ZoneUse.TheVariants as zone
use Rattle.net_model.specs.ListOwners.{homed_routers}
use Rattle.net_model.specs.Trail.{ListOwner, of_port, dnat_of, snat_of}
use Rattle.ovn_base.proofs.ByNameLaws.{one_or_two, at_head, at_tail}
use Rattle.ovn_base.proofs.SameEntries.{same_found}
use Rattle.ovn_base.specs.declared.name.Name.{Name}
use Rattle.ovn_base.specs.lists.Among.{Among}
use Rattle.ovn_base.specs.names.ByName.{at, IsByName}
use Rattle.physical_flows.proofs.FlowSearch.{is_some_of}
use Rattle.physical_flows.proofs.HomedRouters.{router_names, router_homes_exact}
use Rattle.switch_engine.specs.Zones.{ZoneLists}
use Rattle.tunnel_keys.proofs.HeldKeys.{found}
use Rattle.sim_laws.proofs.Homes.{home_there}
use Rattle.sim_laws.specs.journeys.InState.{use_of}
use Rattle.sim_laws.specs.journeys.SeenLists.{list_in, lists_at, SeenListsLaw}
use Rattle.sim_laws.specs.pipelines.HeldLists.{list_there}

-- ---- entries

module _ {X Y : Type 0} (f : Name → X → Y) where
  abbrev named_so : Name × X → Name × Y
  named_so e = (e.0, f e.0 e.1)

  keys_same : (es : List (Name × X)) → keys_of (map named_so es) ≡ keys_of es
  keys_same [] = refl
  keys_same (e ∷ es) = ap (λ (ns : List Name). e.0 ∷ ns) (keys_same es)

  -- what is found under a name
  found_under : (es : List (Name × X)) (n : Name) → at (map named_so es) n ≡ option_map (f n) (at es n)
  found_under [] n = refl
  found_under (e ∷ es) n = elim (one_or_two n e.0) [
    | inl same ↦
        subst (λ k. at (map named_so (e ∷ es)) k ≡ option_map (f k) (at (e ∷ es) k)) (sym same)
        (at_head (named_so e) (map named_so es) ∙ ap (option_map (f e.0)) (sym (at_head e es)))
    | inr apart ↦ at_tail (named_so e) (map named_so es) n apart ∙ found_under es n ∙ ap (option_map (f n)) (sym (at_tail e es n apart))
  ]

-- where the lists of a kind are those of who is at home, and each is the one in its zone, they are as they are seen
module _ (s : sim.SimState) (zones : Zoned) (whose : Name → ZoneUse) (lists : List (Name × ConnectionList)) (homes : List (Name × Name)) (owners : keys_of lists ≡ keys_of homes) (sorted : IsByName homes)
    (each : (q c : Name) (list : ConnectionList) → at homes q ≡ Some c → at lists q ≡ Some list → list_in (at_name s.zones c) (number_on zones.numbers c (whose q)) ≡ list) where
  abbrev seen : Name → Name → ConnectionList
  seen q c = list_in (at_name s.zones c) (number_on zones.numbers c (whose q))

  abbrev all_seen : List (Name × ConnectionList)
  all_seen = lists_at zones.numbers s.zones whose homes

  is_home : (q : Name) → is_some (at lists q) ≡ is_some (at homes q)
  is_home q =
      let test : Name → Bool = is_at (slice_cmp nat_cmp q) in
      is_some-lookup test lists ∙ ap (list_any test) owners ∙ sym (is_some-lookup test homes)

  seen_too : (q : Name) (list : ConnectionList) → at lists q ≡ Some list → at all_seen q ≡ Some list
  seen_too q list is =
      let home = found (at homes q) (sym (is_home q) ∙ is_some_of (at lists q) list is) in
      found_under seen homes q ∙ ap (option_map (seen q)) home.1 ∙ ap (λ (l : ConnectionList). Some l) (each q home.0 list home.1 is)

  listed_too : (q : Name) (list : ConnectionList) → at all_seen q ≡ Some list → at lists q ≡ Some list
  listed_too q list is =
      let home = found (at homes q) (home_of (at homes q) (sym (found_under seen homes q) ∙ is)) in
      let own = found (at lists q) (is_home q ∙ is_some_of (at homes q) home.0 home.1) in
      own.1 ∙ sym (seen_too q own.0 own.1) ∙ is
    where
      home_of : (o : Option Name) → option_map (seen q) o ≡ Some list → IsSome o
      home_of None e = absurd (none-some list e)
      home_of (Some c) e = refl

  pub are_seen : lists ≡ all_seen
  are_seen =
      same_found lists all_seen (subst (IsStrictlySortedBy (slice_cmp nat_cmp)) (sym owners) sorted) (subst (IsStrictlySortedBy (slice_cmp nat_cmp)) (sym (keys_same seen homes)) sorted)
      seen_too listed_too

pub lists_are_seen : SeenListsLaw
lists_are_seen m zones sets more s u h = λ i. record { ports = ports_seen i; dnats = dnats_seen i; snats = snats_seen i }
  where
    -- a list is the one in its zone
    in_zone : (owner : ListOwner) (c : Name) (list : ConnectionList) → home_for zones.homes (use_of owner) ≡ Some c → Among c m.config.chassis → list_there m.lists owner ≡ Some list
        → list_in (at_name s.zones c) (number_on zones.numbers c (use_of owner)) ≡ list
    in_zone owner c list home known own =
        let z = found (number_on zones.numbers c (use_of owner)) ((u.bound.zoned.at_home c (use_of owner)).0 home) in
        let lists = found (at_name s.zones c) (h.zoned c ∙ (h.held c).1 known) in
        let held = h.zones c lists.0 lists.1 owner z.0 z.1 in
        ap (λ (o : Option ZoneLists). list_in o (number_on zones.numbers c (use_of owner))) lists.1
        ∙ ap (list_in (Some lists.0)) z.1
        ∙ ap (λ (o : Option ConnectionList). unwrap_or o []) held.held
        ∙ same_Some held.list list (sym held.has ∙ own)

    -- ---- ports

    port_chassis : (q c : Name) → at zones.homes.ports q ≡ Some c → Among c m.config.chassis
    port_chassis q c home = u.bound.chassis_there q c (ap (λ (k : KnownHomes). at k.ports q) (sym u.bound.homes) ∙ home)

    ports_seen : m.lists.ports ≡ lists_at zones.numbers s.zones zone.Port zones.homes.ports
    ports_seen =
        are_seen s zones zone.Port m.lists.ports zones.homes.ports (u.at_home.ports ∙ sym (ap (λ (k : KnownHomes). keys_of k.ports) u.bound.homes)) u.bound.zoned.ports_in_order
        (λ q c list home own. in_zone (of_port q) c list home (port_chassis q c home) own)

    -- ---- gateway routers

    router_chassis : (r c : Name) → at zones.homes.routers r ≡ Some c → Among c m.config.chassis
    router_chassis r c home =
        let own = (router_homes_exact m.config u.valid.in_order.routers r c).0 (ap (λ (k : KnownHomes). at k.routers r) (sym u.bound.homes) ∙ home) in
        home_there m.config own.router.chassis c own.lives

    router_owners : (lists : List (Name × ConnectionList)) → keys_of lists ≡ homed_routers m.config → keys_of lists ≡ keys_of zones.homes.routers
    router_owners lists owners = owners ∙ sym (router_names m.config) ∙ sym (ap (λ (k : KnownHomes). keys_of k.routers) u.bound.homes)

    dnats_seen : m.lists.dnats ≡ lists_at zones.numbers s.zones zone.Dnat zones.homes.routers
    dnats_seen =
        are_seen s zones zone.Dnat m.lists.dnats zones.homes.routers (router_owners m.lists.dnats u.at_home.dnats) u.bound.zoned.routers_in_order
        (λ r c list home own. in_zone (dnat_of r) c list home (router_chassis r c home) own)

    snats_seen : m.lists.snats ≡ lists_at zones.numbers s.zones zone.Snat zones.homes.routers
    snats_seen =
        are_seen s zones zone.Snat m.lists.snats zones.homes.routers (router_owners m.lists.snats u.at_home.snats) u.bound.zoned.routers_in_order
        (λ r c list home own. in_zone (snat_of r) c list home (router_chassis r c home) own)
