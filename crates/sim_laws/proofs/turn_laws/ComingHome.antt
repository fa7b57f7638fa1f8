-- Gateway routers that come home with a turn begin with their zones, and all others keep theirs.
use Rattle.std.specs.Prelude.{◌≡◌, ◌⊎◌, ◌&&◌, ℕ, Bool, true, false, not, List, [], Option, Some, None, is_none, is_some, refl}
use Rattle.std.specs.Map.{keys_of}
use Rattle.std.proofs.Common.{sym, ap, ◌∙◌, subst, inl, inr}
use Rattle.std.proofs.lemmas.Bool.{false≢true}
use Rattle.std.proofs.lemmas.Option.{none-some, same_Some}
use Rattle.conn_table.specs.Connections.{ConnectionList}
use Rattle.conn_zones.specs.Rezoning.{IsRezoned, is_home_on, stays_on}
use Rattle.conn_zones.specs.Zoning.{Zoned, KnownHomes, home_for, number_on}
use Rattle.conn_zones.specs.declared.change.HomeChange.{HomeChange}
use Rattle.conn_zones.specs.declared.numbers.ZoneUse.{ZoneUse}
use Rattle.conn_zones.specs.declared.numbers.ZoneUse.TheVariants as zone
use Rattle.net_model.specs.ListOwners.{homed_routers, names_of}
use Rattle.net_model.specs.State.{State}
use Rattle.net_model.specs.Trail.{ListOwner, of_port, dnat_of, snat_of}
use Rattle.net_model.specs.Transition.{Turn, turned_by}
use Rattle.ovn_base.proofs.AmongLaws.{among_append, among_cases, among_filter, among_flat_map, among_left, among_map, among_none, among_right, filter_among, flat_map_among, map_among}
use Rattle.ovn_base.proofs.ByNameLaws.{among_at, at_among}
use Rattle.ovn_base.specs.declared.name.Name.{Name}
use Rattle.ovn_base.specs.lists.Among.{Among, here}
use Rattle.ovn_base.specs.names.ByName.{at}
use Rattle.ovn_base.specs.names.SameName.{bytes_decides}
use Rattle.physical_flows.proofs.FlowSearch.{is_some_of}
use Rattle.physical_flows.proofs.HomedRouters.{router_homes_order, router_names}
use Rattle.physical_flows.specs.Bindings.{AreBound, router_homes}
use Rattle.sim_laws.proofs.turn_laws.RouterZones.{has_lists, home_then, homed_then, homes_before, is_port_use, list_of_owner, lists_after, lists_before, name_of_owner, name_of_use, router_lists, router_owner, router_stays}
use Rattle.sim_laws.proofs.turn_laws.TurnedLists.{list_kept, list_new, owned}
use Rattle.sim_laws.specs.journeys.InState.{use_of, zones_on}
use Rattle.sim_laws.specs.journeys.TurnedZones.{BeginsZone, ComingHomeLaw, KeepsZone, OnlyComeHome, begun_by, coming_home, is_coming, routers_coming, zone_numbered, zones_begun}
use Rattle.sim_laws.specs.journeys.UnderWay.{IsUnderWay}

none_of : {X : Type 0} (o : Option X) → is_none o ≡ true → o ≡ None
none_of None h = refl
none_of (Some x) h = absurd (false≢true h)

module _ (m : State) (zones later : Zoned) (more : ℕ) (turn : Turn) (u : IsUnderWay m zones more) (v : AreBound turn.next later) (k : OnlyComeHome m turn) (rezoned : IsRezoned zones (coming_home zones.homes later.homes) later) where
  abbrev coming : List (Name × Name)
  coming = routers_coming zones.homes later.homes

  abbrev change : HomeChange
  change = coming_home zones.homes later.homes

  abbrev emptied : List (Name × ℕ)
  emptied = zones_begun later.numbers coming

  abbrev IsTold : Name → ListOwner → ℕ → Type 0
  IsTold c owner n = KeepsZone m turn zones.numbers emptied c owner n ⊎ BeginsZone m turn emptied c owner n

  -- ---- who comes home

  -- they were at home nowhere
  coming_nowhere : (r home : Name) → Among (r, home) coming → at (router_homes m.config) r ≡ None
  coming_nowhere r home among =
      sym (homes_before m zones later more turn u v r) ∙ none_of (at zones.homes.routers r) (filter_among (is_coming zones.homes.routers) (r, home) later.homes.routers among).1

  -- and the change names nobody else
  unnamed : (r c : Name) → at (router_homes m.config) r ≡ Some c → at change.routers r ≡ None
  unnamed r c was = by (at change.routers r) refl
    where
      by : (o : Option (Option Name)) → at change.routers r ≡ o → at change.routers r ≡ None
      by None is = is
      by (Some home) is =
          let e = map_among (λ (x : Name × Name). (x.0, Some x.1)) (r, home) coming (at_among change.routers r home is) in
          let same : r ≡ e.0.0 = ap (λ (x : Name × Option Name). x.0) e.2 in
          absurd (none-some c (sym (coming_nowhere r e.0.1 (subst (λ q. Among (q, e.0.1) coming) (sym same) e.1)) ∙ was))

  -- ---- which zones are emptied

  module _ (c : Name) (n : ℕ) (whose : ZoneUse) (is : number_on later.numbers c whose ≡ Some n) where
    -- one of a router that comes home there
    abbrev IsBegun : Type 0
    IsBegun = Among (name_of_use whose, c) coming × (is_port_use whose ≡ false)

    begun_as : (r d : Name) → Among (r, d) coming → (other : ZoneUse) → name_of_use other ≡ r → is_port_use other ≡ false → Among (c, n) (zone_numbered d (number_on later.numbers d other)) → IsBegun
    begun_as r d among other name none at_it = by (number_on later.numbers d other) refl at_it
      where
        by : (o : Option ℕ) → number_on later.numbers d other ≡ o → Among (c, n) (zone_numbered d o) → IsBegun
        by None has w = absurd (among_none (c, n) w)
        by (Some z) has w = elim (among_cases (c, n) (d, z) [] w) [
          | inl same ↦
              let theirs : number_on later.numbers c other ≡ Some n = subst (λ (x : Name × ℕ). number_on later.numbers x.0 other ≡ Some x.1) (sym same) has in
              let one : whose ≡ other = v.zoned.apart c whose other n is theirs in
              let chassis : c ≡ d = ap (λ (x : Name × ℕ). x.0) same in
              let named : name_of_use whose ≡ r = ap name_of_use one ∙ name in
              (subst (λ (x : Name × Name). Among x coming) (λ i. (sym named i, sym chassis i)) among, ap is_port_use one ∙ none)
          | inr nothing ↦ absurd (among_none (c, n) nothing)
        ]

    begun_home : Among (c, n) emptied → IsBegun
    begun_home among =
        let e = flat_map_among (begun_by later.numbers) (c, n) coming among in
        let firsts = zone_numbered e.0.1 (number_on later.numbers e.0.1 (zone.Dnat e.0.0)) in
        let seconds = zone_numbered e.0.1 (number_on later.numbers e.0.1 (zone.Snat e.0.0)) in
        elim (among_append (c, n) firsts seconds e.2) [
          | inl w ↦ begun_as e.0.0 e.0.1 e.1 (zone.Dnat e.0.0) refl refl w
          | inr w ↦ begun_as e.0.0 e.0.1 e.1 (zone.Snat e.0.0) refl refl w
        ]

  -- ---- ports

  module _ (q c : Name) (n : ℕ) (is : number_on later.numbers c (zone.Port q) ≡ Some n) where
    port_home : home_for later.homes (zone.Port q) ≡ Some c
    port_home = (v.zoned.at_home c (zone.Port q)).1 (is_some_of (number_on later.numbers c (zone.Port q)) n is)

    bound_then : at turn.next.bindings q ≡ Some c
    bound_then = ap (λ (h : KnownHomes). at h.ports q) (sym v.homes) ∙ port_home

    was_bound : at m.config.bindings q ≡ Some c
    was_bound = ap (λ l. at l q) (sym k.bindings) ∙ bound_then

    stayed : stays_on zones.homes change c (zone.Port q) ≡ true
    stayed =
        ap (λ o. is_home_on o c && not (is_some (at {X = Option Name} [] q))) (ap (λ (h : KnownHomes). at h.ports q) u.bound.homes ∙ was_bound) ∙ ap (λ b. b && true) ((bytes_decides c c).1 refl)

    was_among : Among q (keys_of m.config.bindings)
    was_among = among_map (λ (e : Name × Name). e.0) (q, c) m.config.bindings (at_among m.config.bindings q c was_bound)

    own : (list : ConnectionList) × (at m.lists.ports q ≡ Some list)
    own = owned m.lists.ports (keys_of m.config.bindings) u.at_home.ports u.bound.bindings_sorted q was_among

    port_keeps : IsTold c (of_port q) n
    port_keeps = inl (record {
      was = u.bound.chassis_there q c was_bound;
      number = sym (rezoned.stay c (zone.Port q) port_home stayed) ∙ is;
      list =
          list_kept (names_of turn.emptied.ports) m.lists.ports (keys_of turn.next.bindings) q own.0 (subst (λ l. Among q (keys_of l)) (sym k.bindings) was_among) (k.ports_kept q was_among) own.1 ∙ sym own.1;
      kept = λ among. false≢true (sym (begun_home c n (zone.Port q) is among).1);
    })

  -- ---- routers

  module _ (dst : Bool) (r c : Name) (n : ℕ) (is : zones_on later.numbers c (router_owner dst r) ≡ Some n) where
    router_keeps : at (router_homes m.config) r ≡ Some c → IsTold c (router_owner dst r) n
    router_keeps was =
        inl (router_stays m zones later more turn u v dst r c n is change rezoned emptied was (unnamed r c was) (k.routers_kept r (has_lists m.config r c was))
        (λ among. none-some c (sym (coming_nowhere r c (subst (λ p. Among (p, c) coming) (name_of_owner dst r) (begun_home c n (use_of (router_owner dst r)) is among).0)) ∙ was)))

    -- who was at home nowhere had no list
    no_list : at (router_homes m.config) r ≡ None → at (router_lists dst m.lists) r ≡ None
    no_list none = by (at (router_lists dst m.lists) r) refl
      where
        by : (o : Option ConnectionList) → at (router_lists dst m.lists) r ≡ o → at (router_lists dst m.lists) r ≡ None
        by None has = has
        by (Some list) has =
            let own : Among r (keys_of (router_lists dst m.lists)) = among_map (λ (x : Name × ConnectionList). x.0) (r, list) (router_lists dst m.lists) (at_among (router_lists dst m.lists) r list has) in
            let named : Among r (keys_of (router_homes m.config)) = subst (λ ns. Among r ns) (lists_before dst m.config m.lists u.at_home ∙ sym (router_names m.config)) own in
            let e = map_among (λ (x : Name × Name). x.0) r (router_homes m.config) named in
            let found : at (router_homes m.config) e.0.0 ≡ Some e.0.1 = among_at e.0.0 e.0.1 (router_homes m.config) (router_homes_order m.config u.valid.in_order.routers) e.1 in
            absurd (none-some e.0.1 (sym none ∙ ap (at (router_homes m.config)) e.2 ∙ found))

    begun : (one : Bool) → number_on later.numbers c (use_of (router_owner one r)) ≡ Some n → Among (c, n) (begun_by later.numbers (r, c))
    begun true has =
        among_left (c, n) (zone_numbered c (number_on later.numbers c (zone.Dnat r))) (zone_numbered c (number_on later.numbers c (zone.Snat r)))
        (subst (λ o. Among (c, n) (zone_numbered c o)) (sym has) here)
    begun false has =
        among_right (c, n) (zone_numbered c (number_on later.numbers c (zone.Dnat r))) (zone_numbered c (number_on later.numbers c (zone.Snat r)))
        (subst (λ o. Among (c, n) (zone_numbered c o)) (sym has) here)

    router_begins : at (router_homes m.config) r ≡ None → IsTold c (router_owner dst r) n
    router_begins none = inr (record {
      list =
          list_of_owner dst (turned_by turn m).lists r ∙ ap (λ l. at l r) (lists_after dst m turn)
          ∙ list_new (names_of turn.emptied.routers) (router_lists dst m.lists) (homed_routers turn.next) r (has_lists turn.next r c (home_then m zones later more turn u v dst r c n is)) (no_list none);
      empties =
          among_flat_map (begun_by later.numbers) (r, c) (c, n) coming
          (among_filter (is_coming zones.homes.routers) (r, c) later.homes.routers (at_among later.homes.routers r c (homed_then m zones later more turn u v dst r c n is))
          (ap is_none (homes_before m zones later more turn u v r ∙ none)))
          (begun dst is);
    })

    router_told : IsTold c (router_owner dst r) n
    router_told = by (at (router_homes m.config) r) refl
      where
        by : (o : Option Name) → at (router_homes m.config) r ≡ o → IsTold c (router_owner dst r) n
        by None none = router_begins none
        by (Some home) was =
            let same : home ≡ c = same_Some home c (sym (k.routers r home was) ∙ home_then m zones later more turn u v dst r c n is) in
            router_keeps (was ∙ ap (λ (d : Name). Some d) same)

  pub is_told : (c : Name) (owner : ListOwner) (n : ℕ) → zones_on later.numbers c owner ≡ Some n → IsTold c owner n
  is_told c (of_port q) n is = port_keeps q c n is
  is_told c (dnat_of r) n is = router_told true r c n is
  is_told c (snat_of r) n is = router_told false r c n is

pub comes_home : ComingHomeLaw
comes_home m zones later more turn u v k rezoned c then owner n is = is_told m zones later more turn u v k rezoned c owner n is
