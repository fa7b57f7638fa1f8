-- The homes and zones after gateway routers came home with records and chassis.
use Rattle.std.specs.Prelude.{◌≡◌, ◌≤◌, ◌&&◌, true, false, not, ℕ, List, [], ◌∷◌, map, Option, Some, None, IsSome, is_none, is_some, length, option_map, refl}
use Rattle.std.specs.Cmp.Lexicographic.{slice_cmp}
use Rattle.std.specs.List.Sorted.{IsStrictlySortedBy}
use Rattle.std.specs.Option.{unwrap_or}
use Rattle.std.specs.Ordering.{nat_cmp}
use Rattle.std.proofs.Common.{sym, ap, subst, ◌∙◌, inl, inr}
use Rattle.std.proofs.lemmas.Bool.{false≢true}
use Rattle.std.proofs.lemmas.Option.{none-some, same_Some}
use Rattle.conn_zones.specs.Rezoning.{IsHomeChange, IsRehomed, IsRezoned, is_home_on, of_chassis, stays_on, zones_in}
use Rattle.conn_zones.specs.Zoning.{KnownHomes, Zoned, IsZoned, home_for, number_on}
use Rattle.conn_zones.specs.declared.change.HomeChange.{HomeChange}
use Rattle.conn_zones.specs.declared.numbers.TheConstants.{MAX_ZONE}
use Rattle.conn_zones.specs.declared.numbers.ZoneUse.TheVariants.{Port}
use Rattle.nb_records.specs.Network.{Network}
use Rattle.nb_rules.specs.Valid.{IsValid}
use Rattle.net_model.specs.Config.{Config}
use Rattle.ovn_base.proofs.ByNameLaws.{at_head, at_tail, one_or_two}
use Rattle.ovn_base.proofs.OnceLaws.{once_named}
use Rattle.ovn_base.proofs.SameEntries.{same_found}
use Rattle.ovn_base.specs.declared.name.Name.{Name}
use Rattle.ovn_base.specs.lists.Among.{Among}
use Rattle.ovn_base.specs.lists.Once.{EachOnce}
use Rattle.ovn_base.specs.names.ByName.{at, IsByName}
use Rattle.ovn_base.specs.names.SameName.{bytes_decides}
use Rattle.physical_flows.proofs.FlowSearch.{is_some_of}
use Rattle.physical_flows.proofs.HomedRouters.{router_homes_order, zones_fit}
use Rattle.physical_flows.specs.Bindings.{AreBound, router_homes}
use Rattle.sim_laws.specs.journeys.TurnedZones.{coming_home, is_coming, routers_coming, zones_begun}
use Rattle.tunnel_keys.proofs.Lists.{at_filter, filter_at, filter_sorted}
use Rattle.world_setup.specs.Homecoming.{homes_by}

-- ---- entries

-- each with its home, as one that it has from now on
abbrev with_home : Name × Name → Name × Option Name
with_home e = (e.0, Some e.1)

found_with : (es : List (Name × Name)) (q : Name) → at (map with_home es) q ≡ option_map (λ (home : Name). Some home) (at es q)
found_with [] q = refl
found_with (e ∷ es) q = elim (one_or_two q e.0) [
  | inl same ↦
      subst (λ k. at (map with_home (e ∷ es)) k ≡ option_map (λ (home : Name). Some home) (at (e ∷ es) k)) (sym same)
      (at_head (with_home e) (map with_home es) ∙ ap (option_map (λ (home : Name). Some home)) (sym (at_head e es)))
  | inr apart ↦ at_tail (with_home e) (map with_home es) q apart ∙ found_with es q ∙ ap (option_map (λ (home : Name). Some home)) (sym (at_tail e es q apart))
]

names_with : (es : List (Name × Name)) → map (λ (e : Name × Option Name). e.0) (map with_home es) ≡ map (λ (e : Name × Name). e.0) es
names_with [] = refl
names_with (e ∷ es) = ap (λ (ns : List Name). e.0 ∷ ns) (names_with es)

-- the new home, where there is one
new_home : (o p : Option Name) → p ≡ None → unwrap_or (option_map (λ (home : Name). Some home) o) p ≡ o
new_home None p none = none
new_home (Some home) p none = refl

-- ---- records and chassis under which those who were at home stay so

module _ (config : Config) (zones : Zoned) (bound : AreBound config zones) (net : Network) (valid : IsValid net) (chassis : List Name) (there : (q : Name) → IsSome (at config.net.switch_ports q) → IsSome (at net.switch_ports q))
    (stay : (r home : Name) → at (router_homes config) r ≡ Some home → at (router_homes (record { net = net; chassis = chassis; bindings = config.bindings })) r ≡ Some home) where
  abbrev next : Config
  next = record { net = net; chassis = chassis; bindings = config.bindings }

  abbrev homes_then : KnownHomes
  homes_then = homes_by zones.homes net chassis

  abbrev change : HomeChange
  change = coming_home zones.homes homes_then

  abbrev coming : List (Name × Name)
  coming = routers_coming zones.homes homes_then

  homes_sorted : IsByName (router_homes next)
  homes_sorted = router_homes_order next valid.in_order.routers

  homes_before : (r : Name) → at zones.homes.routers r ≡ at (router_homes config) r
  homes_before r = ap (λ (k : KnownHomes). at k.routers r) bound.homes

  -- who was at home doesn't come
  none_comes : (r home : Name) → at zones.homes.routers r ≡ Some home → at coming r ≡ None
  none_comes r home was = by (at coming r) refl
    where
      by : (o : Option Name) → at coming r ≡ o → at coming r ≡ None
      by None is = is
      by (Some h) is = absurd (false≢true (sym (ap is_none was) ∙ (filter_at (is_coming zones.homes.routers) (router_homes next) homes_sorted r h is).1))

  -- who was nowhere comes, if it is at home then
  all_come : (r : Name) → at zones.homes.routers r ≡ None → at coming r ≡ at (router_homes next) r
  all_come r none = by (at (router_homes next) r) refl
    where
      absent : (o : Option Name) → at coming r ≡ o → at (router_homes next) r ≡ None → at coming r ≡ None
      absent None is away = is
      absent (Some h) is away = absurd (none-some h (sym away ∙ (filter_at (is_coming zones.homes.routers) (router_homes next) homes_sorted r h is).0))

      by : (o : Option Name) → at (router_homes next) r ≡ o → at coming r ≡ o
      by None is = absent (at coming r) refl is
      by (Some h) is = at_filter (is_coming zones.homes.routers) (router_homes next) homes_sorted r h is (ap is_none none)

  homes_are : (r : Name) → at (router_homes next) r ≡ unwrap_or (at change.routers r) (at zones.homes.routers r)
  homes_are r = by (at zones.homes.routers r) refl
    where
      by : (o : Option Name) → at zones.homes.routers r ≡ o → at (router_homes next) r ≡ unwrap_or (at change.routers r) (at zones.homes.routers r)
      by (Some home) was =
          stay r home (sym (homes_before r) ∙ was) ∙ sym was
          ∙ sym (ap (λ o. unwrap_or o (at zones.homes.routers r)) (found_with coming r ∙ ap (option_map (λ (h : Name). Some h)) (none_comes r home was)))
      by None none =
          sym (new_home (at (router_homes next) r) (at zones.homes.routers r) none)
          ∙ sym (ap (λ o. unwrap_or o (at zones.homes.routers r)) (found_with coming r ∙ ap (option_map (λ (h : Name). Some h)) (all_come r none)))

  -- the homes after the change are those by the records and the chassis
  pub only_homes : (after : KnownHomes) → IsRehomed zones.homes change after → after ≡ homes_then
  only_homes after h =
      let ports : after.ports ≡ zones.homes.ports = same_found after.ports zones.homes.ports h.ports.in_order bound.zoned.ports_in_order (λ q v e. sym (h.ports.homes q) ∙ e) (λ q v e. h.ports.homes q ∙ e) in
      let routers : after.routers ≡ router_homes next =
      same_found after.routers (router_homes next) h.routers.in_order homes_sorted (λ q v e. homes_are q ∙ sym (h.routers.homes q) ∙ e) (λ q v e. h.routers.homes q ∙ sym (homes_are q) ∙ e) in
      λ i. record { ports = ports i; routers = routers i }

  those : homes_then ≡ record { ports = config.bindings; routers = router_homes next }
  those = let ports : zones.homes.ports ≡ config.bindings = ap (λ (k : KnownHomes). k.ports) bound.homes in λ i. record { ports = ports i; routers = router_homes next }

  -- each chassis has numbers enough
  pub may_come_home : IsHomeChange zones.homes change
  may_come_home = record {
    ports_once = tt;
    routers_once = subst EachOnce (sym (names_with coming)) (once_named (λ (e : Name × Name). e.0) (λ d e same. same) coming (filter_sorted (is_coming zones.homes.routers) (router_homes next) homes_sorted));
    few = λ after h c.
        subst (λ k. length (of_chassis c (zones_in k)) ≤ MAX_ZONE) (sym (only_homes after h ∙ those))
        (zones_fit next valid bound.bindings_sorted (λ q d is. there q (bound.port_there q d is)) c);
  }

  module _ (after : Zoned) (rezoned : IsRezoned zones change after) where
    pub homes_after : after.homes ≡ record { ports = config.bindings; routers = router_homes next }
    homes_after = only_homes after.homes rezoned.homes ∙ those

    -- the change in terms of them
    pub rezoned_by_homes : IsRezoned zones (coming_home zones.homes after.homes) after
    rezoned_by_homes = subst (λ k. IsRezoned zones (coming_home zones.homes k) after) (sym (only_homes after.homes rezoned.homes)) rezoned

    pub begun_by_homes : (emptied : List (Name × ℕ)) → emptied ≡ zones_begun after.numbers coming → emptied ≡ zones_begun after.numbers (routers_coming zones.homes after.homes)
    begun_by_homes emptied is = is ∙ ap (λ k. zones_begun after.numbers (routers_coming zones.homes k)) (sym (only_homes after.homes rezoned.homes))

    -- ports keep their numbers
    module _ (q c : Name) where
      port_home : home_for after.homes (Port q) ≡ home_for zones.homes (Port q)
      port_home = rezoned.homes.ports.homes q

      stayed : home_for zones.homes (Port q) ≡ Some c → stays_on zones.homes change c (Port q) ≡ true
      stayed is = ap (λ o. is_home_on o c && not (is_some (at {X = Option Name} [] q))) is ∙ ap (λ b. b && true) ((bytes_decides c c).1 refl)

      -- who isn't at home there has none
      none_there : (z : Zoned) → IsZoned z → ¬ (home_for z.homes (Port q) ≡ Some c) → number_on z.numbers c (Port q) ≡ None
      none_there z zoned away = by (number_on z.numbers c (Port q)) refl
        where
          by : (o : Option ℕ) → number_on z.numbers c (Port q) ≡ o → number_on z.numbers c (Port q) ≡ None
          by None is = is
          by (Some n) is = absurd (away ((zoned.at_home c (Port q)).1 (is_some_of (number_on z.numbers c (Port q)) n is)))

      neither : ¬ (home_for zones.homes (Port q) ≡ Some c) → number_on after.numbers c (Port q) ≡ number_on zones.numbers c (Port q)
      neither away = none_there after rezoned.zoned (λ is. away (sym port_home ∙ is)) ∙ sym (none_there zones bound.zoned away)

      pub number_same : number_on after.numbers c (Port q) ≡ number_on zones.numbers c (Port q)
      number_same = by (home_for zones.homes (Port q)) refl
        where
          by : (o : Option Name) → home_for zones.homes (Port q) ≡ o → number_on after.numbers c (Port q) ≡ number_on zones.numbers c (Port q)
          by None is = neither (λ at_it. none-some c (sym is ∙ at_it))
          by (Some h) is = elim (one_or_two h c) [
            | inl same ↦ (let home = is ∙ ap (λ (n : Name). Some n) same in rezoned.stay c (Port q) (port_home ∙ home) (stayed home))
            | inr apart ↦ neither (λ at_it. apart (same_Some h c (sym is ∙ at_it)))
          ]

    -- bindings, homes and zones are as they are to be
    pub bound_home : ((c : Name) → Among c config.chassis → Among c chassis) → IsStrictlySortedBy (slice_cmp nat_cmp) chassis → length chassis ≤ 64 → AreBound next after
    bound_home still sorted few = record {
      bindings_sorted = bound.bindings_sorted;
      port_there = λ q c is. there q (bound.port_there q c is);
      chassis_there = λ q c is. still c (bound.chassis_there q c is);
      chassis_sorted = sorted;
      few_chassis = few;
      homes = homes_after;
      zoned = rezoned.zoned;
    }
