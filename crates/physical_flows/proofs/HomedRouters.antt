-- The homes of gateway routers, in order of name, and how many zones a chassis has.
use Rattle.std.specs.Prelude.{◌≡◌, ◌≢◌, ◌≤◌, ◌+◌, ◌*◌, true, cond, List, [], ◌∷◌, Option, Some, None, IsSome, is_some, length, filter, filter_map, option_map, option_and_then, refl}
use Rattle.std.specs.Cmp.Lexicographic.{slice_cmp}
use Rattle.std.specs.List.{cons_option}
use Rattle.std.specs.List.Sorted.{IsStrictlySortedBy}
use Rattle.std.specs.Map.{keys_of}
use Rattle.std.specs.Ordering.{nat_cmp, eq_by_cmp}
use mathlib.Core.Logic.{inl, inr}
use Rattle.std.proofs.Common.{sym, ap, subst, ◌∙◌, arith}
use Rattle.std.proofs.lemmas.Bool.{false≢true}
use Rattle.std.proofs.lemmas.Cmp.{eq_by_cmp_equiv, nat_list_cmp_total}
use Rattle.std.proofs.lemmas.Map.Entries.{length-keys_of}
use Rattle.std.proofs.lemmas.Map.Keys.{IsDistinct-from_sorted}
use Rattle.std.proofs.lemmas.Map.Made.{is_some-lookup}
use Rattle.std.proofs.lemmas.Map.Steps.{length-le_from_keys}
use Rattle.std.proofs.lemmas.Option.{none-some, same_Some}
use Rattle.ovn_base.specs.declared.name.Name.{Name}
use Rattle.ovn_base.specs.names.ByName.{at, IsByName}
use Rattle.ovn_base.proofs.ByNameLaws.{at_head, at_tail, below_apart, one_or_two}
use Rattle.ovn_base.proofs.SameEntries.{first_below, rest_sorted}
use Rattle.conn_zones.proofs.ForCallers.{few_zones}
use Rattle.conn_zones.specs.Rezoning.{of_chassis, zones_in}
use Rattle.nb_records.specs.declared.router.Router.{Router}
use Rattle.nb_rules.proofs.Validity.{unbroken}
use Rattle.net_model.specs.Config.{Config, Home, nowhere, on, everywhere, home_of_router, is_on_one}
use Rattle.physical_flows.specs.Bindings.{homed_router, router_homes}
use Rattle.physical_flows.specs.RouterHomes.{IsRouterHome, RouterHomesFoundLaw, RouterHomesLaw, RouterHomesOrderLaw, RouterNamesLaw, ZonesFitLaw}
use Rattle.physical_flows.specs.TableList.{one_home}
use Rattle.tunnel_keys.proofs.Lists.{filter_sorted, none_at}

-- ---- entries

-- the entries with the images that there are
module _ {X Y : Type 0} (f : X → Option Y) where
  abbrev image : Name × X → Option (Name × Y)
  image e = option_map (λ y. (e.0, y)) (f e.1)

  gone : (e : Name × X) (es : List (Name × X)) → IsByName (e ∷ es) → at es e.0 ≡ None
  gone e es sorted = none_at es e.0 (λ d m. below_apart e.0 d.0 (first_below e es sorted d m))

  found_first : (e : Name × X) (es : List (Name × X)) → at (filter_map image es) e.0 ≡ None → at (filter_map image (e ∷ es)) e.0 ≡ f e.1
  found_first e es none = by (f e.1)
    where
      by : (o : Option Y) → at (cons_option (option_map (λ y. (e.0, y)) o) (filter_map image es)) e.0 ≡ o
      by None = none
      by (Some y) = at_head (e.0, y) (filter_map image es)

  found_later : (e : Name × X) (es : List (Name × X)) (q : Name) → q ≢ e.0 → at (filter_map image (e ∷ es)) q ≡ at (filter_map image es) q
  found_later e es q other = by (f e.1)
    where
      by : (o : Option Y) → at (cons_option (option_map (λ y. (e.0, y)) o) (filter_map image es)) q ≡ at (filter_map image es) q
      by None = refl
      by (Some y) = at_tail (e.0, y) (filter_map image es) q other

  -- what is found is the image of what was
  image_found : (es : List (Name × X)) → IsByName es → (q : Name) → at (filter_map image es) q ≡ option_and_then f (at es q)
  image_found [] sorted q = refl
  image_found (e ∷ es) sorted q = by (image_found es (rest_sorted e es sorted) q) (image_found es (rest_sorted e es sorted) e.0)
    where
      by : at (filter_map image es) q ≡ option_and_then f (at es q) → at (filter_map image es) e.0 ≡ option_and_then f (at es e.0) → at (filter_map image (e ∷ es)) q ≡ option_and_then f (at (e ∷ es) q)
      by here_too first_too = elim (one_or_two q e.0) [
        | inl same ↦
            ap (λ n. at (filter_map image (e ∷ es)) n) same ∙ found_first e es (first_too ∙ ap (λ (o : Option X). option_and_then f o) (gone e es sorted))
            ∙ sym (ap (λ n. option_and_then f (at (e ∷ es) n)) same ∙ ap (λ (o : Option X). option_and_then f o) (at_head e es))
        | inr other ↦ found_later e es q other ∙ here_too ∙ sym (ap (λ (o : Option X). option_and_then f o) (at_tail e es q other))
      ]

  -- there are no more of them
  few_images : (es : List (Name × X)) → length (filter_map image es) ≤ length es
  few_images [] = omega arith
  few_images (e ∷ es) = by (f e.1) (few_images es)
    where
      by : (o : Option Y) → length (filter_map image es) ≤ length es → length (cons_option (option_map (λ y. (e.0, y)) o) (filter_map image es)) ≤ length (e ∷ es)
      by None rest = omega (arith, rest)
      by (Some y) rest = omega (arith, rest)

-- there are no more entries than others, where each name of the ones is one of the others
module _ {X Y : Type 0} (xs : List (Name × X)) (es : List (Name × Y)) (sorted : IsByName xs) (there : (q : Name) (x : X) → at xs q ≡ Some x → IsSome (at es q)) where
  there_by_test : (q : Name) (o : Option X) → at xs q ≡ o → is_some o ≡ true → IsSome (at es q)
  there_by_test q None is h = absurd (false≢true h)
  there_by_test q (Some x) is h = there q x is

  few_entries : length xs ≤ length es
  few_entries =
      subst (λ n. n ≤ length es) (length-keys_of xs)
      (length-le_from_keys (eq_by_cmp_equiv nat_list_cmp_total) (keys_of xs) es (IsDistinct-from_sorted (slice_cmp nat_cmp) (keys_of xs) sorted)
      (λ q h. there_by_test q (at xs q) refl (is_some-lookup (eq_by_cmp (slice_cmp nat_cmp) q) xs ∙ h)))

-- ---- gateway routers

module _ (config : Config) where
  names_homed : (es : List (Name × Router)) → keys_of (filter_map (homed_router config) es) ≡ keys_of (filter (λ (e : Name × Router). is_on_one (home_of_router config e.1)) es)
  names_homed [] = refl
  names_homed (e ∷ es) = by (home_of_router config e.1) (names_homed es)
    where
      by : (h : Home) → keys_of (filter_map (homed_router config) es) ≡ keys_of (filter (λ (d : Name × Router). is_on_one (home_of_router config d.1)) es)
          → keys_of (cons_option (option_map (λ home. (e.0, home)) (one_home h)) (filter_map (homed_router config) es))
          ≡ keys_of (cond (is_on_one h) (e ∷ filter (λ (d : Name × Router). is_on_one (home_of_router config d.1)) es) (filter (λ (d : Name × Router). is_on_one (home_of_router config d.1)) es))
      by nowhere rest = rest
      by (on home) rest = ap (λ ns. e.0 ∷ ns) rest
      by everywhere rest = rest

-- their names are those of the routers that have connection lists
pub router_names : RouterNamesLaw
router_names config = names_homed config config.net.routers

-- they are in order of name
pub router_homes_order : RouterHomesOrderLaw
router_homes_order config sorted =
    subst (λ ns. IsStrictlySortedBy (slice_cmp nat_cmp) ns) (sym (router_names config)) (filter_sorted (λ (e : Name × Router). is_on_one (home_of_router config e.1)) config.net.routers sorted)

-- at each name stands the home of the router there
pub router_homes_found : RouterHomesFoundLaw
router_homes_found config sorted r = image_found (λ (router : Router). one_home (home_of_router config router)) config.net.routers sorted r

one_home_on : (h : Home) (home : Name) → one_home h ≡ Some home → h ≡ on home
one_home_on nowhere home is = absurd (none-some home is)
one_home_on (on other) home is = ap (λ n. on n) (same_Some other home is)
one_home_on everywhere home is = absurd (none-some home is)

-- so they are exactly the routers whose home is one chassis
module _ (config : Config) (r home : Name) where
  abbrev home_found : Option Router → Option Name
  home_found o = option_and_then (λ (router : Router). one_home (home_of_router config router)) o

  lives_there : (o : Option Router) → at config.net.routers r ≡ o → home_found o ≡ Some home → IsRouterHome config r home
  lives_there None is h = absurd (none-some home h)
  lives_there (Some router) is h = record { router = router; there = is; lives = one_home_on (home_of_router config router) home h }

  found_there : IsRouterHome config r home → home_found (at config.net.routers r) ≡ Some home
  found_there h = ap home_found h.there ∙ ap one_home h.lives

pub router_homes_exact : RouterHomesLaw
router_homes_exact config sorted r home =
    let found = router_homes_found config sorted r in
    ((λ is. lives_there config r home (at config.net.routers r) refl (sym found ∙ is)), (λ h. found ∙ found_there config r home h))

-- there are no more of them than routers
pub few_router_homes : (config : Config) → length (router_homes config) ≤ length config.net.routers
few_router_homes config = few_images (λ (router : Router). one_home (home_of_router config router)) config.net.routers

-- of valid records no chassis has more zones than there are numbers
pub zones_fit : ZonesFitLaw
zones_fit config valid sorted there c =
    let clauses = (unbroken config.net []).0 valid.unbroken in
    let datapaths = clauses.datapaths in
    let ports = clauses.ports in
    let bound : length config.bindings ≤ length config.net.switch_ports = few_entries config.bindings config.net.switch_ports sorted there in
    let routers : length (router_homes config) ≤ length config.net.routers = few_router_homes config in
    let zones : length (of_chassis c (zones_in (record { ports = config.bindings; routers = router_homes config }))) ≤ length config.bindings + 2 * length (router_homes config) =
    few_zones (record { ports = config.bindings; routers = router_homes config }) c in
    omega (arith, datapaths, ports, bound, routers, zones)
