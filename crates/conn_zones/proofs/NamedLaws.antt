-- Of a change it is enough to ask those whom it names: who isn't named stays.
use Rattle.std.specs.Prelude.{◌≡◌, Bool, true, false, ◌&&◌, not, cond, List, [], ◌∷◌, ◌++◌, Option, Some, None, is_some, map, filter, flat_map, refl}
use mathlib.Core.Path.{sym, ap, subst, ◌∙◌}
use mathlib.Core.Logic.{inl, inr}
use Rattle.std.specs.BTreeMap.{is_at}
use Rattle.std.specs.Cmp.Lexicographic.{slice_cmp}
use Rattle.std.specs.Option.{option_or, unwrap_or}
use Rattle.std.specs.Ordering.{nat_cmp}
use Rattle.std.proofs.lemmas.Bool.{cond-true, cond-false}
use Rattle.std.proofs.lemmas.List.Elements.{filter-append}
use Rattle.std.proofs.lemmas.Map.Entries.{option_filter}
use Rattle.ovn_base.specs.declared.name.Name.{Name}
use Rattle.ovn_base.specs.lists.Once.{EachOnce}
use Rattle.ovn_base.specs.names.ByName.{at, IsByName}
use Rattle.ovn_base.proofs.ByNameLaws.{at_head, at_tail, one_or_two, own_name, other_name}
use Rattle.conn_zones.specs.declared.change.HomeChange.{HomeChange}
use Rattle.conn_zones.specs.declared.numbers.ZonePlace.{ZonePlace}
use Rattle.conn_zones.specs.declared.numbers.ZoneUse.{ZoneUse}
use Rattle.conn_zones.specs.declared.numbers.ZoneUse.TheVariants.{Port, Dnat, Snat}
use Rattle.conn_zones.specs.Zoning.{KnownHomes, GivenNumbers, place_for, number_on, home_for, IsZoned}
use Rattle.conn_zones.specs.Rezoning.{AreHomesAfter, IsRehomed, is_home_on, remains, stays_on, zones_in, coming}
use Rattle.conn_zones.specs.Giving.{place_at_home, comes_to, ArePlacesAfter, AreComers, keep_places, AreKeptNumbers}
use Rattle.conn_zones.proofs.ChangeLaws.{none_at}
use Rattle.conn_zones.proofs.Lists.{is_kept_list}
use Rattle.conn_zones.proofs.PlaceLaws.{own_name as home_itself, has_value, number_placed}
use Rattle.conn_zones.proofs.ZoneLists.{port_zone, router_zones}

-- ---- one of the named, and then the others

-- what the named have of the places, where the others have what they had
abbrev pub place_left : List (Name × Name) → List (Name × Option Name) → List (Name × ZonePlace) → Name → Option ZonePlace
place_left homes change places q = cond (is_some (at change q)) (place_at_home (at homes q) (at places q)) (at places q)

home_twice : (home : Option Name) (place : Option ZonePlace) → place_at_home home (place_at_home home place) ≡ place_at_home home place
home_twice home None = refl
home_twice home (Some p) = by (is_home_on home p.chassis) refl
  where
    by : (b : Bool) → is_home_on home p.chassis ≡ b → place_at_home home (cond b (Some p) None) ≡ cond b (Some p) None
    by true is = ap (λ c. cond c (Some p) None) is
    by false is = refl

with_true : (b : Bool) → (b && true) ≡ b
with_true true = refl
with_true false = refl

with_false : (b : Bool) → (b && false) ≡ false
with_false true = refl
with_false false = refl

either : {X : Type 0} (b : Bool) (x y : X) → y ≡ x → cond b y x ≡ x
either true x y h = h
either false x y h = refl

-- who is at home is left its place by leaving all as it is
pub place_stays : (homes : List (Name × Name)) (places : List (Name × ZonePlace)) (n : Name) (p : ZonePlace) → at places n ≡ Some p → is_home_on (at homes n) p.chassis ≡ true
    → (q : Name) → at places q ≡ cond (is_at (slice_cmp nat_cmp n) q) (place_at_home (at homes n) (at places n)) (at places q)
place_stays homes places n p found home q = elim (one_or_two q n) [
  | inl same ↦
      let left : place_at_home (at homes n) (at places n) ≡ at places n = ap (λ o. place_at_home (at homes n) o) found ∙ cond-true (is_home_on (at homes n) p.chassis) (Some p) None home ∙ sym found in
      subst (λ (m : Name). at places m ≡ cond (is_at (slice_cmp nat_cmp n) m) (place_at_home (at homes n) (at places n)) (at places m)) (sym same)
      (sym (cond-true (is_at (slice_cmp nat_cmp n) n) (place_at_home (at homes n) (at places n)) (at places n) (own_name n) ∙ left))
  | inr apart ↦ sym (cond-false (is_at (slice_cmp nat_cmp n) q) (place_at_home (at homes n) (at places n)) (at places q) (other_name n q (λ h. apart (sym h))))
]

pub next_place : (homes : List (Name × Name)) (places after : List (Name × ZonePlace)) (e : Name × Option Name) (rest : List (Name × Option Name))
    → ((q : Name) → at after q ≡ cond (is_at (slice_cmp nat_cmp e.0) q) (place_at_home (at homes e.0) (at places e.0)) (at places q))
    → (q : Name) → place_left homes rest after q ≡ place_left homes (e ∷ rest) places q
next_place homes places after e rest kept q = elim (one_or_two q e.0) [
  | inl same ↦ subst (λ (n : Name). place_left homes rest after n ≡ place_left homes (e ∷ rest) places n) (sym same) own
  | inr apart ↦
      let other : at after q ≡ at places q = kept q ∙ cond-false (is_at (slice_cmp nat_cmp e.0) q) (place_at_home (at homes e.0) (at places e.0)) (at places q) (other_name e.0 q (λ h. apart (sym h))) in
      ap (λ p. cond (is_some (at rest q)) (place_at_home (at homes q) p) p) other
      ∙ sym (ap (λ o. cond (is_some o) (place_at_home (at homes q) (at places q)) (at places q)) (at_tail e rest q apart))
]
  where
    left : Option ZonePlace
    left = place_at_home (at homes e.0) (at places e.0)

    own : place_left homes rest after e.0 ≡ place_left homes (e ∷ rest) places e.0
    own =
        let is : at after e.0 ≡ left = kept e.0 ∙ cond-true (is_at (slice_cmp nat_cmp e.0) e.0) left (at places e.0) (own_name e.0) in
        ap (λ p. cond (is_some (at rest e.0)) (place_at_home (at homes e.0) p) p) is
        ∙ either (is_some (at rest e.0)) left (place_at_home (at homes e.0) left) (home_twice (at homes e.0) (at places e.0))
        ∙ sym (ap (λ o. cond (is_some o) left (at places e.0)) (at_head e rest))

-- where each comes to of the named, or of those so far
abbrev pub comer_at : List (Name × Name) → List (Name × Option Name) → List (Name × Name) → Name → Option Name
comer_at before change comers q = option_or (comes_to (at before q) (at change q)) (at comers q)

pub next_comer : (before comers after : List (Name × Name)) (e : Name × Option Name) (rest : List (Name × Option Name)) → EachOnce (map (λ e. e.0) (e ∷ rest))
    → ((q : Name) → at after q ≡ cond (is_at (slice_cmp nat_cmp e.0) q) (option_or (comes_to (at before e.0) (Some e.1)) (at comers q)) (at comers q))
    → (q : Name) → comer_at before rest after q ≡ comer_at before (e ∷ rest) comers q
next_comer before comers after e rest once put q = elim (one_or_two q e.0) [
  | inl same ↦ subst (λ (n : Name). comer_at before rest after n ≡ comer_at before (e ∷ rest) comers n) (sym same) own
  | inr apart ↦
      let other : at after q ≡ at comers q = put q ∙ cond-false (is_at (slice_cmp nat_cmp e.0) q) (option_or (comes_to (at before e.0) (Some e.1)) (at comers q)) (at comers q) (other_name e.0 q (λ h. apart (sym h))) in
      ap (λ p. option_or (comes_to (at before q) (at rest q)) p) other
      ∙ sym (ap (λ o. option_or (comes_to (at before q) o) (at comers q)) (at_tail e rest q apart))
]
  where
    own : comer_at before rest after e.0 ≡ comer_at before (e ∷ rest) comers e.0
    own =
        let new : Option Name = option_or (comes_to (at before e.0) (Some e.1)) (at comers e.0) in
        ap (λ o. option_or (comes_to (at before e.0) o) (at after e.0)) (none_at rest e.0 once.0)
        ∙ put e.0 ∙ cond-true (is_at (slice_cmp nat_cmp e.0) e.0) new (at comers e.0) (own_name e.0)
        ∙ sym (ap (λ o. option_or (comes_to (at before e.0) o) (at comers e.0)) (at_head e rest))

pub or_none : {X : Type 0} (o : Option X) → option_or o None ≡ o
or_none None = refl
or_none (Some x) = refl

-- ---- all of them

module _ (before : List (Name × Name)) (change : List (Name × Option Name)) (after : List (Name × Name)) (rehomed : AreHomesAfter before change after) where
  home_after : (q : Name) (o : Option (Option Name)) → at change q ≡ o → at after q ≡ unwrap_or o (at before q)
  home_after q o is = rehomed.homes q ∙ ap (λ p. unwrap_or p (at before q)) is

  -- ---- places

  module _ (places : List (Name × ZonePlace)) (sorted : IsByName places) (at_home : (q : Name) (p : ZonePlace) → at places q ≡ Some p → at before q ≡ Some p.chassis) where
    home_of : (q : Name) (p : ZonePlace) → at places q ≡ Some p → at change q ≡ None → is_home_on (at after q) p.chassis ≡ true
    home_of q p found unnamed = ap (λ o. is_home_on o p.chassis) (home_after q None unnamed ∙ at_home q p found) ∙ home_itself p.chassis

    module _ (replaced : List (Name × Option Name)) (homes : List (Name × Name))
        (unnamed : (q : Name) → at change q ≡ None → at replaced q ≡ None)
        (named : (q : Name) (h : Option Name) → at change q ≡ Some h → (c : Name) → is_home_on (at homes q) c ≡ remains after replaced q c) where
      found : (q : Name) (o : Option (Option Name)) → at change q ≡ o → (p : Option ZonePlace) → at places q ≡ p
          → cond (is_some o) (place_at_home (at homes q) p) p ≡ option_filter (λ v. remains after replaced q v.chassis) p
      found q None is None has = refl
      found q (Some h) is None has = refl
      found q None is (Some p) has =
          let here : is_home_on (at after q) p.chassis ≡ true = home_of q p has is in
          sym (ap (λ b. cond (b && not (is_some (at replaced q))) (Some p) None) here ∙ ap (λ o. cond (not (is_some o)) (Some p) None) (unnamed q is))
      found q (Some h) is (Some p) has = ap (λ b. cond b (Some p) None) (named q h is p.chassis)

      places_kept : (kept : List (Name × ZonePlace)) → ArePlacesAfter homes change places kept → kept ≡ keep_places after replaced places
      places_kept kept k =
          is_kept_list (λ e. remains after replaced e.0 e.1.chassis) places kept sorted k.in_order
          (λ q. k.places q ∙ found q (at change q) refl (at places q) refl)

    -- of a port nothing takes the place
    pub port_places : (kept : List (Name × ZonePlace)) → ArePlacesAfter after change places kept → kept ≡ keep_places after [] places
    port_places = places_kept [] after (λ q is. refl) (λ q h is c. sym (with_true (is_home_on (at after q) c)))

    -- and none of the named routers is the one before
    pub router_places : (kept : List (Name × ZonePlace)) → ArePlacesAfter [] change places kept → kept ≡ keep_places after change places
    router_places = places_kept change [] (λ q is. is) (λ q h is c. sym (ap (λ o. is_home_on (at after q) c && not (is_some o)) is ∙ with_false (is_home_on (at after q) c)))

  -- ---- who comes

  module _ (sorted : IsByName after) (replaced : List (Name × Option Name)) (homes : List (Name × Name))
      (unnamed : (q : Name) → at change q ≡ None → at replaced q ≡ None)
      (named : (q : Name) (h : Option Name) → at change q ≡ Some h → (c : Name) → is_home_on (at homes q) c ≡ remains before replaced q c) where
    abbrev comes : Name → Name → Bool
    comes q c = not (remains before replaced q c)

    come_unnamed : (q : Name) → at change q ≡ None → (h : Option Name) → at before q ≡ h → None ≡ option_filter (comes q) h
    come_unnamed q is None was = refl
    come_unnamed q is (Some c) was =
        sym (ap (λ o. cond (not (is_home_on o c && not (is_some (at replaced q)))) (Some c) None) was
        ∙ ap (λ b. cond (not (b && not (is_some (at replaced q)))) (Some c) None) (home_itself c)
        ∙ ap (λ o. cond (not (not (is_some o))) (Some c) None) (unnamed q is))

    come_at : (q : Name) (o : Option (Option Name)) → at change q ≡ o → comes_to (at homes q) o ≡ option_filter (comes q) (unwrap_or o (at before q))
    come_at q None is = come_unnamed q is (at before q) refl
    come_at q (Some None) is = refl
    come_at q (Some (Some c)) is =
        turned (is_home_on (at homes q) c) ∙ ap (λ b. cond (not b) (Some c) None) (named q (Some c) is c)
      where
        turned : (b : Bool) → cond b None (Some c) ≡ cond (not b) (Some c) None
        turned true = refl
        turned false = refl

    are_comers : (comers : List (Name × Name)) → AreComers homes change comers → comers ≡ filter (λ e. comes e.0 e.1) after
    are_comers comers k =
        is_kept_list (λ e. comes e.0 e.1) after comers sorted k.in_order
        (λ q. k.homes q ∙ come_at q (at change q) refl ∙ sym (ap (λ o. option_filter (comes q) o) (rehomed.homes q)))

  pub port_comers : (comers : List (Name × Name)) → AreComers before change comers → comers ≡ filter (λ e. not (remains before [] e.0 e.1)) after
  port_comers = are_comers rehomed.in_order [] before (λ q is. refl) (λ q h is c. sym (with_true (is_home_on (at before q) c)))

  pub router_comers : (comers : List (Name × Name)) → AreComers [] change comers → comers ≡ filter (λ e. not (remains before change e.0 e.1)) after
  router_comers = are_comers rehomed.in_order change [] (λ q is. is) (λ q h is c. sym (ap (λ o. is_home_on (at before q) c && not (is_some o)) is ∙ with_false (is_home_on (at before q) c)))

-- ---- numbers and zones

module _ (before : KnownHomes) (change : HomeChange) (after : KnownHomes) (rehomed : IsRehomed before change after) where
  module _ (numbers : GivenNumbers) (zoned : IsZoned (record { homes = before; numbers = numbers })) where
    was_home : (z : ZoneUse) (p : ZonePlace) → place_for numbers z ≡ Some p → home_for before z ≡ Some p.chassis
    was_home z p h = (zoned.at_home p.chassis z).1 (has_value (number_on numbers p.chassis z) p.number (number_placed numbers p.chassis z p.number h))

    pub numbers_kept : (kept : GivenNumbers) → ArePlacesAfter after.ports change.ports numbers.ports kept.ports
        → ArePlacesAfter [] change.routers numbers.dnat kept.dnat → ArePlacesAfter [] change.routers numbers.snat kept.snat → AreKeptNumbers numbers change after kept
    numbers_kept kept p d s = record {
      in_order = record { ports = p.in_order; dnat = d.in_order; snat = s.in_order };
      ports = port_places before.ports change.ports after.ports rehomed.ports numbers.ports zoned.numbers_in_order.ports (λ q. was_home (Port q)) kept.ports p;
      dnat = router_places before.routers change.routers after.routers rehomed.routers numbers.dnat zoned.numbers_in_order.dnat (λ q. was_home (Dnat q)) kept.dnat d;
      snat = router_places before.routers change.routers after.routers rehomed.routers numbers.snat zoned.numbers_in_order.snat (λ q. was_home (Snat q)) kept.snat s;
    }

  abbrev comes_on : ZoneUse × Name → Bool
  comes_on z = not (stays_on before change z.1 z.0)

  ports_coming : (es : List (Name × Name)) → map port_zone (filter (λ e. not (remains before.ports [] e.0 e.1)) es) ≡ filter comes_on (map port_zone es)
  ports_coming [] = refl
  ports_coming (e ∷ es) = by (remains before.ports [] e.0 e.1) (ports_coming es)
    where
      by : (b : Bool) → map port_zone (filter (λ e. not (remains before.ports [] e.0 e.1)) es) ≡ filter comes_on (map port_zone es)
          → map port_zone (cond (not b) (e ∷ filter (λ e. not (remains before.ports [] e.0 e.1)) es) (filter (λ e. not (remains before.ports [] e.0 e.1)) es))
          ≡ cond (not b) (port_zone e ∷ filter comes_on (map port_zone es)) (filter comes_on (map port_zone es))
      by true later = later
      by false later = ap (λ l. port_zone e ∷ l) later

  routers_coming : (es : List (Name × Name)) → flat_map router_zones (filter (λ e. not (remains before.routers change.routers e.0 e.1)) es) ≡ filter comes_on (flat_map router_zones es)
  routers_coming [] = refl
  routers_coming (e ∷ es) = by (remains before.routers change.routers e.0 e.1) (routers_coming es)
    where
      by : (b : Bool) → flat_map router_zones (filter (λ e. not (remains before.routers change.routers e.0 e.1)) es) ≡ filter comes_on (flat_map router_zones es)
          → flat_map router_zones (cond (not b) (e ∷ filter (λ e. not (remains before.routers change.routers e.0 e.1)) es) (filter (λ e. not (remains before.routers change.routers e.0 e.1)) es))
          ≡ cond (not b) ((Dnat e.0, e.1) ∷ cond (not b) ((Snat e.0, e.1) ∷ filter comes_on (flat_map router_zones es)) (filter comes_on (flat_map router_zones es)))
          (cond (not b) ((Snat e.0, e.1) ∷ filter comes_on (flat_map router_zones es)) (filter comes_on (flat_map router_zones es)))
      by true later = later
      by false later = ap (λ l. (Dnat e.0, e.1) ∷ (Snat e.0, e.1) ∷ l) later

  pub zones_coming : (comers : KnownHomes) → AreComers before.ports change.ports comers.ports → AreComers [] change.routers comers.routers → zones_in comers ≡ coming before change after
  zones_coming comers p r =
      ap (λ l. map port_zone l ++ flat_map router_zones comers.routers) (port_comers before.ports change.ports after.ports rehomed.ports comers.ports p)
      ∙ ap (λ l. map port_zone (filter (λ e. not (remains before.ports [] e.0 e.1)) after.ports) ++ flat_map router_zones l) (router_comers before.routers change.routers after.routers rehomed.routers comers.routers r)
      ∙ ap (λ l. l ++ flat_map router_zones (filter (λ e. not (remains before.routers change.routers e.0 e.1)) after.routers)) (ports_coming after.ports)
      ∙ ap (λ l. filter comes_on (map port_zone after.ports) ++ l) (routers_coming after.routers)
      ∙ sym (filter-append comes_on (map port_zone after.ports) (flat_map router_zones after.routers))
