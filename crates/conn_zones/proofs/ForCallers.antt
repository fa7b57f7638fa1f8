-- How a caller shows that a chassis has numbers enough.
use Rattle.std.specs.Prelude.{◌≡◌, ◌≤◌, ◌+◌, ◌*◌, Bool, true, false, cond, List, [], ◌∷◌, ◌++◌, Option, Some, None, length, map, filter, flat_map, refl}
use mathlib.Core.Path.{sym, ap, subst, ◌∙◌}
use native.Mathlib.Omega.{arith}
use Rattle.std.specs.Option.{unwrap_or}
use Rattle.std.proofs.lemmas.List.{length-append, length-map}
use Rattle.ovn_base.specs.declared.name.Name.{Name}
use Rattle.ovn_base.specs.lists.Among.{Among}
use Rattle.ovn_base.specs.lists.Once.{EachOnce}
use Rattle.ovn_base.specs.names.ByName.{at}
use Rattle.ovn_base.specs.names.SameName.{same_name}
use Rattle.ovn_base.proofs.AmongLaws.{among_left, among_right, among_map, map_among}
use Rattle.ovn_base.proofs.ByNameLaws.{at_among, among_at}
use Rattle.conn_zones.specs.declared.change.HomeChange.{HomeChange}
use Rattle.conn_zones.specs.declared.numbers.TheConstants.{MAX_ZONE}
use Rattle.conn_zones.specs.declared.numbers.ZoneUse.{ZoneUse}
use Rattle.conn_zones.specs.Zoning.{KnownHomes}
use Rattle.conn_zones.specs.Rezoning.{AreHomesAfter, IsHomeChange, zones_in, of_chassis}
use Rattle.ovn_base.proofs.OnceLaws.{once_few, once_named}
use Rattle.conn_zones.proofs.ZoneLists.{port_zone, router_zones}

few_pass : {X : Type 0} (test : X → Bool) (xs : List X) → length (filter test xs) ≤ length xs
few_pass test [] = omega arith
few_pass test (x ∷ xs) = by (test x) (few_pass test xs)
  where
    by : (b : Bool) → length (filter test xs) ≤ length xs → length (cond b (x ∷ filter test xs) (filter test xs)) ≤ length (x ∷ xs)
    by true h = omega (arith, h)
    by false h = omega (arith, h)

twice : (es : List (Name × Name)) → length (flat_map router_zones es) ≡ length es + length es
twice [] = refl
twice (e ∷ es) = let h = twice es in omega (arith, h)

-- it has no more zones than there are ports, and twice as many as there are gateway routers
pub few_zones : (homes : KnownHomes) (c : Name) → length (of_chassis c (zones_in homes)) ≤ length homes.ports + 2 * length homes.routers
few_zones homes c =
    let few = few_pass (λ (z : ZoneUse × Name). same_name z.1 c) (zones_in homes) in
    let all = length-append (map port_zone homes.ports) (flat_map router_zones homes.routers) in
    let ports = length-map homes.ports port_zone in
    let routers = twice homes.routers in
    omega (arith, few, all, ports, routers)

was_named : (before : List (Name × Name)) (change : List (Name × Option Name)) (after : List (Name × Name)) → AreHomesAfter before change after → (q v : Name) → at after q ≡ Some v
    → Among q (map (λ e. e.0) before ++ map (λ e. e.0) change)
was_named before change after h q v found = by (at change q) refl
  where
    by : (o : Option (Option Name)) → at change q ≡ o → Among q (map (λ e. e.0) before ++ map (λ e. e.0) change)
    by None is =
        let old : at before q ≡ Some v = sym (h.homes q ∙ ap (λ (p : Option (Option Name)). unwrap_or p (at before q)) is) ∙ found in
        among_left q (map (λ e. e.0) before) (map (λ e. e.0) change) (among_map (λ (e : Name × Name). e.0) (q, v) before (at_among before q v old))
    by (Some o) is =
        among_right q (map (λ e. e.0) before) (map (λ e. e.0) change) (among_map (λ (e : Name × Option Name). e.0) (q, o) change (at_among change q o is))

-- and a change adds at most those that it names
pub few_homes : (before : List (Name × Name)) (change : List (Name × Option Name)) (after : List (Name × Name)) → AreHomesAfter before change after → length after ≤ length before + length change
few_homes before change after h =
    let few = once_few (map (λ e. e.0) after) (map (λ e. e.0) before ++ map (λ e. e.0) change) (once_named (λ (e : Name × Name). e.0) (λ d e same. same) after h.in_order)
    (λ q m. let r = map_among (λ (e : Name × Name). e.0) q after m in
    subst (λ n. Among n (map (λ e. e.0) before ++ map (λ e. e.0) change)) (sym r.2) (was_named before change after h r.0.0 r.0.1 (among_at r.0.0 r.0.1 after h.in_order r.1))) in
    let all = length-append (map (λ e. e.0) before) (map (λ e. e.0) change) in
    let a = length-map after (λ (e : Name × Name). e.0) in
    let b = length-map before (λ (e : Name × Name). e.0) in
    let d = length-map change (λ (e : Name × Option Name). e.0) in
    omega (arith, few, all, a, b, d)

-- so a change of few is one that can be made
pub few_change : (before : KnownHomes) (change : HomeChange) → EachOnce (map (λ e. e.0) change.ports) → EachOnce (map (λ e. e.0) change.routers)
    → length before.ports + length change.ports + 2 * (length before.routers + length change.routers) ≤ MAX_ZONE → IsHomeChange before change
few_change before change ports routers few = record {
  ports_once = ports;
  routers_once = routers;
  few = λ after h c.
      let zones = few_zones after c in
      let p = few_homes before.ports change.ports after.ports h.ports in
      let r = few_homes before.routers change.routers after.routers h.routers in
      omega (arith, zones, p, r, few);
}
