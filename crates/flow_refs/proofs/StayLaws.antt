-- What was prepared stays prepared while places without flows come.
use Rattle.std.proofs.Common.{◌≡◌, ◌∙◌, ◌+◌, ◌≤◌, ℕ, refl, sym, ap, subst, arith, Bool, true, false, cond, List, [], ◌∷◌, Option, Some, IsSome, unwrap_or}
use Rattle.std.specs.BTreeMap.{is_at}
use Rattle.std.specs.Cmp.{IsEquivalence}
use Rattle.std.specs.Map.{keys_of, lookup}
use Rattle.std.specs.Ordering.{eq_by_cmp}
use Rattle.std.specs.Set.{is_member}
use Rattle.std.specs.declared.cmp.Ordering.{Ordering}
use Rattle.std.proofs.lemmas.Map.Keys.{IsDistinct-head, IsDistinct-tail}
use Rattle.flow_refs.specs.Counts.{bit, count_of, positive, kept_number}
use Rattle.flow_refs.specs.Origins.{flows_of, flows_after, IsEachOnce, IsDifference}
use Rattle.flow_refs.specs.Store.{Store, Prepared, put_flows, put_all, HavePlaces, IsKept, IsPreparedFor}
use Rattle.flow_refs.proofs.CountLaws.{count_put}
use Rattle.flow_refs.proofs.PlaceLaws.{places_stay}
use Rattle.flow_refs.proofs.PutLaws.{filled, lookup_put, flows_filled, each_once_put, places_put}

-- a number is as great as itself
pub as_great : (n : ℕ) → n ≤ n
as_great n = omega arith

module _ {F O : Type 0} (eq : F → F → Bool) (cmp : O → O → Ordering) (laws : IsEquivalence (eq_by_cmp cmp)) where
  -- what is put in the place of an origin is put alike on origins that have the same
  kept_put : (es new : List (O × List F)) (k : O) (v : List F) → IsEachOnce cmp es → IsEachOnce cmp new → IsSome (lookup (is_at (cmp k)) es) → IsSome (lookup (is_at (cmp k)) new)
      → IsKept eq cmp es new → IsKept eq cmp (put_flows (is_at (cmp k)) es v) (put_flows (is_at (cmp k)) new v)
  kept_put es new k v once new_once place new_place kept = record {
    flows = λ o. put new new_once new_place o ∙ ap (cond (is_at (cmp k) o) v) (kept.flows o) ∙ sym (put es once place o);
    counts = λ q.
        let old_count = count_put eq (is_at (cmp k)) es v q place in
        let new_count = count_put eq (is_at (cmp k)) new v q new_place in
        let here = ap (λ fs. bit (is_member eq fs q)) (kept.flows k) in
        let all = kept.counts q in
        omega arith;
  }
    where
      put : (l : List (O × List F)) → IsEachOnce cmp l → IsSome (lookup (is_at (cmp k)) l) → (o : O) → flows_of cmp (put_flows (is_at (cmp k)) l v) o ≡ cond (is_at (cmp k) o) v (flows_of cmp l o)
      put l l_once l_place o = ap (λ x. unwrap_or x []) (lookup_put cmp laws l k v l_once l_place o) ∙ flows_filled cmp laws (is_at (cmp k) o) v (lookup (is_at (cmp o)) l)

  -- the same for all changes
  pub kept_put_all : (es new cs : List (O × List F)) → IsEachOnce cmp es → IsEachOnce cmp new → IsEachOnce cmp cs → HavePlaces cmp es cs → HavePlaces cmp new cs
      → IsKept eq cmp es new → IsKept eq cmp (put_all cmp es cs) (put_all cmp new cs)
  kept_put_all es new [] once new_once each places new_places kept = kept
  kept_put_all es new (c ∷ cs) once new_once each places new_places kept =
      let test = is_at (cmp c.0) in
      let apart = IsDistinct-head (eq_by_cmp cmp) c.0 (keys_of cs) each in
      kept_put_all (put_flows test es c.1) (put_flows test new c.1) cs (each_once_put cmp laws es test c.1 once) (each_once_put cmp laws new test c.1 new_once)
      (IsDistinct-tail (eq_by_cmp cmp) c.0 (keys_of cs) each) (places_put cmp laws es c cs once places.0 apart places.1) (places_put cmp laws new c cs new_once new_places.0 apart new_places.1)
      (kept_put es new c.0 c.1 once new_once places.0 new_places.0 kept)

  -- what was prepared for a store is also for one that keeps all of it, each place, and the room
  pub stays_prepared : {old new store : Store F O} → old ≡ store → IsEachOnce cmp old.origins → IsEachOnce cmp new.origins → IsKept eq cmp old.origins new.origins
      → ((o : O) → IsSome (lookup (is_at (cmp o)) old.origins) → IsSome (lookup (is_at (cmp o)) new.origins)) → new.counts ≡ old.counts → old.room ≤ new.room
      → (p : Prepared F O) → IsPreparedFor eq cmp store p → IsPreparedFor eq cmp new p
  stays_prepared {old} {new} {store} is once new_once kept stay counts room p for_store =
      let prepared = subst (λ (s : Store F O). IsPreparedFor eq cmp s p) (sym is) for_store in
      let places = places_stay eq cmp old.origins new.origins p.changes stay prepared.places in
      let alike = kept_put_all old.origins new.origins p.changes once new_once prepared.each_once prepared.places places kept in
      record {
        delta = subst (λ (flows : O → List F). IsDifference eq flows (λ o. unwrap_or (lookup (is_at (cmp o)) p.changes) (flows o)) p.delta) (λ i o. sym (kept.flows o) i) prepared.delta;
        each_once = prepared.each_once;
        have_once = prepared.have_once;
        places = places;
        numbers_once = prepared.numbers_once;
        numbers = λ q. ap (λ l. kept_number eq l p.numbers q) counts ∙ prepared.numbers q ∙ ap positive (sym (alike.counts q));
        room = omega (arith, prepared.room, room);
      }
