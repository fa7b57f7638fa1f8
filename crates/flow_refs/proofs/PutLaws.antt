-- Which flows an origin has once flows are put.
use Rattle.std.proofs.Common.{◌≡◌, ◌∙◌, refl, sym, ap, subst, Bool, true, false, cond, List, [], ◌∷◌, Option, Some, None, is_some, IsSome, unwrap_or}
use Rattle.std.proofs.lemmas.Map.{lookup-set_value, lookup-remove_entry, keys-set_value}
use Rattle.std.proofs.lemmas.Map.Keys.{IsDistinct-head, IsDistinct-tail, IsDistinct-cons}
use Rattle.std.specs.BTreeMap.{is_at}
use Rattle.std.specs.Cmp.{IsEquivalence}
use Rattle.std.specs.List.{IsDistinct, AllByRecursion}
use Rattle.std.specs.Map.{keys_of, lookup, remove_entry}
use Rattle.std.specs.Ordering.{eq_by_cmp}
use Rattle.std.specs.declared.cmp.Ordering.{Ordering}
use Rattle.flow_refs.specs.Origins.{flows_of, flows_after, IsEachOnce}
use Rattle.flow_refs.specs.Store.{put_flows, put_all, HavePlaces}
use Rattle.flow_refs.proofs.Lookups.{none_behind}

-- what is found where flows are put
abbrev pub filled : {F : Type 0} → List F → Option (List F)
filled [] = None
filled (f ∷ fs) = Some (f ∷ fs)

module _ {F O : Type 0} (cmp : O → O → Ordering) (laws : IsEquivalence (eq_by_cmp cmp)) where
  -- an origin keeps what it has, unless it is the one
  pub lookup_put : (es : List (O × List F)) (k : O) (v : List F) → IsEachOnce cmp es → IsSome (lookup (is_at (cmp k)) es) → (o : O) → lookup (is_at (cmp o)) (put_flows (is_at (cmp k)) es v) ≡ cond (is_at (cmp k) o) (filled v) (lookup (is_at (cmp o)) es)
  lookup_put es k [] once place o = lookup-remove_entry laws (is_at (cmp k)) (λ x y h. laws.congr k x y h) o es once
  lookup_put es k (f ∷ fs) once place o = lookup-set_value laws (is_at (cmp k)) (λ x y h. laws.congr k x y h) o (f ∷ fs) es place

  removed_keys : (test : O → Bool) (P : O → Type 0) (es : List (O × List F)) → AllByRecursion P (keys_of es) → AllByRecursion P (keys_of (remove_entry test es))
  removed_keys test P [] h = tt
  removed_keys test P (e ∷ es) h = by (test e.0) (removed_keys test P es h.1)
    where
      by : (b : Bool) → AllByRecursion P (keys_of (remove_entry test es)) → AllByRecursion P (keys_of (cond b es (e ∷ remove_entry test es)))
      by true rest = h.1
      by false rest = (h.0, rest)

  removed_once : (test : O → Bool) (es : List (O × List F)) → IsEachOnce cmp es → IsEachOnce cmp (remove_entry test es)
  removed_once test [] once = once
  removed_once test (e ∷ es) once = by (test e.0) (removed_once test es (IsDistinct-tail (eq_by_cmp cmp) e.0 (keys_of es) once))
    where
      by : (b : Bool) → IsEachOnce cmp (remove_entry test es) → IsEachOnce cmp (cond b es (e ∷ remove_entry test es))
      by true rest = IsDistinct-tail (eq_by_cmp cmp) e.0 (keys_of es) once
      by false rest = IsDistinct-cons (eq_by_cmp cmp) e.0 (keys_of (remove_entry test es)) (removed_keys test (λ y. eq_by_cmp cmp e.0 y ≡ false) es (IsDistinct-head (eq_by_cmp cmp) e.0 (keys_of es) once)) rest

  -- no origin stands twice then
  pub each_once_put : (es : List (O × List F)) (test : O → Bool) (v : List F) → IsEachOnce cmp es → IsEachOnce cmp (put_flows test es v)
  each_once_put es test [] once = removed_once test es once
  each_once_put es test (f ∷ fs) once = subst (IsDistinct (eq_by_cmp cmp)) (sym (keys-set_value test es (f ∷ fs))) once

  -- the other origins of the changes find what they found
  pub others_put : (es : List (O × List F)) (c : O × List F) (cs : List (O × List F)) → IsEachOnce cmp es → IsSome (lookup (is_at (cmp c.0)) es) → AllByRecursion (λ y. eq_by_cmp cmp c.0 y ≡ false) (keys_of cs)
      → AllByRecursion (λ d. lookup (is_at (cmp d.0)) (put_flows (is_at (cmp c.0)) es c.1) ≡ lookup (is_at (cmp d.0)) es) cs
  others_put es c [] once place apart = tt
  others_put es c (d ∷ ds) once place apart =
      (lookup_put es c.0 c.1 once place d.0 ∙ ap (λ b. cond b (filled c.1) (lookup (is_at (cmp d.0)) es)) apart.0, others_put es c ds once place apart.1)

  pub places_put : (es : List (O × List F)) (c : O × List F) (cs : List (O × List F)) → IsEachOnce cmp es → IsSome (lookup (is_at (cmp c.0)) es) → AllByRecursion (λ y. eq_by_cmp cmp c.0 y ≡ false) (keys_of cs)
      → HavePlaces cmp es cs → HavePlaces cmp (put_flows (is_at (cmp c.0)) es c.1) cs
  places_put es c [] once place apart places = tt
  places_put es c (d ∷ ds) once place apart places =
      let other = (others_put es c (d ∷ ds) once place apart).0 in
      (ap is_some other ∙ places.0, places_put es c ds once place apart.1 places.1)

  pub flows_filled : (b : Bool) (v : List F) (x : Option (List F)) → unwrap_or (cond b (filled v) x) [] ≡ cond b v (unwrap_or x [])
  flows_filled true [] x = refl
  flows_filled true (f ∷ fs) x = refl
  flows_filled false v x = refl

  -- each origin of the changes has the flows that stand there with it, and every other what it had
  pub flows_put : (es cs : List (O × List F)) → IsEachOnce cmp es → IsEachOnce cmp cs → HavePlaces cmp es cs → (o : O) → flows_of cmp (put_all cmp es cs) o ≡ flows_after cmp es cs o
  flows_put es [] once each places o = refl
  flows_put es (c ∷ cs) once each places o =
      flows_put (put_flows (is_at (cmp c.0)) es c.1) cs (each_once_put es (is_at (cmp c.0)) c.1 once) (IsDistinct-tail (eq_by_cmp cmp) c.0 (keys_of cs) each)
      (places_put es c cs once places.0 (IsDistinct-head (eq_by_cmp cmp) c.0 (keys_of cs) each) places.1) o
      ∙ ap (unwrap_or (lookup (is_at (cmp o)) cs)) (ap (λ x. unwrap_or x []) (lookup_put es c.0 c.1 once places.0 o) ∙ flows_filled (is_at (cmp c.0) o) c.1 (lookup (is_at (cmp o)) es))
      ∙ by (is_at (cmp c.0) o) refl
      ∙ ap (λ b. unwrap_or (cond b (Some c.1) (lookup (is_at (cmp o)) cs)) (flows_of cmp es o)) (laws.symm c.0 o)
    where
      by : (b : Bool) → is_at (cmp c.0) o ≡ b → unwrap_or (lookup (is_at (cmp o)) cs) (cond b c.1 (flows_of cmp es o)) ≡ unwrap_or (cond b (Some c.1) (lookup (is_at (cmp o)) cs)) (flows_of cmp es o)
      by true same = ap (λ x. unwrap_or x c.1) (none_behind laws c cs o each same)
      by false apart = refl

  -- no origin stands twice once all are put
  pub each_once_put_all : (es cs : List (O × List F)) → IsEachOnce cmp es → IsEachOnce cmp (put_all cmp es cs)
  each_once_put_all es [] once = once
  each_once_put_all es (c ∷ cs) once = each_once_put_all (put_flows (is_at (cmp c.0)) es c.1) cs (each_once_put es (is_at (cmp c.0)) c.1 once)
