-- The numbers while some of the changes are counted.
use Rattle.std.proofs.Common.{◌≡◌, ◌∙◌, ◌<◌, ◌≤◌, ◌+◌, ◌^◌, ℕ, refl, ap, arith, Bool, List, [], ◌∷◌, Some, unwrap_or, length}
use Rattle.std.proofs.lemmas.Map.Keys.{IsDistinct-head, IsDistinct-tail}
use Rattle.std.specs.BTreeMap.{is_at}
use Rattle.std.specs.Cmp.{IsEquivalence}
use Rattle.std.specs.List.{AllByRecursion}
use Rattle.std.specs.Map.{keys_of, lookup}
use Rattle.std.specs.Ordering.{eq_by_cmp}
use Rattle.std.specs.Set.{is_member}
use Rattle.std.specs.declared.cmp.Ordering.{Ordering}
use Rattle.flow_refs.specs.Counts.{bit, count_of, new_number_of, HaveOnce}
use Rattle.flow_refs.specs.Origins.{IsEachOnce}
use Rattle.flow_refs.specs.Store.{put_flows, put_all, HavePlaces}
use Rattle.flow_refs.proofs.CountLaws.{count_put, length_put, count_few, here_counts}
use Rattle.flow_refs.proofs.PutLaws.{each_once_put, others_put, places_put}

module _ {F O : Type 0} (eq : F → F → Bool) (cmp : O → O → Ordering) (es : List (O × List F)) (counts : List (F × ℕ)) (changes : List (O × List F)) where
  -- for the origins of the changes that are left nothing is put yet
  pub record IsMidway (numbers : List (F × ℕ)) (left : List (O × List F)) : Type 0 where
    pub now : List (O × List F)
    pub same : put_all cmp now left ≡ put_all cmp es changes
    pub numbered : (q : F) → new_number_of eq numbers counts q ≡ count_of eq now q
    pub once : IsEachOnce cmp now
    pub few : length now < 2 ^ 63
    pub found : AllByRecursion (λ c. lookup (is_at (cmp c.0)) now ≡ lookup (is_at (cmp c.0)) es) left
    pub places : HavePlaces cmp now left
    pub each_once : IsEachOnce cmp left
    pub have_once : HaveOnce eq left

module _ {F O : Type 0} (eq : F → F → Bool) (cmp : O → O → Ordering) (laws : IsEquivalence (eq_by_cmp cmp)) (es : List (O × List F)) (counts : List (F × ℕ)) (changes : List (O × List F)) where
  found_on : (now after : List (O × List F)) (left : List (O × List F)) → AllByRecursion (λ c. lookup (is_at (cmp c.0)) now ≡ lookup (is_at (cmp c.0)) es) left
      → AllByRecursion (λ c. lookup (is_at (cmp c.0)) after ≡ lookup (is_at (cmp c.0)) now) left → AllByRecursion (λ c. lookup (is_at (cmp c.0)) after ≡ lookup (is_at (cmp c.0)) es) left
  found_on now after [] h k = tt
  found_on now after (c ∷ left) h k = (k.0 ∙ h.0, found_on now after left h.1 k.1)

  -- one more of the changes is counted
  pub one_counted : (numbers new : List (F × ℕ)) (c : O × List F) (left : List (O × List F)) (before : List F) → IsMidway eq cmp es counts changes numbers (c ∷ left)
      → lookup (is_at (cmp c.0)) es ≡ Some before
      → ((q : F) → new_number_of eq new counts q + bit (is_member eq before q) ≡ new_number_of eq numbers counts q + bit (is_member eq c.1 q))
      → IsMidway eq cmp es counts changes new left
  one_counted numbers new c left before m found count =
      let after = put_flows (is_at (cmp c.0)) m.now c.1 in
      let apart = IsDistinct-head (eq_by_cmp cmp) c.0 (keys_of left) m.each_once in
      record {
        now = after;
        same = m.same;
        numbered = λ q.
            let put = count_put eq (is_at (cmp c.0)) m.now c.1 q m.places.0 in
            let here = ap (λ x. bit (is_member eq (unwrap_or x []) q)) (m.found.0 ∙ found) in
            let old = m.numbered q in
            let step = count q in
            omega arith;
        once = each_once_put cmp laws m.now (is_at (cmp c.0)) c.1 m.once;
        few = omega (arith, length_put eq (is_at (cmp c.0)) m.now c.1, m.few);
        found = found_on m.now after left m.found.1 (others_put cmp laws m.now c left m.once m.places.0 apart);
        places = places_put cmp laws m.now c left m.once m.places.0 apart m.places.1;
        each_once = IsDistinct-tail (eq_by_cmp cmp) c.0 (keys_of left) m.each_once;
        have_once = m.have_once.1;
      }

  -- the numbers before one more is counted are enough, and small
  pub enough : (numbers : List (F × ℕ)) (c : O × List F) (left : List (O × List F)) (before : List F) → IsMidway eq cmp es counts changes numbers (c ∷ left)
      → lookup (is_at (cmp c.0)) es ≡ Some before → (q : F) → bit (is_member eq before q) ≤ new_number_of eq numbers counts q
  enough numbers c left before m found q =
      let at = here_counts eq (is_at (cmp c.0)) m.now q in
      let here = ap (λ x. bit (is_member eq (unwrap_or x []) q)) (m.found.0 ∙ found) in
      let old = m.numbered q in
      omega arith

  pub few_enough : (numbers : List (F × ℕ)) (left : List (O × List F)) → IsMidway eq cmp es counts changes numbers left → (q : F) → new_number_of eq numbers counts q < 2 ^ 63
  few_enough numbers left m q = omega (arith, m.numbered q, count_few eq m.now q, m.few)

  found_itself : (left : List (O × List F)) → AllByRecursion (λ c. lookup (is_at (cmp c.0)) es ≡ lookup (is_at (cmp c.0)) es) left
  found_itself [] = tt
  found_itself (c ∷ left) = (refl, found_itself left)

  -- at the beginning
  pub none_counted : ((q : F) → new_number_of eq [] counts q ≡ count_of eq es q) → IsEachOnce cmp es → length es < 2 ^ 63 → HavePlaces cmp es changes → IsEachOnce cmp changes → HaveOnce eq changes
      → IsMidway eq cmp es counts changes [] changes
  none_counted numbered once few places each_once have_once = record {
    now = es;
    same = refl;
    numbered = numbered;
    once = once;
    few = few;
    found = found_itself changes;
    places = places;
    each_once = each_once;
    have_once = have_once;
  }
