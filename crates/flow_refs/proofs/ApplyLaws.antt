-- What is prepared, and what it makes of a store.
use Rattle.std.proofs.Common.{◌≡◌, ◌∙◌, ◌↔◌, ◌≤◌, ◌≢◌, ℕ, refl, sym, ap, Bool, true, false, cond, ◌||◌, List, [], ◌∷◌, ◌++◌, Some, is_some, length}
use Rattle.std.proofs.lemmas.List.Folds.{list_any-append}
use Rattle.std.proofs.lemmas.Option.{none-some, same_Some}
use Rattle.std.proofs.lemmas.Map.Keys.{IsDistinct-head, IsDistinct-tail}
use Rattle.std.specs.BTreeMap.{is_at}
use Rattle.std.specs.Cmp.{IsEquivalence}
use Rattle.std.specs.List.{IsDistinct}
use Rattle.std.specs.Map.{keys_of, lookup}
use Rattle.std.specs.Ordering.{eq_by_cmp}
use Rattle.std.specs.Set.{is_member}
use Rattle.std.specs.declared.cmp.Ordering.{Ordering}
use Rattle.ovn_base.specs.declared.delta.Delta.{Delta}
use Rattle.flow_refs.specs.Counts.{count_of, new_number_of, HaveOnce}
use Rattle.flow_refs.specs.Difference.{begins, ends, flows_where}
use Rattle.flow_refs.specs.Origins.{flows_of, flows_after, IsEachOnce, IsHeld, IsDifference}
use Rattle.flow_refs.specs.Store.{put_flows, put_all, HavePlaces, AreSame, AreCounted, AreIdleAmong, IsPreparedFor}
use Rattle.flow_refs.proofs.CountLaws.{once_put}
use Rattle.flow_refs.proofs.Deltas.{is_difference, kept_where}
use Rattle.flow_refs.proofs.HoldLaws.{held_where_counted, counted_where_held, listed_where_counted}
use Rattle.flow_refs.proofs.Lookups.{found_alike}
use Rattle.flow_refs.proofs.PutLaws.{filled, lookup_put, each_once_put, each_once_put_all, places_put, flows_put}

module _ {F O : Type 0} (eq : F → F → Bool) where
  -- by the same flows the same are held
  pub held_alike : (f h : O → List F) → ((o : O) → f o ≡ h o) → (q : F) → IsHeld eq f q → IsHeld eq h q
  held_alike f h same q held = record { origin = held.origin; has = ap (λ fs. is_member eq fs q) (sym (same held.origin)) ∙ held.has }

  pub difference_alike : (before f h : O → List F) → ((o : O) → f o ≡ h o) → (delta : Delta F) → IsDifference eq before f delta → IsDifference eq before h delta
  difference_alike before f h same delta d = record {
    come = λ q. (λ m. let r = (d.come q).0 m in (r.0, held_alike f h same q r.1), λ r. (d.come q).1 (r.0, held_alike h f (λ o. sym (same o)) q r.1));
    go = λ q. (λ m. let r = (d.go q).0 m in (r.0, λ k. r.1 (held_alike h f (λ o. sym (same o)) q k)), λ r. (d.go q).1 (r.0, λ k. r.1 (held_alike f h same q k)));
    come_once = d.come_once;
    go_once = d.go_once;
  }

  -- the same origins stand there
  pub same_origins : (given changes : List (O × List F)) → AreSame eq given changes → keys_of changes ≡ keys_of given
  same_origins [] [] h = refl
  same_origins [] (c ∷ cs) h = absurd h
  same_origins (g ∷ gs) [] h = absurd h
  same_origins (g ∷ gs) (c ∷ cs) h = let rest = same_origins gs cs h.1 in λ i. h.0.0 i ∷ rest i

  pub once_put_all : (cmp : O → O → Ordering) (es cs : List (O × List F)) → HaveOnce eq es → HaveOnce eq cs → HaveOnce eq (put_all cmp es cs)
  once_put_all cmp es [] h k = h
  once_put_all cmp es (c ∷ cs) h k = once_put_all cmp (put_flows (is_at (cmp c.0)) es c.1) cs (once_put eq (is_at (cmp c.0)) es c.1 h k.0) k.1

  module _ (cmp : O → O → Ordering) (laws : IsEquivalence (eq_by_cmp cmp)) where
    -- no place is left without flows where flows are put
    idle_put : (es cs : List (O × List F)) → IsEachOnce cmp es → IsEachOnce cmp cs → HavePlaces cmp es cs → (o : O) → lookup (is_at (cmp o)) (put_all cmp es cs) ≡ Some [] → lookup (is_at (cmp o)) es ≡ Some []
    idle_put es [] once each places o idle = idle
    idle_put es (c ∷ cs) once each places o idle =
        let rest = idle_put (put_flows (is_at (cmp c.0)) es c.1) cs (each_once_put cmp laws es (is_at (cmp c.0)) c.1 once) (IsDistinct-tail (eq_by_cmp cmp) c.0 (keys_of cs) each)
        (places_put cmp laws es c cs once places.0 (IsDistinct-head (eq_by_cmp cmp) c.0 (keys_of cs) each) places.1) o idle in
        by (is_at (cmp c.0) o) c.1 (sym (lookup_put cmp laws es c.0 c.1 once places.0 o) ∙ rest)
      where
        by : (b : Bool) (v : List F) → cond b (filled v) (lookup (is_at (cmp o)) es) ≡ Some [] → lookup (is_at (cmp o)) es ≡ Some []
        by true [] h = absurd (none-some [] h)
        by true (f ∷ fs) h = absurd (cons_nil (same_Some (f ∷ fs) [] h))
          where
            cons_nil : f ∷ fs ≡ [] → ⊥
            cons_nil e = cc
        by false v h = h

    pub idle_among : (es cs : List (O × List F)) (places : List O) → AreIdleAmong cmp es places → IsEachOnce cmp es → IsEachOnce cmp cs → HavePlaces cmp es cs → AreIdleAmong cmp (put_all cmp es cs) places
    idle_among es cs places idle once each there o h = idle o (idle_put es cs once each there o h)

    -- a flow is listed exactly where some origin has it
    pub listed_where_held : (es : List (O × List F)) (counts : List (F × ℕ)) → AreCounted eq es counts → IsEachOnce cmp es → (q : F) → (is_some (lookup (eq q) counts) ≡ true) ↔ IsHeld eq (flows_of cmp es) q
    listed_where_held es counts counted once q =
        let at = ap is_some (counted q) in
        (λ h. held_where_counted eq cmp laws es once q ((listed_where_counted (count_of eq es q)).0 (sym at ∙ h)), λ h. at ∙ (listed_where_counted (count_of eq es q)).1 (counted_where_held eq cmp laws es q h))

    -- what the numbers say of changes is prepared for them
    pub prepared_for : IsEquivalence eq → (es : List (O × List F)) (counts : List (F × ℕ)) (room : ℕ) (idle : List O) (changes : List (O × List F)) (numbers : List (F × ℕ)) (delta : Delta F) → IsEachOnce cmp es → AreCounted eq es counts
        → IsEachOnce cmp changes → HaveOnce eq changes → HavePlaces cmp es changes → IsDistinct eq (keys_of numbers) → ((q : F) → new_number_of eq numbers counts q ≡ count_of eq (put_all cmp es changes) q)
        → delta.added ≡ flows_where eq begins counts numbers → delta.removed ≡ flows_where eq ends counts numbers → length numbers ≤ room
        → IsPreparedFor eq cmp (record { origins = es; counts = counts; room = room; idle = idle }) (record { changes = changes; numbers = numbers; delta = delta })
    prepared_for eq_laws es counts room idle changes numbers delta once counted each have places distinct new added removed enough =
        let after = put_all cmp es changes in
        let put = flows_put cmp laws es changes once each places in
        record {
          delta = is_difference eq_laws (flows_of cmp es) (flows_after cmp es changes) (count_of eq es) (count_of eq after)
              (λ q. (counted_where_held eq cmp laws es q, held_where_counted eq cmp laws es once q))
              (λ q. (
                λ h. counted_where_held eq cmp laws after q (held_alike (flows_after cmp es changes) (flows_of cmp after) (λ o. sym (put o)) q h),
                λ some. held_alike (flows_of cmp after) (flows_after cmp es changes) put q (held_where_counted eq cmp laws after (each_once_put_all cmp laws es changes once) q some),
              ))
              counts numbers counted distinct new delta added removed;
          each_once = each;
          have_once = have;
          places = places;
          numbers_once = distinct;
          numbers = λ q. kept_where (lookup (eq q) numbers) (lookup (eq q) counts) (count_of eq es q) (count_of eq after q) (counted q) (new q);
          room = enough;
        }

-- a place is cleared, so what is idle is among those that are left
pub still_idle : {F O : Type 0} (cmp : O → O → Ordering) (laws : IsEquivalence (eq_by_cmp cmp)) (es : List (O × List F)) (rest : List O) (origin o : O) → lookup (is_at (cmp origin)) es ≢ Some [] → lookup (is_at (cmp o)) es ≡ Some []
    → is_member (eq_by_cmp cmp) (rest ++ origin ∷ []) o ≡ true → is_member (eq_by_cmp cmp) rest o ≡ true
still_idle cmp laws es rest origin o gone idle m = by (is_at (cmp o) origin) refl (sym (list_any-append (eq_by_cmp cmp o) rest (origin ∷ [])) ∙ m)
  where
    or_false : (b : Bool) → (b || (false || false)) ≡ true → b ≡ true
    or_false true h = refl
    or_false false h = h

    by : (b : Bool) → is_at (cmp o) origin ≡ b → (is_member (eq_by_cmp cmp) rest o || (is_at (cmp o) origin || false)) ≡ true → is_member (eq_by_cmp cmp) rest o ≡ true
    by true same h = absurd (gone (sym (found_alike laws o origin same es) ∙ idle))
    by false apart h = or_false (is_member (eq_by_cmp cmp) rest o) (ap (λ b. is_member (eq_by_cmp cmp) rest o || (b || false)) (sym apart) ∙ h)
