-- Places that come without flows, and places without flows that go.
use Rattle.std.proofs.Common.{◌≡◌, ◌∙◌, ◌+◌, refl, sym, ap, arith, Bool, true, false, cond, List, [], ◌∷◌, Option, Some, None, IsSome, unwrap_or}
use Rattle.std.proofs.lemmas.Option.{none-some}
use Rattle.std.specs.BTreeMap.{is_at, insert_entry}
use Rattle.std.specs.Cmp.{IsEquivalence}
use Rattle.std.specs.List.{IsDistinct}
use Rattle.std.specs.Map.{lookup, remove_entry}
use Rattle.std.specs.Ordering.{eq_by_cmp, is_eq, match_ordering}
use Rattle.std.specs.Set.{is_member}
use Rattle.std.specs.declared.cmp.Ordering.{Ordering}
use Rattle.std.specs.declared.cmp.Ordering.TheVariants.{Less, Equal, Greater}
use Rattle.flow_refs.specs.Counts.{bit, count_of, HaveOnce}
use Rattle.flow_refs.specs.Origins.{flows_of}
use Rattle.flow_refs.specs.Store.{HavePlaces, IsKept}
use Rattle.flow_refs.proofs.CountLaws.{count_removed}
use Rattle.flow_refs.proofs.Lookups.{found_alike, all_on}

-- no flow stands once
pub once_nil : {F : Type 0} (eq : F → F → Bool) → IsDistinct eq []
unfolding IsDistinct
once_nil eq = tt

module _ {F O : Type 0} (eq : F → F → Bool) (cmp : O → O → Ordering) where
  -- kept and kept again
  pub kept_on : (a b c : List (O × List F)) → IsKept eq cmp a b → IsKept eq cmp b c → IsKept eq cmp a c
  kept_on a b c h k = record { flows = λ o. k.flows o ∙ h.flows o; counts = λ q. k.counts q ∙ h.counts q }

  pub kept_itself : (a : List (O × List F)) → IsKept eq cmp a a
  kept_itself a = record { flows = λ o. refl; counts = λ q. refl }

  -- a new place without flows
  count_inserted : (es : List (O × List F)) (k : O) (q : F) → lookup (is_at (cmp k)) es ≡ None → count_of eq (insert_entry cmp es k []) q ≡ count_of eq es q
  count_inserted [] k q absent = refl
  count_inserted (e ∷ es) k q absent = by (cmp k e.0) absent (count_inserted es k q)
    where
      by : (o : Ordering) → cond (is_eq o) (Some e.1) (lookup (is_at (cmp k)) es) ≡ None → (lookup (is_at (cmp k)) es ≡ None → count_of eq (insert_entry cmp es k []) q ≡ count_of eq es q)
          → count_of eq (match_ordering o ((k, []) ∷ e ∷ es) ((e.0, []) ∷ es) (e ∷ insert_entry cmp es k [])) q ≡ bit (is_member eq e.1 q) + count_of eq es q
      by Less absent ih = omega arith
      by Equal absent ih = absurd (none-some e.1 (sym absent))
      by Greater absent ih = ap (λ n. bit (is_member eq e.1 q) + n) (ih absent)

  pub once_inserted : (es : List (O × List F)) (k : O) → HaveOnce eq es → HaveOnce eq (insert_entry cmp es k [])
  once_inserted [] k h = (once_nil eq, tt)
  once_inserted (e ∷ es) k h = by (cmp k e.0) (once_inserted es k h.1)
    where
      by : (o : Ordering) → HaveOnce eq (insert_entry cmp es k []) → HaveOnce eq (match_ordering o ((k, []) ∷ e ∷ es) ((e.0, []) ∷ es) (e ∷ insert_entry cmp es k []))
      by Less rest = (once_nil eq, (h.0, h.1))
      by Equal rest = (once_nil eq, h.1)
      by Greater rest = (h.0, rest)

  module _ (laws : IsEquivalence (eq_by_cmp cmp)) where
    -- nothing changes for an origin where a place without flows comes or goes
    pub idle_kept : (es new : List (O × List F)) (k : O) (w : Option (List F)) → unwrap_or w [] ≡ [] → flows_of cmp es k ≡ []
        → ((o : O) → lookup (is_at (cmp o)) new ≡ cond (is_at (cmp k) o) w (lookup (is_at (cmp o)) es)) → (o : O) → flows_of cmp new o ≡ flows_of cmp es o
    idle_kept es new k w idle none set o = ap (λ x. unwrap_or x []) (set o) ∙ by (is_at (cmp k) o) refl
      where
        by : (b : Bool) → is_at (cmp k) o ≡ b → unwrap_or (cond b w (lookup (is_at (cmp o)) es)) [] ≡ flows_of cmp es o
        by true same = idle ∙ sym none ∙ ap (λ x. unwrap_or x []) (found_alike laws k o same es)
        by false apart = refl

    -- a place without flows comes
    pub placed : (es new : List (O × List F)) (k : O) (v : List F) → v ≡ [] → new ≡ insert_entry cmp es k v → lookup (is_at (cmp k)) es ≡ None
        → ((o : O) → lookup (is_at (cmp o)) new ≡ cond (is_at (cmp k) o) (Some v) (lookup (is_at (cmp o)) es)) → IsKept eq cmp es new
    placed es new k v empty entries absent set = record {
      flows = idle_kept es new k (Some v) empty (ap (λ x. unwrap_or x []) absent) set;
      counts = λ q. ap (λ fs. count_of eq fs q) (entries ∙ ap (insert_entry cmp es k) empty) ∙ count_inserted es k q absent;
    }

    -- a place without flows goes
    pub cleared : (es new : List (O × List F)) (k : O) → lookup (is_at (cmp k)) es ≡ Some [] → new ≡ remove_entry (is_at (cmp k)) es
        → ((o : O) → lookup (is_at (cmp o)) new ≡ cond (is_at (cmp k) o) None (lookup (is_at (cmp o)) es)) → IsKept eq cmp es new
    cleared es new k idle entries set = record {
      flows = idle_kept es new k None refl (ap (λ x. unwrap_or x []) idle) set;
      counts = λ q.
          let gone = count_removed eq (is_at (cmp k)) es q in
          let none = ap (λ x. bit (is_member eq (unwrap_or x []) q)) idle in
          let at = ap (λ fs. count_of eq fs q) entries in
          omega arith;
    }

  -- places stay
  pub places_stay : (es new cs : List (O × List F)) → ((o : O) → IsSome (lookup (is_at (cmp o)) es) → IsSome (lookup (is_at (cmp o)) new)) → HavePlaces cmp es cs → HavePlaces cmp new cs
  places_stay es new cs stay h = all_on (λ c. IsSome (lookup (is_at (cmp c.0)) es)) (λ c. IsSome (lookup (is_at (cmp c.0)) new)) cs (λ c p. stay c.0 p) h
