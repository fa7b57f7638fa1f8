-- For callers whose tests answer for sameness: clauses of a store in terms of elements.
use Rattle.std.proofs.Common.{◌≡◌, ◌∙◌, ◌↔◌, refl, sym, ap, subst, Bool, true, false, cond, List, [], ◌∷◌, Some, unwrap_or}
use Rattle.std.proofs.lemmas.Bool.{false≢true}
use Rattle.std.proofs.lemmas.Map.Keys.{IsDistinct-head, IsDistinct-tail, IsDistinct-cons}
use Rattle.std.specs.List.{IsDistinct, AllByRecursion}
use Rattle.std.specs.BTreeMap.{is_at}
use Rattle.std.specs.Map.{keys_of, lookup}
use Rattle.std.specs.Ordering.{eq_by_cmp}
use Rattle.std.specs.Set.{is_member}
use Rattle.std.specs.declared.cmp.Ordering.{Ordering}
use Rattle.ovn_base.proofs.AmongLaws.{member_among, among_member, among_all, all_among}
use Rattle.ovn_base.specs.lists.Among.{Among, here, there}
use Rattle.ovn_base.specs.lists.Once.{EachOnce}
use Rattle.ovn_base.specs.declared.delta.Delta.{Delta}
use Rattle.flow_refs.specs.Origins.{flows_of, flows_after, IsEachOnce, IsHeld, IsDifference}
use Rattle.flow_refs.specs.Store.{AreSame}
use Rattle.flow_refs.proofs.PlaceLaws.{once_nil}

module _ {X : Type 0} (eq : X → X → Bool) where
  -- lists without repeats, one way and the other
  pub each_once_from_distinct : ((x : X) → eq x x ≡ true) → (xs : List X) → IsDistinct eq xs → EachOnce xs
  each_once_from_distinct own [] once = tt
  each_once_from_distinct own (x ∷ xs) once =
      (λ m. false≢true (sym (among_all (λ y. eq x y ≡ false) x xs (IsDistinct-head eq x xs once) m) ∙ own x), each_once_from_distinct own xs (IsDistinct-tail eq x xs once))

  pub distinct_from_each_once : ((x y : X) → eq x y ≡ true → x ≡ y) → (xs : List X) → EachOnce xs → IsDistinct eq xs
  distinct_from_each_once exact [] once = once_nil eq
  distinct_from_each_once exact (x ∷ xs) once = IsDistinct-cons eq x xs (all_among (λ y. eq x y ≡ false) xs (λ y m. by (eq x y) y (exact x y) m)) (distinct_from_each_once exact xs once.1)
    where
      by : (b : Bool) (y : X) → (b ≡ true → x ≡ y) → Among y xs → b ≡ false
      by true y same m = absurd (once.0 (subst (λ z. Among z xs) (sym (same refl)) m))
      by false y same m = refl

-- the condition of `prepare`
pub is_each_once : {F O : Type 0} (cmp : O → O → Ordering) → ((x y : O) → eq_by_cmp cmp x y ≡ true → x ≡ y) → (changes : List (O × List F)) → EachOnce (keys_of changes) → IsEachOnce cmp changes
is_each_once cmp exact changes once = distinct_from_each_once (eq_by_cmp cmp) exact (keys_of changes) once

module _ {F O : Type 0} (eq : F → F → Bool) (own : (x : F) → eq x x ≡ true) (exact : (x y : F) → eq x y ≡ true → x ≡ y) where
  -- a flow is held where it is among those of some origin
  pub held_among : (flows : O → List F) (flow : F) → IsHeld eq flows flow ↔ ((o : O) × Among flow (flows o))
  held_among flows flow = (λ h. (h.origin, member_among eq exact flow (flows h.origin) h.has), λ a. record { origin = a.0; has = among_member eq own flow (flows a.0) a.1 })

  module _ (before after : O → List F) (delta : Delta F) (difference : IsDifference eq before after delta) where
    -- a flow comes where it is among what comes
    pub comes_among : (flow : F) → Among flow delta.added ↔ ((¬ IsHeld eq before flow) × IsHeld eq after flow)
    comes_among flow = (λ a. (difference.come flow).0 (among_member eq own flow delta.added a), λ h. member_among eq exact flow delta.added ((difference.come flow).1 h))

    pub goes_among : (flow : F) → Among flow delta.removed ↔ (IsHeld eq before flow × (¬ IsHeld eq after flow))
    goes_among flow = (λ a. (difference.go flow).0 (among_member eq own flow delta.removed a), λ h. member_among eq exact flow delta.removed ((difference.go flow).1 h))

    -- each once
    pub once_each : EachOnce delta.added × EachOnce delta.removed
    once_each = (each_once_from_distinct eq own delta.added difference.come_once, each_once_from_distinct eq own delta.removed difference.go_once)

-- each origin has what is given, as the patch's changes have it
pub given_alike : {F O : Type 0} (eq : F → F → Bool) (cmp : O → O → Ordering) (es given changes : List (O × List F)) → AreSame eq given changes → (o : O) (flow : F)
    → is_member eq (flows_after cmp es changes o) flow ≡ is_member eq (flows_after cmp es given o) flow
given_alike eq cmp es [] [] same o flow = refl
given_alike eq cmp es [] (c ∷ cs) same o flow = absurd same
given_alike eq cmp es (g ∷ gs) [] same o flow = absurd same
given_alike eq cmp es (g ∷ gs) (c ∷ cs) same o flow =
    ap (λ k. is_member eq (unwrap_or (cond (is_at (cmp o) k) (Some c.1) (lookup (is_at (cmp o)) cs)) (flows_of cmp es o)) flow) same.0.0 ∙ by (is_at (cmp o) g.0) (given_alike eq cmp es gs cs same.1 o flow)
  where
    by : (b : Bool) → is_member eq (flows_after cmp es cs o) flow ≡ is_member eq (flows_after cmp es gs o) flow
        → is_member eq (unwrap_or (cond b (Some c.1) (lookup (is_at (cmp o)) cs)) (flows_of cmp es o)) flow ≡ is_member eq (unwrap_or (cond b (Some g.1) (lookup (is_at (cmp o)) gs)) (flows_of cmp es o)) flow
    by true rest = same.0.1 flow
    by false rest = rest

-- one origin, and two that differ
pub one_once : {F O : Type 0} (cmp : O → O → Ordering) (c : O × List F) → IsEachOnce cmp (c ∷ [])
one_once cmp c = IsDistinct-cons (eq_by_cmp cmp) c.0 [] tt (once_nil (eq_by_cmp cmp))

pub two_once : {F O : Type 0} (cmp : O → O → Ordering) (c d : O × List F) → eq_by_cmp cmp c.0 d.0 ≡ false → IsEachOnce cmp (c ∷ d ∷ [])
two_once cmp c d apart = IsDistinct-cons (eq_by_cmp cmp) c.0 (d.0 ∷ []) (apart, tt) (one_once cmp d)
