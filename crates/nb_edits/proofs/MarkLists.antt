-- Marks that are taken out one by one.
use Rattle.std.specs.Prelude.{◌≡◌, ◌<◌, ◌&&◌, ◌||◌, ℕ, not, Bool, true, false, cond, List, [], ◌∷◌, length, Some, None}
use Rattle.std.specs.Cmp.{tied_then, Equal-is}
use Rattle.std.specs.Cmp.Lexicographic.{slice_cmp}
use Rattle.std.specs.List.{filter, find, list_any}
use Rattle.std.specs.Ordering.{nat_cmp, is_eq}
use Rattle.std.specs.Set.{remove_key}
use Rattle.std.proofs.Common.{refl, sym, ap, ◌∙◌, arith}
use Rattle.std.proofs.lemmas.Bool.{and_parts, cond-false}
use Rattle.std.proofs.lemmas.Cmp.{nat_cmp_total, tied_itself}
use Rattle.std.proofs.lemmas.Map.Lookups.{exact_unsigned}
use Rattle.std.proofs.lemmas.Map.Made.{length-remove_key}
use Rattle.ovn_base.proofs.ByNameLaws.{own_name, same_name}
use Rattle.nb_records.specs.Editing.{with_listed_marks}
use Rattle.nb_records.specs.Network.{Network, backend_cmp, is_mark, marked}
use Rattle.nb_records.specs.declared.balancer.OfflineMark.{OfflineMark}
use Rattle.nb_edits.specs.OpFaults.{is_kept_mark}

-- marks that compare equal are one
mark_same : (m x : OfflineMark) → is_mark m x ≡ true → m ≡ x
mark_same m x h =
    let parts = and_parts (is_eq (slice_cmp nat_cmp m.balancer x.balancer)) (is_eq (backend_cmp m.backend x.backend)) (tied_then (slice_cmp nat_cmp m.balancer x.balancer) (backend_cmp m.backend x.backend) ∙ h) in
    let inner = and_parts (is_eq (nat_cmp m.backend.ip.0 x.backend.ip.0)) (is_eq (nat_cmp m.backend.port x.backend.port)) (tied_then (nat_cmp m.backend.ip.0 x.backend.ip.0) (nat_cmp m.backend.port x.backend.port) ∙ parts.1) in
    let balancers = same_name m.balancer x.balancer parts.0 in
    let ips = exact_unsigned m.backend.ip.0 x.backend.ip.0 ((Equal-is (nat_cmp m.backend.ip.0 x.backend.ip.0)).0 inner.0) in
    let ports = exact_unsigned m.backend.port x.backend.port ((Equal-is (nat_cmp m.backend.port x.backend.port)).0 inner.1) in
    λ i. record { balancer = balancers i; backend = record { ip = record { 0 = ips i }; port = ports i } }

both_true : (a b : Bool) → a ≡ true → b ≡ true → (a && b) ≡ true
both_true a b h k = (λ i. h i && b) ∙ k

own_nat : (n : ℕ) → is_eq (nat_cmp n n) ≡ true
own_nat n = ap is_eq (tied_itself nat_cmp_total n)

own_mark : (m : OfflineMark) → is_mark m m ≡ true
own_mark m =
    let backends = sym (tied_then (nat_cmp m.backend.ip.0 m.backend.ip.0) (nat_cmp m.backend.port m.backend.port)) ∙ both_true (is_eq (nat_cmp m.backend.ip.0 m.backend.ip.0)) (is_eq (nat_cmp m.backend.port m.backend.port)) (own_nat m.backend.ip.0) (own_nat m.backend.port) in
    sym (tied_then (slice_cmp nat_cmp m.balancer m.balancer) (backend_cmp m.backend m.backend)) ∙ both_true (is_eq (slice_cmp nat_cmp m.balancer m.balancer)) (is_eq (backend_cmp m.backend m.backend)) (own_name m.balancer) backends

module _ (kept : OfflineMark → Bool) where
  removed_by : (m x : OfflineMark) (xs : List OfflineMark) → kept m ≡ false → (b : Bool) → is_mark m x ≡ b → filter kept (remove_key (is_mark m) xs) ≡ filter kept xs
      → filter kept (cond b xs (x ∷ remove_key (is_mark m) xs)) ≡ cond (kept x) (x ∷ filter kept xs) (filter kept xs)
  removed_by m x xs goes true is rest = sym (cond-false (kept x) (x ∷ filter kept xs) (filter kept xs) (ap kept (sym (mark_same m x is)) ∙ goes))
  removed_by m x xs goes false is rest = ap (λ (l : List OfflineMark). cond (kept x) (x ∷ l) l) rest

  -- a mark that isn't kept may go before the others
  removed_kept : (m : OfflineMark) (xs : List OfflineMark) → kept m ≡ false → filter kept (remove_key (is_mark m) xs) ≡ filter kept xs
  removed_kept m [] goes = refl
  removed_kept m (x ∷ xs) goes = removed_by m x xs goes (is_mark m x) refl (removed_kept m xs goes)

  -- the first that isn't kept
  pub record IsUnkept (m : OfflineMark) (xs : List OfflineMark) : Type 0 where
    pub goes : kept m ≡ false
    pub among : list_any (is_mark m) xs ≡ true

  or_true : (a b : Bool) → b ≡ true → (a || b) ≡ true
  or_true true b h = refl
  or_true false b h = h

  found_by : (m x : OfflineMark) (xs : List OfflineMark) (b : Bool) → kept x ≡ b → (find (λ y. not (kept y)) xs ≡ Some m → IsUnkept m xs) → cond (not b) (Some x) (find (λ y. not (kept y)) xs) ≡ Some m → IsUnkept m (x ∷ xs)
  found_by m x xs true is rest h = let later = rest h in record { goes = later.goes; among = or_true (is_mark m x) (list_any (is_mark m) xs) later.among }
  found_by m x xs false is rest h =
      let same : x ≡ m = cc in
      record { goes = ap kept (sym same) ∙ is; among = (λ i. is_mark m (same i) || list_any (is_mark m) xs) ∙ (λ i. own_mark m i || list_any (is_mark m) xs) }

  found_unkept : (m : OfflineMark) (xs : List OfflineMark) → find (λ y. not (kept y)) xs ≡ Some m → IsUnkept m xs
  found_unkept m [] h = absurd cc
  found_unkept m (x ∷ xs) h = found_by m x xs (kept x) refl (found_unkept m xs) h

  none_by : (x : OfflineMark) (xs : List OfflineMark) (b : Bool) → (find (λ y. not (kept y)) xs ≡ None → filter kept xs ≡ xs) → cond (not b) (Some x) (find (λ y. not (kept y)) xs) ≡ None → cond b (x ∷ filter kept xs) (filter kept xs) ≡ x ∷ xs
  none_by x xs true rest h = ap (λ (l : List OfflineMark). x ∷ l) (rest h)
  none_by x xs false rest h = absurd cc

  none_unkept : (xs : List OfflineMark) → find (λ y. not (kept y)) xs ≡ None → filter kept xs ≡ xs
  none_unkept [] h = refl
  none_unkept (x ∷ xs) h = none_by x xs (kept x) (none_unkept xs) h

module _ (net : Network) where
  pub mark_dropped : (m : OfflineMark) → find (λ x. not (is_kept_mark net x)) net.offline ≡ Some m → with_listed_marks net ≡ with_listed_marks (marked net m.balancer m.backend true)
  mark_dropped m h = ap (λ (l : List OfflineMark). record net { offline = l }) (sym (removed_kept (is_kept_mark net) m net.offline (found_unkept (is_kept_mark net) m net.offline h).goes))

  pub fewer_marks : (m : OfflineMark) → find (λ x. not (is_kept_mark net x)) net.offline ≡ Some m → length (marked net m.balancer m.backend true).offline < length net.offline
  fewer_marks m h = omega (arith, length-remove_key (is_mark m) net.offline (found_unkept (is_kept_mark net) m net.offline h).among)

  pub all_kept : find (λ x. not (is_kept_mark net x)) net.offline ≡ None → with_listed_marks net ≡ net
  all_kept h = ap (λ (l : List OfflineMark). record net { offline = l }) (none_unkept (is_kept_mark net) net.offline h)
