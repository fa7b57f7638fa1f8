-- The crossings that wait: new ones come behind them, and one leaves.
use Rattle.std.specs.Prelude.{◌≡◌, ◌≤◌, ◌<◌, ◌+◌, ℕ, Bool, true, false, List, [], ◌∷◌, ◌++◌, length}
use Rattle.std.specs.Map.{keys_of, remove_entry}
use Rattle.std.specs.BTreeMap.{is_at}
use Rattle.std.specs.Ordering.{nat_cmp}
use Rattle.std.specs.List.Sorted.{IsStrictlySortedBy}
use Rattle.std.proofs.Common.{sym, ap, subst, arith, inl, inr}
use Rattle.ovn_base.specs.lists.Among.{Among, here, there}
use Rattle.ovn_base.proofs.AmongLaws.{among_append, among_cases, among_none}
use Rattle.net_model.specs.Journey.{numbered_from}
use Rattle.net_model.specs.Trail.{crossings_in, End}
use Rattle.sim_laws.specs.Sound.{AreCrossings, MayWait}
use Rattle.net_model.specs.State.{State}
use Rattle.net_model.specs.declared.crossing.Crossing.{Crossing}
use Rattle.sim_laws.proofs.WaitingLists.{removed_among, removed_sorted, behind_sorted}

-- ---- numbers given in turn

pub from_among : (n : ℕ) (xs : List Crossing) (k : ℕ) (x : Crossing) → Among (k, x) (numbered_from n xs) → (n ≤ k) × (k < n + length xs) × Among x xs
from_among n [] k x m = absurd (among_none (k, x) m)
from_among n (y ∷ xs) k x m = elim (among_cases (k, x) (n, y) (numbered_from (n + 1) xs) m) [
  | inl same ↦
      let number : k ≡ n = ap (λ (w : ℕ × Crossing). w.0) same in
      (omega (arith, number), omega (arith, number), subst (λ (z : Crossing). Among z (y ∷ xs)) (sym (ap (λ (w : ℕ × Crossing). w.1) same)) here)
  | inr later ↦ let rest = from_among (n + 1) xs k x later in let low = rest.0 in let high = rest.1 in (omega (arith, low), omega (arith, high), there rest.2)
]

one_sorted : (n : ℕ) → IsStrictlySortedBy nat_cmp (n ∷ [])
unfolding IsStrictlySortedBy
one_sorted n = (tt, tt)

pub from_sorted : (n : ℕ) (xs : List Crossing) → IsStrictlySortedBy nat_cmp (keys_of (numbered_from n xs))
unfolding IsStrictlySortedBy
from_sorted n [] = tt
from_sorted n (x ∷ xs) = behind_sorted ((n, x) ∷ []) (numbered_from (n + 1) xs) (n + 1) (one_sorted n) (λ k y m. elim (among_cases (k, y) (n, x) [] m) [
  | inl same ↦ let number : k ≡ n = ap (λ (w : ℕ × Crossing). w.0) same in omega (arith, number)
  | inr later ↦ absurd (among_none (k, y) later)
]) (from_sorted (n + 1) xs) (λ k y m. (from_among (n + 1) xs k y m).0)

-- ---- other crossings

-- the same state with other crossings that may wait
abbrev with_waiting : State → List (ℕ × Crossing) → ℕ → State
with_waiting m waiting next = record m { waiting = waiting; next = next }

pub may_still : (m : State) (waiting : List (ℕ × Crossing)) (next : ℕ) (x : Crossing) → MayWait m x → MayWait (with_waiting m waiting next) x
may_still m waiting next x w = record {
  whole = w.whole;
  datapath_key = w.datapath_key;
  in_key = w.in_key;
  aim_key = w.aim_key;
  in_live = w.in_live;
  aim_live = w.aim_live;
  no_router = w.no_router;
  no_return = w.no_return;
}

-- the crossings among the ends are on their way
abbrev pub sent_on : State → List End → State
sent_on m ends = record m { waiting = m.waiting ++ numbered_from m.next (crossings_in ends); next = m.next + length (crossings_in ends) }

-- new crossings come behind those that wait
pub crossings_behind : (m : State) (ends : List End) → AreCrossings m → ((x : Crossing) → Among x (crossings_in ends) → MayWait m x) → AreCrossings (sent_on m ends)
crossings_behind m ends c may = record {
  in_order = behind_sorted m.waiting new m.next c.in_order (λ n x w. c.below n x w) (from_sorted m.next (crossings_in ends)) (λ n x w. (from_among m.next (crossings_in ends) n x w).0);
  below = λ n x w. elim (among_append (n, x) m.waiting new w) [
    | inl old ↦ let b = c.below n x old in omega (arith, b)
    | inr own ↦ let b = from_among m.next (crossings_in ends) n x own in let high = b.1 in omega (arith, high)
  ];
  may = λ n x w. elim (among_append (n, x) m.waiting new w) [
    | inl old ↦ may_still m (m.waiting ++ new) next x (c.may n x old)
    | inr own ↦ may_still m (m.waiting ++ new) next x (may x (from_among m.next (crossings_in ends) n x own).2)
  ];
}
  where
    new : List (ℕ × Crossing)
    new = numbered_from m.next (crossings_in ends)

    next : ℕ
    next = m.next + length (crossings_in ends)

-- the crossing of the number waits on where it is kept
abbrev pub with_kept : Bool → State → ℕ → State
with_kept true m n = m
with_kept false m n = record m { waiting = remove_entry (is_at (nat_cmp n)) m.waiting }

-- one crossing leaves, unless it is kept
pub crossings_kept : (keep : Bool) (m : State) (n : ℕ) → AreCrossings m → AreCrossings (with_kept keep m n)
crossings_kept true m n c = c
crossings_kept false m n c = record {
  in_order = removed_sorted m.waiting n c.in_order;
  below = λ k x w. c.below k x (removed_among m.waiting n (k, x) w);
  may = λ k x w. may_still m (remove_entry (is_at (nat_cmp n)) m.waiting) m.next x (c.may k x (removed_among m.waiting n (k, x) w));
}
