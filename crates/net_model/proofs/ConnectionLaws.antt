-- What always holds of a connection list, and when its connections were last used, after each change of it.
use Rattle.std.specs.Prelude.{◌≡◌, ◌≤◌, ◌⊎◌, ℕ, nat_lt, not, Bool, true, false, cond, List, [], ◌∷◌, length, Option, Some, None, Result, Ok, Err, refl}
use Rattle.std.specs.BTreeMap.{is_at}
use Rattle.std.specs.List.Sorted.{IsStrictlySortedBy}
use Rattle.std.specs.Map.{lookup, set_value}
use Rattle.std.specs.Ordering.{match_ordering}
use Rattle.std.specs.declared.cmp.Ordering.{Ordering}
use Rattle.std.specs.declared.cmp.Ordering.TheVariants.{Less, Equal, Greater}
use Rattle.std.proofs.Common.{sym, ap, ◌∙◌, subst, arith, inl, inr}
use Rattle.std.proofs.lemmas.Bool.{cond-false}
use Rattle.conn_table.proofs.CommitLaws.{can_commit}
use Rattle.conn_table.proofs.TupleLaws.{other_by_cmp, one_or_two, at_among}
use Rattle.conn_table.proofs.ZoneLaws.{IsZone-added, IsZone-by_change}
use Rattle.conn_table.specs.Connections.{ConnectionList, entry_of, begun, is_free, committed, changed_option, changed, expired, IsPair, IsConnectionList, IsZone, CanCommit}
use Rattle.conn_table.specs.Order.{tuple_cmp}
use Rattle.conn_table.specs.Tracking.{new, seen_tuple, state_of}
use Rattle.conn_table.specs.declared.connection.CommitFault.{CommitFault}
use Rattle.conn_table.specs.declared.connection.CommitFault.TheVariants as fault
use Rattle.conn_table.specs.declared.connection.Entry.{Entry}
use Rattle.conn_table.specs.declared.tuple.Tuple.{Tuple}
use Rattle.ovn_base.proofs.AmongLaws.{among_cases, among_none, among_same}
use Rattle.ovn_base.specs.declared.limits.TheConstants.{MAX_CONNECTIONS}
use Rattle.ovn_base.specs.lists.Among.{Among, there}
use Rattle.net_model.proofs.KeptEntries.{index_of, is_index, expired_among, expired_law}
use Rattle.net_model.proofs.NewEntries.{with_new, new_entries, new_length, new_sorted}
use Rattle.net_model.specs.Leads.{KeepsTuples, UsesBy}
use Rattle.net_model.specs.ListsAt.{IsListAt}

-- each list has an index
zone_of : (list : ConnectionList) → IsConnectionList list → IsZone list (index_of list)
zone_of list law = record { law = law; index = is_index list law }

-- ---- an entry more

-- its reply tuple stands in front
first_is : (forwards : List (Tuple × Tuple)) (from back q : Tuple) → lookup (is_at (tuple_cmp q)) ((back, from) ∷ forwards) ≡ cond (is_at (tuple_cmp back) q) (Some from) (lookup (is_at (tuple_cmp q)) forwards)
first_is forwards from back q = elim (one_or_two back q) [
  | inl same ↦ subst (λ u. lookup (is_at (tuple_cmp u)) ((back, from) ∷ forwards) ≡ cond (is_at (tuple_cmp back) u) (Some from) (lookup (is_at (tuple_cmp u)) forwards)) same refl
  | inr apart ↦
      cond-false (is_at (tuple_cmp q) back) (Some from) (lookup (is_at (tuple_cmp q)) forwards) (other_by_cmp q back (λ h. apart (sym h)))
      ∙ sym (cond-false (is_at (tuple_cmp back) q) (Some from) (lookup (is_at (tuple_cmp q)) forwards) (other_by_cmp back q apart))
]

-- the list with it, and the index with that
pub longer_zone : (list : ConnectionList) (forwards : List (Tuple × Tuple)) (from back : Tuple) (now : ℕ) → IsZone list forwards → CanCommit list from back
    → IsZone (with_new from (begun from back now) list) ((back, from) ∷ forwards)
longer_zone list forwards from back now zone can =
    IsZone-added list (with_new from (begun from back now) list) forwards ((back, from) ∷ forwards) from back now zone can
    (new_sorted from (begun from back now) list zone.law.in_order) (new_entries from (begun from back now) list) (first_is forwards from back)
    (new_length from (begun from back now) list can.no_entry ∙ omega arith)

-- where a commit is done, it is of an entry that can be added
pub record IsCommitted (list : ConnectionList) (from back : Tuple) (now : ℕ) (after : ConnectionList) : Type 0 where
  pub can : CanCommit list from back
  pub is : with_new from (begun from back now) list ≡ after

module _ (list : ConnectionList) (from back : Tuple) (now : ℕ) (fresh : seen_tuple list (Some from) ≡ new from) (pair : IsPair from back) where
  abbrev ok : ConnectionList → Result ConnectionList CommitFault
  ok l = Ok l

  same_ok : (a b : ConnectionList) → ok a ≡ ok b → a ≡ b
  same_ok a b e = cc

  by_room : (b : Bool) → nat_lt (length list) MAX_CONNECTIONS ≡ b → is_free list back ≡ true → (after : ConnectionList)
      → cond b (Ok (with_new from (begun from back now) list)) (Err fault.Full) ≡ Ok after → IsCommitted list from back now after
  by_room true room free after e = record { can = can_commit list from back (ap state_of fresh) pair free room; is = same_ok (with_new from (begun from back now) list) after e }
  by_room false room free after e = cc

  by_free : (b : Bool) → is_free list back ≡ b → (after : ConnectionList)
      → cond (not b) (Err (fault.Clash back)) (cond (nat_lt (length list) MAX_CONNECTIONS) (Ok (with_new from (begun from back now) list)) (Err fault.Full)) ≡ Ok after
      → IsCommitted list from back now after
  by_free true free after e = by_room (nat_lt (length list) MAX_CONNECTIONS) refl free after e
  by_free false taken after e = cc

  pub is_committed : (after : ConnectionList) → committed list from back now ≡ Ok after → IsCommitted list from back now after
  is_committed after e = by_free (is_free list back) refl after e

-- what is among the entries with one more is that, or was there
module _ (k : Tuple) (v : Entry) (t : Tuple) (w : Entry) where
  placed_among : (o : Ordering) (e : Tuple × Entry) (es : ConnectionList) → (Among (t, w) (with_new k v es) → (w ≡ v) ⊎ Among (t, w) es)
      → Among (t, w) (match_ordering o ((k, v) ∷ e ∷ es) ((e.0, v) ∷ es) (e ∷ with_new k v es)) → (w ≡ v) ⊎ Among (t, w) (e ∷ es)
  placed_among Less e es later m = elim (among_cases (t, w) (k, v) (e ∷ es) m) [
    | inl same ↦ inl (ap (λ (x : Tuple × Entry). x.1) same)
    | inr was ↦ inr was
  ]
  placed_among Equal e es later m = elim (among_cases (t, w) (e.0, v) es m) [
    | inl same ↦ inl (ap (λ (x : Tuple × Entry). x.1) same)
    | inr was ↦ inr (there was)
  ]
  placed_among Greater e es later m = elim (among_cases (t, w) e (with_new k v es) m) [
    | inl same ↦ inr (among_same (t, w) e es same)
    | inr more ↦ elim (later more) [
      | inl one ↦ inl one
      | inr was ↦ inr (there was)
    ]
  ]

  new_among : (es : ConnectionList) → Among (t, w) (with_new k v es) → (w ≡ v) ⊎ Among (t, w) es
  new_among [] m = elim (among_cases (t, w) (k, v) [] m) [
    | inl same ↦ inl (ap (λ (x : Tuple × Entry). x.1) same)
    | inr none ↦ inr none
  ]
  new_among (e ∷ es) m = placed_among (tuple_cmp k e.0) e es (new_among es) m

pub committed_at : (list : ConnectionList) (from back : Tuple) (now : ℕ) (after : ConnectionList) → seen_tuple list (Some from) ≡ new from → IsPair from back
    → committed list from back now ≡ Ok after → IsListAt now list → IsListAt now after
committed_at list from back now after fresh pair done h =
    let c = is_committed list from back now fresh pair after done in
    let longer : IsListAt now (with_new from (begun from back now) list) = record {
      law = (longer_zone list (index_of list) from back now (zone_of list h.law) c.can).law;
      used = λ t e m. by t e (new_among from (begun from back now) t e list m);
    } in
    subst (IsListAt now) c.is longer
  where
    by : (t : Tuple) (e : Entry) → (e ≡ begun from back now) ⊎ Among (t, e) list → e.used ≤ now
    by t e (inl one) = let is : e.used ≡ now = ap (λ (x : Entry). x.used) one in omega (arith, is)
    by t e (inr was) = h.used t e was

-- ---- an entry that is changed

-- what is among the entries after a value was set is that, or was there
set_among : (test : Tuple → Bool) (v : Entry) (t : Tuple) (w : Entry) (es : ConnectionList) → Among (t, w) (set_value test es v) → (w ≡ v) ⊎ Among (t, w) es
set_among test v t w [] m = absurd (among_none (t, w) m)
set_among test v t w (e ∷ es) m = by (test e.0) m (set_among test v t w es)
  where
    by : (b : Bool) → Among (t, w) (cond b ((e.0, v) ∷ es) (e ∷ set_value test es v)) → (Among (t, w) (set_value test es v) → (w ≡ v) ⊎ Among (t, w) es) → (w ≡ v) ⊎ Among (t, w) (e ∷ es)
    by true n later = elim (among_cases (t, w) (e.0, v) es n) [
      | inl same ↦ inl (ap (λ (x : Tuple × Entry). x.1) same)
      | inr was ↦ inr (there was)
    ]
    by false n later = elim (among_cases (t, w) e (set_value test es v) n) [
      | inl same ↦ inr (among_same (t, w) e es same)
      | inr more ↦ elim (later more) [
        | inl one ↦ inl one
        | inr was ↦ inr (there was)
      ]
    ]

pub changed_at : (now : ℕ) (change : Entry → Entry) (q : Tuple) (list : ConnectionList) → KeepsTuples change → UsesBy now change → IsListAt now list → IsListAt now (changed change q list)
changed_at now change q list keeps uses h = record {
  law = (IsZone-by_change change (λ e. (keeps e).0) (λ e. (keeps e).1) list q (index_of list) (zone_of list h.law)).law;
  used = used_by (entry_of list q) refl;
}
  where
    used_by : (o : Option Entry) → entry_of list q ≡ o → (t : Tuple) (w : Entry) → Among (t, w) (changed_option change q list o) → w.used ≤ now
    used_by None is t w m = h.used t w m
    used_by (Some e) is t w m = elim (set_among (is_at (tuple_cmp q)) (change e) t w list m) [
      | inl one ↦
          let same : w.used ≡ (change e).used = ap (λ (x : Entry). x.used) one in
          let early : (change e).used ≤ now = uses e (h.used q e (at_among list q e is)) in
          omega (arith, same, early)
      | inr was ↦ h.used t w was
    ]

-- ---- time

pub expired_at : (now later : ℕ) (list : ConnectionList) → now ≤ later → IsListAt now list → IsListAt later (expired later list)
expired_at now later list after h = record {
  law = expired_law later list h.law;
  used = λ t e m. let used = h.used t e (expired_among later list t e m) in omega (arith, used, after);
}

-- ---- no entry

pub none_at : (now : ℕ) → IsListAt now []
unfolding IsStrictlySortedBy
none_at now = record {
  law = record {
    in_order = tt;
    connections = λ t e m. absurd (among_none (t, e) m);
    replies_apart = λ t u e f m n same. absurd (among_none (t, e) m);
    ends_apart = λ t u e f m n same. absurd (among_none (t, e) m);
    few = omega arith;
  };
  used = λ t e m. absurd (among_none (t, e) m);
}
