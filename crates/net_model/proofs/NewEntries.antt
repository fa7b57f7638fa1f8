-- A connection list with one more entry: what is found in it, its order and its length.
use Rattle.std.specs.Prelude.{◌≡◌, ◌≢◌, suc, cond, List, [], ◌∷◌, length, Some, None, refl}
use Rattle.std.specs.BTreeMap.{is_at, insert_entry}
use Rattle.std.specs.List.{AllByRecursion}
use Rattle.std.specs.List.Sorted.{IsStrictlySortedBy}
use Rattle.std.specs.Map.{keys_of}
use Rattle.std.specs.Ordering.{is_eq, match_ordering, ordering_reverse}
use Rattle.std.specs.declared.cmp.Ordering.{Ordering}
use Rattle.std.specs.declared.cmp.Ordering.TheVariants.{Less, Equal, Greater}
use Rattle.std.proofs.Common.{sym, ap, ◌∙◌, subst, inl, inr}
use Rattle.std.proofs.lemmas.Bool.{cond-true, cond-false}
use Rattle.conn_table.proofs.TupleLaws.{tuple_total, same_by_cmp, own_by_cmp, other_by_cmp, one_or_two}
use Rattle.conn_table.specs.Connections.{ConnectionList, entry_of}
use Rattle.conn_table.specs.Order.{tuple_cmp}
use Rattle.conn_table.specs.declared.connection.Entry.{Entry}
use Rattle.conn_table.specs.declared.tuple.Tuple.{Tuple}

module _ (k : Tuple) (v : Entry) where
  -- the list with it
  abbrev pub with_new : ConnectionList → ConnectionList
  with_new es = insert_entry tuple_cmp es k v

  abbrev placed : Ordering → Tuple × Entry → ConnectionList → ConnectionList
  placed o e es = match_ordering o ((k, v) ∷ e ∷ es) ((e.0, v) ∷ es) (e ∷ with_new es)

  -- ---- what is found

  head_is : (e : Tuple × Entry) (es : ConnectionList) → entry_of (e ∷ es) e.0 ≡ Some e.1
  head_is e es = cond-true (is_at (tuple_cmp e.0) e.0) (Some e.1) (entry_of es e.0) (own_by_cmp e.0)

  tail_is : (e : Tuple × Entry) (es : ConnectionList) (q : Tuple) → q ≢ e.0 → entry_of (e ∷ es) q ≡ entry_of es q
  tail_is e es q apart = cond-false (is_at (tuple_cmp q) e.0) (Some e.1) (entry_of es q) (other_by_cmp q e.0 apart)

  there_at : (o : Ordering) (e : Tuple × Entry) (es : ConnectionList) → tuple_cmp k e.0 ≡ o → entry_of (with_new es) k ≡ Some v → entry_of (placed o e es) k ≡ Some v
  there_at Less e es is later = head_is (k, v) (e ∷ es)
  there_at Equal e es is later = cond-true (is_at (tuple_cmp k) e.0) (Some v) (entry_of es k) (ap is_eq is)
  there_at Greater e es is later = cond-false (is_at (tuple_cmp k) e.0) (Some e.1) (entry_of (with_new es) k) (ap is_eq is) ∙ later

  new_there : (es : ConnectionList) → entry_of (with_new es) k ≡ Some v
  new_there [] = head_is (k, v) []
  new_there (e ∷ es) = there_at (tuple_cmp k e.0) e es refl (new_there es)

  other_at : (q : Tuple) → q ≢ k → (o : Ordering) (e : Tuple × Entry) (es : ConnectionList) → tuple_cmp k e.0 ≡ o → entry_of (with_new es) q ≡ entry_of es q → entry_of (placed o e es) q ≡ entry_of (e ∷ es) q
  other_at q apart Less e es is later = tail_is (k, v) (e ∷ es) q apart
  other_at q apart Equal e es is later =
      let same : k ≡ e.0 = same_by_cmp k e.0 (ap is_eq is) in
      let far : q ≢ e.0 = λ h. apart (h ∙ sym same) in
      tail_is (e.0, v) es q far ∙ sym (tail_is e es q far)
  other_at q apart Greater e es is later = ap (λ r. cond (is_at (tuple_cmp q) e.0) (Some e.1) r) later

  new_other : (q : Tuple) → q ≢ k → (es : ConnectionList) → entry_of (with_new es) q ≡ entry_of es q
  new_other q apart [] = tail_is (k, v) [] q apart
  new_other q apart (e ∷ es) = other_at q apart (tuple_cmp k e.0) e es refl (new_other q apart es)

  pub new_entries : (es : ConnectionList) (q : Tuple) → entry_of (with_new es) q ≡ cond (is_at (tuple_cmp k) q) (Some v) (entry_of es q)
  new_entries es q = elim (one_or_two k q) [
    | inl same ↦
        subst (λ u. entry_of (with_new es) u ≡ cond (is_at (tuple_cmp k) u) (Some v) (entry_of es u)) same
        (new_there es ∙ sym (cond-true (is_at (tuple_cmp k) k) (Some v) (entry_of es k) (own_by_cmp k)))
    | inr apart ↦ new_other q (λ h. apart (sym h)) es ∙ sym (cond-false (is_at (tuple_cmp k) q) (Some v) (entry_of es q) (other_by_cmp k q apart))
  ]

  -- ---- its length

  length_at : (o : Ordering) (e : Tuple × Entry) (es : ConnectionList) → tuple_cmp k e.0 ≡ o → entry_of (e ∷ es) k ≡ None → (entry_of es k ≡ None → length (with_new es) ≡ suc (length es))
      → length (placed o e es) ≡ suc (suc (length es))
  length_at Less e es is absent later = refl
  length_at Equal e es is absent later =
      let found : entry_of (e ∷ es) k ≡ Some e.1 = cond-true (is_at (tuple_cmp k) e.0) (Some e.1) (entry_of es k) (ap is_eq is) in
      let clash : Some e.1 ≡ None = sym found ∙ absent in
      cc
  length_at Greater e es is absent later = ap suc (later (sym (cond-false (is_at (tuple_cmp k) e.0) (Some e.1) (entry_of es k) (ap is_eq is)) ∙ absent))

  pub new_length : (es : ConnectionList) → entry_of es k ≡ None → length (with_new es) ≡ suc (length es)
  new_length [] absent = refl
  new_length (e ∷ es) absent = length_at (tuple_cmp k e.0) e es refl absent (new_length es)

  -- ---- its order

  above_all : (a b : Tuple) (ks : List Tuple) → tuple_cmp a b ≡ Less → AllByRecursion (λ y. tuple_cmp b y ≡ Less) ks → AllByRecursion (λ y. tuple_cmp a y ≡ Less) ks
  above_all a b [] below h = h
  above_all a b (y ∷ ys) below h = (tuple_total.trans a b y below h.0, above_all a b ys below h.1)

  above_at : (a : Tuple) → tuple_cmp a k ≡ Less → (o : Ordering) (e : Tuple × Entry) (es : ConnectionList) → AllByRecursion (λ y. tuple_cmp a y ≡ Less) (keys_of (e ∷ es))
      → AllByRecursion (λ y. tuple_cmp a y ≡ Less) (keys_of (with_new es)) → AllByRecursion (λ y. tuple_cmp a y ≡ Less) (keys_of (placed o e es))
  above_at a below Less e es h later = (below, h)
  above_at a below Equal e es h later = h
  above_at a below Greater e es h later = (h.0, later)

  above_new : (es : ConnectionList) (a : Tuple) → tuple_cmp a k ≡ Less → AllByRecursion (λ y. tuple_cmp a y ≡ Less) (keys_of es) → AllByRecursion (λ y. tuple_cmp a y ≡ Less) (keys_of (with_new es))
  above_new [] a below h = (below, h)
  above_new (e ∷ es) a below h = above_at a below (tuple_cmp k e.0) e es h (above_new es a below h.1)

  sorted_at : (o : Ordering) (e : Tuple × Entry) (es : ConnectionList) → tuple_cmp k e.0 ≡ o → IsStrictlySortedBy tuple_cmp (keys_of (e ∷ es)) → IsStrictlySortedBy tuple_cmp (keys_of (with_new es))
      → IsStrictlySortedBy tuple_cmp (keys_of (placed o e es))
  unfolding IsStrictlySortedBy
  sorted_at Less e es is s later = ((is, above_all k e.0 (keys_of es) is s.0), s)
  sorted_at Equal e es is s later = s
  sorted_at Greater e es is s later = (above_new es e.0 (tuple_total.antisymm e.0 k ∙ ap ordering_reverse is) s.0, later)

  pub new_sorted : (es : ConnectionList) → IsStrictlySortedBy tuple_cmp (keys_of es) → IsStrictlySortedBy tuple_cmp (keys_of (with_new es))
  unfolding IsStrictlySortedBy
  new_sorted [] s = (tt, tt)
  new_sorted (e ∷ es) s = sorted_at (tuple_cmp k e.0) e es refl s (new_sorted es s.1)
