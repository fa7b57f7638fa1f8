-- Entries that are kept, and a connection list without its idle connections.
use Rattle.std.specs.Prelude.{◌≡◌, ◌≤◌, ℕ, suc, Bool, true, false, cond, not, List, [], ◌∷◌, length, map, Option, Some, is_some, refl}
use Rattle.std.specs.BTreeMap.{is_at}
use Rattle.std.specs.List.{AllByRecursion, filter}
use Rattle.std.specs.List.Sorted.{IsStrictlySortedBy}
use Rattle.std.specs.Map.{keys_of, lookup}
use Rattle.std.specs.declared.cmp.Ordering.{Ordering}
use Rattle.std.specs.declared.cmp.Ordering.TheVariants.{Less}
use Rattle.std.proofs.Common.{sym, ap, ◌∙◌, subst, arith, inl, inr}
use Rattle.std.proofs.lemmas.Option.{none-some, same_Some}
use Rattle.conn_table.proofs.TupleLaws.{same_by_cmp, own_by_cmp}
use Rattle.conn_table.specs.Connections.{ConnectionList, is_idle, expired, IsConnectionList, IsIndex}
use Rattle.conn_table.specs.Order.{tuple_cmp}
use Rattle.conn_table.specs.declared.connection.Entry.{Entry}
use Rattle.conn_table.specs.declared.tuple.Tuple.{Tuple}
use Rattle.ovn_base.proofs.AmongLaws.{among_cases, among_none, filter_among}
use Rattle.ovn_base.specs.lists.Among.{Among, here, there}
use Rattle.tunnel_keys.proofs.HeldKeys.{found}

-- ---- entries that are kept

module _ {K X : Type 0} (test : K × X → Bool) where
  kept_few : (es : List (K × X)) → length (filter test es) ≤ length es
  kept_few [] = omega arith
  kept_few (e ∷ es) = by (test e) (kept_few es)
    where
      by : (b : Bool) → length (filter test es) ≤ length es → length (cond b (e ∷ filter test es) (filter test es)) ≤ suc (length es)
      by true few = omega (arith, few)
      by false few = omega (arith, few)

  kept_all : (P : K → Type 0) (es : List (K × X)) → AllByRecursion P (keys_of es) → AllByRecursion P (keys_of (filter test es))
  kept_all P [] h = h
  kept_all P (e ∷ es) h = by (test e) (kept_all P es h.1)
    where
      by : (b : Bool) → AllByRecursion P (keys_of (filter test es)) → AllByRecursion P (keys_of (cond b (e ∷ filter test es) (filter test es)))
      by true rest = (h.0, rest)
      by false rest = rest

  pub kept_sorted : (cmp : K → K → Ordering) (es : List (K × X)) → IsStrictlySortedBy cmp (keys_of es) → IsStrictlySortedBy cmp (keys_of (filter test es))
  unfolding IsStrictlySortedBy
  kept_sorted cmp [] s = s
  kept_sorted cmp (e ∷ es) s = by (test e) (kept_sorted cmp es s.1)
    where
      by : (b : Bool) → IsStrictlySortedBy cmp (keys_of (filter test es)) → IsStrictlySortedBy cmp (keys_of (cond b (e ∷ filter test es) (filter test es)))
      by true rest = (kept_all (λ k. cmp e.0 k ≡ Less) es s.0, rest)
      by false rest = rest

-- ---- the index of a list

-- each forward tuple under its reply tuple
abbrev pub index_of : ConnectionList → List (Tuple × Tuple)
index_of list = map (λ (e : Tuple × Entry). (e.1.reply, e.0)) list

abbrev under : ConnectionList → Tuple → Option Tuple
under list r = lookup (is_at (tuple_cmp r)) (index_of list)

index_sound : (list : ConnectionList) (r t : Tuple) → under list r ≡ Some t → (e : Entry) × Among (t, e) list × (e.reply ≡ r)
index_sound [] r t h = absurd (none-some t h)
index_sound (x ∷ xs) r t h = by (is_at (tuple_cmp r) x.1.reply) refl h (index_sound xs r t)
  where
    by : (b : Bool) → is_at (tuple_cmp r) x.1.reply ≡ b → cond b (Some x.0) (under xs r) ≡ Some t → (under xs r ≡ Some t → (e : Entry) × Among (t, e) xs × (e.reply ≡ r)) → (e : Entry) × Among (t, e) (x ∷ xs) × (e.reply ≡ r)
    by true is e later = (x.1, subst (λ (u : Tuple). Among (u, x.1) (x ∷ xs)) (same_Some x.0 t e) here, sym (same_by_cmp r x.1.reply is))
    by false is e later = let y = later e in (y.0, there y.1, y.2)

index_some : (list : ConnectionList) (t : Tuple) (e : Entry) → Among (t, e) list → is_some (under list e.reply) ≡ true
index_some [] t e m = absurd (among_none (t, e) m)
index_some (x ∷ xs) t e m = elim (among_cases (t, e) x xs m) [
  | inl same ↦
      let own : is_at (tuple_cmp e.reply) x.1.reply ≡ true = ap (λ (y : Tuple × Entry). is_at (tuple_cmp e.reply) y.1.reply) (sym same) ∙ own_by_cmp e.reply in
      ap (λ b. is_some (cond b (Some x.0) (under xs e.reply))) own
  | inr later ↦ by (is_at (tuple_cmp e.reply) x.1.reply) (index_some xs t e later)
]
  where
    by : (b : Bool) → is_some (under xs e.reply) ≡ true → is_some (cond b (Some x.0) (under xs e.reply)) ≡ true
    by true rest = refl
    by false rest = rest

pub is_index : (list : ConnectionList) → IsConnectionList list → IsIndex (index_of list) list
is_index list law = record {
  sound = index_sound list;
  whole = λ t e m.
      let f = found (under list e.reply) (index_some list t e m) in
      let g = index_sound list e.reply f.0 f.1 in
      f.1 ∙ ap (λ (u : Tuple). Some u) (law.replies_apart f.0 t g.0 e g.1 m g.2);
}

-- ---- idle connections

abbrev active : ℕ → Tuple × Entry → Bool
active now e = not (is_idle now e.1)

-- an entry that is left was there
pub expired_among : (now : ℕ) (list : ConnectionList) (t : Tuple) (e : Entry) → Among (t, e) (expired now list) → Among (t, e) list
expired_among now list t e m = (filter_among (active now) (t, e) list m).0

pub expired_law : (now : ℕ) (list : ConnectionList) → IsConnectionList list → IsConnectionList (expired now list)
expired_law now list law = let few = kept_few (active now) list in let most = law.few in record {
  in_order = kept_sorted (active now) tuple_cmp list law.in_order;
  connections = λ t e m. law.connections t e (expired_among now list t e m);
  replies_apart = λ t u e f m n same. law.replies_apart t u e f (expired_among now list t e m) (expired_among now list u f n) same;
  ends_apart = λ t u e f m n same. law.ends_apart t u e f (expired_among now list t e m) (expired_among now list u f n) same;
  few = omega (arith, few, most);
}
