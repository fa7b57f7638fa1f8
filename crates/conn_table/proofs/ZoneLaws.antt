-- What always holds of a list of connections holds after each call.
use Rattle.std.specs.Prelude.{◌≡◌, ◌≢◌, ◌⊎◌, ◌+◌, ◌≤◌, ℕ, Bool, true, false, cond, List, length, Option, Some, None, is_some, refl}
use mathlib.Core.Path.{sym, ap, subst, ◌∙◌}
use mathlib.Core.Logic.{inl, inr}
use native.Mathlib.Omega.{arith}
use Rattle.std.specs.BTreeMap.{is_at}
use Rattle.std.specs.List.{filter}
use Rattle.std.specs.List.Sorted.{IsStrictlySortedBy}
use Rattle.std.specs.Map.{keys_of, lookup, set_value}
use Rattle.std.specs.Option.{option_map}
use Rattle.std.specs.Ordering.{eq_by_cmp}
use Rattle.std.proofs.lemmas.Bool.{cond-true, cond-false}
use Rattle.std.proofs.lemmas.Cmp.{eq_by_cmp_equiv}
use Rattle.std.proofs.lemmas.Map.{lookup-set_value, keys-set_value, length-set_value}
use Rattle.std.proofs.lemmas.Map.Entries.{lookup-filter-values, option_filter}
use Rattle.std.proofs.lemmas.Map.Keys.{IsDistinct-from_sorted}
use Rattle.std.proofs.lemmas.Option.{none-some, same_Some}
use Rattle.ovn_base.specs.lists.Among.{Among}
use Rattle.ovn_base.proofs.AmongLaws.{filter_among}
use Rattle.conn_table.specs.declared.connection.Entry.{Entry}
use Rattle.conn_table.specs.declared.connection.State.{State}
use Rattle.conn_table.specs.declared.connection.State.TheVariants as states
use Rattle.ovn_base.specs.declared.limits.TheConstants.{MAX_CONNECTIONS}
use Rattle.conn_table.specs.declared.tuple.Tuple.{Tuple}
use Rattle.conn_table.specs.Order.{tuple_cmp}
use Rattle.conn_table.specs.Connections.{ConnectionList, begun, changed_option, changed, IsPair, IsConnection, IsZone, CanCommit}
use Rattle.conn_table.specs.Tracking.{NamesEntry}
use Rattle.conn_table.proofs.TupleLaws.{tuple_total, same_by_cmp, own_by_cmp, other_by_cmp, one_or_two, at_among, among_at}
use Rattle.conn_table.proofs.IndexLaws.{answered_none, answered_by_index}

-- the value at a tuple
abbrev at : {X : Type 0} → List (Tuple × X) → Tuple → Option X
at es t = lookup (is_at (tuple_cmp t)) es

-- ---- an entry more

module _ (list after : ConnectionList) (fs gs : List (Tuple × Tuple)) (from back : Tuple) (now : ℕ)
    (zone : IsZone list fs) (can : CanCommit list from back) (sorted : IsStrictlySortedBy tuple_cmp (keys_of after))
    (entries : (q : Tuple) → at after q ≡ cond (is_at (tuple_cmp from) q) (Some (begun from back now)) (at list q))
    (forwards : (q : Tuple) → at gs q ≡ cond (is_at (tuple_cmp back) q) (Some from) (at fs q))
    (longer : length after ≡ length list + 1) where
  -- the entry that was added is there
  added_new : Among (from, begun from back now) after
  added_new = at_among after from (begun from back now) (entries from ∙ cond-true (is_at (tuple_cmp from) from) (Some (begun from back now)) (at list from) (own_by_cmp from))

  -- the others stay
  pub added_kept : (t : Tuple) (e : Entry) → Among (t, e) list → Among (t, e) after
  added_kept t e m =
      let found : at list t ≡ Some e = among_at t e list zone.law.in_order m in
      let apart : from ≢ t = λ same. none-some e (sym can.no_entry ∙ ap (λ u. at list u) same ∙ found) in
      at_among after t e (entries t ∙ cond-false (is_at (tuple_cmp from) t) (Some (begun from back now)) (at list t) (other_by_cmp from t apart) ∙ found)

  -- and there is nothing else
  added_cases : (t : Tuple) (e : Entry) → Among (t, e) after → ((t ≡ from) × (e ≡ begun from back now)) ⊎ Among (t, e) list
  added_cases t e m =
      let found : at after t ≡ Some e = among_at t e after sorted m in
      elim (one_or_two from t) [
        | inl same ↦ inl (
          sym same,
          same_Some e (begun from back now)
              (sym found ∙ entries t ∙ cond-true (is_at (tuple_cmp from) t) (Some (begun from back now)) (at list t) (subst (λ u. is_at (tuple_cmp from) u ≡ true) same (own_by_cmp from))),
        )
        | inr apart ↦ inr (at_among list t e (sym (cond-false (is_at (tuple_cmp from) t) (Some (begun from back now)) (at list t) (other_by_cmp from t apart)) ∙ sym (entries t) ∙ found))
      ]

  -- an entry that was there has neither the new reply tuple nor the new forward tuple as its reply tuple
  not_back : (t : Tuple) (e : Entry) → Among (t, e) list → e.reply ≢ back
  not_back t e m same = answered_none t e list back can.free_answer m same

  not_from : (t : Tuple) (e : Entry) → Among (t, e) list → e.reply ≢ from
  not_from t e m same = answered_none t e list from can.no_answer m same

  -- nor the new reply tuple as its forward tuple
  not_forward : (t : Tuple) (e : Entry) → Among (t, e) list → back ≢ e.forward
  not_forward t e m same =
      let at_key : back ≡ t = same ∙ (zone.law.connections t e m).at_forward in
      none-some e (sym can.free_entry ∙ ap (λ u. at list u) at_key ∙ among_at t e list zone.law.in_order m)

  added_connections : (t : Tuple) (e : Entry) → Among (t, e) after → IsConnection t e
  added_connections t e m = elim (added_cases t e m) [
    | inl s ↦
        let base : IsConnection from (begun from back now) = record { at_forward = refl; pair = can.pair } in
        subst (λ u. IsConnection u e) (sym s.0) (subst (λ f. IsConnection from f) (sym s.1) base)
    | inr old ↦ zone.law.connections t e old
  ]

  added_replies : (t u : Tuple) (e f : Entry) → Among (t, e) after → Among (u, f) after → e.reply ≡ f.reply → t ≡ u
  added_replies t u e f m n same = elim (added_cases t e m) [
    | inl s ↦ elim (added_cases u f n) [
      | inl r ↦ s.0 ∙ sym r.0
      | inr old ↦ absurd (not_back u f old (sym same ∙ ap (λ (x : Entry). x.reply) s.1))
    ]
    | inr old ↦ elim (added_cases u f n) [
      | inl r ↦ absurd (not_back t e old (same ∙ ap (λ (x : Entry). x.reply) r.1))
      | inr older ↦ zone.law.replies_apart t u e f old older same
    ]
  ]

  added_ends : (t u : Tuple) (e f : Entry) → Among (t, e) after → Among (u, f) after → e.reply ≡ f.forward → t ≡ u
  added_ends t u e f m n same = elim (added_cases t e m) [
    | inl s ↦ elim (added_cases u f n) [
      | inl r ↦ s.0 ∙ sym r.0
      | inr old ↦ absurd (not_forward u f old (sym (ap (λ (x : Entry). x.reply) s.1) ∙ same))
    ]
    | inr old ↦ elim (added_cases u f n) [
      | inl r ↦ absurd (not_from t e old (same ∙ ap (λ (x : Entry). x.forward) r.1))
      | inr older ↦ zone.law.ends_apart t u e f old older same
    ]
  ]

  added_sound : (r t : Tuple) → at gs r ≡ Some t → (e : Entry) × Among (t, e) after × (e.reply ≡ r)
  added_sound r t h = elim (one_or_two back r) [
    | inl same ↦
        let is : from ≡ t = same_Some from t (sym (cond-true (is_at (tuple_cmp back) r) (Some from) (at fs r) (subst (λ u. is_at (tuple_cmp back) u ≡ true) same (own_by_cmp back))) ∙ sym (forwards r) ∙ h) in
        (begun from back now, subst (λ u. Among (u, begun from back now) after) is added_new, same)
    | inr apart ↦
        let old = zone.index.sound r t (sym (cond-false (is_at (tuple_cmp back) r) (Some from) (at fs r) (other_by_cmp back r apart)) ∙ sym (forwards r) ∙ h) in
        (old.0, added_kept t old.0 old.1, old.2)
  ]

  added_whole : (t : Tuple) (e : Entry) → Among (t, e) after → at gs e.reply ≡ Some t
  added_whole t e m = elim (added_cases t e m) [
    | inl s ↦
        let own : at gs back ≡ Some from = forwards back ∙ cond-true (is_at (tuple_cmp back) back) (Some from) (at fs back) (own_by_cmp back) in
        subst (λ u. at gs u ≡ Some t) (sym (ap (λ (x : Entry). x.reply) s.1)) (own ∙ ap (λ u. Some u) (sym s.0))
    | inr old ↦
        let apart : back ≢ e.reply = λ same. not_back t e old (sym same) in
        forwards e.reply ∙ cond-false (is_at (tuple_cmp back) e.reply) (Some from) (at fs e.reply) (other_by_cmp back e.reply apart) ∙ zone.index.whole t e old
  ]

  -- the list with one more entry
  pub IsZone-added : IsZone after gs
  IsZone-added = record {
    law = record { in_order = sorted; connections = added_connections; replies_apart = added_replies; ends_apart = added_ends; few = omega (arith, longer, can.room) };
    index = record { sound = added_sound; whole = added_whole };
  }

-- ---- an index that was put back

pub IsZone-restored : (list : ConnectionList) (fs gs hs : List (Tuple × Tuple)) (from back : Tuple) → IsZone list fs → CanCommit list from back
    → ((q : Tuple) → at gs q ≡ cond (is_at (tuple_cmp back) q) (Some from) (at fs q)) → ((q : Tuple) → at hs q ≡ cond (is_at (tuple_cmp back) q) None (at gs q)) → IsZone list hs
IsZone-restored list fs gs hs from back zone can put taken = record {
  law = zone.law;
  index = record {
    sound = λ r t h. zone.index.sound r t (sym (same r) ∙ h);
    whole = λ t e m. same e.reply ∙ zone.index.whole t e m;
  };
}
  where
    none : at fs back ≡ None
    none = answered_by_index list fs back zone ∙ ap (λ o. option_map (λ (e : Entry). e.forward) o) can.free_answer

    same : (q : Tuple) → at hs q ≡ at fs q
    same q = elim (one_or_two back q) [
      | inl is ↦ taken q ∙ cond-true (is_at (tuple_cmp back) q) None (at gs q) (subst (λ u. is_at (tuple_cmp back) u ≡ true) is (own_by_cmp back)) ∙ sym (subst (λ u. at fs u ≡ None) is none)
      | inr apart ↦ taken q ∙ cond-false (is_at (tuple_cmp back) q) None (at gs q) (other_by_cmp back q apart) ∙ put q ∙ cond-false (is_at (tuple_cmp back) q) (Some from) (at fs q) (other_by_cmp back q apart)
    ]

-- ---- an entry that was changed, but for its tuples

pub IsZone-changed : (list after : ConnectionList) (fs : List (Tuple × Tuple)) (t : Tuple) (e w : Entry) → IsZone list fs → at list t ≡ Some e → w.forward ≡ e.forward → w.reply ≡ e.reply
    → IsStrictlySortedBy tuple_cmp (keys_of after) → ((q : Tuple) → at after q ≡ cond (is_at (tuple_cmp t) q) (Some w) (at list q)) → length after ≡ length list → IsZone after fs
IsZone-changed list after fs t e w zone is forward reply sorted entries as_long = record {
  law = record {
    in_order = sorted;
    connections = λ q x m.
        let o = old q x m in
        let c = zone.law.connections q o.0 o.1 in
        record { at_forward = o.2 ∙ c.at_forward; pair = subst (λ u. IsPair x.forward u) (sym o.3) (subst (λ u. IsPair u o.0.reply) (sym o.2) c.pair) };
    replies_apart = λ q r x y m n same. let o = old q x m in let p = old r y n in zone.law.replies_apart q r o.0 p.0 o.1 p.1 (sym o.3 ∙ same ∙ p.3);
    ends_apart = λ q r x y m n same. let o = old q x m in let p = old r y n in zone.law.ends_apart q r o.0 p.0 o.1 p.1 (sym o.3 ∙ same ∙ p.2);
    few = subst (λ n. n ≤ MAX_CONNECTIONS) (sym as_long) zone.law.few;
  };
  index = record {
    sound = λ r q h. let f = zone.index.sound r q h in let n = new q f.0 f.1 in (n.0, n.1, n.2 ∙ f.2);
    whole = λ q x m. let o = old q x m in subst (λ u. at fs u ≡ Some q) (sym o.3) (zone.index.whole q o.0 o.1);
  };
}
  where
    old : (q : Tuple) (x : Entry) → Among (q, x) after → (y : Entry) × Among (q, y) list × (x.forward ≡ y.forward) × (x.reply ≡ y.reply)
    old q x m =
        let found : at after q ≡ Some x = among_at q x after sorted m in
        elim (one_or_two t q) [
          | inl same ↦
              let there : is_at (tuple_cmp t) q ≡ true = subst (λ u. is_at (tuple_cmp t) u ≡ true) same (own_by_cmp t) in
              let value : x ≡ w = same_Some x w (sym found ∙ entries q ∙ cond-true (is_at (tuple_cmp t) q) (Some w) (at list q) there) in
              (e, subst (λ u. Among (u, e) list) same (at_among list t e is), ap (λ (y : Entry). y.forward) value ∙ forward, ap (λ (y : Entry). y.reply) value ∙ reply)
          | inr apart ↦ (x, at_among list q x (sym (cond-false (is_at (tuple_cmp t) q) (Some w) (at list q) (other_by_cmp t q apart)) ∙ sym (entries q) ∙ found), refl, refl)
        ]

    new : (q : Tuple) (y : Entry) → Among (q, y) list → (x : Entry) × Among (q, x) after × (x.reply ≡ y.reply)
    new q y m =
        let found : at list q ≡ Some y = among_at q y list zone.law.in_order m in
        elim (one_or_two t q) [
          | inl same ↦
              let there : is_at (tuple_cmp t) q ≡ true = subst (λ u. is_at (tuple_cmp t) u ≡ true) same (own_by_cmp t) in
              let value : e ≡ y = same_Some e y (sym is ∙ ap (λ u. at list u) same ∙ found) in
              (w, at_among after q w (entries q ∙ cond-true (is_at (tuple_cmp t) q) (Some w) (at list q) there), reply ∙ ap (λ (z : Entry). z.reply) value)
          | inr apart ↦ (y, at_among after q y (entries q ∙ cond-false (is_at (tuple_cmp t) q) (Some w) (at list q) (other_by_cmp t q apart) ∙ found), refl)
        ]

-- the other entries stay, and the changed one keeps its tuples
module _ (list after : ConnectionList) (t : Tuple) (e w : Entry) (is : at list t ≡ Some e) (entries : (q : Tuple) → at after q ≡ cond (is_at (tuple_cmp t) q) (Some w) (at list q)) where
  kept_part : {X : Type 0} (f : Entry → X) → f w ≡ f e → (u : Tuple) → option_map f (at after u) ≡ option_map f (at list u)
  kept_part f same u = elim (one_or_two t u) [
    | inl one ↦
        ap (λ o. option_map f o) (entries u ∙ cond-true (is_at (tuple_cmp t) u) (Some w) (at list u) (subst (λ v. is_at (tuple_cmp t) v ≡ true) one (own_by_cmp t)))
        ∙ ap (λ x. Some x) same ∙ sym (ap (λ o. option_map f o) (subst (λ v. at list v ≡ Some e) one is))
    | inr apart ↦ ap (λ o. option_map f o) (entries u ∙ cond-false (is_at (tuple_cmp t) u) (Some w) (at list u) (other_by_cmp t u apart))
  ]

  kept_held : (u : Tuple) → is_some (at list u) ≡ true → is_some (at after u) ≡ true
  kept_held u held = elim (one_or_two t u) [
    | inl one ↦ ap (λ o. is_some o) (entries u ∙ cond-true (is_at (tuple_cmp t) u) (Some w) (at list u) (subst (λ v. is_at (tuple_cmp t) v ≡ true) one (own_by_cmp t)))
    | inr apart ↦ ap (λ o. is_some o) (entries u ∙ cond-false (is_at (tuple_cmp t) u) (Some w) (at list u) (other_by_cmp t u apart)) ∙ held
  ]

  -- so a state names the entry that it named
  pub names_kept : w.forward ≡ e.forward → w.reply ≡ e.reply → (o : Option Tuple) (state : State) → NamesEntry list o state → NamesEntry after o state
  names_kept forward reply o (states.Forward slot) n = (kept_held slot.forward n.0, n.1 ∙ sym (kept_part (λ x. x.forward) forward slot.forward))
  names_kept forward reply o (states.Reply slot) n = (kept_held slot.forward n.0, n.1 ∙ sym (kept_part (λ x. x.reply) reply slot.forward))
  names_kept forward reply o states.New n = n
  names_kept forward reply o states.Invalid n = n

-- the entry of a forward tuple changed by a function that leaves its tuples
module _ (f : Entry → Entry) (forward : (e : Entry) → (f e).forward ≡ e.forward) (reply : (e : Entry) → (f e).reply ≡ e.reply) (list : ConnectionList) (t : Tuple) where
  one_test : (x y : Tuple) → is_at (tuple_cmp t) x ≡ true → is_at (tuple_cmp t) y ≡ eq_by_cmp tuple_cmp x y
  one_test x y h = ap (λ u. is_at (tuple_cmp u) y) (same_by_cmp t x h)

  set_entries : (e w : Entry) → at list t ≡ Some e → (q : Tuple) → at (set_value (is_at (tuple_cmp t)) list w) q ≡ cond (is_at (tuple_cmp t) q) (Some w) (at list q)
  set_entries e w is q = lookup-set_value {eq = eq_by_cmp tuple_cmp} (eq_by_cmp_equiv tuple_total) (is_at (tuple_cmp t)) one_test q w list (ap (λ o. is_some o) is)

  -- each entry is there, with its tuples
  pub entries_by_change : IsStrictlySortedBy tuple_cmp (keys_of list) → (q : Tuple) (y : Entry) → Among (q, y) list
      → (w : Entry) × Among (q, w) (changed f t list) × (w.forward ≡ y.forward) × (w.reply ≡ y.reply)
  entries_by_change sorted q y m = by (at list t) refl
    where
      by : (o : Option Entry) → at list t ≡ o → (w : Entry) × Among (q, w) (changed_option f t list o) × (w.forward ≡ y.forward) × (w.reply ≡ y.reply)
      by None is = (y, m, refl, refl)
      by (Some e) is =
          let found : at list q ≡ Some y = among_at q y list sorted m in
          elim (one_or_two t q) [
            | inl same ↦
                let there : is_at (tuple_cmp t) q ≡ true = subst (λ u. is_at (tuple_cmp t) u ≡ true) same (own_by_cmp t) in
                let value : e ≡ y = same_Some e y (sym is ∙ ap (λ u. at list u) same ∙ found) in (
                  f e,
                  at_among (set_value (is_at (tuple_cmp t)) list (f e)) q (f e) (set_entries e (f e) is q ∙ cond-true (is_at (tuple_cmp t) q) (Some (f e)) (at list q) there),
                  forward e ∙ ap (λ (z : Entry). z.forward) value,
                  reply e ∙ ap (λ (z : Entry). z.reply) value,
                )
            | inr apart ↦ (
              y,
              at_among (set_value (is_at (tuple_cmp t)) list (f e)) q y (set_entries e (f e) is q ∙ cond-false (is_at (tuple_cmp t) q) (Some (f e)) (at list q) (other_by_cmp t q apart) ∙ found),
              refl,
              refl,
            )
          ]

  pub IsZone-by_change : (fs : List (Tuple × Tuple)) → IsZone list fs → IsZone (changed f t list) fs
  IsZone-by_change fs zone = by (at list t) refl
    where
      by : (o : Option Entry) → at list t ≡ o → IsZone (changed_option f t list o) fs
      by None is = zone
      by (Some e) is =
          IsZone-changed list (set_value (is_at (tuple_cmp t)) list (f e)) fs t e (f e) zone is (forward e) (reply e)
          (subst (λ ks. IsStrictlySortedBy tuple_cmp ks) (sym (keys-set_value (is_at (tuple_cmp t)) list (f e))) zone.law.in_order)
          (set_entries e (f e) is) (length-set_value (is_at (tuple_cmp t)) list (f e))

  pub names_by_change : (o : Option Tuple) (state : State) → NamesEntry list o state → NamesEntry (changed f t list) o state
  names_by_change o state n = by (at list t) refl
    where
      by : (p : Option Entry) → at list t ≡ p → NamesEntry (changed_option f t list p) o state
      by None is = n
      by (Some e) is = names_kept list (set_value (is_at (tuple_cmp t)) list (f e)) t e (f e) is (set_entries e (f e) is) (forward e) (reply e) o state n

-- ---- entries that were taken out

kept_value : (test : Tuple → Bool) (u t : Tuple) → cond (test u) (Some u) None ≡ Some t → (u ≡ t) × (test u ≡ true)
kept_value test u t h = by (test u) refl h
  where
    by : (b : Bool) → test u ≡ b → cond b (Some u) None ≡ Some t → (u ≡ t) × (test u ≡ true)
    by true is g = (same_Some u t g, is)
    by false is g = absurd (none-some t g)

pub IsZone-filtered : (p : Entry → Bool) (list after : ConnectionList) (fs gs : List (Tuple × Tuple)) → IsZone list fs → IsStrictlySortedBy tuple_cmp (keys_of fs)
    → after ≡ filter (λ (e : Tuple × Entry). p e.1) list → IsStrictlySortedBy tuple_cmp (keys_of after) → length after ≤ length list
    → gs ≡ filter (λ (e : Tuple × Tuple). is_some (at after e.1)) fs → IsZone after gs
IsZone-filtered p list after fs gs zone in_order entries sorted shorter forwards = record {
  law = record {
    in_order = sorted;
    connections = λ t e m. zone.law.connections t e (was t e m);
    replies_apart = λ t u e f m n same. zone.law.replies_apart t u e f (was t e m) (was u f n) same;
    ends_apart = λ t u e f m n same. zone.law.ends_apart t u e f (was t e m) (was u f n) same;
    few = omega (arith, shorter, zone.law.few);
  };
  index = record { sound = sound; whole = whole };
}
  where
    was : (t : Tuple) (e : Entry) → Among (t, e) after → Among (t, e) list
    was t e m = (filter_among (λ (x : Tuple × Entry). p x.1) (t, e) list (subst (λ l. Among (t, e) l) entries m)).0

    looked : (r : Tuple) → at gs r ≡ option_filter (λ u. is_some (at after u)) (at fs r)
    looked r = ap (λ l. at l r) forwards ∙ lookup-filter-values {eq = eq_by_cmp tuple_cmp} (eq_by_cmp_equiv tuple_total) (λ u. is_some (at after u)) r fs (IsDistinct-from_sorted tuple_cmp (keys_of fs) in_order)

    held : (u : Tuple) (o : Option Entry) → at after u ≡ o → is_some o ≡ true → (e : Entry) × Among (u, e) after
    held u None h some = cc
    held u (Some e) h some = (e, at_among after u e h)

    by_old : (r t : Tuple) (o : Option Tuple) → at fs r ≡ o → option_filter (λ u. is_some (at after u)) o ≡ Some t → (e : Entry) × Among (t, e) after × (e.reply ≡ r)
    by_old r t None is h = absurd (none-some t h)
    by_old r t (Some u) is h =
        let k = kept_value (λ v. is_some (at after v)) u t h in
        let f = zone.index.sound r u is in
        let g = held u (at after u) refl k.1 in
        let same : g.0 ≡ f.0 = same_Some g.0 f.0 (sym (among_at u g.0 list zone.law.in_order (was u g.0 g.1)) ∙ among_at u f.0 list zone.law.in_order f.1) in
        (g.0, subst (λ v. Among (v, g.0) after) k.0 g.1, ap (λ (x : Entry). x.reply) same ∙ f.2)

    sound : (r t : Tuple) → at gs r ≡ Some t → (e : Entry) × Among (t, e) after × (e.reply ≡ r)
    sound r t h = by_old r t (at fs r) refl (sym (looked r) ∙ h)

    whole : (t : Tuple) (e : Entry) → Among (t, e) after → at gs e.reply ≡ Some t
    whole t e m =
        let kept : is_some (at after t) ≡ true = ap (λ o. is_some o) (among_at t e after sorted m) in
        looked e.reply ∙ ap (λ o. option_filter (λ u. is_some (at after u)) o) (zone.index.whole t e (was t e m)) ∙ cond-true (is_some (at after t)) (Some t) None kept
