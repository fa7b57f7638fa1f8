-- Changes of a connection list keep it good.
use Rattle.std.specs.Prelude.{◌≡◌, ◌≢◌, ℕ, true, ◌∷◌, Option, Some, None, is_some, refl}
use Rattle.std.specs.BTreeMap.{is_at}
use Rattle.std.specs.Map.{set_value}
use Rattle.std.proofs.Common.{sym, ap, ◌∙◌, subst, inl, inr}
use Rattle.std.proofs.lemmas.Bool.{cond-true, cond-false}
use Rattle.std.proofs.lemmas.Option.{same_Some}
use Rattle.conn_table.proofs.TupleLaws.{same_by_cmp, own_by_cmp, other_by_cmp, one_or_two, at_among, among_at}
use Rattle.conn_table.proofs.ZoneLaws.{IsZone-by_change}
use Rattle.conn_table.specs.Connections.{ConnectionList, entry_of, begun, changed_option, changed, CanCommit}
use Rattle.conn_table.specs.Order.{tuple_cmp}
use Rattle.conn_table.specs.declared.connection.Entry.{Entry}
use Rattle.conn_table.specs.declared.tuple.Tuple.{Tuple}
use Rattle.net_model.proofs.ConnectionLaws.{longer_zone}
use Rattle.net_model.proofs.NewEntries.{with_new, new_entries}
use Rattle.sim_laws.proofs.pipelines.SetValues.{set_same, set_apart}
use Rattle.sim_laws.specs.pipelines.HeldLists.{IsTupleWithin, IsEntryWithin, IsGoodList}

-- an entry that is found is in its ranges
pub found_within : (list : ConnectionList) → IsGoodList list → (t : Tuple) (e : Entry) → entry_of list t ≡ Some e → IsEntryWithin e
found_within list good t e is = good.within t e (at_among list t e is)

-- ---- a change

-- a change that leaves an entry's tuples
pub record LeavesTuples (f : Entry → Entry) : Type 0 where
  pub forward : (e : Entry) → (f e).forward ≡ e.forward
  pub reply : (e : Entry) → (f e).reply ≡ e.reply

module _ (f : Entry → Entry) (leaves : LeavesTuples f) (list : ConnectionList) (good : IsGoodList list) (t : Tuple) where
  still_within : (e : Entry) → IsEntryWithin e → IsEntryWithin (f e)
  still_within e w = record { forward = subst IsTupleWithin (sym (leaves.forward e)) w.forward; reply = subst IsTupleWithin (sym (leaves.reply e)) w.reply }

  set_here : (e w : Entry) → entry_of list t ≡ Some e → entry_of (set_value (is_at (tuple_cmp t)) list w) t ≡ Some w
  set_here e w is = set_same (is_at (tuple_cmp t)) list w (ap (λ o. is_some o) is)

  set_elsewhere : (w : Entry) (q : Tuple) → t ≢ q → entry_of (set_value (is_at (tuple_cmp t)) list w) q ≡ entry_of list q
  set_elsewhere w q apart = set_apart (is_at (tuple_cmp t)) (is_at (tuple_cmp q)) (λ u h. other_by_cmp q u (λ same. apart (same_by_cmp t u h ∙ sym same))) list w

  pub changed_found : (e : Entry) → entry_of list t ≡ Some e → entry_of (changed f t list) t ≡ Some (f e)
  changed_found e is = ap (λ o. entry_of (changed_option f t list o) t) is ∙ set_here e (f e) is

  changed_within : (o : Option Entry) → entry_of list t ≡ o → (q : Tuple) (w : Entry) → entry_of (changed_option f t list o) q ≡ Some w → IsEntryWithin w
  changed_within None is q w found = found_within list good q w found
  changed_within (Some e) is q w found = elim (one_or_two t q) [
    | inl same ↦
        let own : Some w ≡ Some (f e) = sym found ∙ subst (λ u. entry_of (set_value (is_at (tuple_cmp t)) list (f e)) u ≡ Some (f e)) same (set_here e (f e) is) in
        subst IsEntryWithin (sym (same_Some w (f e) own)) (still_within e (found_within list good t e is))
    | inr apart ↦ found_within list good q w (sym (set_elsewhere (f e) q apart) ∙ found)
  ]

  pub changed_good : IsGoodList (changed f t list)
  changed_good =
      let zone = IsZone-by_change f leaves.forward leaves.reply list t good.forwards good.zone in
      record {
        forwards = good.forwards;
        zone = zone;
        within = λ q w m. changed_within (entry_of list t) refl q w (among_at q w (changed f t list) zone.law.in_order m);
      }

-- ---- an entry more

module _ (list : ConnectionList) (good : IsGoodList list) (from back : Tuple) (now : ℕ) (can : CanCommit list from back) (own : IsTupleWithin from) (other : IsTupleWithin back) where
  abbrev pub longer : ConnectionList
  longer = with_new from (begun from back now) list

  longer_within : (q : Tuple) (w : Entry) → entry_of longer q ≡ Some w → IsEntryWithin w
  longer_within q w found = elim (one_or_two from q) [
    | inl same ↦
        let new : Some w ≡ Some (begun from back now) =
        sym found ∙ new_entries from (begun from back now) list q
        ∙ cond-true (is_at (tuple_cmp from) q) (Some (begun from back now)) (entry_of list q) (subst (λ u. is_at (tuple_cmp from) u ≡ true) same (own_by_cmp from)) in
        subst IsEntryWithin (sym (same_Some w (begun from back now) new)) (record { forward = own; reply = other })
    | inr apart ↦
        found_within list good q w
        (sym (new_entries from (begun from back now) list q ∙ cond-false (is_at (tuple_cmp from) q) (Some (begun from back now)) (entry_of list q) (other_by_cmp from q apart)) ∙ found)
  ]

  pub longer_good : IsGoodList longer
  longer_good =
      let zone = longer_zone list good.forwards from back now good.zone can in
      record {
        forwards = (back, from) ∷ good.forwards;
        zone = zone;
        within = λ q w m. longer_within q w (among_at q w longer zone.law.in_order m);
      }
