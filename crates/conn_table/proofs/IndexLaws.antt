-- The entry of a reply tuple, by a scan of the list and by the index.
use Rattle.std.specs.Prelude.{◌≡◌, Bool, true, false, cond, List, [], ◌∷◌, Option, Some, None, refl}
use mathlib.Core.Path.{sym, ap, subst, ◌∙◌}
use Rattle.std.specs.BTreeMap.{is_at}
use Rattle.std.specs.Map.{lookup}
use Rattle.std.specs.Option.{option_map}
use Rattle.std.proofs.lemmas.Bool.{cond-true}
use Rattle.std.proofs.lemmas.Option.{none-some, same_Some}
use Rattle.ovn_base.specs.lists.Among.{Among, here, there}
use Rattle.ovn_base.proofs.AmongLaws.{among_same}
use Rattle.conn_table.specs.declared.connection.Entry.{Entry}
use Rattle.conn_table.specs.declared.tuple.Tuple.{Tuple}
use Rattle.conn_table.specs.Order.{same_tuple, tuple_cmp}
use Rattle.conn_table.specs.Connections.{ConnectionList, answered, IsZone}
use Rattle.conn_table.proofs.TupleLaws.{same_by_eq, own_by_eq}

-- what is found has the reply tuple
pub answered_some : (list : ConnectionList) (r : Tuple) (e : Entry) → answered list r ≡ Some e → (t : Tuple) × Among (t, e) list × (e.reply ≡ r)
answered_some [] r e h = absurd (none-some e h)
answered_some (x ∷ xs) r e h = by (same_tuple x.1.reply r) refl h (answered_some xs r e)
  where
    by : (b : Bool) → same_tuple x.1.reply r ≡ b → cond b (Some x.1) (answered xs r) ≡ Some e → (answered xs r ≡ Some e → (t : Tuple) × Among (t, e) xs × (e.reply ≡ r)) → (t : Tuple) × Among (t, e) (x ∷ xs) × (e.reply ≡ r)
    by true s g ih =
        let same : x.1 ≡ e = same_Some x.1 e g in
        (x.0, among_same (x.0, e) x xs (λ i. (x.0, sym same i)), ap (λ (y : Entry). y.reply) (sym same) ∙ same_by_eq x.1.reply r s)
    by false s g ih = let m = ih g in (m.0, there m.1, m.2)

later_none : (b : Bool) (e : Entry) (o : Option Entry) → cond b (Some e) o ≡ None → o ≡ None
later_none true e o h = absurd (none-some e (sym h))
later_none false e o h = h

-- and where nothing is found, no entry has it
pub answered_none : (t : Tuple) (e : Entry) (list : ConnectionList) (r : Tuple) → answered list r ≡ None → Among (t, e) list → e.reply ≡ r → ⊥
answered_none t e list r h here same =
    let own : same_tuple e.reply r ≡ true = subst (λ u. same_tuple e.reply u ≡ true) same (own_by_eq e.reply) in
    none-some e (sym h ∙ cond-true (same_tuple e.reply r) (Some e) (answered _ r) own)
answered_none t e (x ∷ xs) r h (there m) same = answered_none t e xs r (later_none (same_tuple x.1.reply r) x.1 (answered xs r) h) m same

-- the index has the forward tuple of the entry that the scan finds
pub answered_by_index : (list : ConnectionList) (forwards : List (Tuple × Tuple)) (r : Tuple) → IsZone list forwards → lookup (is_at (tuple_cmp r)) forwards ≡ option_map (λ (e : Entry). e.forward) (answered list r)
answered_by_index list forwards r zone = by_scan (answered list r) refl
  where
    nothing : answered list r ≡ None → (o : Option Tuple) → lookup (is_at (tuple_cmp r)) forwards ≡ o → o ≡ None
    nothing none None h = refl
    nothing none (Some t) h = let found = zone.index.sound r t h in absurd (answered_none t found.0 list r none found.1 found.2)

    by_scan : (o : Option Entry) → answered list r ≡ o → lookup (is_at (tuple_cmp r)) forwards ≡ option_map (λ (e : Entry). e.forward) o
    by_scan None h = nothing h (lookup (is_at (tuple_cmp r)) forwards) refl
    by_scan (Some e) h =
        let found = answered_some list r e h in
        let stands : lookup (is_at (tuple_cmp e.reply)) forwards ≡ Some found.0 = zone.index.whole found.0 e found.1 in
        subst (λ u. lookup (is_at (tuple_cmp u)) forwards ≡ Some found.0) found.2 stands ∙ ap (λ u. Some u) (sym (zone.law.connections found.0 e found.1).at_forward)
