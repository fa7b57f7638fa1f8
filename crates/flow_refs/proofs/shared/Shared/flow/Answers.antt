use Rattle.std.proofs.Common.{◌≡◌, ◌↔◌, ◌∙◌, ℕ, refl, sym, subst, true, List, [], ◌∷◌, None, slice_get}
use Prim.Native.Nat.{zero, suc}
use Rattle.std.specs.Cmp.{eq_by_cmp_equiv}
use Rattle.std.specs.Map.{keys_of}
use Rattle.std.specs.Set.{is_member}
use Rattle.std.proofs.lemmas.Map.Keys.{IsDistinct-from_sorted}
use Rattle.std.proofs.lemmas.Option.{none-some}
use Rattle.std.proofs.lemmas.Map.Made.{is_some-lookup}
use Rattle.flow_refs.specs.Origins.{flows_of, IsHeld}
use Rattle.flow_refs.specs.Store.{Store}
use Rattle.flow_refs.proofs.ApplyLaws.{listed_where_held}
use Rattle.flow_refs.proofs.shared.Shared.flow.Goals as goal

none_at : {K X : Type 0} (es : List (K × X)) (i : ℕ) → slice_get es i ≡ None → slice_get (keys_of es) i ≡ None
none_at [] i h = refl
none_at (e ∷ es) zero h = absurd (none-some e (sym h))
none_at (e ∷ es) (suc i) h = none_at es i h

pub returns-in-Some-clause-held : goal.returns-in-Some-clause-held
returns-in-Some-clause-held g c =
    let eq = g.F.PartialEq.eq in
    let cmp = g.O.Ord.cmp in
    let es = c.self.inside.origins.entries in
    let counts = c.self.inside.counts.entries in
    let listed = listed_where_held eq cmp (eq_by_cmp_equiv g.met.O.Ord.total) es counts c.self.invariant.counted (IsDistinct-from_sorted cmp (keys_of es) c.len-once.ensures.ordered) in
    subst (λ (s : Store g.row.F.Denot g.row.O.Denot). (q : g.row.F.Denot) → (is_member eq (keys_of s.counts) q ≡ true) ↔ IsHeld eq (flows_of cmp s.origins) q) c.self.view_is
    (λ q. (λ h. (listed q).0 (is_some-lookup (eq q) counts ∙ h), λ h. sym (is_some-lookup (eq q) counts) ∙ (listed q).1 h))

pub returns-in-None-clause-held : goal.returns-in-None-clause-held
returns-in-None-clause-held g c =
    let eq = g.F.PartialEq.eq in
    let cmp = g.O.Ord.cmp in
    let es = c.self.inside.origins.entries in
    let counts = c.self.inside.counts.entries in
    let listed = listed_where_held eq cmp (eq_by_cmp_equiv g.met.O.Ord.total) es counts c.self.invariant.counted (IsDistinct-from_sorted cmp (keys_of es) c.len-once.ensures.ordered) in
    subst (λ (s : Store g.row.F.Denot g.row.O.Denot). (q : g.row.F.Denot) → (is_member eq (keys_of s.counts) q ≡ true) ↔ IsHeld eq (flows_of cmp s.origins) q) c.self.view_is
    (λ q. (λ h. (listed q).0 (is_some-lookup (eq q) counts ∙ h), λ h. sym (is_some-lookup (eq q) counts) ∙ (listed q).1 h))

pub returns-in-None-clause-flow : goal.returns-in-None-clause-flow
returns-in-None-clause-flow g c =
    subst (λ (s : Store g.row.F.Denot g.row.O.Denot). None ≡ slice_get (keys_of s.counts) c.args.index) c.self.view_is (sym (none_at c.self.inside.counts.entries c.args.index (sym c.in-None.ensures.entry)))
