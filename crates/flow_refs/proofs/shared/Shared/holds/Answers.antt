use Rattle.std.proofs.Common.{◌≡◌, ◌↔◌, ◌∙◌, sym, subst, true}
use Rattle.std.specs.Cmp.{eq_by_cmp_equiv}
use Rattle.std.specs.Map.{keys_of}
use Rattle.std.proofs.lemmas.Map.Keys.{IsDistinct-from_sorted}
use Rattle.flow_refs.specs.Origins.{flows_of, IsHeld}
use Rattle.flow_refs.specs.Store.{Store}
use Rattle.flow_refs.proofs.ApplyLaws.{listed_where_held}
use Rattle.flow_refs.proofs.shared.Shared.holds.Goals as goal

pub returns : goal.returns
returns g c =
    let eq = g.F.PartialEq.eq in
    let cmp = g.O.Ord.cmp in
    let es = c.self.inside.origins.entries in
    let flow = c.args.flow.now in
    let listed = listed_where_held eq cmp (eq_by_cmp_equiv g.met.O.Ord.total) es c.self.inside.counts.entries c.self.invariant.counted (IsDistinct-from_sorted cmp (keys_of es) c.len-once.ensures.ordered) flow in
    subst (λ (s : Store g.row.F.Denot g.row.O.Denot). (c.contains_key.result ≡ true) ↔ IsHeld eq (flows_of cmp s.origins) flow) c.self.view_is
    (λ h. listed.0 (sym c.contains_key.ensures ∙ h), λ h. c.contains_key.ensures ∙ listed.1 h)
