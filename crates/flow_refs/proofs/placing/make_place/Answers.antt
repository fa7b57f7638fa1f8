use Rattle.std.proofs.Common.{◌≡◌, ◌∙◌, sym, ap, subst, List, None}
use Rattle.std.specs.BTreeMap.{is_at, insert_entry}
use Rattle.std.specs.Cmp.{eq_by_cmp_equiv}
use Rattle.std.specs.Map.{lookup}
use Rattle.flow_refs.specs.Counts.{HaveOnce}
use Rattle.flow_refs.proofs.Lookups.{none_from}
use Rattle.flow_refs.proofs.PlaceLaws.{placed, once_inserted}
use Rattle.flow_refs.proofs.placing.make_place.Goals as goal

pub returns-clause-kept : goal.returns-clause-kept
returns-clause-kept g c =
    let cmp = g.O.Ord.cmp in
    let es = c.args.origins.now.entries in
    let clone = c.requires.origin_clones c.args.origin.now c.in_ok-clone-2.field-0 c.in_ok-clone-2.ensures.cases in
    let absent = none_from (lookup (is_at (cmp c.args.origin.now)) es) (sym c.contains_key.ensures ∙ c.if-contains_key.false) in
    placed g.F.PartialEq.eq cmp (eq_by_cmp_equiv g.met.O.Ord.total) es c.insert.new.self.entries c.in_ok-clone-2.field-0 c.new.result c.new.ensures c.in_ok-insert.ensures.entries
    (subst (λ (k : g.row.O.Denot). lookup (is_at (cmp k)) es ≡ None) (sym clone) absent) c.in_ok-insert.ensures.updates.0

pub returns-clause-once : goal.returns-clause-once
returns-clause-once g c =
    let eq = g.F.PartialEq.eq in
    let cmp = g.O.Ord.cmp in
    let es = c.args.origins.now.entries in
    subst (λ (l : List (g.row.O.Denot × List g.row.F.Denot)). HaveOnce eq l) (sym (c.in_ok-insert.ensures.entries ∙ ap (λ (v : List g.row.F.Denot). insert_entry cmp es c.in_ok-clone-2.field-0 v) c.new.ensures))
    (once_inserted eq cmp es c.in_ok-clone-2.field-0 c.requires.once)
