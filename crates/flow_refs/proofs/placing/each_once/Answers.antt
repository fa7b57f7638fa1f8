use Rattle.std.proofs.Common.{◌∙◌, sym, ap, subst, List}
use Rattle.std.specs.List.{IsDistinct}
use Rattle.std.specs.Map.Iter.{TakesFirst}
use Rattle.std.specs.Set.{is_member}
use Rattle.std.specs.Vec.Iter.{into_iter_items, into_iter_steps}
use Rattle.indexmap.proofs.CallerLemmas.{Drains-YieldsInOrder}
use Rattle.flow_refs.proofs.Lookups.{drained}
use Rattle.flow_refs.proofs.placing.each_once.Goals as goal

pub returns-clause-same : goal.returns-clause-same
returns-clause-same g c =
    let eq = g.F.PartialEq.eq in
    let made = c.in_ok-seen.ensures.ran in
    let ran = c.in_ok-from_iter.ensures.ran in
    let given = Drains-YieldsInOrder into_iter_steps into_iter_items made.0 made.1 made.2.3 (drained into_iter_steps made.0 made.1 made.3) ∙ made.2.0 in
    let all = ran.4 ∙ Drains-YieldsInOrder (TakesFirst (λ (f : g.row.F.Denot). f)) (λ (fs : List g.row.F.Denot). fs) ran.0 ran.1 ran.2.2 (drained (TakesFirst (λ (f : g.row.F.Denot). f)) ran.0 ran.1 ran.3) ∙ ran.2.0 in
    λ q. ap (λ (fs : List g.row.F.Denot). is_member eq fs q) all ∙ made.4.1.0 q ∙ ap (λ (fs : List g.row.F.Denot). is_member eq fs q) given

pub returns-clause-once : goal.returns-clause-once
returns-clause-once g c =
    let ran = c.in_ok-from_iter.ensures.ran in
    let all = ran.4 ∙ Drains-YieldsInOrder (TakesFirst (λ (f : g.row.F.Denot). f)) (λ (fs : List g.row.F.Denot). fs) ran.0 ran.1 ran.2.2 (drained (TakesFirst (λ (f : g.row.F.Denot). f)) ran.0 ran.1 ran.3) ∙ ran.2.0 in
    subst (λ (fs : List g.row.F.Denot). IsDistinct g.F.PartialEq.eq fs) (sym all) ran.2.3
