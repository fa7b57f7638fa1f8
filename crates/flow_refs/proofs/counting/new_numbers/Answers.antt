use Rattle.std.proofs.Common.{◌∙◌, ℕ, sym, ap, subst, List}
use Rattle.std.specs.List.{IsDistinct}
use Rattle.std.specs.Map.{keys_of}
use Rattle.std.specs.Map.Iter.{TakesFirst}
use Rattle.indexmap.proofs.CallerLemmas.{Drains-YieldsInOrder}
use Rattle.flow_refs.specs.Counts.{new_number_of}
use Rattle.flow_refs.proofs.Lookups.{drained}
use Rattle.flow_refs.proofs.counting.new_numbers.Goals as goal

pub returns : goal.returns
returns g c =
    let eq = g.F.PartialEq.eq in
    let ran = c.in_ok-from_iter.ensures.ran in
    let all = ran.4 ∙ Drains-YieldsInOrder (TakesFirst (λ (e : g.row.F.Denot × ℕ). e)) (λ (es : List (g.row.F.Denot × ℕ)). es) ran.0 ran.1 ran.2.2 (drained (TakesFirst (λ (e : g.row.F.Denot × ℕ). e)) ran.0 ran.1 ran.3) ∙ ran.2.0 in
    record {
      once = subst (λ (es : List (g.row.F.Denot × ℕ)). IsDistinct eq (keys_of es)) (sym all) ran.2.4;
      numbers = λ q. ap (λ (es : List (g.row.F.Denot × ℕ)). new_number_of eq es c.args.counts.now.entries q) all ∙ c.in_ok-numbers.ensures q;
    }
