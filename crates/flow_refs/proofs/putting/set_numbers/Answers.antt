use Rattle.std.proofs.Common.{◌∙◌, ℕ, sym, ap, subst, arith, List, length}
use Rattle.std.specs.List.{IsDistinct}
use Rattle.std.specs.Map.{keys_of}
use Rattle.std.proofs.lemmas.Map.Keys.{IsDistinct-tail}
use Rattle.flow_refs.specs.Counts.{kept_number}
use Rattle.flow_refs.proofs.SetLaws.{keep_one}
use Rattle.flow_refs.proofs.putting.set_numbers.Goals as goal

pub numbers-preserved : goal.numbers-preserved
numbers-preserved g c =
    let eq = g.F.PartialEq.eq in
    let old = c.numbers.counts.entries in
    let new = c.set_number.new.counts.entries in
    let rest = c.next.new.self.rest.items in
    let n : g.row.F.Denot × ℕ = (c.in-Some.flow, c.in-Some.number) in
    let steps = c.in-Some.ensures.steps.0 in
    let once = subst (λ (l : List (g.row.F.Denot × ℕ)). IsDistinct eq (keys_of l)) steps c.numbers.invariant.once in
    record {
      once = IsDistinct-tail eq c.in-Some.flow (keys_of rest) once;
      room = omega (arith, ap length steps, c.numbers.invariant.room, c.set_number.ensures.spare);
      same = λ q. keep_one g.met.F.Eq.laws old new n rest once c.set_number.ensures.number q ∙ ap (λ (l : List (g.row.F.Denot × ℕ)). kept_number eq old l q) (sym steps) ∙ c.numbers.invariant.same q;
    }
