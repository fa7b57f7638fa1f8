use Rattle.std.proofs.Common.{◌≡◌, ◌∙◌, ◌+◌, ◌<◌, ◌^◌, sym, ap, subst, arith, Bool, true, cond, List, Some, ◌∷◌, ◌||◌}
use Rattle.std.specs.List.{IsDistinct}
use Rattle.std.specs.Map.{lookup}
use Rattle.std.specs.Set.{is_member}
use Rattle.flow_refs.specs.Counts.{bit, new_number_of}
use Rattle.std.proofs.lemmas.Map.Keys.{IsDistinct-tail}
use Rattle.flow_refs.proofs.Numbers.{others, raise_one}
use Rattle.flow_refs.proofs.counting.raise_each.Goals as goal

pub flows-preserved : goal.flows-preserved
flows-preserved g c =
    let eq = g.F.PartialEq.eq in
    let laws = g.met.F.Eq.laws in
    let counts = c.args.counts.now.entries in
    let old = c.flows.numbers.entries in
    let new = c.insert.new.self.entries in
    let x = c.in-Some.flow.now in
    let rest = c.next.new.self.rest.now in
    let steps = c.in-Some.ensures.steps in
    let is = c.number-before.ensures in
    let number = c.number-before.result + 1 in
    let once = subst (λ (l : List g.row.F.Denot). IsDistinct eq l) steps c.flows.invariant.once in
    let all = subst (λ (l : List g.row.F.Denot). (q : g.row.F.Denot) → is_member eq l q ≡ true → new_number_of eq old counts q < 2 ^ 63) steps c.flows.invariant.few in
    let own : is_member eq (x ∷ rest) x ≡ true = ap (λ (b : Bool). b || is_member eq rest x) (laws.refl x) in
    let here : new_number_of eq old counts x < 2 ^ 63 = all x own in
    let clone = c.requires.flow_clones x c.in_ok-clone.field-0 c.in_ok-clone.ensures.cases in
    let set = subst (λ (k : g.row.F.Denot). (q : g.row.F.Denot) → lookup (eq q) new ≡ cond (eq k q) (Some number) (lookup (eq q) old)) clone c.in_ok-insert.ensures.updates.0 in
    let one : number ≡ new_number_of eq old counts x + 1 = omega arith in
    record {
      goes_on = tt;
      ends = tt;
      once = IsDistinct-tail eq x rest once;
      few = others laws counts old new x number set rest once (λ n. n < 2 ^ 63) all;
      same = λ q. raise_one laws counts old new x number set rest once one q ∙ ap (λ (l : List g.row.F.Denot). new_number_of eq old counts q + bit (is_member eq l q)) (sym steps) ∙ c.flows.invariant.same q;
    }
