use Rattle.std.proofs.Common.{◌≡◌, ◌∙◌, ◌+◌, ◌-◌, ◌<◌, ℕ, sym, ap, subst, arith, Bool, true, cond, List, Some, ◌∷◌, ◌||◌}
use Rattle.std.specs.List.{IsDistinct}
use Rattle.std.specs.Map.{lookup}
use Rattle.std.specs.Set.{is_member}
use Rattle.flow_refs.specs.Counts.{bit, new_number_of}
use Rattle.std.proofs.lemmas.Map.Keys.{IsDistinct-tail}
use Rattle.flow_refs.proofs.Lookups.{nil_from_length}
use Rattle.flow_refs.proofs.Numbers.{others, lower_one}
use Rattle.flow_refs.proofs.counting.lower_each.Goals as goal

plus_zero : (n : ℕ) → n + 0 ≡ n
plus_zero n = omega arith

pub flows-preserved : goal.flows-preserved
flows-preserved g c =
    let eq = g.F.PartialEq.eq in
    let laws = g.met.F.Eq.laws in
    let counts = c.args.counts.now.entries in
    let old = c.flows.numbers.entries in
    let new = c.insert.new.self.entries in
    let x = c.in-Some.flow.now in
    let rest = c.next.new.self.rest.now in
    let steps = c.in-Some.ensures.steps in
    let is = c.number-before.ensures in
    let number = c.number-before.result - 1 in
    let once = subst (λ (l : List g.row.F.Denot). IsDistinct eq l) steps c.flows.invariant.once in
    let all = subst (λ (l : List g.row.F.Denot). (q : g.row.F.Denot) → is_member eq l q ≡ true → 0 < new_number_of eq old counts q) steps c.flows.invariant.some in
    let own : is_member eq (x ∷ rest) x ≡ true = ap (λ (b : Bool). b || is_member eq rest x) (laws.refl x) in
    let here : 0 < new_number_of eq old counts x = all x own in
    let clone = c.requires.flow_clones x c.in_ok-clone.field-0 c.in_ok-clone.ensures.cases in
    let set = subst (λ (k : g.row.F.Denot). (q : g.row.F.Denot) → lookup (eq q) new ≡ cond (eq k q) (Some number) (lookup (eq q) old)) clone c.in_ok-insert.ensures.updates.0 in
    let one : new_number_of eq old counts x ≡ number + 1 = omega arith in
    record {
      goes_on = tt;
      ends = tt;
      once = IsDistinct-tail eq x rest once;
      some = others laws counts old new x number set rest once (λ n. 0 < n) all;
      same = λ q n h. c.flows.invariant.same q n (subst (λ (l : List g.row.F.Denot). n + bit (is_member eq l q) ≡ new_number_of eq old counts q) (sym steps) (lower_one laws counts old new x number set rest once one q n h));
    }

pub returns : goal.returns
returns g c = λ q.
    c.flows.invariant.same q (new_number_of g.F.PartialEq.eq c.flows.numbers.entries c.args.counts.now.entries q)
    (ap (λ (n : ℕ). new_number_of g.F.PartialEq.eq c.flows.numbers.entries c.args.counts.now.entries q + n) (ap (λ (l : List g.row.F.Denot). bit (is_member g.F.PartialEq.eq l q)) (nil_from_length c.flows.flow-iterator.rest.now c.in-None.ensures.steps.0)) ∙ plus_zero _)
