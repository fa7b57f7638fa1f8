-- Laws of flows of which the first stands apart.
use Rattle.std.specs.Prelude.{◌≡◌, ◌<◌, ◌≤◌, ◌+◌, ◌-◌, ℕ, zero, suc, Bool, true, false, not, cond, filter, insert, Option, Some, None, IfNone, List, [], ◌∷◌, length, refl}
use mathlib.Core.Path.{ap, subst}
use native.Mathlib.Omega.{arith}
use Rattle.std.proofs.lemmas.Bool.{false≢true}
use Rattle.flow_table.specs.declared.flow.Flow.{Flow}
use Rattle.tuple_space.specs.Lines.{in_line, line_room, passes_first}

-- one flow put in behind the first
pub line_insert : (first : Option Flow) (rest : List Flow) (place : ℕ) (flow : Flow) → IfNone first (rest ≡ []) → 0 < place → place ≤ length (in_line first rest) → in_line first (insert rest (place - 1) flow) ≡ insert (in_line first rest) place flow
line_insert None rest place flow none more within = absurd (omega (arith, more, subst (λ (l : List Flow). place ≤ length l) none within))
line_insert (Some first) rest zero flow none more within = absurd (omega (arith, more))
line_insert (Some first) rest (suc place) flow none more within = ap (λ n. first ∷ insert rest n flow) (let e : suc place - 1 ≡ place = omega arith in e)

-- takes one from the room at most
pub line_room_less : (first : Option Flow) (rest more : List Flow) (capacity grown : ℕ) → length more ≡ length rest + 1 → capacity ≤ grown → line_room first rest capacity ≤ line_room first more grown + 1
line_room_less None rest more capacity grown len cap = omega (arith, len, cap)
line_room_less (Some first) rest more capacity grown len cap = omega (arith, len, cap)

module _ (test : Flow → Bool) where
  -- what is left where the first goes
  pub line_without : (first : Option Flow) (rest : List Flow) → passes_first test first ≡ true → filter (λ z. not (test z)) (in_line first rest) ≡ filter (λ z. not (test z)) rest
  line_without None rest h = absurd (false≢true h)
  line_without (Some first) rest h = ap (λ (b : Bool). cond (not b) (first ∷ filter (λ z. not (test z)) rest) (filter (λ z. not (test z)) rest)) h

  -- and where it stays
  pub line_with : (first : Option Flow) (rest : List Flow) → passes_first test first ≡ false → filter (λ z. not (test z)) (in_line first rest) ≡ in_line first (filter (λ z. not (test z)) rest)
  line_with None rest h = refl
  line_with (Some first) rest h = ap (λ (b : Bool). cond (not b) (first ∷ filter (λ z. not (test z)) rest) (filter (λ z. not (test z)) rest)) h
