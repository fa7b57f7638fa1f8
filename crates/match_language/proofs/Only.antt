-- What is in the grammar is read.
use Rattle.std.specs.Prelude.{◌≡◌, ◌≤◌, ◌+◌, ℕ, zero, suc, Bool, true, false, not, List, [], ◌∷◌, ◌++◌, Ok}
use Rattle.std.proofs.Common.{refl, ap, ◌∙◌, sym, subst, append_assoc, arith}
use Rattle.std.proofs.lemmas.Bool.{cond-true}
use Rattle.match_language.specs.declared.expr.Expr.{Expr}
use Rattle.match_language.specs.declared.field.Direction.{Direction}
use Rattle.match_language.specs.declared.token.Token.{Token}
use Rattle.match_language.specs.declared.token.Token.TheVariants as t
use Rattle.match_language.specs.Tables.{stands}
use Rattle.match_language.specs.Input.{Input, token, next, skip, left}
use Rattle.match_language.specs.Grammar.{IsTerm, IsExpr, IsJoined, SpellsExpr}
use Rattle.match_language.specs.Grammar.IsTerm.{constant, predicate, compared, negated, grouped}
use Rattle.match_language.specs.Grammar.IsExpr.{alone, all_of, any_of}
use Rattle.match_language.specs.Grammar.IsJoined.{last_term, before_others}
use Rattle.match_language.specs.Reading.{Read, leaf_by, leaf, is_operator, more, joined_terms, after_first, expression, group, negation, deep_by, deep, flat_by, flat, term, ended_by, whole}
use Rattle.match_language.proofs.ParseLaws.{operator}
use Rattle.match_language.proofs.Shorter.{is_end, next_shorter, next_no_longer}
use Rattle.match_language.proofs.OnlyValues.{comparison_only, values_no_longer}

-- no list of terms goes on at this token
pub record Stops (k : Token) : Type 0 where
  pub no_and : is_operator true k ≡ false
  pub no_or : is_operator false k ≡ false

pub close_stops : Stops t.Close
close_stops = record { no_and = refl; no_or = refl }

pub end_stops : Stops t.End
end_stops = record { no_and = refl; no_or = refl }

stops_for : (is_and : Bool) (k : Token) → Stops k → is_operator is_and k ≡ false
stops_for true k h = h.no_and
stops_for false k h = h.no_or

operator_same : (is_and : Bool) (k : Token) → k ≡ operator is_and → is_operator is_and k ≡ true
operator_same true k e = ap (is_operator true) e
operator_same false k e = ap (is_operator false) e

stops_after : (read : Input → Read Expr) (x : Expr) (k : Token) (j : Input) → Stops k → after_first read x k j ≡ Ok (x, j)
stops_after read x t.And j h = absurd cc
stops_after read x t.Or j h = absurd cc
stops_after read x _ j h = refl

pub term_leaf : (way : Direction) (n : ℕ) (i : Input) (k : Token) → token i ≡ k → ((m : ℕ) → deep_by way (term way m) k i ≡ leaf way i) → flat_by way k i ≡ leaf way i → term way n i ≡ leaf_by way k i
unfolding term deep flat leaf
term_leaf way zero i k at d f = ap (λ (c : Token). flat_by way c i) at ∙ f ∙ ap (λ (c : Token). leaf_by way c i) at
term_leaf way (suc n) i k at d f = ap (λ (c : Token). deep_by way (term way n) c i) at ∙ d n ∙ ap (λ (c : Token). leaf_by way c i) at

-- a term takes bytes
mutual
  pub term_shorter : (way : Direction) (n : ℕ) (x : Expr) (i j : Input) → IsTerm way n x i j → left j + 1 ≤ left i
  term_shorter _ _ _ _ _ (constant way n b i at) = next_shorter i (ap is_end at)
  term_shorter _ _ _ _ _ (predicate way n p i at) = next_shorter i (ap is_end at)
  term_shorter _ _ _ _ _ (compared way n f r xs i j at stood rel val) =
      let a = next_shorter i (ap is_end at) in
      let b = next_no_longer (next i) in
      let c = values_no_longer f r xs (next (next i)) j val in
      omega (arith, a, b, c)
  term_shorter _ _ _ _ _ (negated way n x i j at h) =
      let a = next_shorter i (ap is_end at) in
      let b = term_shorter way n x (next i) j h in
      omega (arith, a, b)
  term_shorter _ _ _ _ _ (grouped way n x i j at h close) =
      let a = next_shorter i (ap is_end at) in
      let b = expr_shorter way n x (next i) j h in
      let c = next_no_longer j in
      omega (arith, a, b, c)

  expr_shorter : (way : Direction) (n : ℕ) (x : Expr) (i j : Input) → IsExpr way n x i j → left j + 1 ≤ left i
  expr_shorter _ _ _ _ _ (alone way n x i j h) = term_shorter way n x i j h
  expr_shorter _ _ _ _ _ (all_of way n x xs i j k h at hs) =
      let a = term_shorter way n x i j h in
      let b = next_no_longer j in
      let c = joined_shorter way n t.And xs (next j) k hs in
      omega (arith, a, b, c)
  expr_shorter _ _ _ _ _ (any_of way n x xs i j k h at hs) =
      let a = term_shorter way n x i j h in
      let b = next_no_longer j in
      let c = joined_shorter way n t.Or xs (next j) k hs in
      omega (arith, a, b, c)

  joined_shorter : (way : Direction) (n : ℕ) (op : Token) (xs : List Expr) (i j : Input) → IsJoined way n op xs i j → left j + 1 ≤ left i
  joined_shorter _ _ _ _ _ _ (last_term way n op x i j h) = term_shorter way n x i j h
  joined_shorter _ _ _ _ _ _ (before_others way n op x xs i j k h at hs) =
      let a = term_shorter way n x i j h in
      let b = next_no_longer j in
      let c = joined_shorter way n op xs (next j) k hs in
      omega (arith, a, b, c)

mutual
  unfolding term deep negation group expression joined_terms more

  pub term_only : (way : Direction) (n : ℕ) (x : Expr) (i j : Input) → IsTerm way n x i j → term way n i ≡ Ok (x, j)
  term_only _ _ _ _ _ (constant way n b i at) = term_leaf way n i (t.Bit b) at (λ m. refl) refl
  term_only _ _ _ _ _ (predicate way n p i at) = term_leaf way n i (t.Predicate p) at (λ m. refl) refl
  term_only _ _ _ _ _ (compared way n f r xs i j at stood rel val) =
      term_leaf way n i (t.Field f) at (λ m. refl) refl ∙ cond-true (stands way f) _ _ stood ∙ comparison_only f r xs (next i) j rel val
  term_only _ _ _ _ _ (negated way n x i j at h) = rw (at, term_only way n x (next i) j h) refl
  term_only _ _ _ _ _ (grouped way n x i j at h close) = rw (at, expr_only way n x (next i) j h (subst Stops (sym close) close_stops), close) refl

  pub expr_only : (way : Direction) (n : ℕ) (x : Expr) (i j : Input) → IsExpr way n x i j → Stops (token j) → expression (term way n) i ≡ Ok (x, j)
  expr_only _ _ _ _ _ (alone way n x i j h) stops = rw (term_only way n x i j h) (stops_after (term way n) x (token j) j stops)
  expr_only _ _ _ _ _ (all_of way n x xs i j k h at hs) stops =
      rw (term_only way n x i j h, at, joined_only way n t.And xs (next j) k hs true refl (x ∷ []) j (left j) refl (next_no_longer j) stops) refl
  expr_only _ _ _ _ _ (any_of way n x xs i j k h at hs) stops =
      rw (term_only way n x i j h, at, joined_only way n t.Or xs (next j) k hs false refl (x ∷ []) j (left j) refl (next_no_longer j) stops) refl

  joined_only : (way : Direction) (n : ℕ) (op : Token) (xs : List Expr) (i k : Input) → IsJoined way n op xs i k → (is_and : Bool) → op ≡ operator is_and → (acc : List Expr) (i0 : Input) (m : ℕ)
      → next i0 ≡ i → left i ≤ m → Stops (token k) → more (term way n) is_and m acc i0 ≡ Ok (acc ++ xs, k)
  joined_only _ _ _ _ _ _ (last_term way n op x i j h) is_and same acc i0 zero is bound stops = absurd (omega (arith, term_shorter way n x i j h))
  joined_only _ _ _ _ _ _ (last_term way n op x i j h) is_and same acc i0 (suc m) is bound stops =
      rw (is, term_only way n x i j h, stops_for is_and (token j) stops, stops_for (not is_and) (token j) stops) refl
  joined_only _ _ _ _ _ _ (before_others way n op x xs i j k h at hs) is_and same acc i0 zero is bound stops = absurd (omega (arith, term_shorter way n x i j h))
  joined_only _ _ _ _ _ _ (before_others way n op x xs i j k h at hs) is_and same acc i0 (suc m) is bound stops =
      rw (
        is,
        term_only way n x i j h,
        operator_same is_and (token j) (at ∙ same),
        joined_only way n op xs (next j) k hs is_and same (acc ++ x ∷ []) j m refl (omega (arith, term_shorter way n x i j h, next_no_longer j)) stops,
      )
      (ap (λ (ys : List Expr). Ok (ys, k)) (append_assoc acc (x ∷ []) xs))

ended_only : (x : Expr) (j : Input) → token j ≡ t.End → ended_by x (token j) j ≡ Ok x
ended_only x j at = rw at refl

-- the expression that a text spells is what reading gives
pub whole_only : (way : Direction) (text : List ℕ) (x : Expr) → SpellsExpr way text x → whole way text ≡ Ok x
unfolding whole
whole_only way text x h = rw (expr_only way 64 x (skip 0 text) h.end h.body (subst Stops (sym h.whole) end_stops)) (ended_only x h.end h.whole)
