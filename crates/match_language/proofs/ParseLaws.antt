-- What is read is in the grammar.
use Rattle.std.specs.Prelude.{◌≡◌, ℕ, zero, suc, Bool, true, false, not, cond, List, [], ◌∷◌, ◌++◌, Result, Ok, Err, IfOk}
use Rattle.std.proofs.Common.{refl, ap, ◌∙◌, sym, subst, inl, inr, append_assoc}
use Rattle.match_language.specs.declared.expr.Expr.{Expr}
use Rattle.match_language.specs.declared.expr.Expr.TheVariants as ex
use Rattle.match_language.specs.declared.fault.MatchFault.TheVariants as fault
use Rattle.match_language.specs.declared.field.Direction.{Direction}
use Rattle.match_language.specs.declared.token.Token.{Token}
use Rattle.match_language.specs.declared.token.Token.TheVariants as t
use Rattle.match_language.specs.Tables.{stands}
use Rattle.match_language.specs.Input.{Input, token, next, skip, left}
use Rattle.match_language.specs.Grammar.{IsTerm, IsExpr, IsJoined, SpellsExpr}
use Rattle.match_language.specs.Grammar.IsTerm.{constant, predicate, negated, grouped}
use Rattle.match_language.specs.Grammar.IsExpr.{alone, all_of, any_of}
use Rattle.match_language.specs.Grammar.IsJoined.{last_term, before_others}
use Rattle.match_language.specs.declared.fault.ParseFault.{ParseFault}
use Rattle.match_language.specs.Faults.{GivesExpr}
use Rattle.match_language.specs.Reading.{Read, unexpected, comparison, leaf_by, leaf, is_operator, more, joined_terms, after_first, expression, closed_by, group, negation, deep_by, deep, flat_by, flat, term, ended_by, ended, whole}
use Rattle.match_language.proofs.Steps.{bind_ok, done, ok_is, never, chosen, chosen_ok}
use Rattle.match_language.proofs.ParseValues.{comparison_found}

leaf_found : (way : Direction) (n : ℕ) (i : Input) (k : Token) (x : Expr × Input) → token i ≡ k → leaf_by way k i ≡ Ok x → IsTerm way n x.0 i x.1
leaf_found way n i (t.Bit b) x at e = subst (λ (y : Expr × Input). IsTerm way n y.0 i y.1) (ok_is (ex.Const b, next i) x e) (constant way n b i at)
leaf_found way n i (t.Predicate p) x at e = subst (λ (y : Expr × Input). IsTerm way n y.0 i y.1) (ok_is (ex.Is p, next i) x e) (predicate way n p i at)
leaf_found way n i (t.Field f) x at e =
    let a = chosen_ok (stands way f) (comparison f (next i)) (fault.UnknownField i.place) x e in
    comparison_found way n f i x at a.0 a.1
leaf_found way n i t.Unknown x at e = absurd (never (fault.UnknownField i.place) x e)
leaf_found way n i other x at e = absurd (never (unexpected other i.place) x e)

-- what reading finds are terms of at most n levels
abbrev Finds : Direction → ℕ → Type 0
Finds way n = (i : Input) (x : Expr × Input) → term way n i ≡ Ok x → IsTerm way n x.0 i x.1

abbrev pub operator : Bool → Token
operator true = t.And
operator false = t.Or

pub operator_is : (is_and : Bool) (k : Token) → is_operator is_and k ≡ true → k ≡ operator is_and
operator_is true t.And e = refl
operator_is false t.Or e = refl
operator_is true _ e = absurd cc
operator_is false _ e = absurd cc

more_found : (way : Direction) (n : ℕ) → Finds way n → (is_and : Bool) (m : ℕ) (xs : List Expr) (i : Input) (x : List Expr × Input) → more (term way n) is_and m xs i ≡ Ok x
    → (ys : List Expr) × (x.0 ≡ xs ++ ys) × IsJoined way n (operator is_and) ys (next i) x.1
unfolding more
more_found way n finds is_and zero xs i x e = absurd (never (fault.Syntax i.place) x e)
more_found way n finds is_and (suc m) xs i x e =
    let a = bind_ok (term way n (next i)) (λ y. cond (is_operator is_and (token y.1)) (more (term way n) is_and m (xs ++ y.0 ∷ []) y.1) (cond (is_operator (not is_and) (token y.1)) (Err (fault.MixedAndOr y.1.place)) (Ok (xs ++ y.0 ∷ [], y.1)))) x e in
    let first = finds (next i) a.0 a.1 in
    elim (chosen (is_operator is_and (token a.0.1)) (more (term way n) is_and m (xs ++ a.0.0 ∷ []) a.0.1) (cond (is_operator (not is_and) (token a.0.1)) (Err (fault.MixedAndOr a.0.1.place)) (Ok (xs ++ a.0.0 ∷ [], a.0.1))) (Ok x) a.2) [
      | inl h ↦
          let others = more_found way n finds is_and m (xs ++ a.0.0 ∷ []) a.0.1 x h.1 in
          (a.0.0 ∷ others.0, others.1 ∙ append_assoc xs (a.0.0 ∷ []) others.0, before_others way n (operator is_and) a.0.0 others.0 (next i) a.0.1 x.1 first (operator_is is_and (token a.0.1) h.0) others.2)
      | inr h ↦
          elim (chosen (is_operator (not is_and) (token a.0.1)) (Err (fault.MixedAndOr a.0.1.place)) (done (xs ++ a.0.0 ∷ [], a.0.1)) (Ok x) h.1) [
            | inl g ↦ absurd (never (fault.MixedAndOr a.0.1.place) x g.1)
            | inr g ↦
                let made : List Expr × Input = (xs ++ a.0.0 ∷ [], a.0.1) in
                let same = ok_is made x g.1 in
                (a.0.0 ∷ [], ap (λ (y : List Expr × Input). y.0) (sym same), subst (λ (j : Input). IsJoined way n (operator is_and) (a.0.0 ∷ []) (next i) j) (ap (λ (y : List Expr × Input). y.1) same) (last_term way n (operator is_and) a.0.0 (next i) a.0.1 first))
          ]
    ]

joined_found : (way : Direction) (n : ℕ) → Finds way n → (is_and : Bool) (first : Expr) (i : Input) (x : List Expr × Input) → joined_terms (term way n) is_and first i ≡ Ok x
    → (ys : List Expr) × (x.0 ≡ first ∷ ys) × IsJoined way n (operator is_and) ys (next i) x.1
unfolding joined_terms
joined_found way n finds is_and first i x e = more_found way n finds is_and (left i) (first ∷ []) i x e

after_found : (way : Direction) (n : ℕ) → Finds way n → (first : Expr) (i j : Input) (k : Token) (x : Expr × Input) → IsTerm way n first i j → token j ≡ k → after_first (term way n) first k j ≡ Ok x → IsExpr way n x.0 i x.1
after_found way n finds first i j t.And x h at e =
    let a = bind_ok (joined_terms (term way n) true first j) (λ y. Ok (ex.All y.0, y.1)) x e in
    let others = joined_found way n finds true first j a.0 a.1 in
    let made = all_of way n first others.0 i j a.0.1 h at others.2 in
    let whole_list : IsExpr way n (ex.All a.0.0) i a.0.1 = subst (λ (ys : List Expr). IsExpr way n (ex.All ys) i a.0.1) (sym others.1) made in
    subst (λ (y : Expr × Input). IsExpr way n y.0 i y.1) (ok_is (ex.All a.0.0, a.0.1) x a.2) whole_list
after_found way n finds first i j t.Or x h at e =
    let a = bind_ok (joined_terms (term way n) false first j) (λ y. Ok (ex.Any y.0, y.1)) x e in
    let others = joined_found way n finds false first j a.0 a.1 in
    let made = any_of way n first others.0 i j a.0.1 h at others.2 in
    let whole_list : IsExpr way n (ex.Any a.0.0) i a.0.1 = subst (λ (ys : List Expr). IsExpr way n (ex.Any ys) i a.0.1) (sym others.1) made in
    subst (λ (y : Expr × Input). IsExpr way n y.0 i y.1) (ok_is (ex.Any a.0.0, a.0.1) x a.2) whole_list
after_found way n finds first i j _ x h at e = subst (λ (y : Expr × Input). IsExpr way n y.0 i y.1) (ok_is (first, j) x e) (alone way n first i j h)

pub expr_found : (way : Direction) (n : ℕ) → Finds way n → (i : Input) (x : Expr × Input) → expression (term way n) i ≡ Ok x → IsExpr way n x.0 i x.1
unfolding expression
expr_found way n finds i x e =
    let a = bind_ok (term way n i) (λ y. after_first (term way n) y.0 (token y.1) y.1) x e in
    after_found way n finds a.0.0 i a.0.1 (token a.0.1) x (finds i a.0 a.1) refl a.2

closed_found : (way : Direction) (n : ℕ) (y : Expr) (i j : Input) (k : Token) (x : Expr × Input) → token i ≡ t.Open → IsExpr way n y (next i) j → token j ≡ k → closed_by y k j ≡ Ok x → IsTerm way (suc n) x.0 i x.1
closed_found way n y i j t.Close x at h close e = subst (λ (z : Expr × Input). IsTerm way (suc n) z.0 i z.1) (ok_is (y, next j) x e) (grouped way n y i j at h close)
closed_found way n y i j other x at h close e = absurd (never (unexpected other j.place) x e)

deep_found : (way : Direction) (n : ℕ) → Finds way n → (i : Input) (k : Token) (x : Expr × Input) → token i ≡ k → deep_by way (term way n) k i ≡ Ok x → IsTerm way (suc n) x.0 i x.1
unfolding group negation leaf
deep_found way n finds i t.Bang x at e =
    let a = bind_ok (term way n (next i)) (λ y. Ok (ex.Not y.0, y.1)) x e in
    subst (λ (z : Expr × Input). IsTerm way (suc n) z.0 i z.1) (ok_is (ex.Not a.0.0, a.0.1) x a.2) (negated way n a.0.0 i a.0.1 at (finds (next i) a.0 a.1))
deep_found way n finds i t.Open x at e =
    let a = bind_ok (expression (term way n) (next i)) (λ y. closed_by y.0 (token y.1) y.1) x e in
    closed_found way n a.0.0 i a.0.1 (token a.0.1) x at (expr_found way n finds (next i) a.0 a.1) refl a.2
deep_found way n finds i _ x at e = leaf_found way (suc n) i (token i) x refl e

flat_found : (way : Direction) (i : Input) (k : Token) (x : Expr × Input) → flat_by way k i ≡ Ok x → IsTerm way 0 x.0 i x.1
unfolding leaf
flat_found way i t.Bang x e = absurd (never (fault.TooDeep i.place) x e)
flat_found way i t.Open x e = absurd (never (fault.TooDeep i.place) x e)
flat_found way i _ x e = leaf_found way 0 i (token i) x refl e

pub term_found : (way : Direction) (n : ℕ) → Finds way n
unfolding term deep flat
term_found way zero i x e = flat_found way i (token i) x e
term_found way (suc n) i x e = deep_found way n (term_found way n) i (token i) x refl e

ended_case : (x : Expr) (j : Input) (k : Token) (y : Expr) → ended_by x k j ≡ Ok y → (k ≡ t.End) × (x ≡ y)
ended_case x j t.End y e = (refl, ok_is x y e)
ended_case x j other y e = absurd (never (unexpected other j.place) y e)

ended_found : (r : Read Expr) (y : Expr) → ended r ≡ Ok y → (x : Expr × Input) × (r ≡ Ok x) × (token x.1 ≡ t.End) × (x.0 ≡ y)
ended_found (Ok x) y e = let a = ended_case x.0 x.1 (token x.1) y e in (x, refl, a.0, a.1)
ended_found (Err f) y e = absurd (never f y e)

-- the expression that reading gives is spelled by the text
pub whole_found : (way : Direction) (text : List ℕ) (x : Expr) → whole way text ≡ Ok x → SpellsExpr way text x
unfolding whole
whole_found way text x e =
    let a = ended_found (expression (term way 64) (skip 0 text)) x e in
    let body = expr_found way 64 (term_found way 64) (skip 0 text) a.0 a.1 in
    record {
      end = a.0.1;
      body = subst (λ (y : Expr). IsExpr way 64 y (skip 0 text) a.0.1) a.3 body;
      whole = a.2;
    }

-- what gives what reading gives, gives what is in the grammar
pub gives_found : (way : Direction) (text : List ℕ) (r : Result Expr ParseFault) → GivesExpr r (whole way text) → IfOk r (λ x. SpellsExpr way text x)
gives_found way text (Ok x) h = whole_found way text x h
gives_found way text (Err _) h = tt
