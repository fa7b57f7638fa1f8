-- Where the reading of terms fails, and how the text could go on there.
use Rattle.std.specs.Prelude.{◌≡◌, ◌≤◌, ◌+◌, ℕ, zero, suc, Bool, true, false, not, cond, List, [], ◌∷◌, ◌++◌, Ok, Err}
use Rattle.std.proofs.Common.{refl, ap, ◌∙◌, sym, subst, inl, inr, arith}
use mathlib.Core.Bool.{true≢false}
use Rattle.match_language.specs.declared.expr.Expr.{Expr}
use Rattle.match_language.specs.declared.expr.Expr.TheVariants as ex
use Rattle.match_language.specs.declared.fault.MatchFault.{MatchFault}
use Rattle.match_language.specs.declared.fault.MatchFault.TheVariants as fault
use Rattle.match_language.specs.declared.field.Direction.{Direction}
use Rattle.match_language.specs.declared.field.Field.{Field}
use Rattle.match_language.specs.declared.token.Token.{Token}
use Rattle.match_language.specs.declared.token.Token.TheVariants as t
use Rattle.match_language.specs.Tables.{stands}
use Rattle.match_language.specs.Input.{Input, token, next, skip, left}
use Rattle.match_language.specs.Grammar.{is_slash, IsValues, IsTerm, IsExpr, IsJoined}
use Rattle.match_language.specs.Grammar.IsTerm.{constant, predicate, compared, negated, grouped}
use Rattle.match_language.specs.Grammar.IsExpr.{alone, all_of, any_of}
use Rattle.match_language.specs.Grammar.IsJoined.{last_term, before_others}
use Rattle.match_language.specs.Spelling.{bit_text}
use Rattle.match_language.specs.FirstFault.{Wanted, fault_by}
use Rattle.match_language.specs.FirstFault.Wanted.{wants_term, wants_operator}
use Rattle.match_language.specs.Reading.{Read, ◌>>=◌, unexpected, comparison, leaf_by, leaf, is_operator, more, joined_terms, after_first, expression, closed_by, group, negation, deep_by, deep, flat_by, flat, term}
use Rattle.match_language.proofs.Steps.{bind_ok, done, failed, ok_is, never, chosen}
use Rattle.match_language.proofs.ParseLaws.{operator, operator_is, term_found, expr_found}
use Rattle.match_language.proofs.Only.{Stops, term_leaf, term_only, term_shorter, expr_only}
use Rattle.match_language.proofs.Shorter.{next_no_longer, empty_token, empty_next}
use Rattle.match_language.proofs.Begins.{begins_close, close_follows}
use Rattle.match_language.proofs.Again.{const_in}
use Rattle.match_language.proofs.CommonParts.{Moves, then, Fails, fails_here, fails_within, fails_behind}
use Rattle.match_language.proofs.TokenMoves.{Ended, Stands, Opens, Operates, token_moves, term_moves, expr_moves, behind_bang, behind_open, and_operates, or_operates}
use Rattle.match_language.proofs.FailsValues.{err_is, bind_err, err_never}
use Rattle.match_language.proofs.FailsLists.{bind_same, SomeComparison, comparison_fails}

-- at the end of the text no term stands
term_end : (way : Direction) (n : ℕ) (i : Input) → token i ≡ t.End → term way n i ≡ Err (fault.Syntax i.place)
unfolding term deep flat leaf
term_end way zero i at = ap (λ (c : Token). flat_by way c i) at ∙ ap (λ (c : Token). leaf_by way c i) at
term_end way (suc n) i at = ap (λ (c : Token). deep_by way (term way n) c i) at ∙ ap (λ (c : Token). leaf_by way c i) at

-- ---- lists of terms

module _ (way : Direction) (n : ℕ) (is_and : Bool) where
  -- how a list goes on behind a term
  abbrev behind_term : ℕ → List Expr → Expr × Input → Read (List Expr)
  behind_term m xs x = cond (is_operator is_and (token x.1)) (more (term way n) is_and m (xs ++ x.0 ∷ []) x.1) (cond (is_operator (not is_and) (token x.1)) (Err (fault.MixedAndOr x.1.place)) (Ok (xs ++ x.0 ∷ [], x.1)))

  abbrev goes_on : ℕ → List Expr → Input → Read (List Expr)
  goes_on m xs i = term way n (next i) >>= behind_term m xs

  more_suc : (m : ℕ) (xs : List Expr) (i : Input) → more (term way n) is_and (suc m) xs i ≡ goes_on m xs i
  unfolding more
  more_suc m xs i = refl

  more_zero : (xs : List Expr) (i : Input) → more (term way n) is_and 0 xs i ≡ Err (fault.Syntax i.place)
  unfolding more
  more_zero xs i = refl

  goes_nowhere : (m : ℕ) (xs : List Expr) (i : Input) → left i ≤ 0 → goes_on m xs i ≡ Err (fault.Syntax i.place)
  goes_nowhere m xs i small =
      let behind = empty_next i small in
      ap (λ (r : Read Expr). r >>= behind_term m xs) (term_end way n (next i) (empty_token (next i) behind.0))
      ∙ ap (λ (p : ℕ). Err (fault.Syntax p)) behind.1

  -- the bound on the turns is never met
  fuel : (m l : ℕ) (xs : List Expr) (i : Input) → left i ≤ m → left i ≤ l → more (term way n) is_and m xs i ≡ more (term way n) is_and l xs i
  fuel zero zero xs i a b = refl
  fuel zero (suc l) xs i a b = more_zero xs i ∙ sym (goes_nowhere l xs i a) ∙ sym (more_suc l xs i)
  fuel (suc m) zero xs i a b = more_suc m xs i ∙ goes_nowhere m xs i b ∙ sym (more_zero xs i)
  fuel (suc m) (suc l) xs i a b =
      let shorter = next_no_longer i in
      let others = bind_same (term way n (next i)) (behind_term m xs) (behind_term l xs) (λ x e.
      let less = term_shorter way n x.0 (next i) x.1 (term_found way n (next i) x e) in
      ap (λ (r : Read (List Expr)). cond (is_operator is_and (token x.1)) r (cond (is_operator (not is_and) (token x.1)) (Err (fault.MixedAndOr x.1.place)) (Ok (xs ++ x.0 ∷ [], x.1))))
      (fuel m l (xs ++ x.0 ∷ []) x.1 (omega (arith, less, shorter, a)) (omega (arith, less, shorter, b)))) in
      more_suc m xs i ∙ others ∙ sym (more_suc l xs i)

  abbrev terms_from : List Expr → Input → Read (List Expr)
  terms_from xs i = more (term way n) is_and (left i) xs i

  -- how it goes on, without a bound
  abbrev behind_one : List Expr → Expr → Token → Input → Read (List Expr)
  behind_one xs x c j = cond (is_operator is_and c) (terms_from (xs ++ x ∷ []) j) (cond (is_operator (not is_and) c) (Err (fault.MixedAndOr j.place)) (Ok (xs ++ x ∷ [], j)))

  abbrev body : List Expr → Input → Read (List Expr)
  body xs i = term way n (next i) >>= λ x. behind_one xs x.0 (token x.1) x.1

  unrolled : (xs : List Expr) (i : Input) → terms_from xs i ≡ body xs i
  unrolled xs i =
      let shorter = next_no_longer i in
      let others = bind_same (term way n (next i)) (behind_term (left i) xs) (λ x. behind_one xs x.0 (token x.1) x.1) (λ x e.
      let less = term_shorter way n x.0 (next i) x.1 (term_found way n (next i) x e) in
      ap (λ (r : Read (List Expr)). cond (is_operator is_and (token x.1)) r (cond (is_operator (not is_and) (token x.1)) (Err (fault.MixedAndOr x.1.place)) (Ok (xs ++ x.0 ∷ [], x.1))))
      (fuel (left i) (left x.1) (xs ++ x.0 ∷ []) x.1 (omega (arith, less, shorter)) (omega arith))) in
      fuel (left i) (suc (left i)) xs i (omega arith) (omega arith) ∙ more_suc (left i) xs i ∙ others

-- ---- one term

abbrev pub SomeTerm : Direction → ℕ → Input → Input → Type 0
SomeTerm way n k l = (x : Expr) × IsTerm way n x k l

term_bare : (way : Direction) (n : ℕ) (x : Expr) (i j : Input) → IsTerm way n x i j → is_slash (token i) ≡ false
term_bare _ _ _ _ _ (constant way n b i at) = ap is_slash at
term_bare _ _ _ _ _ (predicate way n p i at) = ap is_slash at
term_bare _ _ _ _ _ (compared way n f r xs i j at stood rel val) = ap is_slash at
term_bare _ _ _ _ _ (negated way n x i j at h) = ap is_slash at
term_bare _ _ _ _ _ (grouped way n x i j at h close) = ap is_slash at

-- a token that opens a level
abbrev is_level : Token → Bool
is_level t.Bang = true
is_level t.Open = true
is_level _ = false

module _ (way : Direction) (n : ℕ) (ts : List Token) (opens : Opens ts) (i : Input) where
  -- another term could stand there
  term_here : (g : MatchFault) → g ≡ fault_by wants_term (token i) i.place → ((k : Input) → token i ≡ token k → (d : MatchFault) × (term way n k ≡ Err d)) → Fails (term way n) (SomeTerm way n) ts i g
  term_here g is same =
      fails_here {H = SomeTerm way n} (term way n) ts i g (is ∙ ap (λ (w : Wanted). fault_by w (token i) i.place) (sym opens.wants)) (opens.clean (token i)) (opens.settled (token i)) same
      (λ rest. bit_text false ++ rest)
      (λ rest follows q. let a = const_in way n false rest follows q in term_bare way n (ex.Const false) (skip q (bit_text false ++ rest)) (skip a.0 rest) a.1)
      (λ rest follows q. let a = const_in way n false rest follows q in (a.0, (ex.Const false, a.1)))

  leaf_reads : (c : Token) → is_level c ≡ false → (k : Input) → token k ≡ c → term way n k ≡ leaf_by way c k
  leaf_reads t.Bang flat k at = absurd (true≢false flat)
  leaf_reads t.Open flat k at = absurd (true≢false flat)
  leaf_reads other flat k at = term_leaf way n k other at (λ m. refl) refl

  field_fails : (f : Field) (g : MatchFault) → token i ≡ t.Field f → (b : Bool) → stands way f ≡ b → cond b (comparison f (next i)) (Err (fault.UnknownField i.place)) ≡ Err g → Fails (term way n) (SomeTerm way n) ts i g
  field_fails f g at true stood e =
      fails_behind {H = SomeTerm way n} (comparison f) (term way n) ts i (next i) g (token_moves (t.Field f) i ts at refl)
      (λ us same. subst (λ (us : List Token). Fails (comparison f) (SomeComparison f) us (next i) g) (sym same) (comparison_fails f ts (next i) g e))
      (λ k l d here same fails. (d, leaf_reads (t.Field f) refl k here.0 ∙ ap (λ (b : Bool). cond b (comparison f (next k)) (Err (fault.UnknownField k.place))) stood ∙ ap (comparison f) (sym here.1) ∙ fails))
      (λ k m l here xs.
      (ex.Compare f xs.0 xs.1, compared way n f xs.0 xs.1 k l here.0 stood (subst (λ (y : Input). token y ≡ t.Relation xs.0) here.1 xs.2) (subst (λ (y : Input). IsValues f xs.0 xs.1 (next y) l) here.1 xs.3)))
  field_fails f g at false stood e =
      term_here g (err_is {A = Expr × Input} g (fault.UnknownField i.place) (sym e) ∙ ap (λ (c : Token). fault_by wants_term c i.place) (sym at))
      (λ k s. (fault.UnknownField k.place, leaf_reads (t.Field f) refl k (sym s ∙ at) ∙ ap (λ (b : Bool). cond b (comparison f (next k)) (Err (fault.UnknownField k.place))) stood))

  no_term : (c : Token) (g : MatchFault) → is_level c ≡ false → token i ≡ c → ((k : Input) → leaf_by way c k ≡ Err (fault_by wants_term c k.place)) → leaf_by way c i ≡ Err g → Fails (term way n) (SomeTerm way n) ts i g
  no_term c g flat at reads e =
      term_here g (err_is {A = Expr × Input} g (fault_by wants_term c i.place) (sym e ∙ reads i) ∙ ap (λ (c : Token). fault_by wants_term c i.place) (sym at))
      (λ k s. (fault_by wants_term c k.place, leaf_reads c flat k (sym s ∙ at) ∙ reads k))

  leaf_fails : (c : Token) (g : MatchFault) → is_level c ≡ false → token i ≡ c → leaf_by way c i ≡ Err g → Fails (term way n) (SomeTerm way n) ts i g
  leaf_fails (t.Bit b) g flat at e = absurd (err_never (ex.Const b, next i) g e)
  leaf_fails (t.Predicate p) g flat at e = absurd (err_never (ex.Is p, next i) g e)
  leaf_fails (t.Field f) g flat at e = field_fails f g at (stands way f) refl e
  leaf_fails t.Bang g flat at e = absurd (true≢false flat)
  leaf_fails t.Open g flat at e = absurd (true≢false flat)
  leaf_fails other g flat at e = no_term other g refl at (λ k. refl) e

-- ---- terms that an operator joins

abbrev operates : (is_and : Bool) → Operates (operator is_and)
operates true = and_operates
operates false = or_operates

-- reading a term fails so, wherever one begins
abbrev TermFails : Direction → ℕ → Type 0
TermFails way n = (ts : List Token) → Opens ts → (i : Input) (g : MatchFault) → term way n i ≡ Err g → Fails (term way n) (SomeTerm way n) ts i g

mixed : (is_and : Bool) (c : Token) (p : ℕ) → is_operator (not is_and) c ≡ true → fault_by wants_operator c p ≡ fault.MixedAndOr p
mixed true c p e = ap (λ (x : Token). fault_by wants_operator x p) (operator_is false c e)
mixed false c p e = ap (λ (x : Token). fault_by wants_operator x p) (operator_is true c e)

module _ (way : Direction) (n : ℕ) (fails_term : TermFails way n) (is_and : Bool) where
  -- the operator, and terms joined by it
  abbrev More : Input → Input → Type 0
  More k l = (ys : List Expr) × (token k ≡ operator is_and) × IsJoined way n (operator is_and) ys (next k) l

  -- the operator and one term
  abbrev Turn : Expr → Input → Input → Type 0
  Turn x k l = (token k ≡ operator is_and) × IsTerm way n x (next k) l

  turn_moves : (x : Expr) (us : List Token) (i j : Input) → token i ≡ operator is_and → IsTerm way n x (next i) j → Moves (Turn x) (λ vs. Ended vs (token j)) us i j
  turn_moves x us i j at h =
      then {H = Turn x} us i (next i) j (token_moves (operator is_and) i us at (operates is_and).plain)
      (λ vs same. term_moves way n x (next i) j h vs (subst Opens (sym same) ((operates is_and).opens us)))
      (λ k m l here x_stands. (here.0, subst (λ (y : Input). IsTerm way n x y l) here.1 x_stands))

  abbrev terms : List Expr → Input → Read (List Expr)
  terms xs i = terms_from way n is_and xs i

  abbrev Again : List Expr → Input → MatchFault → Type 0
  Again xs i g = (x : Expr) (j : Input) → left j + 1 ≤ left i → (us : List Token) → token j ≡ operator is_and → terms (xs ++ x ∷ []) j ≡ Err g → Fails (terms (xs ++ x ∷ [])) More us j g

  -- behind a term
  behind_fails : (xs : List Expr) (us : List Token) (i : Input) (g : MatchFault) → token i ≡ operator is_and → Again xs i g → (x : Expr × Input) → IsTerm way n x.0 (next i) x.1 → behind_one way n is_and xs x.0 (token x.1) x.1 ≡ Err g → Fails (terms xs) More us i g
  behind_fails xs us i g at again x found e =
      elim (chosen (is_operator is_and (token x.1)) (terms (xs ++ x.0 ∷ []) x.1) (cond (is_operator (not is_and) (token x.1)) (Err (fault.MixedAndOr x.1.place)) (Ok (xs ++ x.0 ∷ [], x.1))) (Err g) e) [
        | inl h ↦
            let a = term_shorter way n x.0 (next i) x.1 found in
            let b = next_no_longer i in
            fails_behind {H = More} (terms (xs ++ x.0 ∷ [])) (terms xs) us i x.1 g (turn_moves x.0 us i x.1 at found)
            (λ vs ended. again x.0 x.1 (omega (arith, a, b)) vs (operator_is is_and (token x.1) h.0) h.1)
            (λ k l d turn same fails. (
              d,
              unrolled way n is_and xs k ∙ ap (λ (y : Read Expr). y >>= λ y. behind_one way n is_and xs y.0 (token y.1) y.1) (term_only way n x.0 (next k) l turn.1)
                  ∙ ap (λ (b : Bool). cond b (terms (xs ++ x.0 ∷ []) l) (cond (is_operator (not is_and) (token l)) (Err (fault.MixedAndOr l.place)) (Ok (xs ++ x.0 ∷ [], l)))) (ap (is_operator is_and) (sym same.0) ∙ h.0) ∙ fails,
            ))
            (λ k m l turn others. (x.0 ∷ others.0, turn.0, before_others way n (operator is_and) x.0 others.0 (next k) m l turn.1 others.1 others.2))
        | inr h ↦ elim (chosen (is_operator (not is_and) (token x.1)) (Err (fault.MixedAndOr x.1.place)) (done (xs ++ x.0 ∷ [], x.1)) (Err g) h.1) [
          | inl o ↦
              fails_behind {H2 = λ k l. k ≡ l} {H = More} (λ k. failed {A = List Expr × Input} (fault.MixedAndOr k.place)) (terms xs) us i x.1 g (turn_moves x.0 us i x.1 at found)
              (λ vs ended.
              fails_here {H = λ k l. k ≡ l} (λ k. failed {A = List Expr × Input} (fault.MixedAndOr k.place)) vs x.1 g
              (err_is {A = List Expr × Input} g (fault.MixedAndOr x.1.place) (sym o.1) ∙ sym (mixed is_and (token x.1) x.1.place o.0) ∙ ap (λ (w : Wanted). fault_by w (token x.1) x.1.place) (sym ended.wants))
              (ended.clean (token x.1)) ended.settled (λ k same. (fault.MixedAndOr k.place, refl)) (λ rest. rest) (λ rest follows q. follows.slash q) (λ rest follows q. (q, refl)))
              (λ k l d turn same fails. (
                fault.MixedAndOr l.place,
                unrolled way n is_and xs k ∙ ap (λ (y : Read Expr). y >>= λ y. behind_one way n is_and xs y.0 (token y.1) y.1) (term_only way n x.0 (next k) l turn.1)
                    ∙ ap (λ (b : Bool). cond b (terms (xs ++ x.0 ∷ []) l) (cond (is_operator (not is_and) (token l)) (Err (fault.MixedAndOr l.place)) (Ok (xs ++ x.0 ∷ [], l)))) (ap (is_operator is_and) (sym same.0) ∙ h.0)
                    ∙ ap (λ (b : Bool). cond b (Err (fault.MixedAndOr l.place)) (Ok (xs ++ x.0 ∷ [], l))) (ap (is_operator (not is_and)) (sym same.0) ∙ o.0),
              ))
              (λ k m l turn here. (x.0 ∷ [], turn.0, last_term way n (operator is_and) x.0 (next k) l (subst (λ (y : Input). IsTerm way n x.0 (next k) y) here turn.1)))
          | inr o ↦ absurd (err_never (xs ++ x.0 ∷ [], x.1) g o.1)
        ]
      ]

  turn_fails : (xs : List Expr) (us : List Token) (i : Input) (g : MatchFault) → token i ≡ operator is_and → Again xs i g → body way n is_and xs i ≡ Err g → Fails (terms xs) More us i g
  turn_fails xs us i g at again e = elim (bind_err (term way n (next i)) (λ x. behind_one way n is_and xs x.0 (token x.1) x.1) g e) [
    | inl h ↦
        fails_behind {H = More} (term way n) (terms xs) us i (next i) g (token_moves (operator is_and) i us at (operates is_and).plain)
        (λ vs same. fails_term vs (subst Opens (sym same) ((operates is_and).opens us)) (next i) g h)
        (λ k l d here same fails.
        (d, unrolled way n is_and xs k ∙ ap (λ (y : Input). term way n y >>= λ x. behind_one way n is_and xs x.0 (token x.1) x.1) (sym here.1) ∙ ap (λ (y : Read Expr). y >>= λ y. behind_one way n is_and xs y.0 (token y.1) y.1) fails))
        (λ k m l here x. (x.0 ∷ [], here.0, last_term way n (operator is_and) x.0 (next k) l (subst (λ (y : Input). IsTerm way n x.0 y l) here.1 x.1)))
    | inr h ↦ behind_fails xs us i g at again h.0 (term_found way n (next i) h.0 h.1.0) h.1.1
  ]

  more_fails : (m : ℕ) (xs : List Expr) (us : List Token) (i : Input) (g : MatchFault) → left i ≤ m → token i ≡ operator is_and → terms xs i ≡ Err g → Fails (terms xs) More us i g
  more_fails zero xs us i g small at e = turn_fails xs us i g at (λ x j less us at e. absurd (omega (arith, less, small))) (sym (unrolled way n is_and xs i) ∙ e)
  more_fails (suc m) xs us i g small at e =
      turn_fails xs us i g at (λ x j less us at e. more_fails m (xs ++ x ∷ []) us j g (omega (arith, less, small)) at e) (sym (unrolled way n is_and xs i) ∙ e)

-- ---- expressions

abbrev pub SomeExpr : Direction → ℕ → Input → Input → Type 0
SomeExpr way n k l = (x : Expr) × IsExpr way n x k l

-- no operator stands behind the terms that were read
more_stops : (way : Direction) (n : ℕ) (is_and : Bool) (m : ℕ) (xs : List Expr) (i : Input) (x : List Expr × Input) → more (term way n) is_and m xs i ≡ Ok x → (is_operator is_and (token x.1) ≡ false) × (is_operator (not is_and) (token x.1) ≡ false)
unfolding more
more_stops way n is_and zero xs i x e = absurd (never (fault.Syntax i.place) x e)
more_stops way n is_and (suc m) xs i x e =
    let a = bind_ok (term way n (next i)) (behind_term way n is_and m xs) x e in
    elim (chosen (is_operator is_and (token a.0.1)) (more (term way n) is_and m (xs ++ a.0.0 ∷ []) a.0.1) (cond (is_operator (not is_and) (token a.0.1)) (Err (fault.MixedAndOr a.0.1.place)) (Ok (xs ++ a.0.0 ∷ [], a.0.1))) (Ok x) a.2) [
      | inl h ↦ more_stops way n is_and m (xs ++ a.0.0 ∷ []) a.0.1 x h.1
      | inr h ↦ elim (chosen (is_operator (not is_and) (token a.0.1)) (Err (fault.MixedAndOr a.0.1.place)) (done (xs ++ a.0.0 ∷ [], a.0.1)) (Ok x) h.1) [
        | inl g ↦ absurd (never (fault.MixedAndOr a.0.1.place) x g.1)
        | inr g ↦
            let made : List Expr × Input = (xs ++ a.0.0 ∷ [], a.0.1) in
            let same = ap (λ (y : List Expr × Input). token y.1) (ok_is made x g.1) in
            (ap (is_operator is_and) (sym same) ∙ h.0, ap (is_operator (not is_and)) (sym same) ∙ g.0)
      ]
    ]

first_stops : (way : Direction) (n : ℕ) (y : Expr) (c : Token) (j : Input) (x : Expr × Input) → token j ≡ c → after_first (term way n) y c j ≡ Ok x → Stops (token x.1)
unfolding joined_terms
first_stops way n y t.And j x at e =
    let a = bind_ok (joined_terms (term way n) true y j) (λ x. Ok (ex.All x.0, x.1)) x e in
    let b = more_stops way n true (left j) (y ∷ []) j a.0 a.1 in
    let same = ap (λ (z : Expr × Input). token z.1) (ok_is (ex.All a.0.0, a.0.1) x a.2) in
    subst Stops same (record { no_and = b.0; no_or = b.1 })
first_stops way n y t.Or j x at e =
    let a = bind_ok (joined_terms (term way n) false y j) (λ x. Ok (ex.Any x.0, x.1)) x e in
    let b = more_stops way n false (left j) (y ∷ []) j a.0 a.1 in
    let same = ap (λ (z : Expr × Input). token z.1) (ok_is (ex.Any a.0.0, a.0.1) x a.2) in
    subst Stops same (record { no_and = b.1; no_or = b.0 })
first_stops way n y other j x at e =
    let stops : Stops other = record { no_and = refl; no_or = refl } in
    subst Stops (sym at ∙ ap (λ (z : Expr × Input). token z.1) (ok_is (y, j) x e)) stops

-- no operator stands behind an expression that was read
pub expression_stops : (way : Direction) (n : ℕ) (i : Input) (x : Expr × Input) → expression (term way n) i ≡ Ok x → Stops (token x.1)
unfolding expression
expression_stops way n i x e = let a = bind_ok (term way n i) (λ y. after_first (term way n) y.0 (token y.1) y.1) x e in first_stops way n a.0.0 (token a.0.1) a.0.1 x refl a.2

module _ (way : Direction) (n : ℕ) (fails_term : TermFails way n) where
  expression_at : (k : Input) → expression (term way n) k ≡ (term way n k >>= λ x. after_first (term way n) x.0 (token x.1) x.1)
  unfolding expression
  expression_at k = refl

  joined_at : (is_and : Bool) (x : Expr) (k : Input) → joined_terms (term way n) is_and x k ≡ terms_from way n is_and (x ∷ []) k
  unfolding joined_terms
  joined_at is_and x k = refl

  -- an operator behind the first term
  first_fails : (ts : List Token) (opens : Opens ts) (i : Input) (g : MatchFault) (x : Expr × Input) → IsTerm way n x.0 i x.1 → (c : Token) → token x.1 ≡ c → after_first (term way n) x.0 c x.1 ≡ Err g → Fails (expression (term way n)) (SomeExpr way n) ts i g
  first_fails ts opens i g x found t.And at e = elim (bind_err (joined_terms (term way n) true x.0 x.1) (λ y. Ok (ex.All y.0, y.1)) g e) [
    | inl h ↦
        fails_behind {H = SomeExpr way n} (terms_from way n true (x.0 ∷ [])) (expression (term way n)) ts i x.1 g (term_moves way n x.0 i x.1 found ts opens)
        (λ us ended. more_fails way n fails_term true (left x.1) (x.0 ∷ []) us x.1 g (omega arith) at (sym (joined_at true x.0 x.1) ∙ h))
        (λ k l d stands same fails. (
          d,
          expression_at k ∙ ap (λ (y : Read Expr). y >>= λ y. after_first (term way n) y.0 (token y.1) y.1) (term_only way n x.0 k l stands)
              ∙ ap (λ (c : Token). after_first (term way n) x.0 c l) (sym same.0 ∙ at) ∙ ap (λ (y : Read (List Expr)). y >>= λ y. Ok (ex.All y.0, y.1)) (joined_at true x.0 l ∙ fails),
        ))
        (λ k m l stands others. (ex.All (x.0 ∷ others.0), all_of way n x.0 others.0 k m l stands others.1 others.2))
    | inr h ↦ absurd (err_never (ex.All h.0.0, h.0.1) g h.1.1)
  ]
  first_fails ts opens i g x found t.Or at e = elim (bind_err (joined_terms (term way n) false x.0 x.1) (λ y. Ok (ex.Any y.0, y.1)) g e) [
    | inl h ↦
        fails_behind {H = SomeExpr way n} (terms_from way n false (x.0 ∷ [])) (expression (term way n)) ts i x.1 g (term_moves way n x.0 i x.1 found ts opens)
        (λ us ended. more_fails way n fails_term false (left x.1) (x.0 ∷ []) us x.1 g (omega arith) at (sym (joined_at false x.0 x.1) ∙ h))
        (λ k l d stands same fails. (
          d,
          expression_at k ∙ ap (λ (y : Read Expr). y >>= λ y. after_first (term way n) y.0 (token y.1) y.1) (term_only way n x.0 k l stands)
              ∙ ap (λ (c : Token). after_first (term way n) x.0 c l) (sym same.0 ∙ at) ∙ ap (λ (y : Read (List Expr)). y >>= λ y. Ok (ex.Any y.0, y.1)) (joined_at false x.0 l ∙ fails),
        ))
        (λ k m l stands others. (ex.Any (x.0 ∷ others.0), any_of way n x.0 others.0 k m l stands others.1 others.2))
    | inr h ↦ absurd (err_never (ex.Any h.0.0, h.0.1) g h.1.1)
  ]
  first_fails ts opens i g x found _ at e = absurd (err_never x g e)

  pub expression_fails : (ts : List Token) → Opens ts → (i : Input) (g : MatchFault) → expression (term way n) i ≡ Err g → Fails (expression (term way n)) (SomeExpr way n) ts i g
  expression_fails ts opens i g e = elim (bind_err (term way n i) (λ x. after_first (term way n) x.0 (token x.1) x.1) g (sym (expression_at i) ∙ e)) [
    | inl h ↦
        fails_within {K = SomeExpr way n} (term way n) (expression (term way n)) ts i g (λ rest. rest) (λ rest follows. follows)
        (λ k d same fails. (d, expression_at k ∙ ap (λ (y : Read Expr). y >>= λ y. after_first (term way n) y.0 (token y.1) y.1) fails))
        (λ k q rest follows x. (q, (x.0, alone way n x.0 k (skip q rest) x.1)))
        (fails_term ts opens i g h)
    | inr h ↦ first_fails ts opens i g h.0 (term_found way n i h.0 h.1.0) (token h.0.1) refl h.1.1
  ]

  -- an expression and the parenthesis that closes it
  abbrev closing : Input → Read Expr
  closing k = expression (term way n) k >>= λ x. closed_by x.0 (token x.1) x.1

  abbrev Closing : Input → Input → Type 0
  Closing k l = (x : Expr) × (m : Input) × IsExpr way n x k m × (token m ≡ t.Close) × (l ≡ next m)

  no_close : (ts : List Token) (opens : Opens ts) (i : Input) (g : MatchFault) (x : Expr × Input) → IsExpr way n x.0 i x.1 → Stops (token x.1) → (c : Token) → token x.1 ≡ c → ((p : ℕ) → fault_by wants_operator c p ≡ unexpected c p)
      → ((k : Input) → closed_by x.0 c k ≡ Err (unexpected c k.place)) → closed_by x.0 c x.1 ≡ Err g → Fails closing Closing ts i g
  no_close ts opens i g x found stops c at kind reads e =
      fails_behind {H2 = Stands t.Close} {H = Closing} (λ k. closed_by x.0 (token k) k) closing ts i x.1 g (expr_moves way n x.0 i x.1 found ts opens)
      (λ us ended.
      fails_here {H = Stands t.Close} (λ k. closed_by x.0 (token k) k) us x.1 g
      (err_is {A = Expr × Input} g (unexpected c x.1.place) (sym e ∙ reads x.1) ∙ sym (kind x.1.place) ∙ ap (λ (c : Token). fault_by wants_operator c x.1.place) (sym at) ∙ ap (λ (w : Wanted). fault_by w (token x.1) x.1.place) (sym ended.wants))
      (ended.clean (token x.1)) ended.settled
      (λ k same. (unexpected c k.place, ap (λ (c : Token). closed_by x.0 c k) (sym same ∙ at) ∙ reads k))
      (λ rest. 41 ∷ rest) (λ rest follows q. ap is_slash (begins_close q rest).is)
      (λ rest follows q. let b = begins_close q rest in (b.place, (b.is, sym b.after))))
      (λ k l d stands same fails.
      (d, ap (λ (y : Read Expr). y >>= λ y. closed_by y.0 (token y.1) y.1) (expr_only way n x.0 k l stands (subst Stops same.0 stops)) ∙ fails))
      (λ k m l stands here. (x.0, m, stands, here.0, here.1))

  close_fails : (ts : List Token) (opens : Opens ts) (i : Input) (g : MatchFault) (x : Expr × Input) → IsExpr way n x.0 i x.1 → Stops (token x.1) → (c : Token) → token x.1 ≡ c → closed_by x.0 c x.1 ≡ Err g → Fails closing Closing ts i g
  close_fails ts opens i g x found stops t.Close at e = absurd (err_never (x.0, next x.1) g e)
  close_fails ts opens i g x found stops t.And at e = absurd (true≢false (ap (is_operator true) (sym at) ∙ stops.no_and))
  close_fails ts opens i g x found stops t.Or at e = absurd (true≢false (ap (is_operator false) (sym at) ∙ stops.no_or))
  close_fails ts opens i g x found stops other at e = no_close ts opens i g x found stops other at (λ p. refl) (λ k. refl) e

  closing_fails : (ts : List Token) → Opens ts → (i : Input) (g : MatchFault) → closing i ≡ Err g → Fails closing Closing ts i g
  closing_fails ts opens i g e = elim (bind_err (expression (term way n) i) (λ x. closed_by x.0 (token x.1) x.1) g e) [
    | inl h ↦
        fails_within {K = Closing} (expression (term way n)) closing ts i g (λ rest. 41 ∷ rest) (λ rest follows. close_follows rest)
        (λ k d same fails. (d, ap (λ (y : Read Expr). y >>= λ y. closed_by y.0 (token y.1) y.1) fails))
        (λ k q rest follows x. let b = begins_close q rest in (b.place, (x.0, skip q (41 ∷ rest), x.1, b.is, sym b.after)))
        (expression_fails ts opens i g h)
    | inr h ↦ close_fails ts opens i g h.0 (expr_found way n (term_found way n) i h.0 h.1.0) (expression_stops way n i h.0 h.1.0) (token h.0.1) refl h.1.1
  ]

  deep_at : (k : Input) (c : Token) → token k ≡ c → term way (suc n) k ≡ deep_by way (term way n) c k
  unfolding term deep
  deep_at k c at = ap (λ (c : Token). deep_by way (term way n) c k) at

  bang_at : (k : Input) → token k ≡ t.Bang → term way (suc n) k ≡ (term way n (next k) >>= λ x. Ok (ex.Not x.0, x.1))
  unfolding negation
  bang_at k at = deep_at k t.Bang at

  open_at : (k : Input) → token k ≡ t.Open → term way (suc n) k ≡ closing (next k)
  unfolding group
  open_at k at = deep_at k t.Open at

  bang_fails : (ts : List Token) (i : Input) (g : MatchFault) → token i ≡ t.Bang → term way (suc n) i ≡ Err g → Fails (term way (suc n)) (SomeTerm way (suc n)) ts i g
  bang_fails ts i g at e = elim (bind_err (term way n (next i)) (λ x. Ok (ex.Not x.0, x.1)) g (sym (bang_at i at) ∙ e)) [
    | inl h ↦
        fails_behind {H = SomeTerm way (suc n)} (term way n) (term way (suc n)) ts i (next i) g (token_moves t.Bang i ts at refl)
        (λ us same. fails_term us (subst Opens (sym same) (behind_bang ts)) (next i) g h)
        (λ k l d here same fails. (d, bang_at k here.0 ∙ ap (λ (y : Input). term way n y >>= λ x. Ok (ex.Not x.0, x.1)) (sym here.1) ∙ ap (λ (y : Read Expr). y >>= λ x. Ok (ex.Not x.0, x.1)) fails))
        (λ k m l here x. (ex.Not x.0, negated way n x.0 k l here.0 (subst (λ (y : Input). IsTerm way n x.0 y l) here.1 x.1)))
    | inr h ↦ absurd (err_never (ex.Not h.0.0, h.0.1) g h.1.1)
  ]

  open_fails : (ts : List Token) (i : Input) (g : MatchFault) → token i ≡ t.Open → term way (suc n) i ≡ Err g → Fails (term way (suc n)) (SomeTerm way (suc n)) ts i g
  open_fails ts i g at e =
      fails_behind {H = SomeTerm way (suc n)} closing (term way (suc n)) ts i (next i) g (token_moves t.Open i ts at refl)
      (λ us same. closing_fails us (subst Opens (sym same) (behind_open ts)) (next i) g (sym (open_at i at) ∙ e))
      (λ k l d here same fails. (d, open_at k here.0 ∙ ap closing (sym here.1) ∙ fails))
      (λ k m l here x. (x.0, subst (λ (y : Input). IsTerm way (suc n) x.0 k y) (sym x.4) (grouped way n x.0 k x.1 here.0 (subst (λ (y : Input). IsExpr way n x.0 y x.1) here.1 x.2) x.3)))

  deep_fails : (ts : List Token) (opens : Opens ts) (i : Input) (g : MatchFault) (c : Token) → token i ≡ c → term way (suc n) i ≡ Err g → Fails (term way (suc n)) (SomeTerm way (suc n)) ts i g
  deep_fails ts opens i g t.Bang at e = bang_fails ts i g at e
  deep_fails ts opens i g t.Open at e = open_fails ts i g at e
  deep_fails ts opens i g other at e = leaf_fails way (suc n) ts opens i other g refl at (sym (leaf_reads way (suc n) ts opens i other refl i at) ∙ e)

flat_at : (way : Direction) (k : Input) (c : Token) → token k ≡ c → term way 0 k ≡ flat_by way c k
unfolding term flat
flat_at way k c at = ap (λ (c : Token). flat_by way c k) at

too_deep : (way : Direction) (ts : List Token) (opens : Opens ts) (i : Input) (g : MatchFault) (c : Token) → token i ≡ c → ((k : Input) → flat_by way c k ≡ Err (fault_by wants_term c k.place)) → term way 0 i ≡ Err g → Fails (term way 0) (SomeTerm way 0) ts i g
too_deep way ts opens i g c at reads e =
    term_here way 0 ts opens i g (err_is {A = Expr × Input} g (fault_by wants_term c i.place) (sym e ∙ flat_at way i c at ∙ reads i) ∙ ap (λ (c : Token). fault_by wants_term c i.place) (sym at))
    (λ k s. (fault_by wants_term c k.place, flat_at way k c (sym s ∙ at) ∙ reads k))

flat_fails : (way : Direction) (ts : List Token) (opens : Opens ts) (i : Input) (g : MatchFault) (c : Token) → token i ≡ c → term way 0 i ≡ Err g → Fails (term way 0) (SomeTerm way 0) ts i g
flat_fails way ts opens i g t.Bang at e = too_deep way ts opens i g t.Bang at (λ k. refl) e
flat_fails way ts opens i g t.Open at e = too_deep way ts opens i g t.Open at (λ k. refl) e
flat_fails way ts opens i g other at e = leaf_fails way 0 ts opens i other g refl at (sym (leaf_reads way 0 ts opens i other refl i at) ∙ e)

-- reading a term fails at the token at which no text goes on
pub term_fails : (way : Direction) (n : ℕ) → TermFails way n
term_fails way zero ts opens i g e = flat_fails way ts opens i g (token i) refl e
term_fails way (suc n) ts opens i g e = deep_fails way n (term_fails way n) ts opens i g (token i) refl e
