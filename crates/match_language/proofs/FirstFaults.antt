-- Where a text is no expression, reading gives its first fault.
use Rattle.std.specs.Prelude.{◌≡◌, ◌⊎◌, ◌≤◌, ◌<◌, ◌+◌, ℕ, zero, suc, true, false, List, [], Result, Ok, Err}
use Rattle.std.proofs.Common.{refl, ap, ◌∙◌, sym, subst, inl, inr, arith}
use Rattle.std.proofs.lemmas.Bool.{cases_lt}
use mathlib.Core.Bool.{true≢false}
use Rattle.match_language.specs.declared.expr.Expr.{Expr}
use Rattle.match_language.specs.declared.fault.MatchFault.{MatchFault}
use Rattle.match_language.specs.declared.fault.ParseFault.{ParseFault}
use Rattle.match_language.specs.declared.fault.ParseFault.TheVariants as pf
use Rattle.match_language.specs.declared.field.Direction.{Direction}
use Rattle.match_language.specs.declared.token.Token.{Token}
use Rattle.match_language.specs.declared.token.Token.TheVariants as t
use Rattle.match_language.specs.Faults.{IfBad, GivesExpr}
use Rattle.match_language.specs.Input.{Input, token, skip}
use Rattle.match_language.specs.Grammar.{IsExpr, SpellsExpr}
use Rattle.match_language.specs.FirstFault.{after, tokens_seen, Wanted, wanted, fault_by, back, is_passed, IsAlive, IsFirstFault}
use Rattle.match_language.specs.FirstFault.Wanted.{wants_operator}
use Rattle.match_language.specs.Reading.{Read, ◌>>=◌, unexpected, is_operator, expression, term, ended_by, ended, whole}
use Rattle.match_language.proofs.Steps.{failed, never}
use Rattle.match_language.proofs.ParseLaws.{term_found, expr_found, whole_found}
use Rattle.match_language.proofs.Only.{Stops, expr_only, whole_only}
use Rattle.match_language.proofs.Begins.{end_follows}
use Rattle.match_language.proofs.Again as again
use Rattle.match_language.proofs.CommonParts.{plus, Gap, Fails, fails_here, fails_within, fails_behind, seen_last, shares_less, shares_own}
use Rattle.match_language.proofs.TokenMoves.{expr_moves, at_first}
use Rattle.match_language.proofs.Cut.{graft}
use Rattle.match_language.proofs.FailsValues.{err_is, bind_err, err_never}
use Rattle.match_language.proofs.FailsTerms.{SomeExpr, term_fails, expression_fails, expression_stops}

-- ---- the whole text

-- up to the end of the text
abbrev to_end : Expr → Token → Input → Read Expr
to_end x t.End i = Ok (x, i)
to_end x other i = Err (unexpected other i.place)

abbrev full : Direction → Input → Read Expr
full way i = expression (term way 64) i >>= λ x. to_end x.0 (token x.1) x.1

-- the expression alone
abbrev value_of : Read Expr → Result Expr MatchFault
value_of (Ok x) = Ok x.0
value_of (Err f) = Err f

end_value : (x : Expr) (c : Token) (j : Input) → ended_by x c j ≡ value_of (to_end x c j)
end_value x t.End j = refl
end_value x _ j = refl

ended_value : (r : Read Expr) → ended r ≡ value_of (r >>= λ x. to_end x.0 (token x.1) x.1)
ended_value (Ok x) = end_value x.0 (token x.1) x.1
ended_value (Err f) = refl

whole_value : (way : Direction) (text : List ℕ) → whole way text ≡ value_of (full way (skip 0 text))
unfolding whole
whole_value way text = ended_value (expression (term way 64) (skip 0 text))

plus_is : (a b : ℕ) → plus a b ≡ a + b
plus_is zero b = omega arith
plus_is (suc a) b = let h = plus_is a b in omega (arith, h)

sum_left : (a b c : ℕ) → a + c ≡ b + c → a ≡ b
sum_left a b c e = omega (arith, e)

module _ (way : Direction) where
  no_end : (i : Input) (g : MatchFault) (x : Expr × Input) → IsExpr way 64 x.0 i x.1 → Stops (token x.1) → (c : Token) → token x.1 ≡ c → ((p : ℕ) → fault_by wants_operator c p ≡ unexpected c p) → ((k : Input) → to_end x.0 c k ≡ Err (unexpected c k.place))
      → to_end x.0 c x.1 ≡ Err g → Fails (full way) (SomeExpr way 64) [] i g
  no_end i g x found stops c at kind reads e =
      fails_behind {H2 = λ k l. k ≡ l} {H = SomeExpr way 64} (λ k. to_end x.0 (token k) k) (full way) [] i x.1 g (expr_moves way 64 x.0 i x.1 found [] at_first)
      (λ us ended.
      fails_here {H = λ k l. k ≡ l} (λ k. to_end x.0 (token k) k) us x.1 g
      (err_is {A = Expr × Input} g (unexpected c x.1.place) (sym e ∙ reads x.1) ∙ sym (kind x.1.place) ∙ ap (λ (c : Token). fault_by wants_operator c x.1.place) (sym at) ∙ ap (λ (w : Wanted). fault_by w (token x.1) x.1.place) (sym ended.wants))
      (ended.clean (token x.1)) ended.settled
      (λ k same. (unexpected c k.place, ap (λ (c : Token). to_end x.0 c k) (sym same ∙ at) ∙ reads k))
      (λ rest. rest) (λ rest follows q. follows.slash q) (λ rest follows q. (q, refl)))
      (λ k l d stands same fails. (d, ap (λ (y : Read Expr). y >>= λ y. to_end y.0 (token y.1) y.1) (expr_only way 64 x.0 k l stands (subst Stops same.0 stops)) ∙ fails))
      (λ k m l stands here. (x.0, subst (λ (y : Input). IsExpr way 64 x.0 k y) here stands))

  end_fails : (i : Input) (g : MatchFault) (x : Expr × Input) → IsExpr way 64 x.0 i x.1 → Stops (token x.1) → (c : Token) → token x.1 ≡ c → to_end x.0 c x.1 ≡ Err g → Fails (full way) (SomeExpr way 64) [] i g
  end_fails i g x found stops t.End at e = absurd (err_never (x.0, x.1) g e)
  end_fails i g x found stops t.And at e = absurd (true≢false (ap (is_operator true) (sym at) ∙ stops.no_and))
  end_fails i g x found stops t.Or at e = absurd (true≢false (ap (is_operator false) (sym at) ∙ stops.no_or))
  end_fails i g x found stops other at e = no_end i g x found stops other at (λ p. refl) (λ k. refl) e

  full_fails : (i : Input) (g : MatchFault) → full way i ≡ Err g → Fails (full way) (SomeExpr way 64) [] i g
  full_fails i g e = elim (bind_err (expression (term way 64) i) (λ x. to_end x.0 (token x.1) x.1) g e) [
    | inl h ↦
        fails_within {K = SomeExpr way 64} (expression (term way 64)) (full way) [] i g (λ rest. rest) (λ rest follows. follows)
        (λ k d same fails. (d, ap (λ (y : Read Expr). y >>= λ y. to_end y.0 (token y.1) y.1) fails))
        (λ k q rest follows x. (q, x))
        (expression_fails way 64 (term_fails way 64) [] at_first i g h)
    | inr h ↦ end_fails i g h.0 (expr_found way 64 (term_found way 64) i h.0 h.1.0) (expression_stops way 64 i h.0 h.1.0) (token h.0.1) refl h.1.1
  ]

  -- ---- the first fault

  alive_less : (text : List ℕ) (n m : ℕ) → n ≤ m → IsAlive way text m → IsAlive way text n
  alive_less text n m less h = record { other = h.other; expr = h.expr; shares = shares_less n m (skip 0 text) (skip 0 h.other) less h.shares; spells = h.spells }

  alive_kept : (text : List ℕ) (g : MatchFault) (h : Fails (full way) (SomeExpr way 64) [] (skip 0 text) g) → IsAlive way text h.kept
  alive_kept text g h =
      let other = graft h.kept (skip 0 text) (h.tail []) h.plain in
      let at = other.1 0 in
      let stands = h.goes [] end_follows (skip 0 other.0) at.0 at.1.0 at.1.1 in
      record { other = other.0; expr = stands.1.0; shares = at.0; spells = record { end = skip stands.0 []; body = stands.1.1; whole = again.ended stands.0 } }

  alive_before : (text : List ℕ) (kept index : ℕ) → IsAlive way text kept → Gap (skip 0 text) [] kept index → (j : ℕ) → j < index → (is_passed (tokens_seen (suc j) (skip 0 text) []) ≡ true) ⊎ IsAlive way text (suc j)
  alive_before text kept index alive (inl e) j less = inr (alive_less text (suc j) kept (omega (arith, less, e)) alive)
  alive_before text kept index alive (inr e) j less = elim (cases_lt j kept) [
    | inl below ↦ inr (alive_less text (suc j) kept (omega (arith, below)) alive)
    | inr above ↦ let same : index ≡ suc j = omega (arith, above, less, e.0) in inl (subst (λ (n : ℕ). is_passed (tokens_seen n (skip 0 text) []) ≡ true) same e.1)
  ]

  first_by : (text : List ℕ) (g : MatchFault) → Fails (full way) (SomeExpr way 64) [] (skip 0 text) g → IsFirstFault way text g
  first_by text g h = record {
    index = h.index;
    dead = λ a.
        let fails = h.same (skip 0 a.other) a.shares in
        never fails.0 a.expr (sym (ap value_of fails.1) ∙ sym (whole_value way a.other) ∙ whole_only way a.other a.expr a.spells);
    settled = ap is_passed (seen_last h.index (skip 0 text) []) ∙ h.settled;
    alive = alive_before text h.kept h.index (alive_kept text g h) h.gap;
    named = h.named;
    at = h.at ∙ plus_is h.named (back (tokens_seen h.index (skip 0 text) []) (token (after h.index (skip 0 text))));
    is = h.is;
  }

  value_err : (r : Read Expr) (g : MatchFault) → value_of r ≡ Err g → r ≡ Err g
  value_err (Ok x) g e = absurd (err_never x.0 g e)
  value_err (Err f) g e = ap (λ (x : MatchFault). failed x) (err_is {A = Expr} f g e)

  -- the fault that reading gives is the text's first
  pub whole_first : (text : List ℕ) (g : MatchFault) → whole way text ≡ Err g → IsFirstFault way text g
  whole_first text g e = first_by text g (full_fails (skip 0 text) g (value_err (full way (skip 0 text)) g (sym (whole_value way text) ∙ e)))

  -- ---- there is but one

  no_later : (text : List ℕ) (f g : MatchFault) (h : IsFirstFault way text f) (k : IsFirstFault way text g) → h.index < k.index → ⊥
  no_later text f g h k less = elim (k.alive h.index less) [
    | inl passed ↦ true≢false (sym passed ∙ h.settled)
    | inr alive ↦ h.dead alive
  ]

  one_index : (text : List ℕ) (f g : MatchFault) (h : IsFirstFault way text f) (k : IsFirstFault way text g) → h.index ≡ k.index
  one_index text f g h k = elim (cases_lt h.index k.index) [
    | inl below ↦ absurd (no_later text f g h k below)
    | inr above ↦ elim (cases_lt k.index h.index) [
      | inl below ↦ absurd (no_later text g f k h below)
      | inr least ↦ omega (arith, above, least)
    ]
  ]

  -- a text has at most one first fault
  pub one_first : (text : List ℕ) (f g : MatchFault) → IsFirstFault way text f → IsFirstFault way text g → f ≡ g
  one_first text f g h k =
      let i = skip 0 text in
      let same = one_index text f g h k in
      let behind = λ (n : ℕ). back (tokens_seen n i []) (token (after n i)) in
      let shown = λ (n : ℕ) (m : ℕ). fault_by (wanted (tokens_seen n i [])) (token (after n i)) (after m i).place in
      let there : h.named + behind k.index ≡ k.named + behind k.index = ap (λ (n : ℕ). h.named + behind n) (sym same) ∙ sym h.at ∙ same ∙ k.at in
      h.is ∙ ap (λ (n : ℕ). shown n h.named) same ∙ ap (shown k.index) (sum_left h.named k.named (behind k.index) there) ∙ sym k.is

  -- a text that spells an expression has none
  pub none_spelled : (text : List ℕ) (x : Expr) (f : MatchFault) → SpellsExpr way text x → IsFirstFault way text f → ⊥
  none_spelled text x f spells h = h.dead (record { other = text; expr = x; shares = shares_own (suc h.index) (skip 0 text); spells = spells })

  -- ---- what `parse` answers

  either : (text : List ℕ) (r : Result Expr MatchFault) → whole way text ≡ r → ((x : Expr) × SpellsExpr way text x) ⊎ ((f : MatchFault) × IsFirstFault way text f)
  either text (Ok x) e = inl (x, whole_found way text x e)
  either text (Err f) e = inr (f, whole_first text f e)

  -- a text spells an expression or has a first fault
  pub spelled_or : (text : List ℕ) → ((x : Expr) × SpellsExpr way text x) ⊎ ((f : MatchFault) × IsFirstFault way text f)
  spelled_or text = either text (whole way text) refl

  pub gives_first : (text : List ℕ) (r : Result Expr ParseFault) → GivesExpr r (whole way text) → IfBad r (λ f. IsFirstFault way text f)
  gives_first text (Ok x) h = tt
  gives_first text (Err pf.Memory) h = tt
  gives_first text (Err (pf.Bad f)) h = whole_first text f h

  pub gives_only_first : (text : List ℕ) (r : Result Expr ParseFault) → GivesExpr r (whole way text) → (f : MatchFault) → IsFirstFault way text f → GivesExpr r (Err f)
  gives_only_first text (Ok x) h f first = absurd (none_spelled text x f (whole_found way text x h) first)
  gives_only_first text (Err pf.Memory) h f first = tt
  gives_only_first text (Err (pf.Bad g)) h f first = ap (λ (d : MatchFault). failed d) (one_first text f g first (whole_first text g h))
