-- Laws of the lines of bytes.
use Rattle.std.proofs.Common.{◌≡◌, ◌≢◌, ℕ, suc, ◌+◌, ◌<◌, ◌≤◌, List, [], ◌∷◌, ◌++◌, length, take, refl, sym, ap, ◌∙◌, inl, inr, zero, arith, ne_eqb, lt-ltb, le-ltb, length-append, take_at}
use Rattle.std.proofs.lemmas.Bool.{cases_lt, cond-true, cond-false}
use Rattle.std.proofs.Math.Seq.{take-append-add}
use Rattle.std.proofs.lemmas.List.Elements.{All-head, All-tail}
use Rattle.ovn_base.specs.lines.Lines.{lines_of, ended_lines, lines_within, HasNoFeed}

abbrev NotFeed : ℕ → Type 0
NotFeed b = b ≢ 10

-- a line and its feed come first
pub lines_of-feed : (t r : List ℕ) → HasNoFeed t → lines_of (t ++ 10 ∷ r) ≡ t ∷ lines_of r
lines_of-feed [] r h = refl
lines_of-feed (b ∷ t) r h =
    let ne : b ≢ 10 = All-head NotFeed b t h in
    rw (ne_eqb b 10 ne, lines_of-feed t r (All-tail NotFeed b t h)) refl

-- the same among the lines that are ended
pub ended_lines-feed : (t r : List ℕ) → HasNoFeed t → ended_lines (t ++ 10 ∷ r) ≡ t ∷ ended_lines r
ended_lines-feed [] r h = refl
ended_lines-feed (b ∷ t) r h =
    let ne : b ≢ 10 = All-head NotFeed b t h in
    rw (ne_eqb b 10 ne, ended_lines-feed t r (All-tail NotFeed b t h)) refl

-- a last line without a feed
pub lines_of-last : (b : ℕ) (t : List ℕ) → HasNoFeed (b ∷ t) → lines_of (b ∷ t) ≡ (b ∷ t) ∷ []
lines_of-last b [] h =
    let ne : b ≢ 10 = All-head NotFeed b [] h in
    rw (ne_eqb b 10 ne) refl
lines_of-last b (c ∷ t) h =
    let ne : b ≢ 10 = All-head NotFeed b (c ∷ t) h in
    rw (ne_eqb b 10 ne, lines_of-last c t (All-tail NotFeed b (c ∷ t) h)) refl

-- bytes without a feed end no line
pub ended_lines-none : (t : List ℕ) → HasNoFeed t → ended_lines t ≡ []
ended_lines-none [] h = refl
ended_lines-none (b ∷ t) h =
    let ne : b ≢ 10 = All-head NotFeed b t h in
    rw (ne_eqb b 10 ne, ended_lines-none t (All-tail NotFeed b t h)) refl

-- below the limit all lines count
within-below : (n : ℕ) (bytes : List ℕ) → length bytes < n → lines_within n bytes ≡ lines_of bytes
within-below n bytes h = cond-true _ _ _ (lt-ltb (length bytes) n h)

-- at the limit only those count that are ended within it
within-above : (n : ℕ) (bytes : List ℕ) → n ≤ length bytes → lines_within n bytes ≡ ended_lines (take n bytes)
within-above n bytes h = cond-false _ _ _ (le-ltb (length bytes) n h)

-- of bytes that begin with a line and its feed, that line is the first within each limit beyond it
pub within-line : (t r : List ℕ) (n m : ℕ) → n ≡ m + suc (length t) → HasNoFeed t → lines_within n (t ++ 10 ∷ r) ≡ t ∷ lines_within m r
within-line t r n m e h =
    let l = length-append t (10 ∷ r) in
    elim (cases_lt (length r) m) [
      | inl lt ↦
          within-below n (t ++ 10 ∷ r) (omega arith) ∙ lines_of-feed t r h ∙ ap (λ ls. t ∷ ls) (sym (within-below m r lt))
      | inr ge ↦
          let k : n ≡ length t + suc m = omega arith in
          within-above n (t ++ 10 ∷ r) (omega arith) ∙ ap (λ x. ended_lines (take x (t ++ 10 ∷ r))) k ∙ ap ended_lines (take-append-add t (10 ∷ r) (suc m))
          ∙ ended_lines-feed t (take m r) h ∙ ap (λ ls. t ∷ ls) (sym (within-above m r ge))
    ]

-- no bytes have no lines
pub within-nil : (n : ℕ) → lines_within n [] ≡ []
within-nil zero = refl
within-nil (suc n) = within-below (suc n) [] (omega arith)

-- the last line, without a feed
pub within-last : (t : List ℕ) (n m : ℕ) → n ≡ m + length t → 0 < m → t ≢ [] → HasNoFeed t → lines_within n t ≡ t ∷ lines_within m []
within-last [] n m e p ne h = absurd (ne refl)
within-last (b ∷ t) n m e p ne h =
    within-below n (b ∷ t) (omega arith) ∙ lines_of-last b t h ∙ ap (λ ls. (b ∷ t) ∷ ls) (sym (within-nil m))

-- no line is ended within a limit before which no feed comes
pub within-none : (t r : List ℕ) (n : ℕ) → length t ≡ n → HasNoFeed t → lines_within n (t ++ r) ≡ []
within-none t r n e h =
    let l = length-append t r in
    within-above n (t ++ r) (omega arith) ∙ ap ended_lines (take_at t r n e) ∙ ended_lines-none t h
