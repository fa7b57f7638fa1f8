-- Where a separator first stands among bytes.
use Rattle.std.proofs.Common.{◌≡◌, ◌≢◌, ◌==◌, ℕ, ◌+◌, ◌<◌, List, ◌∷◌, ◌++◌, length, take, drop, get_or, position, MatchOption, Some, None, inl, inr, ap, ◌∙◌, subst, arith, length-take, lt-ltb, le-ltb}
use Rattle.std.proofs.lemmas.List.{get_or-take}
use Rattle.std.proofs.lemmas.List.Sums.{fails_before_first, passes_at_first, split_at_first}
use Rattle.std.proofs.lemmas.Bool.{cases_lt, eqb-true, eqb-false}
use Rattle.std.specs.List.{All, position_or_len}

-- the first separator among the bytes stands at this place
pub record IsFirstPlace (separator : ℕ) (bytes : List ℕ) (at : ℕ) : Type 0 where
  pub before : All (λ b. b ≢ separator) (take at bytes)
  pub split : bytes ≡ take at bytes ++ separator ∷ drop (at + 1) bytes

-- no separator is among the bytes, or the first one has its place
pub first_place : (separator : ℕ) (bytes : List ℕ) → MatchOption (position (λ byte. byte == separator) bytes) (All (λ b. b ≢ separator) bytes) (IsFirstPlace separator bytes)
first_place separator bytes =
    let p = λ (byte : ℕ). byte == separator in
    let i = position_or_len p bytes in
    let misses = λ (k d : ℕ) (h : k < i). eqb-false (get_or bytes k d) separator (fails_before_first p bytes k d h) in
    elim (cases_lt i (length bytes)) [
      | inl lt ↦
          let found = eqb-true (get_or bytes i 0) separator (passes_at_first p bytes 0 lt) in
          let first : IsFirstPlace separator bytes i = record {
            before = λ k d h.
                let below : k < i = omega (arith, length-take i bytes) in
                rw (get_or-take i bytes k d below) (misses k d below);
            split = split_at_first p bytes 0 lt ∙ ap (λ x. take i bytes ++ x ∷ drop (i + 1) bytes) found;
          } in
          rw (lt-ltb i (length bytes) lt) first
      | inr ge ↦
          let none : All (λ b. b ≢ separator) bytes = λ k d h. misses k d (omega arith) in
          rw (le-ltb i (length bytes) ge) none
    ]

module _ (separator : ℕ) (bytes : List ℕ) where
  pub no_place : position (λ byte. byte == separator) bytes ≡ None → All (λ b. b ≢ separator) bytes
  no_place e = subst (λ o. MatchOption o (All (λ b. b ≢ separator) bytes) (IsFirstPlace separator bytes)) e (first_place separator bytes)

  pub at_place : (i : ℕ) → position (λ byte. byte == separator) bytes ≡ Some i → IsFirstPlace separator bytes i
  at_place i e = subst (λ o. MatchOption o (All (λ b. b ≢ separator) bytes) (IsFirstPlace separator bytes)) e (first_place separator bytes)
