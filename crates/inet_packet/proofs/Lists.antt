-- Lists that begin as another does, and lists in parts.
use Rattle.std.proofs.Common.{◌≡◌, ◌+◌, ℕ, List, ◌++◌, length, take, refl, append_assoc, ap, sym, ◌∙◌, arith}
use Rattle.std.proofs.lemmas.List.{take_at, take-take, length-append}

-- what keeps a list keeps what the list begins with
pub kept_before : (old more mid new : List ℕ) → mid ≡ old ++ more → take (length mid) new ≡ mid → take (length old) new ≡ old
kept_before old more mid new e h =
    let len : length mid ≡ length old + length more = ap length e ∙ length-append old more in
    sym (take-take (length old) (length mid) new (omega (arith, len))) ∙ ap (take (length old)) (h ∙ e) ∙ take_at old more (length old) refl

-- one piece more, and what the piece is
pub then_piece : (out a m b c n : List ℕ) → m ≡ out ++ a → n ≡ m ++ b → b ≡ c → n ≡ out ++ (a ++ c)
then_piece out a m b c n p q r = q ∙ ap (λ (x : List ℕ). x ++ b) p ∙ append_assoc out a b ∙ ap (λ (x : List ℕ). out ++ (a ++ x)) r
