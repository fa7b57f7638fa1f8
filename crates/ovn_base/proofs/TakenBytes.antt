-- What is taken from bytes in memory.
use Rattle.std.proofs.Common.{◌≡◌, ℕ, ◌+◌, min, List, ◌++◌, length, take, drop, slice_range, sym, ap, ◌∙◌, subst, arith, length-take-le, take-append-drop, take_at}
use Rattle.std.proofs.lemmas.List.{drop-drop, take_rest}

took : (left buf new : List ℕ) (n : ℕ) → n ≡ min (length buf) (length left) → new ≡ take n left ++ drop n buf → left ≡ take n new ++ drop n left
took left buf new n e f =
    let size = length-take-le n left (omega arith) in
    let front = ap (take n) f ∙ take_at (take n left) (drop n buf) n size in
    rw front (sym (take-append-drop n left))

-- the bytes from `start` on are those that were copied to the front of the buffer, and then the rest
pub took-front : (bytes buf new : List ℕ) (start n : ℕ) → n ≡ min (length buf) (length (slice_range bytes start (length bytes)))
    → new ≡ take n (slice_range bytes start (length bytes)) ++ drop n buf → drop start bytes ≡ take n new ++ drop (start + n) bytes
took-front bytes buf new start n e f =
    took (drop start bytes) buf new n (subst (λ (x : List ℕ). n ≡ min (length buf) (length x)) (take_rest bytes start) e)
    (subst (λ (x : List ℕ). new ≡ take n x ++ drop n buf) (take_rest bytes start) f)
    ∙ ap (λ x. take n new ++ x) (drop-drop n start bytes)
