-- What a test leaves of a list, one item more.
use Rattle.std.specs.Prelude.{◌≡◌, ◌++◌, Bool, true, false, cond, List, [], ◌∷◌}
use Rattle.std.specs.List.{filter}
use Rattle.std.proofs.Common.{ap, sym, ◌∙◌, append_assoc}

pub kept : {X : Type 0} (test : X → Bool) (so_far : List X) (x : X) (rest : List X) → test x ≡ true → (so_far ++ x ∷ []) ++ filter test rest ≡ so_far ++ filter test (x ∷ rest)
kept test so_far x rest h =
    append_assoc so_far (x ∷ []) (filter test rest) ∙ ap (λ (b : Bool). so_far ++ cond b (x ∷ filter test rest) (filter test rest)) (sym h)

pub left_out : {X : Type 0} (test : X → Bool) (so_far : List X) (x : X) (rest : List X) → test x ≡ false → so_far ++ filter test rest ≡ so_far ++ filter test (x ∷ rest)
left_out test so_far x rest h = ap (λ (b : Bool). so_far ++ cond b (x ∷ filter test rest) (filter test rest)) (sym h)
