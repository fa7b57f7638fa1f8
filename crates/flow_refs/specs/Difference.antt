-- The flows whose number begins or ends.
use Rattle.std.specs.Prelude.{ℕ, Bool, cond, not, ◌&&◌, List, [], ◌∷◌, is_some, nat_eq}
use Rattle.std.specs.Map.{lookup}

-- there is a number now, and there was none
abbrev pub begins : Bool → ℕ → Bool
begins there number = not (nat_eq number 0) && not there

-- there was a number, and there is none now
abbrev pub ends : Bool → ℕ → Bool
ends there number = nat_eq number 0 && there

-- the flows of the new numbers that pass the test, which is told whether there was a number, and the new one
abbrev pub flows_where : {F : Type 0} → (F → F → Bool) → (Bool → ℕ → Bool) → List (F × ℕ) → List (F × ℕ) → List F
flows_where eq test counts [] = []
flows_where eq test counts (n ∷ ns) = cond (test (is_some (lookup (eq n.0) counts)) n.1) (n.0 ∷ flows_where eq test counts ns) (flows_where eq test counts ns)
