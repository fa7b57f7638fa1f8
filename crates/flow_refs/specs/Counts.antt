-- How many origins have a flow.
use Rattle.std.specs.Prelude.{ℕ, ◌+◌, Bool, cond, List, [], ◌∷◌, Option, Some, None, unwrap_or}
use Prim.Native.Nat.{zero, suc}
use Rattle.std.specs.List.{AllByRecursion, IsDistinct}
use Rattle.std.specs.Map.{lookup}
use Rattle.std.specs.Option.{option_map_or}
use Rattle.std.specs.Set.{is_member}

-- one for true
abbrev pub bit : Bool → ℕ
bit b = cond b 1 0

-- a number that is kept only where it is not 0
abbrev pub positive : ℕ → Option ℕ
positive zero = None
positive (suc n) = Some (suc n)

module _ {F O : Type 0} (eq : F → F → Bool) where
  -- how many of the origins have the flow
  abbrev pub count_of : List (O × List F) → F → ℕ
  count_of [] flow = 0
  count_of (e ∷ es) flow = bit (is_member eq e.1 flow) + count_of es flow

  -- each origin has its flows once
  abbrev pub HaveOnce : List (O × List F) → Type 0
  HaveOnce es = AllByRecursion (λ e. IsDistinct eq e.1) es

module _ {F : Type 0} (eq : F → F → Bool) where
  -- the number of the flow; 0 where it isn't listed
  abbrev pub number_of : List (F × ℕ) → F → ℕ
  number_of counts flow = unwrap_or (lookup (eq flow) counts) 0

  -- its new number, or else its old one
  abbrev pub new_number_of : List (F × ℕ) → List (F × ℕ) → F → ℕ
  new_number_of numbers counts flow = unwrap_or (lookup (eq flow) numbers) (number_of counts flow)

  -- what is kept of the flow after the new numbers
  abbrev pub kept_number : List (F × ℕ) → List (F × ℕ) → F → Option ℕ
  kept_number counts numbers flow = option_map_or positive (lookup (eq flow) numbers) (lookup (eq flow) counts)
