-- Flows by the values that they want.
use Rattle.std.specs.Prelude.{◌≡◌, ◌⊎◌, ℕ, Option, Some, None, List, [], ◌∷◌, ◌++◌, nat_eq}
use Rattle.std.specs.Cmp.Lexicographic.{pointwise}
use Rattle.std.specs.Map.{lookup, keys_of}
use Rattle.std.specs.Option.{option_map_or}
use Rattle.ovn_base.specs.lists.Once.{EachOnce}
use Rattle.flow_table.specs.declared.flow.Flow.{Flow}
use Rattle.flow_table.specs.Matching.{Beats}
use Rattle.tuple_space.specs.Ranked.{IsRanked}

-- the flows of one mask with the same values, the best first, and for how many more room is promised
pub record Bunch : Type 0 where
  pub flows : List Flow
  pub promised : ℕ

-- no flow beats one that stands before it
abbrev pub IsFalling : List Flow → Type 0
IsFalling fs = IsRanked (λ f g. ¬ Beats g f) fs

-- all flows
abbrev pub flows_in : List (List ℕ × Bunch) → List Flow
flows_in [] = []
flows_in (e ∷ es) = e.1.flows ++ flows_in es

-- the flows at a key
abbrev pub flows_under : List (List ℕ × Bunch) → List ℕ → List Flow
flows_under es key = option_map_or (λ b. b.flows) (lookup (pointwise nat_eq key) es) []

-- for how many flows more room is promised there
abbrev pub promised_under : List (List ℕ × Bunch) → List ℕ → ℕ
promised_under es key = option_map_or (λ b. b.promised) (lookup (pointwise nat_eq key) es) 0

-- no key stands twice, and at each of them each flow is there once, the best first
pub record AreBunches (es : List (List ℕ × Bunch)) : Type 0 where
  pub keys : EachOnce (keys_of es)
  pub once : (key : List ℕ) → EachOnce (flows_under es key)
  pub falls : (key : List ℕ) → IsFalling (flows_under es key)

-- the first of two flows, unless the second beats it
abbrev pub IsBetter : Option Flow → Option Flow → Option Flow → Type 0
IsBetter None b r = r ≡ b
IsBetter (Some a) None r = r ≡ Some a
IsBetter (Some a) (Some b) r = ((r ≡ Some a) × ¬ Beats b a) ⊎ ((r ≡ Some b) × Beats b a)
