-- Values that are set under keys.
use Rattle.std.specs.Prelude.{◌≡◌, Bool, cond, List, [], ◌∷◌, Option}
use Rattle.std.specs.Map.{lookup}

module _ {K V : Type 0} (same : K → K → Bool) where
  -- what a key has after the settings, by what it had: the last setting of the key counts, and `None` takes its value
  abbrev pub set_in_turn : List (K × Option V) → K → Option V → Option V
  set_in_turn [] key had = had
  set_in_turn (s ∷ settings) key had = set_in_turn settings key (cond (same s.0 key) s.1 had)

  -- each key has what the settings make of what it had
  abbrev pub AreSet : List (K × Option V) → List (K × V) → List (K × V) → Type 0
  AreSet settings old new = (key : K) → lookup (same key) new ≡ set_in_turn settings key (lookup (same key) old)
