-- Lists of units, and units with what they have.
use Rattle.std.specs.Prelude.{◌≡◌, ◌⊎◌, ◌↔◌, ℕ, List, map}
use Rattle.ovn_base.specs.lists.Among.{Among}
use Rattle.ovn_base.specs.numbers.Steps.{after_steps}
use Rattle.logical_flows.specs.declared.unit.UnitId.{UnitId}

-- these have joined those that were there, and nobody else
abbrev pub HaveJoined : List UnitId → List UnitId → List UnitId → Type 0
HaveJoined these before after = (u : UnitId) → Among u after ↔ (Among u before ⊎ Among u these)

-- each of the units with what it has
abbrev pub with_each : {F : Type 0} → (UnitId → List F) → List UnitId → List (UnitId × List F)
with_each has units = map (λ u. (u, has u)) units

-- steps were counted on: none that was counted is lost
abbrev pub HasCountedOn : ℕ → ℕ → Type 0
HasCountedOn before after = (n : ℕ) × (after ≡ after_steps n before)
