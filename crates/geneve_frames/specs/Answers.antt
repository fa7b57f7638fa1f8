-- What the answer to a frame says of it.
use Rattle.std.specs.Prelude.{◌≡◌, ℕ, List, Result, Ok, Err}
use Rattle.geneve_frames.specs.Meaning.{Spells, IsFirst}
use Rattle.geneve_frames.specs.declared.fault.GeneveFault.{GeneveFault}
use Rattle.geneve_frames.specs.declared.reading.View.{View}

-- the answer is these parts
abbrev pub GivesParts : Result View GeneveFault → ℕ → ℕ → ℕ → List ℕ → Type 0
GivesParts (Ok view) vni in_key out_key inner = (view.vni ≡ vni) × (view.in_key ≡ in_key) × (view.out_key ≡ out_key) × (view.inner.now ≡ inner)
GivesParts (Err fault) vni in_key out_key inner = ⊥

-- parts that the frame spells, or the first fault that it shows
abbrev pub IsReadAs : List ℕ → Result View GeneveFault → Type 0
IsReadAs frame (Ok view) = Spells frame view.vni view.in_key view.out_key view.inner.now
IsReadAs frame (Err fault) = IsFirst fault frame
