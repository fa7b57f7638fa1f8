-- Where a run stops, cause by cause.
use Rattle.std.specs.Prelude.{◌≡◌, ◌≤◌, ℕ, List, Option, Result, Err, IfSome}
use Rattle.ovn_base.specs.streams.Causes.{Rose}
use Rattle.ovn_base.specs.streams.WhereTold.{WhereTold}
use Rattle.ovnsim.specs.Answers.{GainsEvents, GainsFront, GainsRead, GainsToLimit}
use Rattle.ovnsim.specs.declared.run.Stop.{Stop}
use Rattle.ovnsim.specs.declared.run.Stop.TheVariants.{ReadFault, WriteFault, Memory, InputTooLong}

-- What stands where a run stops for this cause: of the input, `left` was not taken, as far as the source tells, and the
-- sink told `before` and then `after`.
abbrev pub StandsAt : Stop → Option (List ℕ) → Option (List ℕ) → Option (List ℕ) → Option (List ℕ) → Type 0
StandsAt ReadFault input left before after = WhereTold input left (GainsRead before after)
StandsAt InputTooLong input left before after = WhereTold input left (GainsToLimit before after)
StandsAt WriteFault input left before after = IfSome input (GainsFront before after)
StandsAt Memory input left before after = IfSome input (GainsEvents before after)

-- no count of faults falls, and a fault is answered only where its count rose
pub record HasCauses {T : Type 0} (reads reads_then writes writes_then : ℕ) (result : Result T Stop) : Type 0 where
  pub reads_later : reads ≤ reads_then
  pub writes_later : writes ≤ writes_then
  pub read_rose : result ≡ Err ReadFault → Rose reads reads_then
  pub write_rose : result ≡ Err WriteFault → Rose writes writes_then

-- what stands where a piece doesn't go out whole: nothing of it went for want of memory, and some first bytes where the sink failed
abbrev pub CutsShort : Stop → (Option (List ℕ) → Option (List ℕ) → Type 0) → Option (List ℕ) → Option (List ℕ) → Type 0
CutsShort Memory Cut before after = after ≡ before
CutsShort WriteFault Cut before after = Cut before after
CutsShort ReadFault Cut before after = ⊥
CutsShort InputTooLong Cut before after = ⊥
