-- What comes next in the input, and how far it was read.
use Rattle.std.specs.Prelude.{◌≡◌, ◌<◌, ◌≤◌, ℕ, List, Option, false, true}
use Rattle.ovn_base.specs.declared.limits.TheConstants.{MAX_INPUT}
use Rattle.ovn_base.specs.lines.Reading.{Reading, Stops, bytes_taken}
use Rattle.ovn_base.specs.streams.WhereTold.{WhereTold}
use Rattle.edit_reader.specs.Fitting.{IsEventInGrammar}
use Rattle.ovnsim.specs.declared.next_event.Next.{Next}
use Rattle.ovnsim.specs.declared.next_event.Next.TheVariants.{Found, Blank, End}
use Rattle.ovnsim.specs.declared.run.Stop.{Stop}
use Rattle.ovnsim.specs.declared.run.Stop.TheVariants.{ReadFault, WriteFault, Memory, InputTooLong}

-- an event that was found is one that a world takes
abbrev pub IsAdmittedNext : Next → Type 0
IsAdmittedNext (Found event) = IsEventInGrammar event
IsAdmittedNext Blank = Unit {0}
IsAdmittedNext End = Unit {0}

-- a line takes bytes with it, and the end was seen where it is answered
abbrev pub GoesOn : Next → Reading → Reading → Type 0
GoesOn (Found event) old new = old.given < new.given
GoesOn Blank old new = old.given < new.given
GoesOn End old new = new.ended ≡ true

-- at most 2^40 bytes were taken, and fewer where the end was seen
pub record IsBelowLimit (m : Reading) : Type 0 where
  pub limit : bytes_taken m ≤ MAX_INPUT
  pub below : m.ended ≡ true → bytes_taken m < MAX_INPUT

-- The call stopped before the end, and the bytes that were taken by then have no line that is ended; `ahead` was unread
-- before, and `left` was not taken.
pub record StopsBefore (old new : Reading) (ahead left : Option (List ℕ)) : Type 0 where
  pub not_ended : old.ended ≡ false
  pub told : WhereTold ahead left (Stops old new)

-- where a call stops for this cause
abbrev pub StopsIn : Stop → Reading → Reading → Option (List ℕ) → Option (List ℕ) → Type 0
StopsIn ReadFault old new ahead left = (bytes_taken new < MAX_INPUT) × StopsBefore old new ahead left
StopsIn InputTooLong old new ahead left = (bytes_taken new ≡ MAX_INPUT) × StopsBefore old new ahead left
StopsIn Memory old new ahead left = Unit {0}
StopsIn WriteFault old new ahead left = ⊥
