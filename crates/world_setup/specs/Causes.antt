-- A cause that holds or doesn't.
use Rattle.std.specs.Prelude.{Bool, true, false, Option, Some, None}
use Rattle.event_lines.specs.declared.refusal.Refusal.{Refusal}

abbrev pub cause_if : Bool → Refusal → Option Refusal
cause_if true why = Some why
cause_if false why = None
