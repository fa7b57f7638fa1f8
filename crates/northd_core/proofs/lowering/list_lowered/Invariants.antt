use Rattle.std.specs.Prelude.{◌≡◌, ◌++◌}
use Rattle.northd_core.specs.Listing.{HasCountedOn, with_each}
use Rattle.northd_core.specs.Lowering.{lowered_of}
use Rattle.northd_core.proofs.lowering.list_lowered.Given as goal

-- the units so far, and those that are left, each with its flows
abbrev pub invariant-units : goal.invariant-units
invariant-units g l = record {
  all : l.all ++ with_each (lowered_of (record { net = l.records; keys = l.keys })) l.unit-iterator ≡ with_each (lowered_of (record { net = l.records; keys = l.keys })) l.units.keys;
  steps : HasCountedOn l.fn.steps l.steps;
}
