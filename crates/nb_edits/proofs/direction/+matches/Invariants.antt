use Rattle.std.proofs.Common.{◌≡◌, drop}
use Rattle.std.specs.List.{list_any}
use Rattle.nb_edits.specs.Directions as spec
use Rattle.nb_edits.proofs.direction.+matches.Given as goal

-- those that are left tell it
abbrev pub invariant-any_names_outport-loop-term : goal.invariant-any_names_outport-loop-term
invariant-any_names_outport-loop-term l = list_any spec.names_outport l.terms ≡ list_any spec.names_outport (drop l.term-index l.terms)
