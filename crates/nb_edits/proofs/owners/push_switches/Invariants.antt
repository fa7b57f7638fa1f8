use Rattle.std.proofs.Common.{◌≡◌, ◌++◌}
use Rattle.std.specs.List.{flat_map}
use Rattle.net_model.specs.Owners.{switch_owner}
use Rattle.nb_edits.specs.Owners.{new_at}
use Rattle.nb_edits.proofs.owners.push_switches.Given as goal

-- those that are left come behind what there is
abbrev pub invariant-names : goal.invariant-names
invariant-names l = l.owners ++ flat_map (new_at l.records switch_owner l.others.switches) l.name-iterator ≡ l.fn.owners ++ flat_map (new_at l.records switch_owner l.others.switches) l.names.keys
