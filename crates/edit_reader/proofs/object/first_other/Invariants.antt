use Rattle.std.specs.Prelude.{◌≡◌, map, length}
use Rattle.serde_json.specs.View.{view, members_view}
use Rattle.edit_reader.specs.Fields.{first_other, members_in}
use Rattle.edit_reader.proofs.object.first_other.Given as goal

abbrev pub invariant-members : goal.invariant-members
invariant-members l = first_other (map (λ n. n.now) l.names) (members_view l.members) ≡ first_other (map (λ n. n.now) l.names) (members_in (view l.object))

abbrev pub decreases-members : goal.decreases-members
decreases-members l = length l.members
