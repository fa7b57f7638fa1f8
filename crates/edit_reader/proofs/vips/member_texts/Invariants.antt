use Rattle.std.specs.Prelude.{◌≡◌, map, length}
use Rattle.serde_json.specs.View.{members_view}
use Rattle.edit_reader.specs.Vips.{member_texts}
use Rattle.edit_reader.proofs.Loops.{behind}
use Rattle.edit_reader.proofs.vips.member_texts.Given as goal

abbrev pub invariant-members : goal.invariant-members
invariant-members l = behind (map (λ t. (t.0.now, t.1.now)) l.texts.items) (member_texts l.field (members_view l.members)) ≡ member_texts l.field (members_view l.object.entries)

abbrev pub decreases-members : goal.decreases-members
decreases-members l = length l.members
