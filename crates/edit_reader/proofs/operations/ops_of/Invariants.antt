use Rattle.std.specs.Prelude.{◌≡◌, drop}
use Rattle.serde_json.specs.View.{items_view}
use Rattle.edit_reader.specs.Operations.{ops_of}
use Rattle.edit_reader.proofs.Loops.{behind}
use Rattle.edit_reader.proofs.operations.ops_of.Given as goal

abbrev pub invariant-items : goal.invariant-items
invariant-items l = behind l.ops (ops_of (items_view (drop l.item-index l.items))) ≡ ops_of (items_view l.items)
