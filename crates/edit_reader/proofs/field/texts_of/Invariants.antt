use Rattle.std.specs.Prelude.{◌≡◌, map, drop}
use Rattle.serde_json.specs.View.{items_view}
use Rattle.edit_reader.specs.Fields.{texts_of}
use Rattle.edit_reader.proofs.Loops.{behind}
use Rattle.edit_reader.proofs.field.texts_of.Given as goal

abbrev pub invariant-items : goal.invariant-items
invariant-items l = behind (map (λ t. t.now) l.texts.items) (texts_of l.field (items_view (drop l.item-index l.items))) ≡ texts_of l.field (items_view l.items)
