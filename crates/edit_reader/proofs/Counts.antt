-- How many elements an array has.
use Rattle.std.specs.Prelude.{◌≡◌, List, length}
use Rattle.serde_json.specs.Events.{items_len}
use Rattle.serde_json.specs.View.{items_view}
use Rattle.serde_json.specs.declared.value.Value.{Value}
use Rattle.serde_json.proofs.Views.{items_len-items_view}

pub counted : (vs : List Value) → items_len (items_view vs) ≡ length vs
counted vs = items_len-items_view vs
