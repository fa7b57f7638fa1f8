-- What is built of edits.
use Rattle.std.specs.Prelude.{◌&&◌, Bool, true, false, List, [], ◌∷◌}
use Rattle.nb_records.specs.declared.change.Op.{Op}
use Rattle.nb_records.specs.declared.change.Op.TheVariants.{Add, Set, Remove, Health}

-- records of all kinds are added and changed; none is removed, and a mark is an event of its own
abbrev pub is_built_op : Op → Bool
is_built_op (Add r) = true
is_built_op (Set k name change) = true
is_built_op (Remove k name) = false
is_built_op (Health balancer backend online) = false

-- each operation is
abbrev pub is_built_edit : List Op → Bool
is_built_edit [] = true
is_built_edit (o ∷ ops) = is_built_op o && is_built_edit ops
