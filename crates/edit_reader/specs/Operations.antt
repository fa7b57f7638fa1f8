-- The operations of an edit.
use Rattle.std.specs.Prelude.{◌&&◌, if◌then◌else◌, nat_le, List, [], ◌∷◌, codes, Option, Some, None, is_some, option_map, option_and_then, Ok, Err, ⊤}
use Rattle.serde_json.specs.Data.{Data, Items, no_items, item}
use Rattle.serde_json.specs.Events.{items_len}
use Rattle.serde_json.specs.Find.{get, as_str, as_array, as_object}
use Rattle.ovn_base.specs.declared.limits.TheConstants.{MAX_OPERATIONS}
use Rattle.nb_records.specs.declared.change.Op.{Op}
use Rattle.nb_records.specs.declared.change.Op.TheVariants as op
use Rattle.nb_records.specs.declared.kinds.Kind.{Kind}
use Rattle.edit_reader.specs.Outcomes.{Read, ◌>>=◌, of_kind, in_range}
use Rattle.edit_reader.specs.Fields.{only}
use Rattle.edit_reader.specs.Grammars.{spelled_kind}
use Rattle.edit_reader.specs.Records.{name_in, record_of, change_of}
use Rattle.edit_reader.specs.Tables.{rows_of, names_in, free_names}
use Rattle.edit_reader.specs.declared.event.ReadRefusal.TheVariants.{NotObject, UnknownEvent}
use Rattle.edit_reader.specs.declared.operations.Verb.{Verb}
use Rattle.edit_reader.specs.declared.operations.Verb.TheVariants as verb

-- ---- what an operation begins with

-- exactly one of add, set and remove, and its value
abbrev pub one_verb : Option Data → Option Data → Option Data → Option (Verb × Data)
one_verb (Some v) None None = Some (verb.Add, v)
one_verb None (Some v) None = Some (verb.Set, v)
one_verb None None (Some v) = Some (verb.Remove, v)
one_verb _ _ _ = None

unfoldable pub verb_of : Data → Option (Verb × Data)
verb_of d = one_verb (get (codes "add") d) (get (codes "set") d) (get (codes "remove") d)

-- the verb, and the kind that it names
unfoldable pub head_of : Data → Option (Verb × Kind)
head_of d = option_and_then (λ v. option_map (λ k. (v.0, k)) (option_and_then spelled_kind (as_str v.1))) (verb_of d)

-- ---- the names of its fields

unfoldable pub only_added : Kind → Data → Read ⊤
only_added k d = only (codes "add" ∷ codes "name" ∷ names_in (rows_of k) d) d

unfoldable pub only_set : Kind → Data → Read ⊤
only_set k d = only (codes "set" ∷ codes "name" ∷ free_names (rows_of k)) d

unfoldable pub only_removed : Data → Read ⊤
only_removed d = only (codes "remove" ∷ codes "name" ∷ []) d

-- ---- one operation

unfoldable pub added_of : Kind → Data → Read Op
added_of k d = do
  known ← only_added k d
  added ← record_of k d
  Ok (op.Add added)

unfoldable pub set_of : Kind → Data → Read Op
set_of k d = do
  known ← only_set k d
  name ← name_in d
  change ← change_of k d
  Ok (op.Set k name change)

unfoldable pub removed_of : Kind → Data → Read Op
removed_of k d = do
  known ← only_removed d
  name ← name_in d
  Ok (op.Remove k name)

abbrev pub op_by : Option (Verb × Kind) → Data → Read Op
op_by (Some (verb.Add, k)) d = added_of k d
op_by (Some (verb.Set, k)) d = set_of k d
op_by (Some (verb.Remove, k)) d = removed_of k d
op_by None d = Err UnknownEvent

unfoldable pub op_of : Data → Read Op
op_of d = if is_some (as_object d) then op_by (head_of d) d else Err NotObject

-- ---- an edit

abbrev pub ops_of : Items → Read (List Op)
ops_of no_items = Ok []
ops_of (item d ds) = op_of d >>= λ x. ops_of ds >>= λ xs. Ok (x ∷ xs)

-- 1 to 64 operations
abbrev pub few_operations : Items → Option Items
few_operations items = if nat_le 1 (items_len items) && nat_le (items_len items) MAX_OPERATIONS then Some items else None

-- their number is asked before the first is read
unfoldable pub edit_of : Data → Read (List Op)
edit_of d = do
  items ← of_kind (codes "edit") (as_array d)
  few ← in_range (codes "edit") (few_operations items)
  ops_of few
