-- An edit marks no backend: a mark is an event of its own.
use Rattle.std.specs.Prelude.{ℕ, List, [], ◌∷◌}
use Rattle.std.specs.List.{AllByRecursion}
use Rattle.edit_reader.specs.Fitting.{IsEdit}
use Rattle.nb_edits.specs.EditLeaves.{EachMarksListed, MarksListed}
use Rattle.nb_records.specs.Editing.{operated}
use Rattle.nb_records.specs.Network.{Network}
use Rattle.nb_records.specs.declared.change.Op.{Op}
use Rattle.nb_records.specs.declared.change.Op.TheVariants as op

edit_marks_none : (net : Network) (o : Op) → IsEdit o → MarksListed net o
edit_marks_none net (op.Add r) is = tt
edit_marks_none net (op.Set k q c) is = tt
edit_marks_none net (op.Remove k q) is = tt
edit_marks_none net (op.Health balancer backend online) is = absurd is

pub edits_mark_listed : (net : Network) (ops : List Op) (n : ℕ) → AllByRecursion IsEdit ops → EachMarksListed net ops n
edits_mark_listed net [] n each = tt
edits_mark_listed net (o ∷ ops) n each = (edit_marks_none net o each.0, edits_mark_listed (operated net o n) ops n each.1)
