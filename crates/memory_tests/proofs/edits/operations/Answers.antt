use Rattle.std.proofs.Common.{subst}
use Rattle.edit_reader.specs.Fitting.{IsEventInGrammar}
use Rattle.memory_tests.proofs.edits.operations.Goals as goal

pub returns-in-Ok-Edit : goal.returns-in-Ok-Edit
returns-in-Ok-Edit c = (subst IsEventInGrammar c.in-Ok-Edit.field-0-is (c.read_is_in_grammar.ensures _ _ c.in-Ok-Edit.ensures)).each
