use Rattle.std.specs.Prelude.{◌≡◌, map, drop}
use Rattle.std.specs.List.{AllByRecursion}
use Rattle.edit_reader.specs.Fields.{each_by}
use Rattle.edit_reader.proofs.Loops.{behind_found}
use Rattle.edit_reader.proofs.field.each_by.Given as goal

abbrev pub invariant-texts : goal.invariant-texts
invariant-texts g l = record {
  value : behind_found l.each (each_by (g.G.Grammar.spelled l.grammar) (map (λ t. t.now) (drop l.text-index l.texts))) ≡ each_by (g.G.Grammar.spelled l.grammar) (map (λ t. t.now) l.texts);
  suits : AllByRecursion (g.G.Grammar.suits l.grammar) l.each;
}
