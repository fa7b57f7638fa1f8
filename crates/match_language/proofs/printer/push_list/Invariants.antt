use Rattle.std.proofs.Common.{◌≡◌, ◌++◌, map, drop, codes}
use Rattle.match_language.specs.Spelling.{rest_text, joined_text, value_text}
use Rattle.match_language.proofs.printer.push_list.Given as goal

abbrev pub invariant-loop-value : goal.invariant-loop-value
invariant-loop-value l = l.out.items ++ rest_text (codes ", ") (map (value_text l.field) (drop l.value-index l.rest)) ≡ l.fn.out.items ++ joined_text (codes ", ") (map (value_text l.field) l.fn.values)
