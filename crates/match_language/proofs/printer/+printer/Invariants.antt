use Rattle.std.proofs.Common.{◌≡◌, ◌++◌, map, drop}
use Rattle.match_language.specs.Spelling.{rest_text, joined_text, inner_spelling}
use Rattle.match_language.proofs.printer.+printer.Given as goal

abbrev pub invariant-push_joined-loop-term : goal.invariant-push_joined-loop-term
invariant-push_joined-loop-term l = l.out.items ++ rest_text l.operator (map inner_spelling (drop l.term-index l.rest)) ≡ l.fn.out.items ++ joined_text l.operator (map inner_spelling l.fn.terms)
