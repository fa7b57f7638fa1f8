use Rattle.std.proofs.Common.{◌≡◌, ◌++◌, drop, codes}
use Rattle.match_language.specs.Spelling.{rest_text, joined_text}
use Rattle.logical_flows.proofs.print_flow.push_names.Given as goal

abbrev pub invariant-loop-name : goal.invariant-loop-name
invariant-loop-name l = l.out.items ++ rest_text (codes ",") (drop l.name-index l.rest) ≡ l.fn.out.items ++ joined_text (codes ",") l.fn.names
