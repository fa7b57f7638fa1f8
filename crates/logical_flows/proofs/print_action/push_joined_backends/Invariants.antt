use Rattle.std.proofs.Common.{◌≡◌, ◌++◌, map, drop, codes}
use Rattle.match_language.specs.Spelling.{rest_text, joined_text}
use Rattle.logical_flows.specs.FlowText.{backend_text}
use Rattle.logical_flows.proofs.print_action.push_joined_backends.Given as goal

abbrev pub invariant-loop-backend : goal.invariant-loop-backend
invariant-loop-backend l = l.out.items ++ rest_text (codes ",") (map backend_text (drop l.backend-index l.rest)) ≡ l.fn.out.items ++ joined_text (codes ",") (map backend_text l.fn.backends)
