use Rattle.std.proofs.Common.{◌≡◌, ◌++◌, [], ◌∷◌, map, drop, codes, if◌then◌else◌}
use Rattle.match_language.specs.Spelling.{rest_text}
use Rattle.logical_flows.specs.FlowText.{reg_text, expr_text, asked_text, top_of}
use Rattle.logical_flows.proofs.print_match.push_asked.Given as goal

abbrev pub invariant-loop-reg_is : goal.invariant-loop-reg_is
invariant-loop-reg_is l =
    l.out.items ++ rest_text (codes " && ") (map reg_text (drop l.reg_is-index l.rest) ++ (if (top_of l.expr).is_one then [] else expr_text l.expr ∷ []))
    ≡ l.fn.out.items ++ asked_text l.fn.asked l.fn.expr
