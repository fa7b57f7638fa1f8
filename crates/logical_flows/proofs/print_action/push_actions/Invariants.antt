use Rattle.std.proofs.Common.{◌≡◌, ◌++◌, map, drop, codes}
use Rattle.match_language.specs.Spelling.{rest_text, joined_text}
use Rattle.logical_flows.specs.FlowText.{action_text}
use Rattle.logical_flows.proofs.print_action.push_actions.Given as goal

abbrev pub invariant-loop-action : goal.invariant-loop-action
invariant-loop-action l = l.out.items ++ rest_text (codes ";") (map action_text (drop l.action-index l.rest)) ≡ l.fn.out.items ++ joined_text (codes ";") (map action_text l.fn.actions)
