use Rattle.std.proofs.Common.{◌≡◌, ◌++◌}
use Rattle.stage_rows.proofs.answered.listed.Given as goal

abbrev pub invariant-loop-ip : goal.invariant-loop-ip
invariant-loop-ip l = l.ips ++ l.ip-iterator ≡ l.initial.ip-iterator
