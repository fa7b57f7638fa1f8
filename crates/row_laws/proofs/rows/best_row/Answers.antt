use Rattle.row_laws.proofs.lowered.BestRows.{best_row, some_matches, none_matches}
use Rattle.row_laws.proofs.rows.best_row.Goals as goal

pub returns-clause-best : goal.returns-clause-best
returns-clause-best c = best_row

pub returns-clause-some : goal.returns-clause-some
returns-clause-some c = some_matches

pub returns-clause-none : goal.returns-clause-none
returns-clause-none c = none_matches
