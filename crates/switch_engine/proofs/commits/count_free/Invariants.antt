use Rattle.std.proofs.Common.{◌≡◌, ◌≤◌, ◌+◌, drop, length}
use Rattle.std.specs.List.{filter}
use Rattle.conn_table.specs.Picks.{is_free_backend}
use Rattle.switch_engine.proofs.commits.count_free.Given as goal

-- those so far and those among the backends that are left are those among all
abbrev pub invariant-backends : goal.invariant-backends
invariant-backends l = record {
  counted : l.count + length (filter (is_free_backend l.zone l.tuple) (drop l.backend-index l.backends)) ≡ length (filter (is_free_backend l.zone l.tuple) l.backends);
  few : l.count ≤ l.backend-index;
}
