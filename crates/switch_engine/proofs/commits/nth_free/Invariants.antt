use Rattle.std.proofs.Common.{◌≡◌, drop}
use Rattle.std.specs.Prelude.{slice_get}
use Rattle.std.specs.List.{filter}
use Rattle.conn_table.specs.Picks.{is_free_backend}
use Rattle.switch_engine.proofs.commits.nth_free.Given as goal

-- it is the one at what is left of the index, among the backends that are left
abbrev pub invariant-backends : goal.invariant-backends
invariant-backends l =
    slice_get (filter (is_free_backend l.zone l.tuple) (drop l.backend-index l.backends)) l.left ≡ slice_get (filter (is_free_backend l.zone l.tuple) l.backends) l.index
