use Rattle.std.specs.Prelude.{◌≡◌, ◌++◌, map, drop}
use Rattle.northd_core.proofs.rows.paired.Given as goal

abbrev pub invariant-rows : goal.invariant-rows
invariant-rows l = l.pairs ++ map (λ r. (r, l.on)) (drop l.row-index l.rows) ≡ map (λ r. (r, l.on)) l.rows
