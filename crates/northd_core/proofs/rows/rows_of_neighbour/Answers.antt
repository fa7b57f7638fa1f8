use Rattle.std.proofs.Common.{sym}
use Rattle.northd_core.proofs.RowUnits.{admits_neighbour}
use Rattle.northd_core.proofs.rows.rows_of_neighbour.Goals as goal

pub translate-requires : goal.translate-requires
translate-requires g c = admits_neighbour c.args.records.now c.args.port.now c.args.ip c.in-Some.field-0 (sym c.in-Some.ensures)
