use Rattle.std.proofs.Common.{sym}
use Rattle.northd_core.proofs.RowUnits.{admits_router_port}
use Rattle.northd_core.proofs.rows.rows_of_router_port.Goals as goal

pub translate-requires : goal.translate-requires
translate-requires g c =
    admits_router_port c.args.records.now c.requires.valid c.args.port.now c.in-Some.field-0.now (sym c.in-Some.ensures) c.requires.none
