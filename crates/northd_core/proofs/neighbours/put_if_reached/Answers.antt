use Rattle.std.proofs.Common.{sym}
use Rattle.northd_core.proofs.ReachedUnits.{one_reached}
use Rattle.northd_core.proofs.neighbours.put_if_reached.Goals as goal

pub returns-in_ok-insert-in-Some : goal.returns-in_ok-insert-in-Some
returns-in_ok-insert-in-Some c =
    one_reached c.args.records.now c.args.port.now c.exact_unit_order.ensures c.args.ip c.in-Some.field-0 c.args.units.now.keys c.insert.new.self.keys (sym c.in-Some.ensures)
    c.in_ok-insert-in-Some.ensures.keys
