use Rattle.conn_table.proofs.TupleLaws.{at_among}
use Rattle.conn_table.proofs.zone.Zone.entry.Goals as goal

pub returns-clause-connection : goal.returns-clause-connection
returns-clause-connection c =
    c.self.invariant.0.law.connections c.args.slot.forward c.index.result.now
    (at_among c.self.inside.entries.entries c.args.slot.forward c.index.result.now c.index.ensures)
