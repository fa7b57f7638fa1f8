use Rattle.std.proofs.Common.{arith, ap, subst, sym, ◌∙◌}
use Rattle.conn_table.specs.declared.tuple.Tuple.{Tuple}
use Rattle.conn_table.specs.Connections.{ConnectionList}
use Rattle.conn_table.specs.HeldPorts.{floor_of, IsFloor, NoneFreeBelow}
use Rattle.conn_table.specs.Picks.{with_port}
use Rattle.conn_table.proofs.HeldPortsLaws.{floor_known, start_of}
use Rattle.conn_table.proofs.zone.Zone.start.Goals as goal

pub returns-clause-held : goal.returns-clause-held
returns-clause-held c =
    let list = c.self.inside.entries.entries in
    let floors = c.self.inside.starts.entries in
    let back = c.args.back.now in
    let known : IsFloor 65536 list (with_port 0 back) c.floor.result = subst (λ n. IsFloor 65536 list (with_port 0 back) n) (ap (λ (t : Tuple). floor_of floors t) (sym c.with_port.ensures) ∙ sym c.floor.ensures)
    (floor_known 65536 list floors (with_port 0 back) c.self.invariant.1.all) in
    subst (λ (l : ConnectionList). NoneFreeBelow l back c.max.result) c.self.view_is (λ n low high. start_of list back c.floor.result known n low (omega (arith, low, high, c.max.ensures, c.from.ensures)))
