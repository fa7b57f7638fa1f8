use Rattle.std.proofs.Common.{◌<◌, arith}
use Rattle.conn_table.proofs.HeldPortsLaws.{picked_port, no_port}
use Rattle.conn_table.proofs.zone.Zone.least_port.Goals as goal

pub returns-then-port-eq-ALL_PORTS-clause-none : goal.returns-then-port-eq-ALL_PORTS-clause-none
returns-then-port-eq-ALL_PORTS-clause-none c =
    no_port c.args.self.now c.args.back.now c.requires (λ n low high. c.least_from-port.ensures.held n low (omega (arith, high, c.if-port-eq-ALL_PORTS.true)))

pub returns-clause-some : goal.returns-clause-some
returns-clause-some c =
    let below : c.least_from-port.result < 65536 = omega (arith, c.least_from-port.ensures.high, c.if-port-eq-ALL_PORTS.false) in
    picked_port c.args.self.now c.args.back.now c.least_from-port.result c.requires c.least_from-port.ensures.low below (c.least_from-port.ensures.free below) c.least_from-port.ensures.held
