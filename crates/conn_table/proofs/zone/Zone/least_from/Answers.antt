use Rattle.std.proofs.Common.{◌≡◌, ◌<◌, ◌+◌, ◌*◌, true, arith, ap, refl, subst, sym, ◌∙◌}
use Rattle.conn_table.specs.declared.tuple.Tuple.{Tuple}
use Rattle.conn_table.specs.Connections.{ConnectionList, is_free}
use Rattle.conn_table.specs.HeldPorts.{IsBlock, IsFloor}
use Rattle.conn_table.specs.Picks.{with_port, is_free_port}
use Rattle.conn_table.proofs.HeldPortsLaws.{at_port, port_again, block_at, none_through}
use Rattle.conn_table.proofs.zone.Zone.least_from.Goals as goal

pub each-init : goal.each-init
each-init c = record { same = refl; from = omega (arith, c.requires.low); none = λ n low high. c.requires.held n low (omega (arith, high)) }

pub each-preserved : goal.each-preserved
each-preserved c =
    let list = c.args.self.now in
    let floor : IsFloor 256 list c.with_port.result c.least_in-port.result = subst (λ (l : ConnectionList). IsFloor 256 l c.with_port.result c.least_in-port.result) c.each.invariant.same c.least_in-port.ensures.floor in
    record {
      same = c.least_in-port.ensures.unchanged ∙ c.each.invariant.same;
      from = omega (arith, c.each.invariant.from);
      none = λ n low high. none_through list c.args.back.now c.with_port.result c.each.number c.least_in-port.result c.with_port.ensures floor c.each.invariant.none n low (omega (arith, high, c.if-port-first.false));
    }

pub least_in-port-requires : goal.least_in-port-requires
least_in-port-requires c = subst (λ t. IsBlock 256 t) (sym c.with_port.ensures) (block_at c.each.number c.args.back.now c.each-test.true)

pub returns-then-port-first-clause-held : goal.returns-then-port-first-clause-held
returns-then-port-first-clause-held c =
    let list = c.args.self.now in
    let floor : IsFloor 256 list c.with_port.result c.least_in-port.result = subst (λ (l : ConnectionList). IsFloor 256 l c.with_port.result c.least_in-port.result) c.each.invariant.same c.least_in-port.ensures.floor in
    none_through list c.args.back.now c.with_port.result c.each.number c.least_in-port.result c.with_port.ensures floor c.each.invariant.none

pub returns-then-port-first-clause-free : goal.returns-then-port-first-clause-free
returns-then-port-first-clause-free c most =
    let list = c.args.self.now in
    let back = c.args.back.now in
    let n = c.least_in-port.result in
    let start : c.with_port.result.dst_port ≡ c.each.number * 256 = ap (λ (t : Tuple). t.dst_port) c.with_port.ensures ∙ at_port (c.each.number * 256) back in
    let within : n < c.with_port.result.dst_port + 256 = omega (arith, start, c.if-port-first.true) in
    let free : is_free_port list c.with_port.result n ≡ true = subst (λ (l : ConnectionList). is_free_port l c.with_port.result n ≡ true) c.each.invariant.same (c.least_in-port.ensures.free within) in
    subst (λ u. is_free list u ≡ true) (ap (λ u. with_port n u) c.with_port.ensures ∙ port_again n (c.each.number * 256) back) free
