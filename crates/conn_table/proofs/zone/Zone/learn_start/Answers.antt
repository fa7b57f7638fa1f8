use Rattle.std.proofs.Common.{subst, sym}
use Rattle.conn_table.specs.declared.tuple.Tuple.{Tuple}
use Rattle.conn_table.specs.Connections.{ConnectionList}
use Rattle.conn_table.specs.HeldPorts.{IsBlock, IsFloor, NoneFreeBelow}
use Rattle.conn_table.proofs.HeldPortsLaws.{whole_block, floor_of_all, floors_learnt}
use Rattle.conn_table.proofs.zone.Zone.learn_start.Goals as goal

pub invariant_of-self-2 : goal.invariant_of-self-2
invariant_of-self-2 c =
    let list = c.self.inside.entries.entries in
    let back = c.args.back.now in
    let block : IsBlock 65536 c.with_port.result = subst (λ (t : Tuple). IsBlock 65536 t) (sym c.with_port.ensures) (whole_block back) in
    let floor : IsFloor 65536 list c.with_port.result c.args.start = subst (λ (t : Tuple). IsFloor 65536 list t c.args.start) (sym c.with_port.ensures)
    (floor_of_all list back c.args.start c.requires.high (subst (λ (l : ConnectionList). NoneFreeBelow l back c.args.start) (sym c.self.view_is) c.requires.held)) in (
      c.self.invariant.0,
      record {
        few = c.self.invariant.1.few;
        all = floors_learnt 65536 list c.self.inside.starts.entries c.insert.new.self.entries c.with_port.result c.args.start block floor c.in_ok-insert.ensures.updates.0 c.self.invariant.1.all;
      },
    )
