use Rattle.std.proofs.Common.{subst, sym}
use Rattle.conn_table.specs.Connections.{ConnectionList}
use Rattle.conn_table.specs.HeldPorts.{IsFloor}
use Rattle.conn_table.proofs.HeldPortsLaws.{floors_learnt}
use Rattle.conn_table.proofs.zone.Zone.learn.Goals as goal

pub invariant_of-self-2 : goal.invariant_of-self-2
invariant_of-self-2 c = (
  c.self.invariant.0,
  record {
    few = floors_learnt 256 c.self.inside.entries.entries c.self.inside.floors.entries c.insert.new.self.entries c.args.block.now c.args.floor c.requires.block
        (subst (λ (l : ConnectionList). IsFloor 256 l c.args.block.now c.args.floor) (sym c.self.view_is) c.requires.floor) c.in_ok-insert.ensures.updates.0 c.self.invariant.1.few;
    all = c.self.invariant.1.all;
  },
)
