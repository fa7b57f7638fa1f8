use Rattle.conn_table.proofs.HeldPortsLaws.{forgetting_begun, one_forgotten, all_forgotten}
use Rattle.conn_table.proofs.held_ports.forget_all_idle.Goals as goal

pub loop-entry-init : goal.loop-entry-init
loop-entry-init c = record {
  few = forgetting_begun 256 c.args.now c.args.entries.now.entries c.into_iter-entry-iterator.result c.args.floors.now.entries c.into_iter-entry-iterator.ensures.into_iter_gives.0;
  all = forgetting_begun 65536 c.args.now c.args.entries.now.entries c.into_iter-entry-iterator.result c.args.starts.now.entries c.into_iter-entry-iterator.ensures.into_iter_gives.0;
}

pub loop-entry-preserved : goal.loop-entry-preserved
loop-entry-preserved c = record {
  few = one_forgotten 256 c.args.now c.args.entries.now.entries (c.in-Some.field-0-0.now, c.in-Some.entry.now) c.loop-entry.entry-iterator c.next.new.self c.args.floors.now.entries
      c.loop-entry.floors.entries c.forget_idle.new.floors.entries c.in-Some.ensures.steps c.forget_idle.ensures c.loop-entry.invariant.few;
  all = one_forgotten 65536 c.args.now c.args.entries.now.entries (c.in-Some.field-0-0.now, c.in-Some.entry.now) c.loop-entry.entry-iterator c.next.new.self c.args.starts.now.entries
      c.loop-entry.starts.entries c.forget_idle-in-loop-entry.new.floors.entries c.in-Some.ensures.steps c.forget_idle-in-loop-entry.ensures c.loop-entry.invariant.all;
}

pub returns-clause-few : goal.returns-clause-few
returns-clause-few c = all_forgotten 256 c.args.now c.args.entries.now.entries c.loop-entry.entry-iterator c.args.floors.now.entries c.loop-entry.floors.entries c.in-None.ensures.steps.0 c.loop-entry.invariant.few

pub returns-clause-all : goal.returns-clause-all
returns-clause-all c = all_forgotten 65536 c.args.now c.args.entries.now.entries c.loop-entry.entry-iterator c.args.starts.now.entries c.loop-entry.starts.entries c.in-None.ensures.steps.0 c.loop-entry.invariant.all
