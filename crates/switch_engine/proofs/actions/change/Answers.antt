use Rattle.std.proofs.Common.{sym, subst}
use Rattle.switch_engine.specs.Proper.{Sets}
use Rattle.switch_engine.specs.Range.{IsInRange}
use Rattle.switch_engine.proofs.Ranges.{set_in_range}
use Rattle.switch_engine.proofs.Wholes.{whole_between}
use Rattle.switch_engine.proofs.actions.change.Goals as goal

pub returns-in-Set-clause-in_range : goal.returns-in-Set-clause-in_range
returns-in-Set-clause-in_range c = record {
  table = c.requires.in_range.table;
  regs = subst IsInRange (sym c.set.ensures) (set_in_range c.in-Set.reg c.in-Set.value c.args.copy.now.regs (subst Sets c.in-Set.is c.requires.sets) c.requires.in_range.regs);
  whole = c.requires.in_range.whole;
  passes = c.requires.in_range.passes;
}

pub returns-in-EthSrc-clause-in_range : goal.returns-in-EthSrc-clause-in_range
returns-in-EthSrc-clause-in_range c = record {
  table = c.requires.in_range.table;
  regs = c.requires.in_range.regs;
  whole = whole_between c.args.copy.now.packet.dst c.in-EthSrc.mac c.args.copy.now.packet c.requires.in_range.whole;
  passes = c.requires.in_range.passes;
}

pub returns-in-EthDst-clause-in_range : goal.returns-in-EthDst-clause-in_range
returns-in-EthDst-clause-in_range c = record {
  table = c.requires.in_range.table;
  regs = c.requires.in_range.regs;
  whole = whole_between c.in-EthDst.mac c.args.copy.now.packet.src c.args.copy.now.packet c.requires.in_range.whole;
  passes = c.requires.in_range.passes;
}
