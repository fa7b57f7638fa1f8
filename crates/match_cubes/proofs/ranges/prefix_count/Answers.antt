use Rattle.match_cubes.proofs.PrefixEnds.{count_full_less, count_full_most, count_full_none}
use Rattle.match_cubes.proofs.ranges.prefix_count.Goals as goal

pub returns-in-Lt : goal.returns-in-Lt
returns-in-Lt c = count_full_less c.args.width c.args.rel c.args.bound c.in-Lt.is c.if-bound-width-eq0.false

pub returns-in-Le : goal.returns-in-Le
returns-in-Le c = count_full_most c.args.width c.args.rel c.args.bound c.in-Le.is c.if-bound-width-eq0.false

pub returns-in_default : goal.returns-in_default
returns-in_default c = count_full_none c.args.width c.args.rel c.args.bound c.if-bound-width-eq0.false c.in_default.not-Lt c.in_default.not-Le
