use Rattle.std.proofs.Common.{arith, ◌-◌}
use Rattle.std.proofs.lemmas.Nat.{ones-le}
use Rattle.match_cubes.proofs.PrefixEnds.{count_less, count_most, count_most_all, count_greater, count_least, count_least_all, count_none}
use Rattle.match_cubes.proofs.ranges.count_within.Goals as goal

pub overflow_sub-result : goal.overflow_sub-result
overflow_sub-result c = ones-le c.args.width c.args.bound c.requires.within

pub overflow_sub-result-else-bound-eq0-2 : goal.overflow_sub-result-else-bound-eq0-2
overflow_sub-result-else-bound-eq0-2 c = ones-le c.args.width (c.args.bound - 1) (omega (arith, c.requires.within))

pub returns-in-Lt : goal.returns-in-Lt
returns-in-Lt c = count_less c.args.width c.args.rel c.args.bound c.in-Lt.is c.requires.within

pub returns-then-bound-width : goal.returns-then-bound-width
returns-then-bound-width c = count_most_all c.args.width c.args.rel c.args.bound c.in-Le.is c.requires.wide c.if-bound-width.true

pub returns-else-bound-width : goal.returns-else-bound-width
returns-else-bound-width c = count_most c.args.width c.args.rel c.args.bound c.in-Le.is c.requires.wide c.requires.within c.if-bound-width.false

pub returns-in-Gt : goal.returns-in-Gt
returns-in-Gt c = count_greater c.args.width c.args.rel c.args.bound c.in-Gt.is c.requires.within

pub returns-then-bound-eq0 : goal.returns-then-bound-eq0
returns-then-bound-eq0 c = count_least_all c.args.width c.args.rel c.args.bound c.in-Ge.is c.if-bound-eq0.true

pub returns-else-bound-eq0 : goal.returns-else-bound-eq0
returns-else-bound-eq0 c = count_least c.args.width c.args.rel c.args.bound c.in-Ge.is c.requires.within c.if-bound-eq0.false

pub returns-in_default : goal.returns-in_default
returns-in_default c = count_none c.args.width c.args.rel c.args.bound c.in_default.not-Lt c.in_default.not-Le c.in_default.not-Gt c.in_default.not-Ge
