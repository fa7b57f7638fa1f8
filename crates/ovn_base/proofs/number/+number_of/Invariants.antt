use Rattle.std.specs.Prelude.{length}
use Rattle.ovn_base.proofs.number.+number_of.Given as goal

abbrev pub decreases-number_of : goal.decreases-number_of
decreases-number_of l = length l.text.now
