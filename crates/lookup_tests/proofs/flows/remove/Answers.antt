use Rattle.std.proofs.Common.{[], sym, subst}
use Rattle.ovn_base.specs.lists.Among.{Among}
use Rattle.ovn_base.specs.lists.Once.{EachOnce}
use Rattle.ovn_base.proofs.AmongLaws.{among_none}
use Rattle.lookup_tests.proofs.flows.remove.Goals as goal

pub prepare-requires : goal.prepare-requires
prepare-requires g c = record { once = subst EachOnce (sym c.new.ensures) tt; new = λ f a m. absurd (among_none f (subst (λ l. Among f l) c.new.ensures a)) }
