use Rattle.std.proofs.Common.{subst, sym}
use Rattle.memory_tests.proofs.Left.{left_compiled}
use Rattle.nb_rules.specs.Valid.{IsValid}
use Rattle.northd_core.specs.Held.{StandsFor}
use Rattle.memory_tests.proofs.compiler.follow.Goals as goal

pub returns-in_err-change : goal.returns-in_err-change
returns-in_err-change c = left_compiled _ _ _ c.prepare.ensures.left c.requires.compiled

pub returns-in_err-come : goal.returns-in_err-come
returns-in_err-come c = left_compiled _ _ _ c.prepare.ensures.left c.requires.compiled

pub returns-in_err-gone : goal.returns-in_err-gone
returns-in_err-gone c = left_compiled _ _ _ c.prepare.ensures.left c.requires.compiled

pub returns : goal.returns
returns c = record {
  valid = subst IsValid (sym c.apply.ensures) c.requires.valid;
  stands = subst (λ net. StandsFor net c.apply-flows.new.self) (sym c.apply.ensures) (c.apply-flows.ensures.leads _ _ c.in_ok-change.ensures.planned);
}
