use Rattle.std.proofs.Common.{sym, subst}
use Rattle.key_tests.specs.Register.{IsRegister}
use Rattle.key_tests.proofs.RegisterLaws.{settled_register}
use Rattle.key_tests.proofs.register.Register.settle.Goals as goal

pub invariant_of-self : goal.invariant_of-self
invariant_of-self c = subst (λ k. IsRegister k c.self.inside.last_birth c.self.inside.last_port) (sym c.settle.ensures) (settled_register c.self.inside.keys c.self.inside.last_birth c.self.inside.last_port c.self.invariant)
