use Rattle.std.proofs.Common.{sym, subst}
use Rattle.key_tests.specs.Register.{IsRegister}
use Rattle.key_tests.proofs.RegisterLaws.{last_goes, last_gone}
use Rattle.key_tests.proofs.register.Register.remove_last_port.Goals as goal

pub edit-requires : goal.edit-requires
edit-requires c = last_goes c.self.inside.keys c.self.inside.last_birth c.self.inside.last_port c.self.invariant c.keys_hold.ensures c.in-Some.owner c.in-Some.is

pub invariant_of-self : goal.invariant_of-self
invariant_of-self c = subst (λ k. IsRegister k c.self.inside.last_birth c.self.inside.last_port) (sym c.in_err-edit.ensures.kept) c.self.invariant

pub invariant_of-self-2 : goal.invariant_of-self-2
invariant_of-self-2 c = last_gone c.self.inside.keys c.self.inside.last_birth c.self.inside.last_port c.self.invariant c.keys_hold.ensures c.in-Some.owner c.in-Some.is c.edit.new.keys c.in_ok-edit.ensures.after
