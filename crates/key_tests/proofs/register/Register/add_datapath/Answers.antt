use Rattle.std.specs.Prelude.{is_some, ◌+◌, refl}
use Rattle.std.proofs.Common.{sym, ap, subst, ◌∙◌}
use Rattle.tunnel_keys.specs.declared.owner.KeyOwner.TheVariants.{Datapath}
use Rattle.key_tests.specs.Register.{IsRegister}
use Rattle.key_tests.proofs.RegisterLaws.{datapath_comes, other_came}
use Rattle.key_tests.proofs.register.Register.add_datapath.Goals as goal

pub edit-requires : goal.edit-requires
edit-requires c =
    let absent = sym (c.is_some.ensures ∙ ap is_some c.datapath.ensures) ∙ c.if-is_some.false in
    datapath_comes c.self.inside.keys c.self.inside.last_birth c.self.inside.last_port c.self.invariant c.keys_hold.ensures (c.self.inside.last_birth + 1) refl c.args.name absent

pub invariant_of-self : goal.invariant_of-self
invariant_of-self c = subst (λ k. IsRegister k c.self.inside.last_birth c.self.inside.last_port) (sym c.in_err-edit.ensures.kept) c.self.invariant

pub invariant_of-self-2 : goal.invariant_of-self-2
invariant_of-self-2 c = other_came c.self.inside.keys c.self.inside.last_birth c.self.inside.last_port c.self.invariant c.keys_hold.ensures (c.self.inside.last_birth + 1) refl (Datapath c.args.name (record { 0 = c.self.inside.last_birth + 1 })) refl c.edit.new.keys c.in_ok-edit.ensures.after
