use Rattle.std.specs.Prelude.{is_some, not, ◌+◌, refl}
use Rattle.std.proofs.Common.{sym, ap, subst, ◌∙◌}
use Rattle.tunnel_keys.specs.declared.owner.KeyOwner.{KeyOwner}
use Rattle.tunnel_keys.specs.declared.owner.KeyOwner.TheVariants.{Port}
use Rattle.key_tests.specs.Register.{IsRegister}
use Rattle.key_tests.proofs.RegisterLaws.{port_comes, port_came}
use Rattle.key_tests.proofs.register.Register.add_port.Goals as goal

pub edit-requires : goal.edit-requires
edit-requires c =
    let absent = sym (c.is_some.ensures ∙ ap is_some c.port.ensures) ∙ c.if-is_some.false in
    let there = ap is_some (sym c.datapath.ensures) ∙ c.is_none.ensures ∙ ap not c.if-is_none.false in
    port_comes c.self.inside.keys c.self.inside.last_birth c.self.inside.last_port c.self.invariant c.keys_hold.ensures (c.self.inside.last_birth + 1) refl c.args.datapath c.args.name there absent

pub invariant_of-self : goal.invariant_of-self
invariant_of-self c = subst (λ k. IsRegister k c.self.inside.last_birth c.self.inside.last_port) (sym c.in_err-edit.ensures.kept) c.self.invariant

pub invariant_of-self-2 : goal.invariant_of-self-2
invariant_of-self-2 c =
    let owner : KeyOwner = Port c.args.datapath c.args.name (record { 0 = c.self.inside.last_birth + 1 }) in
    port_came c.self.inside.keys c.self.inside.last_birth c.self.inside.last_port c.self.invariant c.keys_hold.ensures (c.self.inside.last_birth + 1) refl owner refl c.edit.new.keys c.in_ok-edit.ensures.after c.args.datapath c.args.name refl
