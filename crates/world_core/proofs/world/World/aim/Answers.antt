use Rattle.std.proofs.Common.{◌≡◌, Some, sym, ap, ◌∙◌}
use Rattle.std.proofs.lemmas.Option.{same_Some}
use Rattle.net_model.specs.declared.crossing.Aim.TheVariants.{ToPort}
use Rattle.world_core.proofs.NumberedNames.{aims_flood, aims_unknown, aims_port}
use Rattle.world_core.proofs.world.World.aim.Goals as goal

pub returns-then-key-eq-FLOOD_KEY : goal.returns-then-key-eq-FLOOD_KEY
returns-then-key-eq-FLOOD_KEY c = λ switch aim under n. ap (λ a. Some a) (sym (aims_flood c.args.self.now.state c.requires.keys switch c.args.key c.if-key-eq-FLOOD_KEY.true aim n))

pub returns-then-key-eq-UNKNOWN_KEY : goal.returns-then-key-eq-UNKNOWN_KEY
returns-then-key-eq-UNKNOWN_KEY c = λ switch aim under n. ap (λ a. Some a) (sym (aims_unknown c.args.self.now.state c.requires.keys switch c.args.key c.if-key-eq-UNKNOWN_KEY.true aim n))

pub returns-in_default : goal.returns-in_default
returns-in_default c = λ switch aim under n.
    let p = aims_port c.args.self.now.state c.requires.keys switch c.args.key c.if-key-eq-FLOOD_KEY.false c.if-key-eq-UNKNOWN_KEY.false aim n in
    absurd (c.in_default.not-Some p.id (c.port_of_key.ensures switch p.id under p.number))

pub returns : goal.returns
returns c = λ switch aim under n.
    let p = aims_port c.args.self.now.state c.requires.keys switch c.args.key c.if-key-eq-FLOOD_KEY.false c.if-key-eq-UNKNOWN_KEY.false aim n in
    let port : c.in-Some.port ≡ p.id = same_Some c.in-Some.port p.id (sym c.in-Some.is ∙ c.port_of_key.ensures switch p.id under p.number) in
    ap (λ id. Some (ToPort id)) port ∙ ap (λ a. Some a) (sym p.is)
