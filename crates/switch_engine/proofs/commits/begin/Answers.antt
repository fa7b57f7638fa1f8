use Rattle.std.proofs.Common.{◌≡◌, [], refl, sym, ap, ◌∙◌, subst}
use Rattle.conn_table.specs.Tracking.{with_option}
use Rattle.inet_packet.specs.declared.packet.Packet.{Packet}
use Rattle.switch_engine.specs.declared.actions.Turn.TheVariants.{Next}
use Rattle.switch_engine.specs.Advance.{ActionDoes}
use Rattle.switch_engine.specs.Commits.{adds}
use Rattle.switch_engine.proofs.Beginnings.{does_add, does_refuse}
use Rattle.switch_engine.proofs.Begun.{tuple_is}
use Rattle.switch_engine.proofs.commits.begin.Goals as goal

pub returns-in-Some-clause-does : goal.returns-in-Some-clause-does
returns-in-Some-clause-does c = λ n is.
    does_refuse c.args.now c.args.number c.args.zones.now.entries c.args.copy.now n is c.args.connection.now.from c.args.connection.now.back
    (tuple_is c.args.number c.args.zones.now.entries c.args.copy.now c.args.connection.now.from n c.requires.is_new is) (with_option c.args.connection.now.to c.args.copy.now.packet)
    c.in-Some.cause (sym c.in_ok-cause.ensures.refused ∙ c.in-Some.is) c.in_ok-cause.ensures.zones c.in_ok-drop_copy.ensures.effects

pub returns-in-Some-to-clause-does : goal.returns-in-Some-to-clause-does
returns-in-Some-to-clause-does c = λ n is.
    let same : with_option c.args.connection.now.to c.args.copy.now.packet ≡ c.rewrite.new.packet = ap (λ o. with_option o c.args.copy.now.packet) c.in-Some-to.is ∙ sym c.rewrite.ensures.packet in
    subst (λ (p : Packet). ActionDoes (adds c.args.now n c.args.connection.now.back (with_option c.args.connection.now.to c.args.copy.now.packet)) Next c.args.copy.now (record c.args.copy.now { packet = p }) c.args.zones.now.entries c.add.new.zones.entries c.args.effects.now c.args.effects.now []) same
    (does_add c.args.now c.args.number c.args.zones.now.entries c.args.copy.now n is c.args.connection.now.from c.args.connection.now.back
    (tuple_is c.args.number c.args.zones.now.entries c.args.copy.now c.args.connection.now.from n c.requires.is_new is) (with_option c.args.connection.now.to c.args.copy.now.packet)
    (sym c.in_ok-cause.ensures.refused ∙ c.in_default.is) c.in_ok-cause.ensures.zones refl)
