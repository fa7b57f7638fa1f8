use Rattle.std.proofs.Common.{refl, ◌<◌, ◌^◌, drop, sym, ap, ◌∙◌, subst}
use Rattle.std.proofs.lemmas.List.{take_rest}
use Rattle.sim_laws.specs.journeys.UnderWay.{IsUnderWay}
use Rattle.world_core.proofs.KeptCrossings.{entry_keeps}
use Rattle.world_core.proofs.PacketState.{has_room}
use Rattle.world_core.specs.Inside.{seen_of}
use Rattle.world_core.specs.Packets.{sent_among}
use Rattle.world_core.specs.WorldView.{WorldView}
use Rattle.world_core.proofs.world.World.enter.Goals as goal

pub inject-requires-clause-room : goal.inject-requires-clause-room
inject-requires-clause-room c =
    has_room (seen_of c.self.inside).state (seen_of c.self.inside).zones c.args.out.now.effects (subst (λ n. n < 2 ^ 64) c.iter-sent.ensures.len c.iter-sent.ensures.bound)
    (subst (λ (v : WorldView). IsUnderWay v.state v.zones (sent_among c.args.out.now.effects)) (sym c.self.view_is) c.requires.under_way)

pub keep_crossings-requires-clause-sent : goal.keep_crossings-requires-clause-sent
keep_crossings-requires-clause-sent c =
    let k =
    entry_keeps c.journeys_refine.ensures.enters c.self.inside c.args.self.now c.self.view_is c.args.port.now c.args.packet c.args.out.now c.inject.new.out c.inject.new.self.state _ c.requires.under_way c.requires.held c.requires.whole c.in-Ok.ensures.answer.1
    (take_rest c.as_slice.result.now c.len-before.result ∙ ap (λ l. drop c.len-before.result l) c.as_slice.ensures ∙ ap (λ n. drop n c.inject.new.out.effects) c.len-before.ensures) _ refl in
    (k.crossings, k.can)

pub keep_crossings-requires-clause-names : goal.keep_crossings-requires-clause-names
keep_crossings-requires-clause-names c =
    (entry_keeps c.journeys_refine.ensures.enters c.self.inside c.args.self.now c.self.view_is c.args.port.now c.args.packet c.args.out.now c.inject.new.out c.inject.new.self.state _ c.requires.under_way c.requires.held c.requires.whole c.in-Ok.ensures.answer.1
    (take_rest c.as_slice.result.now c.len-before.result ∙ ap (λ l. drop c.len-before.result l) c.as_slice.ensures ∙ ap (λ n. drop n c.inject.new.out.effects) c.len-before.ensures) _ refl).names

pub keep_crossings-requires-clause-waiting : goal.keep_crossings-requires-clause-waiting
keep_crossings-requires-clause-waiting c =
    (entry_keeps c.journeys_refine.ensures.enters c.self.inside c.args.self.now c.self.view_is c.args.port.now c.args.packet c.args.out.now c.inject.new.out c.inject.new.self.state _ c.requires.under_way c.requires.held c.requires.whole c.in-Ok.ensures.answer.1
    (take_rest c.as_slice.result.now c.len-before.result ∙ ap (λ l. drop c.len-before.result l) c.as_slice.ensures ∙ ap (λ n. drop n c.inject.new.out.effects) c.len-before.ensures) _ refl).waiting

pub returns : goal.returns
returns c =
    let k =
    entry_keeps c.journeys_refine.ensures.enters c.self.inside c.args.self.now c.self.view_is c.args.port.now c.args.packet c.args.out.now c.inject.new.out c.inject.new.self.state _ c.requires.under_way c.requires.held c.requires.whole c.in-Ok.ensures.answer.1
    (take_rest c.as_slice.result.now c.len-before.result ∙ ap (λ l. drop c.len-before.result l) c.as_slice.ensures ∙ ap (λ n. drop n c.inject.new.out.effects) c.len-before.ensures) _ refl in
    k.done c.keep_crossings.new.self (c.in_ok-keep_crossings.ensures k.crossings k.can)
