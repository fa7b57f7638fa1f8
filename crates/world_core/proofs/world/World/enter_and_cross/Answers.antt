use Rattle.std.proofs.Common.{refl, ◌<◌, ◌^◌, drop, sym, ap, ◌∙◌, subst}
use Rattle.std.proofs.lemmas.List.{take_rest}
use Rattle.sim_laws.specs.journeys.UnderWay.{IsUnderWay}
use Rattle.world_core.proofs.FirstArrival.{begun_with_none, begun_with_one, first_entered, first_sent, first_unnamed}
use Rattle.world_core.proofs.KeptCrossings.{entry_keeps}
use Rattle.world_core.proofs.PacketState.{has_room}
use Rattle.world_core.specs.Inside.{seen_of}
use Rattle.world_core.specs.Packets.{sent_among}
use Rattle.world_core.specs.WorldView.{WorldView}
use Rattle.world_core.proofs.world.World.enter_and_cross.Goals as goal

pub inject-requires-clause-room : goal.inject-requires-clause-room
inject-requires-clause-room c =
    has_room (seen_of c.self.inside).state (seen_of c.self.inside).zones c.args.out.now.effects (subst (λ n. n < 2 ^ 64) c.iter-sent.ensures.len c.iter-sent.ensures.bound)
    (subst (λ (v : WorldView). IsUnderWay v.state v.zones (sent_among c.args.out.now.effects)) (sym c.self.view_is) c.requires.under_way)

pub keep_crossings-requires-clause-sent : goal.keep_crossings-requires-clause-sent
keep_crossings-requires-clause-sent c =
    let k =
    entry_keeps c.journeys_refine.ensures.enters c.self.inside c.args.self.now c.self.view_is c.args.port.now c.args.packet c.args.out.now c.inject.new.out c.inject.new.self.state _ c.requires.under_way c.requires.held c.requires.whole c.in-Ok.ensures.answer.1
    (take_rest c.as_slice.result.now c.len-before.result ∙ ap (λ l. drop c.len-before.result l) c.as_slice.ensures ∙ ap (λ n. drop n c.inject.new.out.effects) c.len-before.ensures) _ refl in
    (k.crossings, k.can)

pub keep_crossings-requires-clause-names : goal.keep_crossings-requires-clause-names
keep_crossings-requires-clause-names c =
    (entry_keeps c.journeys_refine.ensures.enters c.self.inside c.args.self.now c.self.view_is c.args.port.now c.args.packet c.args.out.now c.inject.new.out c.inject.new.self.state _ c.requires.under_way c.requires.held c.requires.whole c.in-Ok.ensures.answer.1
    (take_rest c.as_slice.result.now c.len-before.result ∙ ap (λ l. drop c.len-before.result l) c.as_slice.ensures ∙ ap (λ n. drop n c.inject.new.out.effects) c.len-before.ensures) _ refl).names

pub keep_crossings-requires-clause-waiting : goal.keep_crossings-requires-clause-waiting
keep_crossings-requires-clause-waiting c =
    (entry_keeps c.journeys_refine.ensures.enters c.self.inside c.args.self.now c.self.view_is c.args.port.now c.args.packet c.args.out.now c.inject.new.out c.inject.new.self.state _ c.requires.under_way c.requires.held c.requires.whole c.in-Ok.ensures.answer.1
    (take_rest c.as_slice.result.now c.len-before.result ∙ ap (λ l. drop c.len-before.result l) c.as_slice.ensures ∙ ap (λ n. drop n c.inject.new.out.effects) c.len-before.ensures) _ refl).waiting

pub sent_one-requires : goal.sent_one-requires
sent_one-requires c =
    subst (λ n. n < 2 ^ 127) (sym c.next_frame-first.ensures)
    (has_room (seen_of c.self.inside).state (seen_of c.self.inside).zones c.args.out.now.effects (subst (λ n. n < 2 ^ 64) c.iter-sent.ensures.len c.iter-sent.ensures.bound)
    (subst (λ (v : WorldView). IsUnderWay v.state v.zones (sent_among c.args.out.now.effects)) (sym c.self.view_is) c.requires.under_way))

pub arrive_unnamed-requires-clause-unnamed : goal.arrive_unnamed-requires-clause-unnamed
arrive_unnamed-requires-clause-unnamed c =
    let none = c.is_empty-none_waits.ensures.0 ((c.sent_one.ensures.0 c.if-sent_one.true).0) in
    let one = sym c.next_frame.ensures ∙ (c.sent_one.ensures.0 c.if-sent_one.true).1 in (
      first_sent c.journeys_refine.ensures.enters c.self.inside c.args.self.now c.self.view_is c.args.port.now c.args.packet c.args.out.now c.inject.new.out c.inject.new.self.state _ c.requires.under_way c.requires.held c.requires.whole c.in-Ok.ensures.answer.1 refl,
      first_unnamed c.journeys_refine.ensures.enters c.self.inside c.args.self.now c.self.view_is c.args.port.now c.args.packet c.args.out.now c.inject.new.out c.inject.new.self.state _ c.requires.under_way c.requires.held c.requires.whole c.in-Ok.ensures.answer.1 refl none
          c.next_frame-first.result c.next_frame-first.ensures one _ refl,
    )

pub returns-then-sent_one : goal.returns-then-sent_one
returns-then-sent_one c =
    let none = c.is_empty-none_waits.ensures.0 ((c.sent_one.ensures.0 c.if-sent_one.true).0) in
    let one = sym c.next_frame.ensures ∙ (c.sent_one.ensures.0 c.if-sent_one.true).1 in
    let first = first_sent c.journeys_refine.ensures.enters c.self.inside c.args.self.now c.self.view_is c.args.port.now c.args.packet c.args.out.now c.inject.new.out c.inject.new.self.state _ c.requires.under_way c.requires.held c.requires.whole c.in-Ok.ensures.answer.1 refl in
    let entered = first_entered c.journeys_refine.ensures.enters c.self.inside c.args.self.now c.self.view_is c.args.port.now c.args.packet c.args.out.now c.inject.new.out c.inject.new.self.state _ c.requires.under_way c.requires.held c.requires.whole c.in-Ok.ensures.answer.1 refl in
    let unnamed =
    first_unnamed c.journeys_refine.ensures.enters c.self.inside c.args.self.now c.self.view_is c.args.port.now c.args.packet c.args.out.now c.inject.new.out c.inject.new.self.state _ c.requires.under_way c.requires.held c.requires.whole c.in-Ok.ensures.answer.1 refl none
    c.next_frame-first.result c.next_frame-first.ensures one _ refl in
    begun_with_one c.args.self.now c.args.port.now c.args.packet c.args.out.now c.inject.new.out c.arrive_unnamed.new.out first _ c.arrive_unnamed.new.self c.next_frame-first.result _ entered unnamed (c.in_ok-arrive_unnamed.ensures first unnamed) refl

pub returns : goal.returns
returns c =
    let k =
    entry_keeps c.journeys_refine.ensures.enters c.self.inside c.args.self.now c.self.view_is c.args.port.now c.args.packet c.args.out.now c.inject.new.out c.inject.new.self.state _ c.requires.under_way c.requires.held c.requires.whole c.in-Ok.ensures.answer.1
    (take_rest c.as_slice.result.now c.len-before.result ∙ ap (λ l. drop c.len-before.result l) c.as_slice.ensures ∙ ap (λ n. drop n c.inject.new.out.effects) c.len-before.ensures) _ refl in
    begun_with_none c.args.self.now c.args.port.now c.args.packet c.args.out.now c.inject.new.out c.keep_crossings.new.self (k.done c.keep_crossings.new.self (c.in_ok-keep_crossings.ensures k.crossings k.can))
