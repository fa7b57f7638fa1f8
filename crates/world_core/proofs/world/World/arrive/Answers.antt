use Rattle.std.proofs.Common.{◌<◌, ◌^◌, IsSome, drop, option_map, sym, ap, ◌∙◌, subst}
use Rattle.std.proofs.lemmas.List.{take_rest}
use Rattle.std.proofs.lemmas.Option.{none-some}
use Rattle.chassis_sim.specs.State.{numbered}
use Rattle.physical_flows.proofs.FlowSearch.{some_of}
use Rattle.sim_laws.proofs.WaitingLists.{numbered_map}
use Rattle.sim_laws.specs.Held.{frame_of_crossing}
use Rattle.sim_laws.specs.journeys.UnderWay.{IsUnderWay}
use Rattle.world_core.proofs.KeptCrossings.{arrival_keeps}
use Rattle.world_core.proofs.PacketState.{has_room}
use Rattle.world_core.specs.Inside.{seen_of}
use Rattle.world_core.specs.Packets.{sent_among}
use Rattle.world_core.specs.WorldView.{AreHeld, WorldView}
use Rattle.world_core.proofs.world.World.arrive.Goals as goal

pub arrive-requires : goal.arrive-requires
arrive-requires c = record {
  room = has_room (seen_of c.self.inside).state (seen_of c.self.inside).zones c.args.out.now.effects (subst (λ n. n < 2 ^ 64) c.iter-sent.ensures.len c.iter-sent.ensures.bound)
      (subst (λ (v : WorldView). IsUnderWay v.state v.zones (sent_among c.args.out.now.effects)) (sym c.self.view_is) c.requires.under_way);
}

pub unreachable-requires-in-Err-NoFrame : goal.unreachable-requires-in-Err-NoFrame
unreachable-requires-in-Err-NoFrame c =
    let old = seen_of c.self.inside in
    let waits : IsSome (numbered old.state.waiting c.args.frame) = subst (λ (v : WorldView). IsSome (numbered v.state.waiting c.args.frame)) (sym c.self.view_is) c.requires.waits in
    let held : AreHeld old.state old.zones old.sim = subst (λ (v : WorldView). AreHeld v.state v.zones v.sim) (sym c.self.view_is) c.requires.held in
    let answer = rw c.in-Err-NoFrame.field-0-is at c.in-Err-NoFrame.ensures.answer in
    let x = some_of (numbered old.state.waiting c.args.frame) waits in
    let found = ap (λ ws. numbered ws c.args.frame) held.waiting ∙ numbered_map (λ y. (frame_of_crossing old.state.keys (0, y)).1) old.state.waiting c.args.frame ∙ ap (λ o. option_map (λ y. (frame_of_crossing old.state.keys (0, y)).1) o) x.1 in
    absurd (none-some _ (sym answer.1 ∙ found))

pub keep_crossings-requires-clause-valid : goal.keep_crossings-requires-clause-valid
keep_crossings-requires-clause-valid c =
    (arrival_keeps c.journeys_refine.ensures.arrives c.self.inside c.args.self.now c.self.view_is c.args.frame c.args.keep c.args.out.now c.arrive.new.out c.arrive.new.self.state _ c.requires.under_way c.requires.held c.in-Ok.ensures.answer.1
    (take_rest c.as_slice.result.now c.len-before.result ∙ ap (λ l. drop c.len-before.result l) c.as_slice.ensures ∙ ap (λ n. drop n c.arrive.new.out.effects) c.len-before.ensures) _ c.let_go.ensures).valid

pub keep_crossings-requires-clause-keys : goal.keep_crossings-requires-clause-keys
keep_crossings-requires-clause-keys c =
    (arrival_keeps c.journeys_refine.ensures.arrives c.self.inside c.args.self.now c.self.view_is c.args.frame c.args.keep c.args.out.now c.arrive.new.out c.arrive.new.self.state _ c.requires.under_way c.requires.held c.in-Ok.ensures.answer.1
    (take_rest c.as_slice.result.now c.len-before.result ∙ ap (λ l. drop c.len-before.result l) c.as_slice.ensures ∙ ap (λ n. drop n c.arrive.new.out.effects) c.len-before.ensures) _ c.let_go.ensures).keys

pub keep_crossings-requires-clause-names : goal.keep_crossings-requires-clause-names
keep_crossings-requires-clause-names c =
    (arrival_keeps c.journeys_refine.ensures.arrives c.self.inside c.args.self.now c.self.view_is c.args.frame c.args.keep c.args.out.now c.arrive.new.out c.arrive.new.self.state _ c.requires.under_way c.requires.held c.in-Ok.ensures.answer.1
    (take_rest c.as_slice.result.now c.len-before.result ∙ ap (λ l. drop c.len-before.result l) c.as_slice.ensures ∙ ap (λ n. drop n c.arrive.new.out.effects) c.len-before.ensures) _ c.let_go.ensures).names

pub keep_crossings-requires-clause-sent : goal.keep_crossings-requires-clause-sent
keep_crossings-requires-clause-sent c =
    let k =
    arrival_keeps c.journeys_refine.ensures.arrives c.self.inside c.args.self.now c.self.view_is c.args.frame c.args.keep c.args.out.now c.arrive.new.out c.arrive.new.self.state _ c.requires.under_way c.requires.held c.in-Ok.ensures.answer.1
    (take_rest c.as_slice.result.now c.len-before.result ∙ ap (λ l. drop c.len-before.result l) c.as_slice.ensures ∙ ap (λ n. drop n c.arrive.new.out.effects) c.len-before.ensures) _ c.let_go.ensures in
    (k.crossings, k.can)

pub keep_crossings-requires-clause-waiting : goal.keep_crossings-requires-clause-waiting
keep_crossings-requires-clause-waiting c =
    (arrival_keeps c.journeys_refine.ensures.arrives c.self.inside c.args.self.now c.self.view_is c.args.frame c.args.keep c.args.out.now c.arrive.new.out c.arrive.new.self.state _ c.requires.under_way c.requires.held c.in-Ok.ensures.answer.1
    (take_rest c.as_slice.result.now c.len-before.result ∙ ap (λ l. drop c.len-before.result l) c.as_slice.ensures ∙ ap (λ n. drop n c.arrive.new.out.effects) c.len-before.ensures) _ c.let_go.ensures).waiting

pub returns : goal.returns
returns c =
    let k =
    arrival_keeps c.journeys_refine.ensures.arrives c.self.inside c.args.self.now c.self.view_is c.args.frame c.args.keep c.args.out.now c.arrive.new.out c.arrive.new.self.state _ c.requires.under_way c.requires.held c.in-Ok.ensures.answer.1
    (take_rest c.as_slice.result.now c.len-before.result ∙ ap (λ l. drop c.len-before.result l) c.as_slice.ensures ∙ ap (λ n. drop n c.arrive.new.out.effects) c.len-before.ensures) _ c.let_go.ensures in
    k.done c.keep_crossings.new.self (c.in_ok-keep_crossings.ensures k.crossings k.can)
