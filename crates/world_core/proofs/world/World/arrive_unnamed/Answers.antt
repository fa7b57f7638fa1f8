use Rattle.std.proofs.Common.{refl, ◌<◌, ◌^◌, drop, sym, ap, ◌∙◌, subst}
use Rattle.std.proofs.lemmas.List.{take_rest}
use Rattle.std.proofs.lemmas.Option.{none-some}
use Rattle.world_core.proofs.FirstArrival.{it_is_there, room_of, unnamed_keeps}
use Rattle.world_core.proofs.world.World.arrive_unnamed.Goals as goal

pub arrive-requires : goal.arrive-requires
arrive-requires c = record {
  room = room_of c.self.inside c.requires.unnamed.0 c.args.self.now c.self.view_is c.args.frame c.args.out.now c.requires.unnamed.1 (subst (λ n. n < 2 ^ 64) c.iter-sent.ensures.len c.iter-sent.ensures.bound);
}

pub unreachable-requires-in-Err-NoFrame : goal.unreachable-requires-in-Err-NoFrame
unreachable-requires-in-Err-NoFrame c =
    let answer = rw c.in-Err-NoFrame.field-0-is at c.in-Err-NoFrame.ensures.answer in
    absurd (none-some _ (sym answer.1 ∙ it_is_there c.self.inside c.requires.unnamed.0 c.args.self.now c.self.view_is c.args.frame c.args.out.now c.requires.unnamed.1))

pub keep_crossings-requires-clause-valid : goal.keep_crossings-requires-clause-valid
keep_crossings-requires-clause-valid c =
    (unnamed_keeps c.journeys_refine.ensures.arrives c.self.inside c.requires.unnamed.0 c.args.self.now c.self.view_is c.args.frame c.args.out.now c.arrive.new.out c.arrive.new.self.state _ c.requires.unnamed.1 c.in-Ok.ensures.answer.1
    (take_rest c.as_slice.result.now c.len-before.result ∙ ap (λ l. drop c.len-before.result l) c.as_slice.ensures ∙ ap (λ n. drop n c.arrive.new.out.effects) c.len-before.ensures) _ refl).valid

pub keep_crossings-requires-clause-keys : goal.keep_crossings-requires-clause-keys
keep_crossings-requires-clause-keys c =
    (unnamed_keeps c.journeys_refine.ensures.arrives c.self.inside c.requires.unnamed.0 c.args.self.now c.self.view_is c.args.frame c.args.out.now c.arrive.new.out c.arrive.new.self.state _ c.requires.unnamed.1 c.in-Ok.ensures.answer.1
    (take_rest c.as_slice.result.now c.len-before.result ∙ ap (λ l. drop c.len-before.result l) c.as_slice.ensures ∙ ap (λ n. drop n c.arrive.new.out.effects) c.len-before.ensures) _ refl).keys

pub keep_crossings-requires-clause-names : goal.keep_crossings-requires-clause-names
keep_crossings-requires-clause-names c =
    (unnamed_keeps c.journeys_refine.ensures.arrives c.self.inside c.requires.unnamed.0 c.args.self.now c.self.view_is c.args.frame c.args.out.now c.arrive.new.out c.arrive.new.self.state _ c.requires.unnamed.1 c.in-Ok.ensures.answer.1
    (take_rest c.as_slice.result.now c.len-before.result ∙ ap (λ l. drop c.len-before.result l) c.as_slice.ensures ∙ ap (λ n. drop n c.arrive.new.out.effects) c.len-before.ensures) _ refl).names

pub keep_crossings-requires-clause-sent : goal.keep_crossings-requires-clause-sent
keep_crossings-requires-clause-sent c =
    let k =
    unnamed_keeps c.journeys_refine.ensures.arrives c.self.inside c.requires.unnamed.0 c.args.self.now c.self.view_is c.args.frame c.args.out.now c.arrive.new.out c.arrive.new.self.state _ c.requires.unnamed.1 c.in-Ok.ensures.answer.1
    (take_rest c.as_slice.result.now c.len-before.result ∙ ap (λ l. drop c.len-before.result l) c.as_slice.ensures ∙ ap (λ n. drop n c.arrive.new.out.effects) c.len-before.ensures) _ refl in
    (k.crossings, k.can)

pub keep_crossings-requires-clause-waiting : goal.keep_crossings-requires-clause-waiting
keep_crossings-requires-clause-waiting c =
    (unnamed_keeps c.journeys_refine.ensures.arrives c.self.inside c.requires.unnamed.0 c.args.self.now c.self.view_is c.args.frame c.args.out.now c.arrive.new.out c.arrive.new.self.state _ c.requires.unnamed.1 c.in-Ok.ensures.answer.1
    (take_rest c.as_slice.result.now c.len-before.result ∙ ap (λ l. drop c.len-before.result l) c.as_slice.ensures ∙ ap (λ n. drop n c.arrive.new.out.effects) c.len-before.ensures) _ refl).waiting

pub returns : goal.returns
returns c = λ w u.
    let k =
    unnamed_keeps c.journeys_refine.ensures.arrives c.self.inside w c.args.self.now c.self.view_is c.args.frame c.args.out.now c.arrive.new.out c.arrive.new.self.state _ u c.in-Ok.ensures.answer.1
    (take_rest c.as_slice.result.now c.len-before.result ∙ ap (λ l. drop c.len-before.result l) c.as_slice.ensures ∙ ap (λ n. drop n c.arrive.new.out.effects) c.len-before.ensures) _ refl in
    k.done c.keep_crossings.new.self (c.in_ok-keep_crossings.ensures k.crossings k.can)
