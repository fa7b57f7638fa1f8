use Rattle.std.proofs.Common.{◌≡◌, ◌+◌, IfSome, IfNone, take, get_or, refl, sym, subst, ap, ◌∙◌}
use Rattle.std.proofs.lemmas.List.{take_all}
use Rattle.std.proofs.lemmas.Bool.{false≢true}
use Rattle.std.specs.Option.{option_copied}
use mathlib.Core.Logic.{inl, inr}
use Rattle.flow_table.specs.Matching.{IsBest, NoneMatches}
use Rattle.tuple_space.specs.declared.turn.Turn.{Turn}
use Rattle.tuple_space.specs.Masks.{cube_mask}
use Rattle.tuple_space.specs.Bunches.{flows_in}
use Rattle.tuple_space.specs.Space.{mask_number, first_under}
use Rattle.tuple_space.proofs.RankLaws.{among_more}
use Rattle.tuple_space.proofs.LookLaws.{HasOneOf, IsBestOf, IsAnswerOf, ask_answers, answer_join, answer_all, answer_stops, answer_found, answer_none}
use Rattle.tuple_space.proofs.space.TupleSpace.best.Goals as goal

pub returns-then-not-is_above-clause-found : goal.returns-then-not-is_above-clause-found
returns-then-not-is_above-clause-found c =
    let ms = c.self.inside.masks in
    let ts = c.self.inside.turns in
    let bs = c.self.inside.buckets in
    let items = c.of-turns.result.now in
    let i = c.loop-turn.turn-index in
    let so : IsAnswerOf (HasOneOf ms (take i items)) (flows_in bs) c.args.table c.args.regs.now c.args.packet.now (option_copied c.loop-turn.best) = subst (λ v. IsAnswerOf (HasOneOf v.masks (take i items)) (flows_in v.bunches) c.args.table c.args.regs.now c.args.packet.now (option_copied c.loop-turn.best)) (sym c.self.view_is) c.loop-turn.invariant in
    let u = get_or items i (record { number = 0; priority = 0; rank = 0 }) in
    let held : IsBestOf (HasOneOf ms (take i items)) (flows_in bs) c.args.table c.args.regs.now c.args.packet.now c.in-Some.held.now = subst (λ o. IsAnswerOf (HasOneOf ms (take i items)) (flows_in bs) c.args.table c.args.regs.now c.args.packet.now (option_copied o)) c.in-Some.is so in
    let best = answer_stops ms ts bs c.self.invariant.filed c.hold.ensures c.args.table c.args.regs.now c.args.packet.now items c.of-turns.ensures.turns i (record { number = 0; priority = 0; rank = 0 }) u c.in-Some.held.now c.of-turns.ensures.order c.loop-turn-test.true refl (λ h. false≢true (sym c.if-not-is_above.true ∙ c.is_above.ensures.1 h)) held in
    subst (λ o. IfSome o (λ f. IsBest (flows_in c.args.self.now.bunches) c.args.table c.args.regs.now c.args.packet.now f.now)) (sym c.in-Some.is) (subst (λ v. IsBest (flows_in v.bunches) c.args.table c.args.regs.now c.args.packet.now c.in-Some.held.now) c.self.view_is best)

pub loop-turn-preserved : goal.loop-turn-preserved
loop-turn-preserved c =
    let ms = c.self.inside.masks in
    let ts = c.self.inside.turns in
    let bs = c.self.inside.buckets in
    let items = c.of-turns.result.now in
    let i = c.loop-turn.turn-index in
    let so : IsAnswerOf (HasOneOf ms (take i items)) (flows_in bs) c.args.table c.args.regs.now c.args.packet.now (option_copied c.loop-turn.best) = subst (λ v. IsAnswerOf (HasOneOf v.masks (take i items)) (flows_in v.bunches) c.args.table c.args.regs.now c.args.packet.now (option_copied c.loop-turn.best)) (sym c.self.view_is) c.loop-turn.invariant in
    let d : Turn = record { number = 0; priority = 0; rank = 0 } in
    let number = (get_or items i d).number in
    let found = subst (λ o. IsAnswerOf (λ g. number ≡ mask_number ms (cube_mask g.cube)) (flows_in bs) c.args.table c.args.regs.now c.args.packet.now o) (sym (c.ask-found.ensures ∙ ap (λ v. first_under v.masks v.bunches c.args.table number c.args.regs.now c.args.packet.now) (sym c.self.view_is)))
    (ask_answers ms ts bs c.self.invariant.filed c.hold.ensures c.args.table c.args.regs.now c.args.packet.now number) in
    subst (λ v. IsAnswerOf (HasOneOf v.masks (take (i + 1) items)) (flows_in v.bunches) c.args.table c.args.regs.now c.args.packet.now (option_copied c.better-best.result)) c.self.view_is
    (answer_join (flows_in bs) c.args.table c.args.regs.now c.args.packet.now (HasOneOf ms (take i items)) (λ g. number ≡ mask_number ms (cube_mask g.cube)) (HasOneOf ms (take (i + 1) items)) (option_copied c.loop-turn.best) (option_copied c.ask-found.result) (option_copied c.better-best.result)
    (λ g k. elim (among_more items i d k.0 c.loop-turn-test.true k.1) [ inl a ↦ inl (k.0, a, k.2) | inr e ↦ inr (ap (λ (t : Turn). t.number) (sym e) ∙ k.2) ])
    so found c.better-best.ensures)

pub returns-clause-found : goal.returns-clause-found
returns-clause-found c =
    let ms = c.self.inside.masks in
    let ts = c.self.inside.turns in
    let bs = c.self.inside.buckets in
    let items = c.of-turns.result.now in
    let i = c.loop-turn.turn-index in
    let so : IsAnswerOf (HasOneOf ms (take i items)) (flows_in bs) c.args.table c.args.regs.now c.args.packet.now (option_copied c.loop-turn.best) = subst (λ v. IsAnswerOf (HasOneOf v.masks (take i items)) (flows_in v.bunches) c.args.table c.args.regs.now c.args.packet.now (option_copied c.loop-turn.best)) (sym c.self.view_is) c.loop-turn.invariant in
    let all : IsAnswerOf (HasOneOf ms items) (flows_in bs) c.args.table c.args.regs.now c.args.packet.now (option_copied c.loop-turn.best) = subst (λ l. IsAnswerOf (HasOneOf ms l) (flows_in bs) c.args.table c.args.regs.now c.args.packet.now (option_copied c.loop-turn.best)) (take_all i items c.loop-turn-test.false) so in
    let whole = answer_all ms ts bs c.self.invariant.filed c.hold.ensures c.args.table c.args.regs.now c.args.packet.now items c.of-turns.ensures.turns (option_copied c.loop-turn.best) all in
    subst (λ v. IfSome c.loop-turn.best (λ f. IsBest (flows_in v.bunches) c.args.table c.args.regs.now c.args.packet.now f.now)) c.self.view_is (answer_found (flows_in bs) c.args.table c.args.regs.now c.args.packet.now c.loop-turn.best whole)

pub returns-clause-none : goal.returns-clause-none
returns-clause-none c =
    let ms = c.self.inside.masks in
    let ts = c.self.inside.turns in
    let bs = c.self.inside.buckets in
    let items = c.of-turns.result.now in
    let i = c.loop-turn.turn-index in
    let so : IsAnswerOf (HasOneOf ms (take i items)) (flows_in bs) c.args.table c.args.regs.now c.args.packet.now (option_copied c.loop-turn.best) = subst (λ v. IsAnswerOf (HasOneOf v.masks (take i items)) (flows_in v.bunches) c.args.table c.args.regs.now c.args.packet.now (option_copied c.loop-turn.best)) (sym c.self.view_is) c.loop-turn.invariant in
    let all : IsAnswerOf (HasOneOf ms items) (flows_in bs) c.args.table c.args.regs.now c.args.packet.now (option_copied c.loop-turn.best) = subst (λ l. IsAnswerOf (HasOneOf ms l) (flows_in bs) c.args.table c.args.regs.now c.args.packet.now (option_copied c.loop-turn.best)) (take_all i items c.loop-turn-test.false) so in
    let whole = answer_all ms ts bs c.self.invariant.filed c.hold.ensures c.args.table c.args.regs.now c.args.packet.now items c.of-turns.ensures.turns (option_copied c.loop-turn.best) all in
    subst (λ v. IfNone c.loop-turn.best (NoneMatches (flows_in v.bunches) c.args.table c.args.regs.now c.args.packet.now)) c.self.view_is (answer_none (flows_in bs) c.args.table c.args.regs.now c.args.packet.now c.loop-turn.best whole)
