use Rattle.std.proofs.Common.{◌≡◌, ◌+◌, ◌++◌, ◌∷◌, [], take, refl}
use mathlib.Core.Path.{subst, sym, ap, ◌∙◌}
use Rattle.std.proofs.lemmas.Bool.{false≢true}
use Rattle.std.specs.Option.{option_copied}
use Rattle.std.proofs.lemmas.List.{take_all, take_more}
use Rattle.flow_table.proofs.Best.{IsAnswer, answer_skips, answer_first, answer_stays, answer_next, none_answered}
use Rattle.flow_table.proofs.flow_list.best_of.Goals as goal
use Rattle.flow_table.proofs.flow_list.best_of.Goals.{then-matches+in-Some, then-matches+in_default, in_default-via-in-Some+else-not-beats, in_default-via-in_default, else-matches}

pub loop-flow-preserved : goal.loop-flow-preserved
loop-flow-preserved c =
    let more : take (c.loop-flow.flow-index + 1) c.args.flows.now ≡ take c.loop-flow.flow-index c.args.flows.now ++ c.flow-item.result ∷ [] = take_more c.args.flows.now c.loop-flow.flow-index c.flow-item.result c.loop-flow-test.true ∙ ap (λ f. take c.loop-flow.flow-index c.args.flows.now ++ f ∷ []) (sym c.flow-item.is) in
    rw more (elim c.if-matches.branch [
      | then-matches+in-Some w ↦ answer_stays c.args.table c.args.regs.now c.args.packet.now _ _ _ w.in-Some.held.now _ c.loop-flow.invariant (ap option_copied w.in-Some.is) (λ b. false≢true (w.if-not-beats.ensures.1 b)) (ap option_copied w.best-is)
      | then-matches+in_default w ↦
          elim w.in_default.branch [
            | in_default-via-in-Some+else-not-beats w' ↦ answer_next c.args.table c.args.regs.now c.args.packet.now _ _ _ w'.in-Some.held.now _ c.loop-flow.invariant (ap option_copied w'.in-Some.is) (w.if-matches.ensures.0 refl) (w'.if-not-beats.ensures.0 refl) (ap option_copied w.best-is)
            | in_default-via-in_default w' ↦ answer_first c.args.table c.args.regs.now c.args.packet.now _ _ _ _ c.loop-flow.invariant (ap option_copied w'.in_default.is) (w.if-matches.ensures.0 refl) (ap option_copied w.best-is)
          ]
      | else-matches w ↦ answer_skips c.args.table c.args.regs.now c.args.packet.now _ _ _ _ c.loop-flow.invariant (λ m. false≢true (w.if-matches.ensures.1 m)) (ap option_copied w.best-is)
    ])

pub returns-clause-none : goal.returns-clause-none
returns-clause-none c =
    let all : take c.loop-flow.flow-index c.args.flows.now ≡ c.args.flows.now = take_all c.loop-flow.flow-index c.args.flows.now c.loop-flow-test.false in
    none_answered c.args.table c.args.regs.now c.args.packet.now c.args.flows.now c.loop-flow.best (subst (λ flows. IsAnswer flows c.args.table c.args.regs.now c.args.packet.now (option_copied c.loop-flow.best)) all c.loop-flow.invariant)
